-- An edge from piece to piece: where each piece ends, and that the edge is the piece up to there.
use Rattle.std.specs.Prelude.{ℕ, ◌+◌, ◌%◌, ◌≤◌, ◌<◌, ◌≡◌, refl, ltb}
use Rattle.std.proofs.Math.Path.{ap}
use Rattle.std.proofs.Common.{sym, ◌∙◌, arith, mod-eq_of_lt, lt-ltb, le-ltb}
use Rattle.std.proofs.Math.Decide.{dec_lt}
use Rattle.std.proofs.Math.Dec.{leb}
use Rattle.block.specs.Choose.{choose, choose_yes, choose_no}
use Rattle.block.specs.First.{Passed, first_end}
use Rattle.theory.specs.Network.{Piece}
use Rattle.records.specs.Format.{Volume, IsWay}
use Rattle.records.specs.declared.tables.Way.{Way}
use Rattle.records.specs.declared.tables.Way.TheVariants.{Road, Turn as ByTurn}
use Rattle.rules.specs.Rules.{start}
use Rattle.volume.specs.Sound.{Sound}
use Rattle.travel.specs.Last.{last_le, IsLast, last_is, above_from}
use Rattle.travel.specs.Network.{piece_at, piece_of, HasPiece, road_at, pair_at}
use Rattle.travel.specs.Halves.{edge_by_piece}
use Rattle.full.specs.Cover.{named, arrival_by, not_after, no_slower, first_late}
use Rattle.full.specs.Turns.{Names, Known}
use Rattle.full.specs.Runs.{first_from, from_same, first_inside, first_past}

-- where piece i, of the n pieces from piece `first` on, ends: where the next starts, or with the period
unfoldable pub piece_end : Volume → ℕ → ℕ → ℕ → ℕ
piece_end vol first n i = choose (ltb (i + 1) n) (vol.piece_start (first + i + 1)) vol.period

-- before the last
pub end_next : (vol : Volume) (first n i : ℕ) → i + 1 < n → piece_end vol first n i ≡ vol.piece_start (first + i + 1)
unfolding piece_end
end_next vol first n i h = choose_yes _ _ (lt-ltb (i + 1) n h)

-- the last
pub end_last : (vol : Volume) (first n i : ℕ) → n ≤ i + 1 → piece_end vol first n i ≡ vol.period
unfolding piece_end
end_last vol first n i h = choose_no _ _ (le-ltb (i + 1) n h)

-- the seconds from x on are those of piece i, of the n of edge e, or of none where i is n
pub record Begins (vol : Volume) (e n i x : ℕ) : Type 0 where
  pub piece : i < n → x ≡ start vol e i
  pub over : n ≤ i → x ≡ vol.period

module _ (vol : Volume) (S : Sound vol) (e first n : ℕ) (h : e < vol.edges) (hf : first ≡ vol.edge_first e) (hn : n ≡ vol.edge_pieces e) where
  -- the first piece begins at 0
  pub begins_first : Begins vol e n 0 0
  begins_first = record {
    piece = λ l. sym (S.edge e h).begin;
    over = λ l. absurd (let s = (S.edge e h).some in omega arith);
  }

  module _ (i : ℕ) (hi : i < n) where
    -- where the next piece starts
    next_start : vol.piece_start (first + i + 1) ≡ start vol e (i + 1)
    next_start = ap vol.piece_start (let z : first + i + 1 ≡ vol.edge_first e + (i + 1) = omega arith in z)

    -- piece i is named
    pub piece_named : (a b : ℕ) → a ≡ vol.piece_left (first + i) → b ≡ vol.piece_right (first + i) → Names vol a b
    piece_named a b ha hb =
        let of : HasPiece vol e (first + i) = record { low = omega arith; high = omega arith } in
        rw (ha, hb) (record {
          road = λ z. (road_at vol S e (first + i) h of z).road;
          left_edge = λ z. omega (arith, (pair_at vol S e (first + i) h of z).left);
          right_edge = λ z. omega (arith, (pair_at vol S e (first + i) h of z).right);
        })

    -- and goes a way of the volume
    pub piece_known : (way : Way) → IsWay (vol.piece_left (first + i)) (vol.piece_right (first + i)) way → Known vol way
    piece_known (Road k) W =
        rw W.1 ((piece_named (vol.piece_left (first + i)) (vol.piece_right (first + i)) refl refl).road W.0)
    piece_known (ByTurn l r) W =
        let N = piece_named (vol.piece_left (first + i)) (vol.piece_right (first + i)) refl refl in
        (rw W.1 (N.left_edge W.0), rw W.2 (N.right_edge W.0))

    -- it begins at x
    module _ (x end : ℕ) (hx : Begins vol e n i x) (he : end ≡ piece_end vol first n i) where
      -- it ends after it begins, and in the period
      pub piece_bounds : (x ≤ end) × (end ≤ vol.period)
      piece_bounds = go (dec_lt (i + 1) n)
        where
          go : Dec (i + 1 < n) → (x ≤ end) × (end ≤ vol.period)
          go (yes l) =
              let q = end_next vol first n i l ∙ next_start in
              (omega (arith, hx.piece hi, (S.edge e h).rise i (omega arith)), omega (arith, (S.edge e h).in_period (i + 1) (omega arith)))
          go (no g) =
              let q = end_last vol first n i (omega arith) in
              (omega (arith, hx.piece hi, (S.edge e h).in_period i (omega arith)), omega arith)

      -- the next piece begins there
      pub begins_next : Begins vol e n (i + 1) end
      begins_next = record {
        piece = λ l. he ∙ end_next vol first n i l ∙ next_start;
        over = λ l. he ∙ end_last vol first n i l;
      }

      -- from its start up to its end piece i is in force
      in_force : (y : ℕ) → x ≤ y → y < end → first + i ≡ piece_at vol e (y % vol.period)
      unfolding piece_at
      in_force y low high =
          let inside : y < vol.period = omega (arith, piece_bounds.1) in
          let last : IsLast (start vol e) (vol.edge_pieces e) y i = record {
            below = omega arith;
            le = omega (arith, hx.piece hi);
            above = λ j a b. above_from (start vol e) (vol.edge_pieces e) y (i + 1) (S.edge e h).rise
                (omega (arith, end_next vol first n i (omega arith) ∙ next_start)) j (omega arith) b;
          } in
          ap (λ (f : ℕ). f + i) hf
          ∙ ap (λ (k : ℕ). vol.edge_first e + k)
          (sym (ap (last_le (start vol e) (vol.edge_pieces e)) (mod-eq_of_lt inside) ∙ last_is (start vol e) (vol.edge_pieces e) y i last))

      -- a and b are its left and right, and y is the first second at which they are slower than q
      module _ (q : Piece) (a b y : ℕ) (ha : a ≡ vol.piece_left (first + i)) (hb : b ≡ vol.piece_right (first + i))
          (is : y ≡ first_from (not_after vol (named a b) q) x end) (P : Passed (no_slower vol e q) vol.period x)
        where
          -- there the edge is compared by its piece
          same_there : (z : ℕ) → x ≤ z → z < end → no_slower vol e q z ≡ not_after vol (named a b) q z
          unfolding no_slower not_after named piece_of
          same_there z low high =
              ap (λ (t : ℕ). leb t (arrival_by vol q z))
              (edge_by_piece vol S e z (first + i) h (in_force z low high)
              ∙ ap (λ (p : Piece). arrival_by vol p z) (let w : piece_of vol (first + i) ≡ named a b = rw (ha, hb) in w))

          found : y ≡ first_from (no_slower vol e q) x end
          found = is ∙ sym (from_same (no_slower vol e q) (not_after vol (named a b) q) x end piece_bounds.0 same_there)

          -- a late second inside the piece is the earliest
          pub late_inside : y < end → y ≡ first_late vol e q
          unfolding first_late
          late_inside l = first_inside (no_slower vol e q) vol.period x end y piece_bounds.0 piece_bounds.1 P found l

          -- where there is none the edge is in time up to the piece's end
          pub late_past : end ≤ y → Passed (no_slower vol e q) vol.period end
          late_past l = first_past (no_slower vol e q) vol.period x end y piece_bounds.0 piece_bounds.1 P found l

  -- after the last piece the edge was never late
  pub late_never : (i x : ℕ) (q : Piece) → n ≤ i → Begins vol e n i x → Passed (no_slower vol e q) vol.period x → x ≡ first_late vol e q
  unfolding first_late
  late_never i x q l hx P = first_end (no_slower vol e q) vol.period x (omega (arith, hx.over l)) P
