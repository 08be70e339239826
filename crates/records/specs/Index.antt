-- The edges of each junction, in rising order: the first edge that begins at a junction, and after each edge the next one that
-- begins where it does. Made in one pass, so that nobody looks through all edges for those of one junction.
use Prim.Native.Nat.{ℕ, suc, ◌+◌, ◌-◌, ◌≤◌, ◌<◌}
use Rattle.std.specs.Prelude.{◌≡◌, refl, ◌≢◌, Bool, true, false, Option, Some, None, List, ◌++◌, length, get_or, set, drop, replicate, eqb, ltb}
use Rattle.std.proofs.Common.{sym, ◌∙◌, add-one, length-append, length-drop, length-set, get_or-append-add, get_or-drop, get_or-set_same, get_or-set_other, eq-eqb, ne_eqb, eqb-true, ltb-true, ltb-false}
use Rattle.std.proofs.Math.Path.{ap}
use Rattle.std.proofs.Math.Bool.{not}
use native.Mathlib.Omega.{arith}
use Rattle.std.specs.Bool.{then_some}
use Rattle.std.proofs.Math.Decide.{ℕ_discrete, dec_lt}
use Rattle.std.proofs.lemmas.List.{length-replicate, get_or-replicate}
use Rattle.std.proofs.Math.ListN.{get_or-append}
use Rattle.std.proofs.lemmas.Bool.{eqb-false, not-true, not-false}
use Rattle.block.specs.First.{Found, first_not, FirstOf, first_from_lem, step_yes, step_no, first_none}
use Rattle.records.specs.Format.{Volume}

-- the first edge from e on that begins at junction u, or E
unfoldable pub next_from : Volume → ℕ → ℕ → ℕ
next_from vol u e = first_not (λ d. not (eqb (vol.edge_from d) u)) (vol.edges - e) e

-- the list with x in its first n places
abbrev pub filled : List ℕ → ℕ → ℕ → List ℕ
filled l n x = replicate n x ++ drop n l

-- `first` and `next` hold the edges from k on: the first of each junction below N, the next after each edge that begins below N;
-- every other place is as it was in first₀ and next₀
pub record Indexed (vol : Volume) (first₀ next₀ first next : List ℕ) (k : ℕ) : Type 0 where
  pub firsts : (u : ℕ) → u < vol.junctions → get_or first u 0 ≡ next_from vol u k
  pub nexts : (e : ℕ) → k ≤ e → e < vol.edges → vol.edge_from e < vol.junctions
      → get_or next e 0 ≡ next_from vol (vol.edge_from e) (e + 1)
  pub firsts_kept : (u : ℕ) → vol.junctions ≤ u → get_or first u 0 ≡ get_or first₀ u 0
  pub nexts_kept : (e : ℕ) → (k ≤ e → e < vol.edges → vol.edge_from e < vol.junctions → ⊥) → get_or next e 0 ≡ get_or next₀ e 0
  pub firsts_length : length first ≡ length first₀
  pub nexts_length : length next ≡ length next₀

-- an entry e of the lists, which has k: the edge k, or none where k is E
pub entry_found : (counted e k edges : ℕ) → counted ≡ edges → e ≡ k → k ≤ edges → Found (then_some (ltb e counted) e) k edges
entry_found counted e k edges c is high = go (ltb e counted) (ltb-true e counted) (ltb-false e counted)
  where
    go : (t : Bool) → (t ≡ true → e < counted) → (t ≡ false → counted ≤ e) → Found (then_some t e) k edges
    go true below above = (is, omega (arith, below refl))
    go false below above = omega (arith, above refl)

-- where a walk over the edges of a junction is: at an edge, or behind the last one
abbrev pub walk_at : Option ℕ → ℕ → ℕ
walk_at (Some e) edges = e
walk_at None edges = edges

-- an edge that it is at is one of the volume
abbrev pub Within : Option ℕ → ℕ → Type 0
Within (Some e) edges = e < edges
Within None edges = Unit {0}

-- what is found is where the walk is
pub found_place : (at : Option ℕ) (k edges : ℕ) → Found at k edges → walk_at at edges ≡ k
found_place (Some e) k edges f = f.0
found_place None k edges f = sym f

pub found_within : (at : Option ℕ) (k edges : ℕ) → Found at k edges → Within at edges
found_within (Some e) k edges f = f.1
found_within None k edges f = tt

-- the finished index
pub record Linked (vol : Volume) (first next : List ℕ) : Type 0 where
  pub firsts : (u : ℕ) → u < vol.junctions → get_or first u 0 ≡ next_from vol u 0
  pub nexts : (e : ℕ) → e < vol.edges → vol.edge_from e < vol.junctions
      → get_or next e 0 ≡ next_from vol (vol.edge_from e) (e + 1)
  pub firsts_room : vol.junctions ≤ length first
  pub nexts_room : vol.edges ≤ length next

pub indexed_linked : (vol : Volume) (first₀ next₀ first next : List ℕ) → vol.junctions ≤ length first₀ → vol.edges ≤ length next₀
    → Indexed vol first₀ next₀ first next 0 → Linked vol first next
indexed_linked vol first₀ next₀ first next a b I = record {
  firsts = I.firsts;
  nexts = λ e l h. I.nexts e (omega arith) l h;
  firsts_room = omega (arith, I.firsts_length);
  nexts_room = omega (arith, I.nexts_length);
}

-- the laws of a walk from edge to edge

abbrev away : Volume → ℕ → ℕ → Bool
away vol u d = not (eqb (vol.edge_from d) u)

module _ (vol : Volume) (u : ℕ) where
  next_first : (e : ℕ) → e ≤ vol.edges → FirstOf (away vol u) e vol.edges (next_from vol u e)
  unfolding next_from
  next_first e h = first_from_lem (away vol u) (vol.edges - e) vol.edges e (omega arith)

  -- the next edge is at e or after it, and at most E
  pub next_low : (e : ℕ) → e ≤ vol.edges → e ≤ next_from vol u e
  next_low e h = (next_first e h).low

  pub next_high : (e : ℕ) → e ≤ vol.edges → next_from vol u e ≤ vol.edges
  next_high e h = (next_first e h).high

  -- it begins at u, and none before it does
  pub next_begins : (e : ℕ) → e ≤ vol.edges → next_from vol u e < vol.edges → vol.edge_from (next_from vol u e) ≡ u
  next_begins e h l =
      eqb-true (vol.edge_from (next_from vol u e)) u (not-false (eqb (vol.edge_from (next_from vol u e)) u) ((next_first e h).here l))

  pub next_skips : (e d : ℕ) → e ≤ vol.edges → e ≤ d → d < next_from vol u e → vol.edge_from d ≢ u
  next_skips e d h l g =
      eqb-false (vol.edge_from d) u (not-true (eqb (vol.edge_from d) u) ((next_first e h).before d l g))

  -- one edge further

  next_end : next_from vol u vol.edges ≡ vol.edges
  unfolding next_from
  next_end = let z : vol.edges - vol.edges ≡ 0 = omega arith in rw z (first_none (away vol u) vol.edges)

  next_here : (e : ℕ) → e < vol.edges → vol.edge_from e ≡ u → next_from vol u e ≡ e
  unfolding next_from
  next_here e h q =
      let z : vol.edges - e ≡ suc (vol.edges - (e + 1)) = omega arith in
      rw z (step_no (away vol u) (vol.edges - (e + 1)) e (ap not (eq-eqb (vol.edge_from e) u q)))

  next_over : (e : ℕ) → e < vol.edges → vol.edge_from e ≢ u → next_from vol u e ≡ next_from vol u (e + 1)
  unfolding next_from
  next_over e h ne =
      let m = vol.edges - (e + 1) in
      let z : vol.edges - e ≡ suc m = omega arith in
      ap (λ (n : ℕ). first_not (away vol u) n e) z
      ∙ step_yes (away vol u) m e (ap not (ne_eqb (vol.edge_from e) u ne))
      ∙ ap (first_not (away vol u) m) (sym (add-one e))

-- the step of a walk over the edges that begin at u
pub link_next : (vol : Volume) (first next : List ℕ) (u d : ℕ) → Linked vol first next → d < vol.edges → vol.edge_from d ≡ u
    → u < vol.junctions → get_or next d 0 ≡ next_from vol u (d + 1)
link_next vol first next u d L lt f h = L.nexts d lt (omega arith) ∙ ap (λ (w : ℕ). next_from vol w (d + 1)) f

-- the walk over the edges that begin at `from` has come to edge d: none before it ends at `to`
pub record NoneBefore (vol : Volume) (from to d : ℕ) : Type 0 where
  pub inside : d ≤ vol.edges
  pub begins_there : d < vol.edges → vol.edge_from d ≡ from
  pub none : (j : ℕ) → j < d → vol.edge_from j ≡ from → vol.edge_to j ≢ to

pub none_first : (vol : Volume) (from to d : ℕ) → d ≡ next_from vol from 0 → NoneBefore vol from to d
none_first vol from to d h = rw h (record {
  inside = next_high vol from 0 (omega arith);
  begins_there = next_begins vol from 0 (omega arith);
  none = λ j l f. absurd (next_skips vol from 0 j (omega arith) (omega arith) l f);
})

pub none_next : (vol : Volume) (from to d n : ℕ) → d < vol.edges → NoneBefore vol from to d → vol.edge_to d ≢ to
    → n ≡ next_from vol from (d + 1) → NoneBefore vol from to n
none_next vol from to d n lt w ne h = rw h (record {
  inside = next_high vol from (d + 1) (omega arith);
  begins_there = next_begins vol from (d + 1) (omega arith);
  none = λ j l f. go j l f (dec_lt j d) (ℕ_discrete j d);
})
  where
    go : (j : ℕ) → j < next_from vol from (d + 1) → vol.edge_from j ≡ from → Dec (j < d) → Dec (j ≡ d) → vol.edge_to j ≢ to
    go j l f (yes a) q = w.none j a f
    go j l f (no a) (yes q) = rw q ne
    go j l f (no a) (no q) = absurd (next_skips vol from (d + 1) j (omega arith) (omega arith) l f)

-- how the index is made

filled_low : (l : List ℕ) (n x u : ℕ) → u < n → get_or (filled l n x) u 0 ≡ x
filled_low l n x u h =
    get_or-append (replicate n x) (drop n l) 0 u (rw length-replicate h) ∙ get_or-replicate n u x 0 h

filled_high : (l : List ℕ) (n x u : ℕ) → n ≤ u → get_or (filled l n x) u 0 ≡ get_or l u 0
filled_high l n x u h =
    let e : length (replicate n x) + (u - n) ≡ u = rw length-replicate (omega arith) in
    let f : n + (u - n) ≡ u = omega arith in
    ap (λ (i : ℕ). get_or (replicate n x ++ drop n l) i 0) (sym e)
    ∙ get_or-append-add (replicate n x) (drop n l) (u - n) 0
    ∙ get_or-drop n l (u - n) 0
    ∙ ap (λ (i : ℕ). get_or l i 0) f

filled_length : (l : List ℕ) (n x : ℕ) → n ≤ length l → length (filled l n x) ≡ length l
filled_length l n x h = simp (length-append, length-replicate, length-drop) (omega arith)

-- no edge yet
pub index_none : (vol : Volume) (first₀ first next : List ℕ) (n x : ℕ) → n ≡ vol.junctions → x ≡ vol.edges
    → first ≡ filled first₀ n x → Indexed vol first next first next x
index_none vol first₀ first next n x hn hx is = record {
  firsts = λ u h. rw (is, hx) (filled_low first₀ n vol.edges u (omega arith) ∙ sym (next_end vol u));
  nexts = λ e h l. absurd (omega arith);
  firsts_kept = λ u h. refl;
  nexts_kept = λ e h. refl;
  firsts_length = refl;
  nexts_length = refl;
}

-- an index made after a fill
pub index_filled : (vol : Volume) (first₀ next₀ first next : List ℕ) (n x k : ℕ) → n ≡ vol.junctions → n ≤ length first₀
    → Indexed vol (filled first₀ n x) next₀ first next k → Indexed vol first₀ next₀ first next k
index_filled vol first₀ next₀ first next n x k hn room I = record {
  firsts = I.firsts;
  nexts = I.nexts;
  firsts_kept = λ u h. I.firsts_kept u h ∙ filled_high first₀ n x u (omega arith);
  nexts_kept = I.nexts_kept;
  firsts_length = I.firsts_length ∙ filled_length first₀ n x room;
  nexts_length = I.nexts_length;
}

-- one edge more
module _ (vol : Volume) (first₀ next₀ first next : List ℕ) (k e from : ℕ) (lt : e < vol.edges) (is : from ≡ vol.edge_from e)
    (before : k ≡ e + 1) (J : Indexed vol first₀ next₀ first next k)
  where
    I : Indexed vol first₀ next₀ first next (e + 1)
    I = rw (← before) J

    -- that begins below N
    pub index_one : from < vol.junctions → vol.junctions ≤ length first → vol.edges ≤ length next
        → Indexed vol first₀ next₀ (set first from e) (set next e (get_or first from 0)) e
    index_one inside room more = record {
      firsts = λ u h. firsts_at u h (ℕ_discrete u from);
      nexts = λ d h l b. nexts_at d h l b (ℕ_discrete d e);
      firsts_kept = λ u h. get_or-set_other first from u e 0 (λ z. omega arith) ∙ I.firsts_kept u h;
      nexts_kept = λ d h. get_or-set_other next e d (get_or first from 0) 0 (λ z. h (omega arith) (omega arith) (rw z (rw (← is) inside)))
          ∙ I.nexts_kept d (λ g l b. h (omega arith) l b);
      firsts_length = length-set first from e ∙ I.firsts_length;
      nexts_length = length-set next e (get_or first from 0) ∙ I.nexts_length;
    }
      where
        firsts_at : (u : ℕ) → u < vol.junctions → Dec (u ≡ from) → get_or (set first from e) u 0 ≡ next_from vol u e
        firsts_at u h (yes z) = rw z (get_or-set_same first from e 0 (omega arith) ∙ sym (next_here vol from e lt (sym is)))
        firsts_at u h (no ne) =
            get_or-set_other first from u e 0 ne ∙ I.firsts u h ∙ sym (next_over vol u e lt (λ z. ne (sym z ∙ sym is)))

        nexts_at : (d : ℕ) → e ≤ d → d < vol.edges → vol.edge_from d < vol.junctions → Dec (d ≡ e)
            → get_or (set next e (get_or first from 0)) d 0 ≡ next_from vol (vol.edge_from d) (d + 1)
        nexts_at d h l b (yes z) =
            rw z
            (get_or-set_same next e (get_or first from 0) 0 (omega arith)
            ∙ I.firsts from inside
            ∙ ap (λ (u : ℕ). next_from vol u (e + 1)) is)
        nexts_at d h l b (no ne) =
            get_or-set_other next e d (get_or first from 0) 0 ne ∙ I.nexts d (omega arith) l b

    -- that does not
    pub index_over : vol.junctions ≤ from → Indexed vol first₀ next₀ first next e
    index_over outside = record {
      firsts = λ u h. I.firsts u h ∙ sym (next_over vol u e lt (λ z. omega arith));
      nexts = λ d h l b. later d h l b (ℕ_discrete d e);
      firsts_kept = I.firsts_kept;
      nexts_kept = λ d h. I.nexts_kept d (λ g l b. h (omega arith) l b);
      firsts_length = I.firsts_length;
      nexts_length = I.nexts_length;
    }
      where
        later : (d : ℕ) → e ≤ d → d < vol.edges → vol.edge_from d < vol.junctions → Dec (d ≡ e)
            → get_or next d 0 ≡ next_from vol (vol.edge_from d) (d + 1)
        later d h l b (yes z) = absurd (let q = ap vol.edge_from z in omega arith)
        later d h l b (no ne) = I.nexts d (omega arith) l b

-- a walk over the edges of u goes on from edge e
pub record StepsOn (vol : Volume) (u e : ℕ) (at : Option ℕ) : Type 0 where
  pub within : Within at vol.edges
  pub place : walk_at at vol.edges ≡ next_from vol u (e + 1)
  pub nearer : vol.edges - walk_at at vol.edges < vol.edges - e

pub walk_on : (vol : Volume) (u e : ℕ) (at : Option ℕ) → e < vol.edges → vol.edge_from e ≡ u
    → Found at (next_from vol (vol.edge_from e) (e + 1)) vol.edges → StepsOn vol u e at
walk_on vol u e at lt from found =
    let here : walk_at at vol.edges ≡ next_from vol u (e + 1) = found_place at _ vol.edges found ∙ ap (λ (w : ℕ). next_from vol w (e + 1)) from in
    record {
      within = found_within at _ vol.edges found;
      place = here;
      nearer = omega (arith, here, next_low vol u (e + 1) (omega arith));
    }
