-- A row of content words at equal distances, as the search for what is in force reads it: the seconds of a road's points, or the starts
-- of an edge's pieces. Both rows rise on a sound volume.
use Rattle.std.specs.Prelude.{ℕ, ◌+◌, ◌-◌, ◌*◌, ◌/◌, ◌%◌, ◌≤◌, ◌<◌, ◌≡◌, List}
use Rattle.std.proofs.Math.Path.{ap, fun_ext}
use Rattle.std.proofs.Common.{◌∙◌, arith, mul-le-mul_left, mul-add}
use Rattle.block.specs.Word.{content_at, Holds}
use Rattle.records.specs.Format.{point_words, piece_words, volume_of, Laid}
use Rattle.rules.specs.Rules.{start}
use Rattle.volume.specs.Sound.{Sound}
use Rattle.records.specs.declared.tables.Tables.{Tables}
use Rattle.travel.specs.Last.{last_le, Rises, Within, within_all, upper_half, lower_half, within_one}
use Rattle.travel.specs.Network.{piece_at}
use Rattle.travel.specs.PointsFrom.{second_from, OfRoad, points_from}

-- word i of the row
abbrev pub row_at : List ℕ → ℕ → ℕ → ℕ → ℕ
row_at v base stride i = content_at v (base + stride * i)

-- the bytes hold the row's n words, of which there are some; they rise, and the first is at most x
pub record Row (v : List ℕ) (base stride n x : ℕ) : Type 0 where
  pub some : 0 < n
  pub held : Holds v (base + stride * (n - 1))
  pub rise : Rises (row_at v base stride) n
  pub first : row_at v base stride 0 ≤ x

-- every word of the row is held
pub row_held : (v : List ℕ) (base stride n x i : ℕ) → Row v base stride n x → i < n → Holds v (base + stride * i)
row_held v base stride n x i r h =
    let a = mul-le-mul_left {m = i} {n = n - 1} stride (omega arith) in
    omega (arith, r.held)

-- the search for the last that is at most x has come down to `rest` records, of which the first stands at word w
pub record Narrowed (v : List ℕ) (base stride n x w rest : ℕ) : Type 0 where
  pub lo : ℕ
  pub at : w ≡ base + stride * lo
  pub within : Within (row_at v base stride) n x lo rest

module _ {v : List ℕ} {base stride n x : ℕ} (R : Row v base stride n x) where
  pub narrowed_all : Narrowed v base stride n x base n
  narrowed_all = record { lo = 0; at = omega arith; within = within_all _ n x R.some R.first }

  module _ {w rest : ℕ} (N : Narrowed v base stride n x w rest) where
    -- the record in the middle
    middle : w + stride * (rest / 2) ≡ base + stride * (N.lo + rest / 2)
    middle = let d = mul-add stride N.lo (rest / 2) in omega (arith, d, N.at)

    pub middle_held : 1 < rest → Holds v (w + stride * (rest / 2))
    middle_held more = rw middle (row_held v base stride n x (N.lo + rest / 2) R (omega (arith, N.within.inside)))

    pub narrowed_upper : 1 < rest → content_at v (w + stride * (rest / 2)) ≤ x
        → Narrowed v base stride n x (w + stride * (rest / 2)) (rest - rest / 2)
    narrowed_upper more k =
        let q = ap (content_at v) middle in
        record { lo = N.lo + rest / 2; at = middle; within = upper_half _ n x N.lo rest N.within more (omega (arith, q)) }

    pub narrowed_lower : 1 < rest → x < content_at v (w + stride * (rest / 2)) → Narrowed v base stride n x w (rest - rest / 2)
    narrowed_lower more k =
        let q = ap (content_at v) middle in
        record { lo = N.lo; at = N.at; within = lower_half _ n x N.lo rest N.within more R.rise (omega (arith, q)) }

    pub narrowed_one : rest ≤ 1 → w ≡ base + stride * last_le (row_at v base stride) n x
    narrowed_one one = N.at ∙ ap (λ (i : ℕ). base + stride * i) (within_one _ n x N.lo rest N.within one)

module _ {v : List ℕ} {t : Tables} (L : Laid v t) where
  -- the seconds of road k's points
  module _ {k first n : ℕ} (R : OfRoad (volume_of v) k first n) (base : ℕ) (b : base ≡ t.points + point_words * first) where
    seconds : (i : ℕ) → row_at v base point_words i ≡ second_from (volume_of v) first i
    unfolding volume_of
    seconds i = ap (content_at v) (omega (arith, L.points))

    pub seconds_row : (y : ℕ) → (volume_of v).point_second first ≤ y → Row v base point_words n y
    seconds_row y l =
        let z : (volume_of v).point_second first ≡ second_from (volume_of v) first 0 = ap (volume_of v).point_second (omega arith) in
        let Q = points_from R in
        let q = Q.points.some in
        record {
          some = q;
          held = omega (arith, L.room, L.points, Q.inside);
          rise = λ i l. omega (arith, seconds i, seconds (i + 1), Q.points.rise i (omega arith));
          first = omega (arith, seconds 0);
        }

    -- the last of them at or before y is the point in force
    pub seconds_last : (y w : ℕ) → w ≡ base + point_words * last_le (row_at v base point_words) n y → (w - base) / point_words ≡ last_le (second_from (volume_of v) first) n y
    seconds_last y w e = let q = ap (λ (key : ℕ → ℕ). last_le key n y) (fun_ext seconds) in omega (arith, e, q)

  -- the starts of edge e's pieces
  module _ (S : Sound (volume_of v)) (e first n base : ℕ) (h : e < (volume_of v).edges) (f : first ≡ (volume_of v).edge_first e)
      (c : n ≡ (volume_of v).edge_pieces e) (b : base ≡ t.pieces + piece_words * first) where
    starts : (i : ℕ) → row_at v base piece_words i ≡ start (volume_of v) e i
    unfolding volume_of
    starts i = ap (content_at v) (omega (arith, L.pieces))

    pub starts_row : (y : ℕ) → Row v base piece_words n y
    starts_row y =
        let E = S.edge e h in
        let q : 0 < n = omega (arith, E.some) in
        record {
          some = q;
          held = omega (arith, L.room, L.pieces, E.inside);
          rise = λ i l. omega (arith, starts i, starts (i + 1), E.rise i (omega arith));
          first = omega (arith, starts 0, E.begin);
        }

    -- the last of them at or before y, the second of the period at x, is the piece in force
    pub starts_last : (x y i : ℕ) → y ≡ x % (volume_of v).period → i ≡ last_le (row_at v base piece_words) n y
        → first + i ≡ piece_at (volume_of v) e (x % (volume_of v).period)
    unfolding piece_at
    starts_last x y i m q = rw (f, q, fun_ext starts, c, m)
