-- The digest of a volume: what the code lists once so that an edge's time need not read the sealed words for it. Of each road with one
-- point its duration, which is the same at every second, of any other road 0; of each edge the content word at which its pieces begin.
use Rattle.std.specs.Prelude.{ℕ, zero, suc, ◌+◌, ◌-◌, ◌*◌, ◌%◌, ◌≤◌, ◌<◌, ◌≡◌, refl, ◌≢◌, List, length, get_or, set, eqb}
use Rattle.std.proofs.Common.{ap, ap₂, sym, ◌∙◌, arith, add-one, length-set, get_or-set_same, get_or-set_other, eq-eqb, ne_eqb}
use Rattle.std.proofs.Math.Decide.{ℕ_discrete}
use Rattle.block.specs.Choose.{choose, choose_yes, choose_no}
use Rattle.records.specs.Format.{piece_words, Volume, volume_of, counts_of, tables_of, pieces_at, Few, Laid}
use Rattle.rules.specs.Rules.{begins}
use Rattle.rules.specs.Facts.{begins_next}
use Rattle.volume.specs.Sound.{Sound}
use Rattle.records.specs.declared.tables.Tables.{Tables}
use Rattle.travel.specs.Network.{road_time}
use Rattle.travel.specs.PointsFrom.{of_road_lem, one_is}

-- the bytes hold the words of a volume, whose tables stand where its own counts say
abbrev pub LaidOut : List ℕ → Type 0
LaidOut v = Laid v (tables_of (counts_of (volume_of v)))

pub laid_out : {v : List ℕ} {t : Tables} → Laid v t → LaidOut v
laid_out L = record { points = refl; edges = refl; pieces = refl; room = L.room; limit = L.limit }

-- they begin with a whole block
pub laid_some : {v : List ℕ} → LaidOut v → 512 ≤ length v
laid_some L = omega (arith, L.room)

-- a sound volume's counts are within the limits
pub sound_few : {vol : Volume} → Sound vol → Few (counts_of vol)
sound_few S = record {
  junctions_some = S.junctions_some;
  junctions = S.junctions_few;
  roads = S.roads_few;
  points = S.points_few;
  edges = S.edges_few;
  pieces = S.pieces_few;
}

-- the duration of road k where it has one point, else 0
unfoldable pub steady_of : Volume → ℕ → ℕ
steady_of vol k = choose (eqb (vol.road_points k) 1) (vol.point_duration (vol.road_first k)) 0

pub steady_one : (vol : Volume) (k : ℕ) → vol.road_points k ≡ 1 → steady_of vol k ≡ vol.point_duration (vol.road_first k)
unfolding steady_of
steady_one vol k e = choose_yes _ _ (eq-eqb _ _ e)

pub steady_none : (vol : Volume) (k : ℕ) → vol.road_points k ≢ 1 → steady_of vol k ≡ 0
unfolding steady_of
steady_none vol k n = choose_no _ _ (ne_eqb _ _ n)

-- the roads from the last one back: of the last road first
abbrev pub steady_back : Volume → ℕ → ℕ
steady_back vol i = steady_of vol (vol.roads - 1 - i)

-- the content word at which piece p stands
abbrev pub piece_word : Volume → ℕ → ℕ
piece_word vol p = pieces_at vol.roads vol.points vol.edges + piece_words * p

-- the content word at which the pieces of edge e begin: where those of the edge before end
abbrev pub pieces_from : Volume → ℕ → ℕ
pieces_from vol e = piece_word vol (begins vol.edge_first vol.edge_pieces e)

-- those of the first edge where the table of pieces begins
pub pieces_start : (vol : Volume) (base : ℕ) → base ≡ pieces_at vol.roads vol.points vol.edges → base ≡ pieces_from vol 0
unfolding begins
pieces_start vol base b = omega arith

-- those of the next edge n pieces later, where a sound edge has n
pub pieces_next : {vol : Volume} → Sound vol → (e : ℕ) → e < vol.edges → (word n : ℕ) → word ≡ pieces_from vol e → n ≡ vol.edge_pieces e
    → word + piece_words * n ≡ pieces_from vol (e + 1)
pieces_next {vol} S e h word n w q =
    let next = begins_next vol.edge_first vol.edge_pieces e in
    let laid = (S.edge e h).laid in
    omega arith

-- they all stand in the table
pub pieces_inside : {vol : Volume} → Sound vol → (e : ℕ) → e < vol.edges
    → pieces_from vol (e + 1) ≤ pieces_at vol.roads vol.points vol.edges + piece_words * vol.pieces
pieces_inside {vol} S e h =
    let next = begins_next vol.edge_first vol.edge_pieces e in
    let inside = (S.edge e h).inside in
    omega arith

-- the list with f 0, f 1 and so on in the n places from place o on
unfoldable pub listed : ℕ → (ℕ → ℕ) → ℕ → List ℕ → List ℕ
listed o f zero l = l
listed o f (suc n) l = set (listed o f n l) (o + n) (f n)

-- the list with the digest: the edges and the end of the last in the first places, and the roads in the last places, the last road first
abbrev pub digest_of : Volume → List ℕ → List ℕ
digest_of vol l = listed (length l - vol.roads) (steady_back vol) vol.roads (listed 0 (pieces_from vol) (vol.edges + 1) l)

-- the list holds the digest
pub record Digest (vol : Volume) (l : List ℕ) : Type 0 where
  pub room : vol.edges + vol.roads < length l
  pub roads : (k : ℕ) → k < vol.roads → get_or l (length l - 1 - k) 0 ≡ steady_of vol k
  pub edges : (e : ℕ) → e ≤ vol.edges → get_or l e 0 ≡ pieces_from vol e

-- with no place written, and one more
pub listed_none : (o : ℕ) (f : ℕ → ℕ) (l : List ℕ) → l ≡ listed o f 0 l
unfolding listed
listed_none o f l = refl

pub listed_next : (o : ℕ) (f : ℕ → ℕ) (n : ℕ) (l : List ℕ) → listed o f (n + 1) l ≡ set (listed o f n l) (o + n) (f n)
unfolding listed
listed_next o f n l = ap (λ (m : ℕ). listed o f m l) (add-one n)

pub listed_more : (o : ℕ) (f : ℕ → ℕ) (n : ℕ) (l d : List ℕ) (x : ℕ) → d ≡ listed o f n l → x ≡ f n
    → set d (o + n) x ≡ listed o f (n + 1) l
listed_more o f n l d x e q = ap₂ (λ (m : List ℕ) (y : ℕ). set m (o + n) y) e q ∙ sym (listed_next o f n l)

-- the list stays as long as it was
pub listed_length : (o : ℕ) (f : ℕ → ℕ) (n : ℕ) (l : List ℕ) → length (listed o f n l) ≡ length l
unfolding listed
listed_length o f zero l = refl
listed_length o f (suc n) l = length-set (listed o f n l) (o + n) (f n) ∙ listed_length o f n l

-- what the written places hold
pub listed_at : (o : ℕ) (f : ℕ → ℕ) (n : ℕ) (l : List ℕ) (i : ℕ) → i < n → o + n ≤ length l
    → get_or (listed o f n l) (o + i) 0 ≡ f i
unfolding listed
listed_at o f zero l i h room = absurd (omega arith)
listed_at o f (suc n) l i h room = go (ℕ_discrete i n) (λ q. listed_at o f n l i q (omega arith))
  where
    go : Dec (i ≡ n) → (i < n → get_or (listed o f n l) (o + i) 0 ≡ f i) → get_or (listed o f (suc n) l) (o + i) 0 ≡ f i
    go (yes q) before = rw q (get_or-set_same (listed o f n l) (o + n) (f n) 0 (omega (arith, listed_length o f n l)))
    go (no q) before = get_or-set_other (listed o f n l) (o + n) (o + i) (f n) 0 (λ z. q (omega arith)) ∙ before (omega arith)

-- the places before them hold what they held
pub listed_before : (o : ℕ) (f : ℕ → ℕ) (n : ℕ) (l : List ℕ) (j : ℕ) → j < o → get_or (listed o f n l) j 0 ≡ get_or l j 0
unfolding listed
listed_before o f zero l j h = refl
listed_before o f (suc n) l j h =
    get_or-set_other (listed o f n l) (o + n) j (f n) 0 (λ z. omega arith)
    ∙ listed_before o f n l j h

-- the list with the digest holds it
pub digest_made : (vol : Volume) (l : List ℕ) → vol.edges + vol.roads < length l → Digest vol (digest_of vol l)
digest_made vol l room = record {
  room = omega (arith, long, all_long);
  roads = λ k h.
      let at : length (digest_of vol l) - 1 - k ≡ begin + (vol.roads - 1 - k) = omega (arith, long, all_long) in
      let back : vol.roads - 1 - (vol.roads - 1 - k) ≡ k = omega arith in
      ap (λ (j : ℕ). get_or (digest_of vol l) j 0) at
      ∙ listed_at begin (steady_back vol) vol.roads one (vol.roads - 1 - k) (omega arith) (omega (arith, long))
      ∙ ap (steady_of vol) back;
  edges = λ e h.
      let z : e ≡ 0 + e = omega arith in
      listed_before begin (steady_back vol) vol.roads one e (omega arith)
      ∙ ap (λ (j : ℕ). get_or one j 0) z
      ∙ listed_at 0 (pieces_from vol) (vol.edges + 1) l e (omega arith) (omega arith);
}
  where
    begin : ℕ
    begin = length l - vol.roads

    one : List ℕ
    one = listed 0 (pieces_from vol) (vol.edges + 1) l

    long : length one ≡ length l
    long = listed_length 0 (pieces_from vol) (vol.edges + 1) l

    all_long : length (digest_of vol l) ≡ length one
    all_long = listed_length begin (steady_back vol) vol.roads one

-- the pieces of edge e stand from content word `at` up to content word `end`
pub record Stands (vol : Volume) (e at end : ℕ) : Type 0 where
  pub begin : at ≡ piece_word vol (vol.edge_first e)
  pub end_is : end ≡ piece_word vol (vol.edge_first e + vol.edge_pieces e)

-- a sound edge's pieces begin where those of the edge before end, so two neighbours in the digest bound them
pub stands : {vol : Volume} {l : List ℕ} → Sound vol → Digest vol l → (e : ℕ) → e < vol.edges → (at end : ℕ)
    → at ≡ get_or l e 0 → end ≡ get_or l (e + 1) 0 → Stands vol e at end
stands {vol} {l} S D e h at end a b = record {
  begin = a ∙ D.edges e (omega arith) ∙ ap (piece_word vol) (sym (S.edge e h).laid);
  end_is = b ∙ D.edges (e + 1) (omega arith) ∙ ap (piece_word vol) (begins_next vol.edge_first vol.edge_pieces e);
}

-- a road with a duration in the digest takes so long at every second
pub steady_lasts : {vol : Volume} → Sound vol → (k x d : ℕ) → k < vol.roads → d ≡ steady_of vol k → d ≢ 0 → d ≡ road_time vol k x
steady_lasts {vol} S k x d h q some = go (ℕ_discrete (vol.road_points k) 1)
  where
    go : Dec (vol.road_points k ≡ 1) → d ≡ road_time vol k x
    go (yes one) = one_is (of_road_lem S h refl refl) x (x % vol.period) refl d one (q ∙ steady_one vol k one)
    go (no more) = absurd (some (q ∙ steady_none vol k more))
