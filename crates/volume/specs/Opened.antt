-- A volume that opens is sound: from the tests of Rules, of the crate `rules`, to the facts of Sound.
use Prim.Native.Nat.{ℕ, zero, suc, ◌+◌, ◌-◌, ◌/◌, ◌≤◌, ◌<◌, max}
use Rattle.std.specs.Prelude.{◌≡◌, refl, ◌≢◌, true, List, length, eqb, leb, ltb, Ok, Err}
use Rattle.std.proofs.Math.Path.{sym}
use Rattle.std.proofs.Common.{◌∙◌}
use Rattle.std.proofs.Math.Bool.{not}
use native.Mathlib.Omega.{arith}
use Rattle.std.proofs.Math.Decide.{dec_lt}
use borrow.Author.Tests.{leb-true, ltb-true, eqb-true, eqb-false, lt-ltb, le-ltb, eq-eqb, ne_eqb, not-true}
use Rattle.block.specs.Choose.{choose, choose_yes, choose_no, choose_first, both_yes, both_left, both_right}
use Rattle.block.specs.First.{all_below, all_below_lem}
use Rattle.block.specs.Good.{first_bad}
use Rattle.block.specs.Whole.{whole}
use Rattle.records.specs.Format.{Volume, volume_of, counts_of, words_of, tables_of, Counted, Few, Laid, period_is, empty}
use Rattle.rules.specs.Rules.{longest, ends_fit, begins, placed, point_fits, next_second, next_duration, point_rule, second, duration, road_rule, all_obey, roads_rule, start, same_ends, new_ends, start_fits, road_joins, meet, pair_joins, piece_fits, piece_rule, piece_span, greatest_span, edge_rule, edges_rule, counts_rule, head_fits, fewest_blocks, first_road, first_edge}
use Rattle.volume.specs.Sound.{Points, SoundRoad, RoadPiece, PairPiece, SoundEdge, Sound}
use Rattle.rules.specs.Facts.{ends_fact, placed_fact}
use Rattle.rules.specs.EdgeSteps.{EdgeTests, edge_tests, edge_spans}
use Rattle.volume.specs.Open.{records_of, open_of}
use Rattle.volume.specs.OpenSteps.{head_few, counted_of, laid_of}
use Rattle.records.specs.declared.tables.Counts.{Counts}
use Rattle.block.specs.declared.refusal.Refusal.{Refusal}
use Rattle.block.specs.declared.refusal.Refusal.TheVariants.{Length, Sums, Edition, Head, Road, Edge}

-- roads

pub record PointFits (period t₀ f₀ t₁ f₁ : ℕ) : Type 0 where
  pub in_period : t₀ < period
  pub lasts : 1 ≤ f₀
  pub short : f₀ ≤ longest
  pub rise : t₀ < t₁
  pub fall : f₀ ≤ f₁ + (t₁ - t₀)

point_fact : (period t₀ f₀ t₁ f₁ : ℕ) → point_fits period t₀ f₀ t₁ f₁ ≡ true → PointFits period t₀ f₀ t₁ f₁
unfolding point_fits
point_fact period t₀ f₀ t₁ f₁ e =
    let e₁ = both_right (ltb t₀ period) _ e in
    let e₂ = both_right (leb 1 f₀) _ e₁ in
    let e₃ = both_right (leb f₀ longest) _ e₂ in
    record {
      in_period = ltb-true t₀ period (both_left (ltb t₀ period) _ e);
      lasts = leb-true 1 f₀ (both_left (leb 1 f₀) _ e₁);
      short = leb-true f₀ longest (both_left (leb f₀ longest) _ e₂);
      rise = ltb-true t₀ t₁ (both_left (ltb t₀ t₁) _ e₃);
      fall = leb-true f₀ (f₁ + (t₁ - t₀)) (both_right (ltb t₀ t₁) (leb f₀ (f₁ + (t₁ - t₀))) e₃);
    }

module _ (vol : Volume) (k : ℕ) where
  points_of : 0 < vol.road_points k → all_below (vol.road_points k) (point_rule vol (vol.road_first k) (vol.road_points k)) ≡ true
      → Points vol.period (vol.road_points k) (second vol k) (duration vol k)
  unfolding point_rule next_second next_duration
  points_of some e = record {
    some = some;
    in_period = λ i h. (fits i h).in_period;
    rise = λ i h. rw (choose_yes (second vol k (i + 1)) (second vol k 0 + vol.period) (lt-ltb (i + 1) n h)) at (fits i (omega arith)).rise;
    lasts = λ i h. (fits i h).lasts;
    short = λ i h. (fits i h).short;
    fall = λ i h.
        rw (choose_yes (second vol k (i + 1)) (second vol k 0 + vol.period) (lt-ltb (i + 1) n h), choose_yes (duration vol k (i + 1)) (duration vol k 0) (lt-ltb (i + 1) n h))
        at (fits i (omega arith)).fall;
    fall_over =
        let last : n ≤ n - 1 + 1 = omega arith in
        rw (choose_no (second vol k (n - 1 + 1)) (second vol k 0 + vol.period) (le-ltb (n - 1 + 1) n last), choose_no (duration vol k (n - 1 + 1)) (duration vol k 0) (le-ltb (n - 1 + 1) n last))
        at (fits (n - 1) (omega arith)).fall;
  }
    where
      n : ℕ
      n = vol.road_points k

      fits : (i : ℕ) → i < n → PointFits vol.period (second vol k i) (duration vol k i)
          (choose (ltb (i + 1) n) (second vol k (i + 1)) (second vol k 0 + vol.period))
          (choose (ltb (i + 1) n) (duration vol k (i + 1)) (duration vol k 0))
      fits i h = point_fact _ _ _ _ _ (all_below_lem n (point_rule vol (vol.road_first k) n) e i h)

  road_fact : road_rule vol k ≡ true → SoundRoad vol k
  unfolding road_rule
  road_fact e =
      let ends = ends_fit vol.junctions (vol.road_from k) (vol.road_to k) in
      let place = placed (begins vol.road_first vol.road_points k) vol.points (vol.road_first k) (vol.road_points k) in
      let r = both_right ends _ e in
      let a = ends_fact _ _ _ (both_left ends _ e) in
      let b = placed_fact _ _ _ _ (both_left place _ r) in
      record {
        ends_differ = a.differ;
        from_in = a.from_in;
        to_in = a.to_in;
        inside = b.inside;
        points = points_of b.some (both_right place _ r);
      }

-- edges

start_fact : (period i b s : ℕ) → start_fits period i b s ≡ true → (s < period) × (i ≡ 0 → s ≡ 0) × (0 < i → b < s)
unfolding start_fits
start_fact period i b s e =
    let l = both_left (choose (eqb i 0) (eqb s 0) (ltb b s)) (ltb s period) e in (
      ltb-true s period (both_right (choose (eqb i 0) (eqb s 0) (ltb b s)) (ltb s period) e),
      (λ z. eqb-true s 0 (sym (choose_yes (eqb s 0) (ltb b s) (eq-eqb i 0 z)) ∙ l)),
      (λ h. ltb-true b s (sym (choose_no (eqb s 0) (ltb b s) (ne_eqb i 0 (λ z. omega arith))) ∙ l)),
    )

-- a piece's span is at most the greatest
span_within : (vol : Volume) (p n i : ℕ) → i < n → piece_span vol (p + i) ≤ greatest_span vol p n
unfolding greatest_span
span_within vol p zero i h = absurd (omega arith)
span_within vol p (suc n) i h = go (dec_lt i n) (span_within vol p n i)
  where
    go : Dec (i < n) → (i < n → piece_span vol (p + i) ≤ greatest_span vol p n) → piece_span vol (p + i) ≤ max (greatest_span vol p n) (piece_span vol (p + n))
    go (yes l) ih = omega (arith, ih l)
    go (no g) ih = let q : i ≡ n = omega arith in rw q (omega arith)

module _ (vol : Volume) (e : ℕ) where
  road_piece_fact : (p : ℕ) → vol.piece_right p ≡ empty → piece_fits vol e p ≡ true → piece_span vol p ≤ vol.edge_span e → RoadPiece vol e p
  unfolding piece_fits piece_span road_joins
  road_piece_fact p z q s =
      let t = sym (choose_yes _ _ (eq-eqb (vol.piece_right p) empty z)) ∙ q in
      let r = both_right (ltb (vol.piece_left p) vol.roads) _ t in
      let n = choose_yes 1 (vol.edge_span (vol.piece_left p) + vol.edge_span (vol.piece_right p)) (eq-eqb (vol.piece_right p) empty z) in
      record {
        road = ltb-true _ _ (both_left (ltb (vol.piece_left p) vol.roads) _ t);
        from = eqb-true _ _ (both_left (eqb (vol.road_from (vol.piece_left p)) (vol.edge_from e)) _ r);
        to = eqb-true _ _ (both_right (eqb (vol.road_from (vol.piece_left p)) (vol.edge_from e)) _ r);
        span = omega arith;
      }

  pair_piece_fact : (p : ℕ) → vol.piece_right p ≢ empty → piece_fits vol e p ≡ true → piece_span vol p ≤ vol.edge_span e → PairPiece vol e p
  unfolding piece_fits piece_span pair_joins meet
  pair_piece_fact p ne q s =
      let l = vol.piece_left p in
      let r = vol.piece_right p in
      let t = sym (choose_no _ _ (ne_eqb r empty ne)) ∙ q in
      let t₁ = both_right (ltb l e) _ t in
      let t₂ = both_right (ltb r e) _ t₁ in
      let t₃ = both_right (eqb (vol.edge_from l) (vol.edge_from e)) _ t₂ in
      let t₄ = both_right (eqb (vol.edge_to r) (vol.edge_to e)) _ t₃ in
      let t₅ = both_right (eqb (vol.edge_to l) (vol.edge_from r)) _ t₄ in
      let n = choose_no 1 (vol.edge_span l + vol.edge_span r) (ne_eqb r empty ne) in
      record {
        left = ltb-true l e (both_left (ltb l e) _ t);
        right = ltb-true r e (both_left (ltb r e) _ t₁);
        from = eqb-true _ _ (both_left (eqb (vol.edge_from l) (vol.edge_from e)) _ t₂);
        to = eqb-true _ _ (both_left (eqb (vol.edge_to r) (vol.edge_to e)) _ t₃);
        meet = eqb-true _ _ (both_left (eqb (vol.edge_to l) (vol.edge_from r)) _ t₄);
        below_from = ltb-true _ _ (both_left (ltb (vol.edge_to l) (vol.edge_from e)) _ t₅);
        below_to = ltb-true _ _ (both_right (ltb (vol.edge_to l) (vol.edge_from e)) _ t₅);
        span = omega arith;
      }

  new_fact : new_ends vol e ≡ true → (d : ℕ) → d < e → vol.edge_from d ≡ vol.edge_from e → vol.edge_to d ≢ vol.edge_to e
  unfolding new_ends same_ends
  new_fact q d h f =
      let s = not-true (same_ends vol e d) (all_below_lem e (λ d. not (same_ends vol e d)) q d h) in
      eqb-false (vol.edge_to d) (vol.edge_to e) (sym (both_yes (eqb (vol.edge_to d) (vol.edge_to e)) (eq-eqb (vol.edge_from d) (vol.edge_from e) f)) ∙ s)

  module _ (t : EdgeTests vol e) where
    piece_starts : (i : ℕ) → i < vol.edge_pieces e
        → (start vol e i < vol.period) × (i ≡ 0 → start vol e i ≡ 0) × (0 < i → start vol e (i - 1) < start vol e i)
    unfolding piece_rule
    piece_starts i h =
        start_fact vol.period i (start vol e (i - 1)) (start vol e i)
        (both_left _ (piece_fits vol e (vol.edge_first e + i)) (all_below_lem (vol.edge_pieces e) (piece_rule vol e) t.pieces i h))

    piece_holds : (i : ℕ) → i < vol.edge_pieces e → piece_fits vol e (vol.edge_first e + i) ≡ true
    unfolding piece_rule
    piece_holds i h =
        both_right (start_fits vol.period i (start vol e (i - 1)) (start vol e i)) _
        (all_below_lem (vol.edge_pieces e) (piece_rule vol e) t.pieces i h)

    piece_spans : (i : ℕ) → i < vol.edge_pieces e → piece_span vol (vol.edge_first e + i) ≤ vol.edge_span e
    piece_spans i h = omega (arith, span_within vol (vol.edge_first e) (vol.edge_pieces e) i h, (edge_spans vol e t.span).0)

    edge_fact : SoundEdge vol e
    edge_fact =
        let a = ends_fact _ _ _ t.ends in
        let b = placed_fact _ _ _ _ t.place in
        record {
          ends_differ = a.differ;
          from_in = a.from_in;
          to_in = a.to_in;
          one_edge = new_fact t.new;
          some = b.some;
          laid = b.begins_at;
          inside = b.inside;
          begin = (piece_starts 0 b.some).1 refl;
          rise = λ i h. let back : i + 1 - 1 ≡ i = omega arith in rw back at ((piece_starts (i + 1) h).2 (omega arith));
          in_period = λ i h. (piece_starts i h).0;
          road_piece = λ i h z. road_piece_fact (vol.edge_first e + i) z (piece_holds i h) (piece_spans i h);
          pair_piece = λ i h ne. pair_piece_fact (vol.edge_first e + i) ne (piece_holds i h) (piece_spans i h);
          span = (edge_spans vol e t.span).1;
        }

-- the whole volume

-- what is known of a volume that opens: its counts, where its tables stand, and that it is sound
pub record OpenVolume (v : List ℕ) (c : Counts) : Type 0 where
  pub counts : c ≡ counts_of (volume_of v)
  pub counted : Counted (volume_of v) c
  pub few : Few c
  pub laid : Laid v (tables_of c)
  pub sound : Sound (volume_of v)

sound_fact : (vol : Volume) → 0 < vol.period → Few (counts_of vol) → roads_rule vol ≡ true → edges_rule vol ≡ true → Sound vol
unfolding all_obey
sound_fact vol p few rs es = record {
  period = p;
  junctions_some = few.junctions_some;
  junctions_few = few.junctions;
  roads_few = few.roads;
  points_few = few.points;
  edges_few = few.edges;
  pieces_few = few.pieces;
  road = λ k h. road_fact vol k (all_below_lem vol.roads (road_rule vol) (both_left (all_below vol.roads (road_rule vol)) _ rs) k h);
  edge = λ e h. edge_fact vol e (edge_tests vol e (all_below_lem vol.edges (edge_rule vol) (both_left (all_below vol.edges (edge_rule vol)) _ es) e h));
}

not_refused : (why : Refusal) (c : Counts) → Err why ≡ Ok c → ⊥
not_refused why c e = (cc)

-- a volume that opens is sound
pub opened : (v : List ℕ) (c : Counts) → open_of v ≡ Ok c → OpenVolume v c
unfolding open_of records_of counts_rule fewest_blocks
opened v c e =
    let vol = volume_of v in
    let blocks = length v / 512 in
    let no : (why : Refusal) → Err why ≡ Ok c → ⊥ = λ why. not_refused why c in
    let s₁ = choose_first (whole (length v)) _ (Err Length) (Ok c) e (no Length) in
    let s₂ = choose_first (eqb (first_bad v blocks) blocks) _ (Err (Sums (first_bad v blocks))) (Ok c) s₁.1 (no (Sums (first_bad v blocks))) in
    let s₃ = choose_first (eqb vol.edition 1) _ (Err Edition) (Ok c) s₂.1 (no Edition) in
    let s₄ = choose_first (counts_rule v vol blocks) _ (Err Head) (Ok c) s₃.1 (no Head) in
    let s₅ = choose_first (roads_rule vol) _ (Err (Road (first_road vol))) (Ok c) s₄.1 (no (Road (first_road vol))) in
    let s₆ = choose_first (edges_rule vol) (Ok (counts_of vol)) (Err (Edge (first_edge vol))) (Ok c) s₅.1 (no (Edge (first_edge vol))) in
    let is : c ≡ counts_of vol = (let f = s₆.1 in (cc)) in
    let few = head_few (counts_of vol) (both_left (head_fits (counts_of vol)) _ s₄.0) in
    let fewest = eqb-true blocks ((words_of vol + 125) / 126) (both_left (eqb blocks ((words_of vol + 125) / 126)) _ (both_right (head_fits (counts_of vol)) _ s₄.0)) in
    let n = counted_of vol c is in
    let few-c : Few c = rw is few in
    record {
      counts = is;
      counted = n;
      few = few-c;
      laid = laid_of v c (tables_of c) is refl (omega arith) few-c;
      sound = sound_fact vol (let p = period_is v in omega arith) few s₅.0 s₆.0;
    }
