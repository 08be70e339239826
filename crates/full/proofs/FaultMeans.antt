-- The fault that is found first is the one that holds, on a sound volume; and no other holds. First one road and one pair, then a whole
-- volume, then any bytes.
use Rattle.std.specs.Prelude.{ℕ, ◌<◌, ◌≡◌, ◌≢◌, Bool, Option, Some, None, Result, Ok, Err, List}
use Rattle.std.proofs.Math.Path.{refl, ap, sym}
use Rattle.std.proofs.Common.{◌∙◌, arith}
use Rattle.std.proofs.Math.Bool.{true, false, not}
use Rattle.std.proofs.Math.Dec.{eqb, ltb}
use borrow.Author.Tests.{eqb-true, eqb-false, ltb-true, not-true}
use Rattle.block.specs.Choose.{both_left, both_right}
use Rattle.theory.specs.Network.{road_of, pair_of, FullDay}
use Rattle.records.specs.Format.{Volume, volume_of}
use Rattle.volume.specs.Open.{open_of}
use Rattle.volume.specs.Opened.{opened}
use Rattle.block.specs.declared.refusal.Refusal.{Refusal}
use Rattle.records.specs.declared.tables.Counts.{Counts}
use Rattle.volume.specs.Sound.{Sound}
use Rattle.travel.specs.Network.{network_of}
use Rattle.full.specs.Cover.{cover_of}
use Rattle.full.specs.Fault.{is_full, of_road, of_pair, is_pair, road_fault, pair_fault, roads_fault, rights_fault, lefts_fault, fault_of, Verdict, verdict_of}
use Rattle.full.specs.FaultRow.{full_is, not_full, fault_none, row_full, row_found, row_is}
use Rattle.full.specs.FaultFound.{pair_yes, no_pair, pair_fault_lem, verdict_refused, verdict_opened}
use Rattle.full.proofs.FaultFound.{faults_road, faults_pair}
use Rattle.full.specs.Means.{RoadSays, PairSays, Pair, RoadsFine, PairsFine, RoadFirst, PairFirst, Says, Opens, Means}
use Rattle.full.specs.CoverMeans.{cover_says, cover_is}
use Rattle.full.specs.declared.cover.Flaw.{Flaw}
use Rattle.full.specs.declared.cover.Flaw.TheVariants.{Missing, Late}
use Rattle.full.specs.declared.Fault.{Fault}
use Rattle.full.specs.declared.Fault.TheVariants.{RoadMissing, RoadLate, PairMissing, PairLate}

-- a road without a fault is covered
of_road_lem : (k : ℕ) (c : Option Flaw) → of_road k c ≡ None → c ≡ None
of_road_lem k None e = refl
of_road_lem k (Some Missing) e = absurd (not_full (Some (RoadMissing k)) refl e)
of_road_lem k (Some (Late x)) e = absurd (not_full (Some (RoadLate k x)) refl e)

-- and a pair
of_pair_lem : (l r : ℕ) (c : Option Flaw) → of_pair l r c ≡ None → c ≡ None
of_pair_lem l r None e = refl
of_pair_lem l r (Some Missing) e = absurd (not_full (Some (PairMissing l r)) refl e)
of_pair_lem l r (Some (Late x)) e = absurd (not_full (Some (PairLate l r x)) refl e)

module _ (vol : Volume) where
  -- one road

  -- no fault is a cover
  road_full : (k : ℕ) → road_fault vol k ≡ None → RoadSays vol k None
  unfolding road_fault
  road_full k e =
      rw (of_road_lem k (cover_of vol (vol.road_from k) (vol.road_to k) (road_of k)) e)
      at (cover_says vol (vol.road_from k) (vol.road_to k) (road_of k))

  -- what holds is the fault
  road_is : Sound vol → (k : ℕ) (c : Option Flaw) → RoadSays vol k c → road_fault vol k ≡ of_road k c
  unfolding road_fault
  road_is S k c h = ap (of_road k) (cover_is vol (vol.road_from k) (vol.road_to k) (road_of k) S c h)

  -- one pair

  -- the test of a pair
  pair_of_test : (l r : ℕ) → l < vol.edges → r < vol.edges → is_pair vol l r ≡ true → Pair vol l r
  unfolding is_pair
  pair_of_test l r a b e =
      let meets = eqb (vol.edge_to l) (vol.edge_from r) in
      let differs = not (eqb (vol.edge_from l) (vol.edge_to r)) in
      let below = ltb (vol.edge_to l) (vol.edge_from l) in
      let e₁ = both_right meets _ e in
      let e₂ = both_right differs _ e₁ in
      record {
        left_there = a;
        right_there = b;
        meet = eqb-true (vol.edge_to l) (vol.edge_from r) (both_left meets _ e);
        differ = eqb-false (vol.edge_from l) (vol.edge_to r) (not-true (eqb (vol.edge_from l) (vol.edge_to r)) (both_left differs _ e₁));
        below_from = ltb-true (vol.edge_to l) (vol.edge_from l) (both_left below _ e₂);
        below_to = ltb-true (vol.edge_to l) (vol.edge_to r) (both_right below (ltb (vol.edge_to l) (vol.edge_to r)) e₂);
      }

  pair_test : (l r : ℕ) → Pair vol l r → is_pair vol l r ≡ true
  pair_test l r p = pair_yes vol l r p.meet p.differ p.below_from p.below_to

  -- no fault is a cover
  pair_full : (l r : ℕ) → Pair vol l r → pair_fault vol l r ≡ None → PairSays vol l r None
  pair_full l r p e =
      rw (of_pair_lem l r (cover_of vol (vol.edge_from l) (vol.edge_to r) (pair_of l r)) (sym (pair_fault_lem vol l r (pair_test l r p)) ∙ e))
      at (cover_says vol (vol.edge_from l) (vol.edge_to r) (pair_of l r))

  -- what holds is the fault
  pair_is : Sound vol → (l r : ℕ) (c : Option Flaw) → Pair vol l r → PairSays vol l r c → pair_fault vol l r ≡ of_pair l r c
  pair_is S l r c p h = pair_fault_lem vol l r (pair_test l r p) ∙ ap (of_pair l r) (cover_is vol (vol.edge_from l) (vol.edge_to r) (pair_of l r) S c h)

  -- two edges whose pair, if they are one, is covered
  pair_fine : Sound vol → (l r : ℕ) → l < vol.edges → r < vol.edges → (Pair vol l r → PairSays vol l r None) → pair_fault vol l r ≡ None
  pair_fine S l r a b h = go (is_pair vol l r) refl
    where
      go : (t : Bool) → is_pair vol l r ≡ t → pair_fault vol l r ≡ None
      go true e = let p = pair_of_test l r a b e in pair_is S l r None p (h p)
      go false e = no_pair vol l r e

  -- a fault is a pair's
  pair_there : (l r : ℕ) → l < vol.edges → r < vol.edges → pair_fault vol l r ≢ None → Pair vol l r
  pair_there l r a b n = go (is_pair vol l r) refl
    where
      go : (t : Bool) → is_pair vol l r ≡ t → Pair vol l r
      go true e = pair_of_test l r a b e
      go false e = absurd (n (no_pair vol l r e))

  -- no fault with left edge l: its pairs are covered
  rights_full : (l : ℕ) → l < vol.edges → rights_fault vol l ≡ None → (r : ℕ) → Pair vol l r → PairSays vol l r None
  unfolding rights_fault
  rights_full l a e r p = pair_full l r p (row_full (pair_fault vol l) vol.edges e r p.right_there)

  -- and the other way
  rights_fine : Sound vol → (l : ℕ) → l < vol.edges → ((r : ℕ) → Pair vol l r → PairSays vol l r None) → rights_fault vol l ≡ None
  unfolding rights_fault
  rights_fine S l a h = sym (fault_none (pair_fault vol l) vol.edges (λ r b. pair_fine S l r a b (h r)))

  -- what is found holds

  -- the fault of road k, where the roads before it have none
  road_says : (k : ℕ) → k < vol.roads → RoadsFine vol k → (c : Option Flaw) → c ≢ None → RoadSays vol k c → Says vol (of_road k c)
  road_says k a b (Some Missing) n h = record { there = a; before = b; says = h }
  road_says k a b (Some (Late x)) n h = record { there = a; before = b; says = h }
  road_says k a b None n h = absurd (n refl)

  -- the fault of l and r in turn, where no road and no pair before it has one
  pair_says : (l r : ℕ) → RoadsFine vol vol.roads → Pair vol l r → PairsFine vol l r → (c : Option Flaw) → c ≢ None → PairSays vol l r c
      → Says vol (of_pair l r c)
  pair_says l r a p b (Some Missing) n h = record { roads = a; pair = p; before = b; says = h }
  pair_says l r a p b (Some (Late x)) n h = record { roads = a; pair = p; before = b; says = h }
  pair_says l r a p b None n h = absurd (n refl)

  -- a road's fault
  roads_say : roads_fault vol ≢ None → Says vol (roads_fault vol)
  unfolding roads_fault road_fault
  roads_say n =
      let F = row_found (road_fault vol) vol.roads n in
      let k = F.number in
      let c = cover_of vol (vol.road_from k) (vol.road_to k) (road_of k) in
      rw (← F.here)
      (road_says k F.there (λ i h. road_full i (F.before i h)) c (λ z. n (sym F.here ∙ ap (of_road k) z))
      (cover_says vol (vol.road_from k) (vol.road_to k) (road_of k)))

  -- a pair's fault
  lefts_say : RoadsFine vol vol.roads → lefts_fault vol ≢ None → Says vol (lefts_fault vol)
  unfolding lefts_fault rights_fault
  lefts_say roads n =
      let F = row_found (rights_fault vol) vol.edges n in
      let l = F.number in
      let m : rights_fault vol l ≢ None = λ z. n (sym F.here ∙ z) in
      let G = row_found (pair_fault vol l) vol.edges m in
      let r = G.number in
      let p = pair_there l r F.there G.there (λ z. m (sym G.here ∙ z)) in
      let c = cover_of vol (vol.edge_from l) (vol.edge_to r) (pair_of l r) in
      let is : lefts_fault vol ≡ of_pair l r c = sym F.here ∙ sym G.here ∙ pair_fault_lem vol l r (pair_test l r p) in
      let before : PairsFine vol l r = record {
        lefts = λ d e h q. rights_full d q.left_there (F.before d h) e q;
        rights = λ e h q. pair_full l e q (G.before e h);
      } in
      rw is
      (pair_says l r roads p before c (λ z. n (is ∙ ap (of_pair l r) z)) (cover_says vol (vol.edge_from l) (vol.edge_to r) (pair_of l r)))

  -- no fault
  full_says : RoadsFine vol vol.roads → lefts_fault vol ≡ None → FullDay (network_of vol)
  unfolding network_of lefts_fault
  full_says roads e = record {
    road = roads;
    pair = λ l r a b meet differ from to.
        rights_full l a (row_full (rights_fault vol) vol.edges e l a) r
        (record { left_there = a; right_there = b; meet = meet; differ = differ; below_from = from; below_to = to });
  }

  -- the answer
  faults_say : Says vol (fault_of vol)
  unfolding roads_fault
  faults_say = go (is_full (roads_fault vol)) refl (is_full (lefts_fault vol)) refl
    where
      go : (s : Bool) → is_full (roads_fault vol) ≡ s → (t : Bool) → is_full (lefts_fault vol) ≡ t → Says vol (fault_of vol)
      go false e t f =
          let n = not_full (roads_fault vol) e in
          rw (← faults_road vol (roads_fault vol) refl n) (roads_say n)
      go true e t f =
          let full = full_is (roads_fault vol) e in
          let roads : RoadsFine vol vol.roads = λ i h. road_full i (row_full (road_fault vol) vol.roads full i h) in
          rw (← faults_pair vol (lefts_fault vol) full refl) (pairs t f roads)
        where
          pairs : (t : Bool) → is_full (lefts_fault vol) ≡ t → RoadsFine vol vol.roads → Says vol (lefts_fault vol)
          pairs true f roads = let full = full_is (lefts_fault vol) f in rw full (full_says roads full)
          pairs false f roads = lefts_say roads (not_full (lefts_fault vol) f)

  -- only what holds is found
  module _ (S : Sound vol) where
    -- no road has a fault
    roads_full : RoadsFine vol vol.roads → roads_fault vol ≡ None
    unfolding roads_fault
    roads_full h = sym (fault_none (road_fault vol) vol.roads (λ k a. road_is S k None (h k a)))

    -- the first fault is a road's
    first_road_lem : (k : ℕ) (c : Option Flaw) → of_road k c ≢ None → RoadFirst vol k c → fault_of vol ≡ of_road k c
    unfolding roads_fault
    first_road_lem k c n F =
        let is = row_is (road_fault vol) vol.roads (of_road k c) n
        (record { number = k; there = F.there; here = road_is S k c F.says; before = λ i h. road_is S i None (F.before i h) }) in
        sym (faults_road vol (of_road k c) (sym is) n)

    -- the first fault is a pair's
    first_pair : (l r : ℕ) (c : Option Flaw) → of_pair l r c ≢ None → PairFirst vol l r c → fault_of vol ≡ of_pair l r c
    unfolding lefts_fault rights_fault
    first_pair l r c n F =
        let p = F.pair in
        let right : rights_fault vol l ≡ of_pair l r c =
        row_is (pair_fault vol l) vol.edges (of_pair l r c) n
        (record {
          number = r;
          there = p.right_there;
          here = pair_is S l r c p F.says;
          before = λ e h. pair_fine S l e p.left_there (let m = p.right_there in omega arith) (F.before.rights e h);
        }) in
        let left : lefts_fault vol ≡ of_pair l r c =
        row_is (rights_fault vol) vol.edges (of_pair l r c) n
        (record {
          number = l;
          there = p.left_there;
          here = right;
          before = λ d h. rights_fine S d (let m = p.left_there in omega arith) (λ e. F.before.lefts d e h);
        }) in
        sym (faults_pair vol (of_pair l r c) (roads_full F.roads) (sym left))

    -- there is none
    all_full : FullDay (network_of vol) → fault_of vol ≡ None
    unfolding network_of lefts_fault
    all_full F =
        sym (faults_pair vol None (roads_full F.road)
        (fault_none (rights_fault vol) vol.edges
        (λ l a. rights_fine S l a (λ r p. F.pair l r a p.right_there p.meet p.differ p.below_from p.below_to))))

    -- the answer
    faults_is : (a : Option Fault) → Says vol a → fault_of vol ≡ a
    faults_is None h = all_full h
    faults_is (Some (RoadMissing k)) h = first_road_lem k (Some Missing) (not_full (Some (RoadMissing k)) refl) h
    faults_is (Some (RoadLate k x)) h = first_road_lem k (Some (Late x)) (not_full (Some (RoadLate k x)) refl) h
    faults_is (Some (PairMissing l r)) h = first_pair l r (Some Missing) (not_full (Some (PairMissing l r)) refl) h
    faults_is (Some (PairLate l r x)) h = first_pair l r (Some (Late x)) (not_full (Some (PairLate l r x)) refl) h

-- any bytes

-- what is said of an opened volume is said of its bytes
means_opened : (v : List ℕ) → Opens v → (a : Option Fault) → Says (volume_of v) a → Means v (Ok a)
means_opened v o a h = (o, h)

-- the check's answer holds
pub answer_holds : (v : List ℕ) → Means v (verdict_of v)
answer_holds v = go (open_of v) refl
  where
    go : (o : Result Counts Refusal) → open_of v ≡ o → Means v (verdict_of v)
    go (Ok c) e =
        rw (verdict_opened v c e) (means_opened v (c, e) (fault_of (volume_of v)) (faults_say (volume_of v)))
    go (Err why) e = rw (verdict_refused v why e) e

-- and answered
is_found : (v : List ℕ) → Opens v → (a : Option Fault) → Says (volume_of v) a → verdict_of v ≡ Ok a
is_found v o a h = verdict_opened v o.0 o.1 ∙ ap Ok (faults_is (volume_of v) (opened v o.0 o.1).sound a h)

-- and no other answer holds
pub holds_once : (v : List ℕ) (a : Verdict) → Means v a → verdict_of v ≡ a
holds_once v (Ok a) h = is_found v h.0 a h.1
holds_once v (Err why) h = verdict_refused v why h
