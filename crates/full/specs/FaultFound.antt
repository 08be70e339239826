-- How the first fault is found, over plain numbers: a loop over the roads, one over the left edges, and a walk over the right edges
-- that begin where the left one ends. The edges that the walk goes past are no pairs. The loops' own steps are in FaultRow.
use Rattle.std.specs.Prelude.{ℕ, ◌+◌, ◌≤◌, ◌<◌, ◌≡◌, ◌≢◌, Bool, Option, None, List, Result, Ok, Err}
use Rattle.std.proofs.Math.Path.{refl}
use Rattle.std.proofs.Common.{ap, sym, ◌∙◌, arith}
use Rattle.std.proofs.Math.Bool.{true, false, not}
use borrow.Author.Tests.{eq-eqb, ne_eqb, lt-ltb, le-ltb}
use Rattle.block.specs.Choose.{choose_yes, choose_no, both, both_yes, both_no}
use Rattle.block.specs.First.{first_start}
use Rattle.theory.specs.Network.{road_of, pair_of}
use Rattle.records.specs.Format.{Volume, volume_of, empty}
use Rattle.volume.specs.Open.{open_of}
use Rattle.records.specs.declared.tables.Counts.{Counts}
use Rattle.block.specs.declared.refusal.Refusal.{Refusal}
use Rattle.records.specs.Index.{next_from, next_low, next_high, next_begins, next_skips}
use Rattle.full.specs.Cover.{named, cover_of}
use Rattle.full.specs.Runs.{from_jump}
use Rattle.full.specs.Fault.{is_full, of_road, of_pair, is_pair, road_fault, pair_fault, fault_of, answered, verdict_of}
use Rattle.full.specs.FaultRow.{NoFault, fault_go}
use Rattle.full.specs.Turns.{named_road, named_pair}
use Rattle.volume.specs.Sound.{Sound}
use Rattle.full.specs.declared.cover.Flaw.{Flaw}

-- pairs

module _ (vol : Volume) (l r : ℕ) where
  -- what makes a pair
  pub pair_yes : vol.edge_to l ≡ vol.edge_from r → vol.edge_from l ≢ vol.edge_to r → vol.edge_to l < vol.edge_from l
      → vol.edge_to l < vol.edge_to r → is_pair vol l r ≡ true
  unfolding is_pair
  pair_yes meet differ below_from below_to =
      both_yes _ (eq-eqb (vol.edge_to l) (vol.edge_from r) meet)
      ∙ both_yes _ (ap not (ne_eqb (vol.edge_from l) (vol.edge_to r) differ))
      ∙ both_yes _ (lt-ltb (vol.edge_to l) (vol.edge_from l) below_from)
      ∙ lt-ltb (vol.edge_to l) (vol.edge_to r) below_to

  -- what is no pair has no fault
  pub no_pair : is_pair vol l r ≡ false → pair_fault vol l r ≡ None
  unfolding pair_fault
  no_pair e = choose_no _ _ e

  -- a pair's fault is how it is covered
  pub pair_fault_lem : is_pair vol l r ≡ true → pair_fault vol l r ≡ of_pair l r (cover_of vol (vol.edge_from l) (vol.edge_to r) (pair_of l r))
  unfolding pair_fault
  pair_fault_lem e = choose_yes _ _ e

  -- a test that fails makes both fail
  and_false : (a : Bool) → both a false ≡ false
  unfolding both
  and_false true = refl
  and_false false = refl

  -- two edges that do not meet
  pub fault_apart : vol.edge_to l ≢ vol.edge_from r → pair_fault vol l r ≡ None
  unfolding is_pair
  fault_apart n = no_pair (both_no _ (ne_eqb (vol.edge_to l) (vol.edge_from r) n))

  -- that lead back to the start
  pub fault_back : vol.edge_from l ≡ vol.edge_to r → pair_fault vol l r ≡ None
  unfolding is_pair
  fault_back e =
      no_pair (ap (both _) (both_no _ (ap not (eq-eqb (vol.edge_from l) (vol.edge_to r) e))) ∙ and_false _)

  -- whose middle is no lower than the start
  pub fault_high : vol.edge_from l ≤ vol.edge_to l → pair_fault vol l r ≡ None
  unfolding is_pair
  fault_high h =
      no_pair (ap (both _) (ap (both _) (both_no _ (le-ltb (vol.edge_to l) (vol.edge_from l) h)) ∙ and_false _) ∙ and_false _)

  -- or no lower than the end
  pub fault_low : vol.edge_to r ≤ vol.edge_to l → pair_fault vol l r ≡ None
  unfolding is_pair
  fault_low h =
      no_pair
      (ap (both _) (ap (both _) (ap (both _) (le-ltb (vol.edge_to l) (vol.edge_to r) h) ∙ and_false _) ∙ and_false _) ∙ and_false _)

  -- w is where the right edge ends, and the left one leads from u to m
  module _ (u m w : ℕ) (hu : u ≡ vol.edge_from l) (hm : m ≡ vol.edge_to l) (hw : w ≡ vol.edge_to r) where
    -- the fault of a pair, by how it is covered
    pub pair_fault_by : (c : Option Flaw) → Sound vol → r < vol.edges → m ≡ vol.edge_from r → m < u → m < w → w ≢ u
        → c ≡ cover_of vol u w (named l r) → of_pair l r c ≡ pair_fault vol l r
    pair_fault_by c S there meet below_from below_to differ e =
        let i = pair_yes (sym hm ∙ meet) (λ z. differ (hw ∙ sym z ∙ sym hu)) (omega arith) (omega arith) in
        let n = named_pair l r (λ z. omega (arith, S.edges_few)) in
        let k : c ≡ cover_of vol (vol.edge_from l) (vol.edge_to r) (pair_of l r) = (cc) in
        ap (of_pair l r) k ∙ sym (pair_fault_lem i)

-- the fault of a road, by how it is covered
pub road_fault_by : (vol : Volume) (k u w : ℕ) → u ≡ vol.road_from k → w ≡ vol.road_to k → (c : Option Flaw)
    → c ≡ cover_of vol u w (named k empty) → of_road k c ≡ road_fault vol k
unfolding road_fault
road_fault_by vol k u w hu hw c e =
    let n = named_road k in
    let z : c ≡ cover_of vol (vol.road_from k) (vol.road_to k) (road_of k) = (cc) in
    ap (of_road k) z

-- the walk over the right edges has come to r: an edge that begins where l ends, or E
pub record Walked (vol : Volume) (l r : ℕ) : Type 0 where
  pub inside : r ≤ vol.edges
  pub begins_there : r < vol.edges → vol.edge_to l ≡ vol.edge_from r
  pub none : NoFault (pair_fault vol l) vol.edges r

module _ (vol : Volume) (l m : ℕ) (is : m ≡ vol.edge_to l) where
  -- from k on it goes to the next edge that begins there
  walk_on : (k r : ℕ) → k ≤ vol.edges → r ≡ next_from vol m k → NoFault (pair_fault vol l) vol.edges k → Walked vol l r
  walk_on k r hk e h = rw e (record {
    inside = next_high vol m k hk;
    begins_there = λ lt. sym (next_begins vol m k hk lt ∙ is);
    none =
        from_jump (λ i. is_full (pair_fault vol l i)) k (next_from vol m k) vol.edges (next_low vol m k hk) (next_high vol m k hk)
        (λ i a b. ap is_full (fault_apart vol l i (λ z. next_skips vol m k i hk a b (sym (is ∙ z)))))
        ∙ h;
  })

  -- the walk begins
  pub walk_start : (r : ℕ) → r ≡ next_from vol m 0 → Walked vol l r
  walk_start r e = walk_on 0 r (omega arith) e (first_start (λ i. is_full (pair_fault vol l i)) vol.edges)

  -- edge r has no fault
  pub walk_next : (r s : ℕ) → r < vol.edges → pair_fault vol l r ≡ None → Walked vol l r → s ≡ next_from vol m (r + 1) → Walked vol l s
  walk_next r s lt f w e = walk_on (r + 1) s (omega arith) e (fault_go (pair_fault vol l) vol.edges r lt f w.none)

-- the whole

-- a refusal is passed on
pub verdict_refused : (v : List ℕ) (why : Refusal) → open_of v ≡ Err why → verdict_of v ≡ Err why
unfolding verdict_of
verdict_refused v why e = ap (λ (o : Result Counts Refusal). answered o (fault_of (volume_of v))) e

-- an opened volume is checked
pub verdict_opened : (v : List ℕ) (c : Counts) → open_of v ≡ Ok c → verdict_of v ≡ Ok (fault_of (volume_of v))
unfolding verdict_of
verdict_opened v c e = ap (λ (o : Result Counts Refusal). answered o (fault_of (volume_of v))) e
