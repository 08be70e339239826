-- The first fault of a row of faults, by their numbers: of the roads, of the right edges, of the left ones. First the steps of a loop
-- over the row, then what the first one says.
use Rattle.std.specs.Prelude.{ℕ, ◌+◌, ◌≤◌, ◌<◌, ◌≡◌, refl, ◌≢◌, Bool, true, false, Option, Some, None, MatchOption}
use Rattle.std.proofs.Math.Path.{ap, sym}
use Rattle.std.proofs.Common.{◌∙◌, arith, eq-eqb, ne_eqb}
use Rattle.std.proofs.lemmas.Bool.{false≢true}
use Rattle.std.proofs.Math.Decide.{ℕ_discrete}
use Rattle.block.specs.Choose.{choose_yes, choose_no}
use Rattle.block.specs.First.{first_not, Passed, first_start, first_go, first_stop, first_end, FirstOf, first_of}
use Rattle.full.specs.Fault.{is_full, first_fault}
use Rattle.full.specs.Runs.{from_jump}
use Rattle.full.specs.declared.Fault.{Fault}

-- only None is no fault
pub full_is : (a : Option Fault) → is_full a ≡ true → a ≡ None
full_is None e = refl
full_is (Some fault) e = absurd (false≢true e)

-- any other is one
pub fault_is : (a : Option Fault) → a ≢ None → is_full a ≡ false
fault_is a n = go (is_full a) refl
  where
    go : (t : Bool) → is_full a ≡ t → is_full a ≡ false
    go true e = absurd (n (full_is a e))
    go false e = e

-- a fault is not None
pub not_full : (a : Option Fault) → is_full a ≡ false → a ≢ None
not_full a e z = false≢true (sym e ∙ ap is_full z)

-- a loop over a row

-- of the n faults of the row f, none is among the first k
abbrev pub NoFault : (ℕ → Option Fault) → ℕ → ℕ → Type 0
NoFault f n k = Passed (λ i. is_full (f i)) n k

module _ (f : ℕ → Option Fault) (n : ℕ) where
  -- k has no fault
  pub fault_go : (k : ℕ) → k < n → f k ≡ None → NoFault f n k → NoFault f n (k + 1)
  fault_go k lt e h = first_go (λ i. is_full (f i)) n k lt (ap is_full e) h

  -- the fault of k is the first
  pub fault_stop : (k : ℕ) (a : Option Fault) → k < n → a ≡ f k → a ≢ None → NoFault f n k → a ≡ first_fault f n
  unfolding first_fault
  fault_stop k a lt e ne h =
      let z = first_stop (λ i. is_full (f i)) n k lt (fault_is (f k) (λ q. ne (e ∙ q))) h in
      e ∙ ap f z ∙ sym (choose_no None (f (first_not (λ i. is_full (f i)) n 0)) (ne_eqb (first_not (λ i. is_full (f i)) n 0) n (λ q. omega arith)))

  -- none has one
  pub fault_end : (k : ℕ) → n ≤ k → k ≤ n → NoFault f n k → None ≡ first_fault f n
  unfolding first_fault
  fault_end k le ge h =
      let z = first_end (λ i. is_full (f i)) n k le h in
      sym (choose_yes None (f (first_not (λ i. is_full (f i)) n 0)) (eq-eqb (first_not (λ i. is_full (f i)) n 0) n (omega arith)))

  -- a row without a fault has no first one
  pub fault_none : ((i : ℕ) → i < n → f i ≡ None) → None ≡ first_fault f n
  fault_none all =
      fault_end n (omega arith) (omega arith)
      (from_jump (λ i. is_full (f i)) 0 n n (omega arith) (omega arith) (λ i a b. ap is_full (all i b)) ∙ first_start (λ i. is_full (f i)) n)

-- what the first fault says

-- a is the first of the n faults of the row f
pub record First (f : ℕ → Option Fault) (n : ℕ) (a : Option Fault) : Type 0 where
  pub number : ℕ
  pub there : number < n
  pub here : f number ≡ a
  pub before : (i : ℕ) → i < number → f i ≡ None

module _ (f : ℕ → Option Fault) (n : ℕ) where
  -- the number of the first fault, or n
  row_first : FirstOf (λ i. is_full (f i)) 0 n (first_not (λ i. is_full (f i)) n 0)
  row_first = first_of (λ i. is_full (f i)) n

  -- below n it is the fault of that number
  row_fault : first_not (λ i. is_full (f i)) n 0 ≢ n → first_fault f n ≡ f (first_not (λ i. is_full (f i)) n 0)
  unfolding first_fault
  row_fault m = choose_no None (f (first_not (λ i. is_full (f i)) n 0)) (ne_eqb (first_not (λ i. is_full (f i)) n 0) n m)

  -- no fault is found: there is none
  pub row_full : first_fault f n ≡ None → (i : ℕ) → i < n → f i ≡ None
  row_full e i h = go (ℕ_discrete (first_not (λ i. is_full (f i)) n 0) n)
    where
      go : Dec (first_not (λ i. is_full (f i)) n 0 ≡ n) → f i ≡ None
      go (yes z) = full_is (f i) (row_first.before i (omega arith) (omega arith))
      go (no m) =
          absurd (false≢true (sym (row_first.here (omega (arith, row_first.high))) ∙ ap is_full (sym (row_fault m) ∙ e)))

  -- one is found: it is the first
  pub row_found : first_fault f n ≢ None → First f n (first_fault f n)
  unfolding first_fault
  row_found ne = go (ℕ_discrete (first_not (λ i. is_full (f i)) n 0) n)
    where
      go : Dec (first_not (λ i. is_full (f i)) n 0 ≡ n) → First f n (first_fault f n)
      go (yes z) = absurd (ne (choose_yes None (f (first_not (λ i. is_full (f i)) n 0)) (eq-eqb (first_not (λ i. is_full (f i)) n 0) n z)))
      go (no m) = record {
        number = first_not (λ i. is_full (f i)) n 0;
        there = omega (arith, row_first.high);
        here = sym (row_fault m);
        before = λ i h. full_is (f i) (row_first.before i (omega arith) h);
      }

  -- the first is found
  pub row_is : (a : Option Fault) → a ≢ None → First f n a → first_fault f n ≡ a
  row_is a ne F =
      sym (fault_stop f n F.number a F.there (sym F.here) ne
      (from_jump (λ i. is_full (f i)) 0 F.number n (omega arith) (let l = F.there in omega arith) (λ i c b. ap is_full (F.before i b))
      ∙ first_start (λ i. is_full (f i)) n))

  -- what a search over the row answers: no fault where there is none, else the first
  pub row_search : (a : Option Fault)
      → MatchOption a ((i : ℕ) → i < n → f i ≡ None) (λ y. (k : ℕ) × (k < n) × (f k ≡ Some y) × ((i : ℕ) → i < k → f i ≡ None))
      → a ≡ first_fault f n
  row_search None h = fault_none f n h
  row_search (Some y) h = sym (row_is (Some y) (not_full (Some y) refl) (record { number = h.0; there = h.1; here = h.2; before = h.3 }))
