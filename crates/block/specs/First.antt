-- The first number that fails a test. Every "first fault" of document 01 is one: the first bad block, road, edge, late second.
-- A loop that counts k up to n has the invariant "the answer from k on is the answer"; the three laws of a turn are here.
use Rattle.std.specs.Prelude.{◌≡◌, ℕ, zero, suc, ◌+◌, ◌-◌, ◌<◌, ◌≤◌, Bool, true, false, ◌==◌, refl, Option, MatchOption}
use Rattle.std.proofs.Common.{ap, sym, ◌∙◌, arith, add-one, eq-eqb, ne_eqb, eqb-true}
use Rattle.std.proofs.lemmas.Bool.{false≢true}
use Rattle.std.proofs.Math.Decide.{dec_lt}
use Rattle.std.proofs.Math.Nat.{sub-zero}
use Rattle.block.specs.Choose.{choose, choose_yes, choose_no}

-- the first of the n numbers k, k + 1, .. that fails the test p: k + n where none does
unfoldable pub first_not : (ℕ → Bool) → ℕ → ℕ → ℕ
first_not p zero k = k
first_not p (suc n) k = choose (p k) (first_not p n (suc k)) k

-- one step, and none

pub first_none : (p : ℕ → Bool) (k : ℕ) → first_not p 0 k ≡ k
unfolding first_not
first_none p k = refl

pub step_yes : (p : ℕ → Bool) (n k : ℕ) → p k ≡ true → first_not p (suc n) k ≡ first_not p n (suc k)
unfolding first_not
step_yes p n k e = choose_yes _ _ e

pub step_no : (p : ℕ → Bool) (n k : ℕ) → p k ≡ false → first_not p (suc n) k ≡ k
unfolding first_not
step_no p n k e = choose_no _ _ e

-- a loop that counts k up to n

-- all below k pass: the first from k on is the first of all
abbrev pub Passed : (ℕ → Bool) → ℕ → ℕ → Type 0
Passed p n k = first_not p (n - k) k ≡ first_not p n 0

-- the loop begins
pub first_start : (p : ℕ → Bool) (n : ℕ) → Passed p n 0
first_start p n = ap (λ (m : ℕ). first_not p m 0) (sub-zero n)

-- k passes
pub first_go : (p : ℕ → Bool) (n k : ℕ) → k < n → p k ≡ true → Passed p n k → Passed p n (k + 1)
first_go p n k lt e h =
    let fuel : n - k ≡ suc (n - (k + 1)) = omega arith in
    ap (first_not p (n - (k + 1))) (add-one k)
    ∙ sym (step_yes p (n - (k + 1)) k e)
    ∙ ap (λ (m : ℕ). first_not p m k) (sym fuel)
    ∙ h

-- k fails
pub first_stop : (p : ℕ → Bool) (n k : ℕ) → k < n → p k ≡ false → Passed p n k → k ≡ first_not p n 0
first_stop p n k lt e h =
    let fuel : n - k ≡ suc (n - (k + 1)) = omega arith in
    sym (step_no p (n - (k + 1)) k e) ∙ ap (λ (m : ℕ). first_not p m k) (sym fuel) ∙ h

-- all have passed
pub first_end : (p : ℕ → Bool) (n k : ℕ) → n ≤ k → Passed p n k → k ≡ first_not p n 0
unfolding first_not
first_end p n k le h = let fuel : n - k ≡ 0 = omega arith in ap (λ (m : ℕ). first_not p m k) (sym fuel) ∙ h

-- the first as an option

-- a number that is found below n is k, and none is found where k is n
abbrev pub Found : Option ℕ → ℕ → ℕ → Type 0
Found found k n = MatchOption found (k ≡ n) (λ x. (x ≡ k) × (x < n))

-- what the first says

-- r is the first of the numbers from k up to n that fails p, or n
pub record FirstOf (p : ℕ → Bool) (k n r : ℕ) : Type 0 where
  pub low : k ≤ r
  pub high : r ≤ n
  pub before : (i : ℕ) → k ≤ i → i < r → p i ≡ true
  pub here : r < n → p r ≡ false

-- the first of the m numbers from k up to n
pub first_from_lem : (p : ℕ → Bool) (m n k : ℕ) → k + m ≡ n → FirstOf p k n (first_not p m k)
unfolding first_not choose
first_from_lem p zero n k e = record {
  low = omega arith;
  high = omega arith;
  before = λ i a b. absurd (omega arith);
  here = λ h. absurd (omega arith);
}
first_from_lem p (suc m) n k e = go (p k) refl (first_from_lem p m n (suc k) (omega arith))
  where
    passed : p k ≡ true → FirstOf p (suc k) n (first_not p m (suc k)) → (i : ℕ) → k ≤ i → i < first_not p m (suc k) → Dec (k < i) → p i ≡ true
    passed t f i a b (yes l) = f.before i (omega arith) b
    passed t f i a b (no g) = let q : i ≡ k = omega arith in ap p q ∙ t

    go : (t : Bool) → p k ≡ t → FirstOf p (suc k) n (first_not p m (suc k)) → FirstOf p k n (choose t (first_not p m (suc k)) k)
    go true t f = record {
      low = let a = f.low in omega arith;
      high = f.high;
      before = λ i a b. passed t f i a b (dec_lt k i);
      here = f.here;
    }
    go false t f = record {
      low = omega arith;
      high = omega arith;
      before = λ i a b. absurd (omega arith);
      here = λ h. t;
    }

-- the first of all n
pub first_of : (p : ℕ → Bool) (n : ℕ) → FirstOf p 0 n (first_not p n 0)
first_of p n = first_from_lem p n n 0 (omega arith)

-- only one number is the first
pub first_is : (p : ℕ → Bool) (n r : ℕ) → FirstOf p 0 n r → first_not p n 0 ≡ r
first_is p n r f = go (dec_lt (first_not p n 0) r) (dec_lt r (first_not p n 0))
  where
    g : FirstOf p 0 n (first_not p n 0)
    g = first_of p n

    go : Dec (first_not p n 0 < r) → Dec (r < first_not p n 0) → first_not p n 0 ≡ r
    go (yes a) b =
        absurd (false≢true (sym (g.here (let h = f.high in omega arith)) ∙ f.before (first_not p n 0) (omega arith) a))
    go (no a) (yes b) = absurd (false≢true (sym (f.here (let h = g.high in omega arith)) ∙ g.before r (omega arith) b))
    go (no a) (no b) = omega arith

-- a test of all of the n numbers below n

abbrev pub all_below : ℕ → (ℕ → Bool) → Bool
all_below n p = first_not p n 0 == n

pub all_below_lem : (n : ℕ) (p : ℕ → Bool) → all_below n p ≡ true → (i : ℕ) → i < n → p i ≡ true
all_below_lem n p e i h = (first_of p n).before i (omega arith) (let q = eqb-true (first_not p n 0) n e in omega arith)

pub below_all : (n : ℕ) (p : ℕ → Bool) → ((i : ℕ) → i < n → p i ≡ true) → all_below n p ≡ true
below_all n p h =
    eq-eqb (first_not p n 0) n
    (first_is p n n (record { low = omega arith; high = omega arith; before = λ i a b. h i b; here = λ z. absurd (omega arith) }))

pub all_fails : (n : ℕ) (p : ℕ → Bool) (i : ℕ) → i < n → p i ≡ false → all_below n p ≡ false
all_fails n p i h e = go (all_below n p) refl
  where
    go : (t : Bool) → all_below n p ≡ t → all_below n p ≡ false
    go true q = absurd (false≢true (sym e ∙ all_below_lem n p q i h))
    go false q = q

-- the two ends of a loop that tests all

pub all_stop : (p : ℕ → Bool) (n k : ℕ) → k < n → p k ≡ false → Passed p n k → all_below n p ≡ false
all_stop p n k lt e h = ne_eqb (first_not p n 0) n (λ z. let q = first_stop p n k lt e h in omega arith)

pub all_end : (p : ℕ → Bool) (n k : ℕ) → n ≤ k → k ≤ n → Passed p n k → all_below n p ≡ true
all_end p n k le ge h = eq-eqb (first_not p n 0) n (let q = first_end p n k le h in omega arith)

-- all before the last have passed: the last decides
pub all_last : (p : ℕ → Bool) (n k : ℕ) → k + 1 ≡ n → Passed p n k → all_below n p ≡ p k
all_last p n k e h = go (p k) refl
  where
    go : (t : Bool) → p k ≡ t → all_below n p ≡ t
    go true q = all_end p n (k + 1) (omega arith) (omega arith) (first_go p n k (omega arith) q h)
    go false q = all_stop p n k (omega arith) q h
