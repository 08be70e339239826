-- The first number of a run that fails a test: the seconds of a piece, or the edges up to the next one that matters. The laws of a
-- loop that takes a whole run in one step; those of single steps from 0 on are block's First.
use Prim.Native.Nat.{ℕ, zero, suc, ◌+◌, ◌-◌, ◌≤◌, ◌<◌}
use Rattle.std.specs.Prelude.{◌≡◌, Bool, true, false}
use Rattle.std.proofs.Math.Path.{refl}
use Rattle.std.proofs.Common.{ap, sym, ◌∙◌, arith, add-one}
use Rattle.block.specs.First.{first_not, step_yes, step_no, first_none, Passed, first_stop, FirstOf, first_from_lem}

-- the first number from k up to n that fails p, or n
abbrev pub first_from : (ℕ → Bool) → ℕ → ℕ → ℕ
first_from p k n = first_not p (n - k) k

module _ (p : ℕ → Bool) where
  -- one number passes
  pub from_go : (k n : ℕ) → k < n → p k ≡ true → first_from p (k + 1) n ≡ first_from p k n
  from_go k n lt e =
      let fuel : n - k ≡ suc (n - (k + 1)) = omega arith in
      ap (first_not p (n - (k + 1))) (add-one k)
      ∙ sym (step_yes p (n - (k + 1)) k e)
      ∙ ap (λ (m : ℕ). first_not p m k) (sym fuel)

  -- one fails
  pub from_stop : (k n : ℕ) → k < n → p k ≡ false → k ≡ first_from p k n
  from_stop k n lt e =
      let fuel : n - k ≡ suc (n - (k + 1)) = omega arith in
      sym (ap (λ (m : ℕ). first_not p m k) fuel ∙ step_no p (n - (k + 1)) k e)

  -- none is left
  pub from_end : (k n : ℕ) → n ≤ k → k ≡ first_from p k n
  from_end k n le = let fuel : n - k ≡ 0 = omega arith in sym (ap (λ (m : ℕ). first_not p m k) fuel ∙ first_none p k)

  -- all of the d numbers from k on pass
  from_over : (d k n : ℕ) → k + d ≤ n → ((i : ℕ) → k ≤ i → i < k + d → p i ≡ true) → first_from p (k + d) n ≡ first_from p k n
  from_over zero k n h all = ap (λ (m : ℕ). first_from p m n) (let z : k + 0 ≡ k = omega arith in z)
  from_over (suc d) k n h all =
      ap (λ (m : ℕ). first_from p m n) (let z : k + suc d ≡ k + 1 + d = omega arith in z)
      ∙ from_over d (k + 1) n (omega arith) (λ i a b. all i (omega arith) (omega arith))
      ∙ from_go k n (omega arith) (all k (omega arith) (omega arith))

  -- all from k up to m pass
  pub from_jump : (k m n : ℕ) → k ≤ m → m ≤ n → ((i : ℕ) → k ≤ i → i < m → p i ≡ true) → first_from p m n ≡ first_from p k n
  from_jump k m n a b all =
      let z : k + (m - k) ≡ m = omega arith in
      ap (λ (j : ℕ). first_from p j n) (sym z) ∙ from_over (m - k) k n (omega arith) (λ i c d. all i c (omega arith))

  -- all pass
  pub from_all : (k n : ℕ) → k ≤ n → ((i : ℕ) → k ≤ i → i < n → p i ≡ true) → n ≡ first_from p k n
  from_all k n a all = from_end n n (omega arith) ∙ from_jump k n n a (omega arith) all

  -- two tests that agree from k up to n
  pub from_same : (q : ℕ → Bool) (k n : ℕ) → k ≤ n → ((i : ℕ) → k ≤ i → i < n → p i ≡ q i) → first_from p k n ≡ first_from q k n
  unfolding first_not
  from_same q k n a same = go (n - k) k (omega arith) same
    where
      go : (d k : ℕ) → k + d ≡ n → ((i : ℕ) → k ≤ i → i < n → p i ≡ q i) → first_not p d k ≡ first_not q d k
      go zero k e same = refl
      go (suc d) k e same = rw (same k (omega arith) (omega arith), go d (suc k) (omega arith) (λ i a b. same i (omega arith) b))

  -- all below k pass, and y is the first from k up to m that fails, or m
  module _ (n k m y : ℕ) (low : k ≤ m) (high : m ≤ n) (h : Passed p n k) (is : y ≡ first_from p k m) where
    first : FirstOf p k m y
    first = rw is (first_from_lem p (m - k) m k (omega arith))

    -- it fails: it is the first of all
    pub first_inside : y < m → y ≡ first_not p n 0
    first_inside l =
        let f = first in
        first_stop p n y (omega arith) (f.here l) (from_jump k y n f.low (omega arith) f.before ∙ h)

    -- none does: all below m pass
    pub first_past : m ≤ y → Passed p n m
    first_past l = from_jump k m n low high (λ i a b. first.before i a (omega arith)) ∙ h
