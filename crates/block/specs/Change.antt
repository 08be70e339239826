-- The sums depend on the words alone, fit 32 bits, and differ where one word differs.
use Rattle.std.specs.Prelude.{◌≡◌, ℕ, zero, suc, ◌+◌, ◌%◌, ◌^◌, ◌<◌, ◌≢◌, refl}
use Rattle.std.proofs.Common.{ap, ap₂, sym, ◌∙◌, ⊎_elim, arith, mod-lt, eq-or-lt_of_le, le_of_suc-le-suc, lt-suc_self}
use Rattle.block.specs.Sums.{sum_a, sum_b}

pub sum_a_fits : (f : ℕ → ℕ) (k n : ℕ) → k + 1 < 2 ^ 32 → sum_a f k n < 2 ^ 32
unfolding sum_a
sum_a_fits f k zero h = h
sum_a_fits f k (suc n) h = mod-lt (sum_a f k n + f n) (omega arith)

pub sum_b_fits : (f : ℕ → ℕ) (k n : ℕ) → sum_b f k n < 2 ^ 32
unfolding sum_b
sum_b_fits f k zero = omega arith
sum_b_fits f k (suc n) = mod-lt (sum_b f k n + sum_a f k (suc n)) (omega arith)

-- words that agree below n have the same sums

pub sum_a_same : (f g : ℕ → ℕ) (k n : ℕ) → ((i : ℕ) → i < n → f i ≡ g i) → sum_a f k n ≡ sum_a g k n
unfolding sum_a
sum_a_same f g k zero h = refl
sum_a_same f g k (suc n) h =
    ap₂ (λ (a b : ℕ). (a + b) % 2 ^ 32) (sum_a_same f g k n (λ i l. h i (omega arith))) (h n (lt-suc_self n))

pub sum_b_same : (f g : ℕ → ℕ) (k n : ℕ) → ((i : ℕ) → i < n → f i ≡ g i) → sum_b f k n ≡ sum_b g k n
unfolding sum_b
sum_b_same f g k zero h = refl
sum_b_same f g k (suc n) h =
    ap₂ (λ (a b : ℕ). (a + b) % 2 ^ 32) (sum_b_same f g k n (λ i l. h i (omega arith))) (sum_a_same f g k (suc n) h)

-- a sum modulo 2^32 shows what was added

cancel : (a b c : ℕ) → a < 2 ^ 32 → b < 2 ^ 32 → (a + c) % 2 ^ 32 ≡ (b + c) % 2 ^ 32 → a ≡ b
cancel a b c h g e = omega arith

cancel_left : (a b c : ℕ) → a < 2 ^ 32 → b < 2 ^ 32 → (c + a) % 2 ^ 32 ≡ (c + b) % 2 ^ 32 → a ≡ b
cancel_left a b c h g e = omega arith

-- words that agree below n but at j, with the same A, agree at j
pub sum_a_shows : (f g : ℕ → ℕ) (k n j : ℕ) → k + 1 < 2 ^ 32 → f j < 2 ^ 32 → g j < 2 ^ 32 → j < n
    → ((i : ℕ) → i < n → (i ≢ j) → f i ≡ g i) → sum_a f k n ≡ sum_a g k n → f j ≡ g j
unfolding sum_a
sum_a_shows f g k zero j kh fh gh lt h e = absurd (omega arith)
sum_a_shows f g k (suc n) j kh fh gh lt h e =
    ⊎_elim
    (λ q.
    let s = sum_a_same f g k n (λ i l. h i (omega arith) (λ z. let w = z ∙ q in omega arith)) in
    let d = ap (λ (a : ℕ). (a + f n) % 2 ^ 32) (sym s) ∙ e in
    ap f q
    ∙ cancel_left (f n) (g n) (sum_a g k n) (let u = ap f q in omega arith) (let u = ap g q in omega arith) d
    ∙ sym (ap g q))
    (λ l.
    let last = h n (lt-suc_self n) (λ z. omega arith) in
    let d = e ∙ ap (λ (b : ℕ). (sum_a g k n + b) % 2 ^ 32) (sym last) in
    sum_a_shows f g k n j kh fh gh l (λ i u w. h i (omega arith) w)
    (cancel (sum_a f k n) (sum_a g k n) (f n) (sum_a_fits f k n kh) (sum_a_fits g k n kh) d))
    (eq-or-lt_of_le (le_of_suc-le-suc lt))
