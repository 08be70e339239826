-- The sums of a block in four lanes: word n of lane j is word 4 n + j of the block. A lane's sums start at 0; the block's number comes in
-- where the lanes are joined. Of 31 words a lane, word n is in the lane's B 31 - n times and in the block's B 124 - (4 n + j) times: four
-- times as often, less j. The argument is over exact sums, which are not reduced modulo 2^32.
use Rattle.std.specs.Prelude.{◌≡◌, ℕ, zero, suc, ◌+◌, ◌*◌, ◌/◌, ◌%◌, ◌^◌, ◌<◌, List}
use Rattle.std.proofs.Common.{ap, ap₂, sym, ◌∙◌, arith, add-one, mul-suc}
use Rattle.std.proofs.Math.Nat.{mod-add-mod, add-mod-mod, add-mod}
use Rattle.block.specs.Word.{word_at, block_word}
use Rattle.block.specs.Sums.{sum_a, sum_b, SummedTo, Gained}
use Rattle.block.specs.declared.Sums.{Sums}

-- exact sums

-- the sum of the first n words of f
unfoldable pub exact_a : (ℕ → ℕ) → ℕ → ℕ
exact_a f zero = 0
exact_a f (suc n) = exact_a f n + f n

-- the sum of the first n of these sums
unfoldable pub exact_b : (ℕ → ℕ) → ℕ → ℕ
exact_b f zero = 0
exact_b f (suc n) = exact_b f n + exact_a f (suc n)

-- A and B of block k are the exact sums with what the start at k + 1 adds, modulo 2^32

sum_a_exact : (f : ℕ → ℕ) (k n : ℕ) → k + 1 < 2 ^ 32 → sum_a f k n ≡ (k + 1 + exact_a f n) % 2 ^ 32
unfolding sum_a exact_a
sum_a_exact f k zero h = omega arith
sum_a_exact f k (suc n) h =
    ap (λ (a : ℕ). (a + f n) % 2 ^ 32) (sum_a_exact f k n h)
    ∙ mod-add-mod (k + 1 + exact_a f n) (2 ^ 32) (f n)
    ∙ ap (λ (a : ℕ). a % 2 ^ 32) (omega arith)

sum_b_exact : (f : ℕ → ℕ) (k n : ℕ) → k + 1 < 2 ^ 32 → sum_b f k n ≡ ((k + 1) * n + exact_b f n) % 2 ^ 32
unfolding sum_b exact_b
sum_b_exact f k zero h = omega arith
sum_b_exact f k (suc n) h =
    ap₂ (λ (b a : ℕ). (b + a) % 2 ^ 32) (sum_b_exact f k n h) (sum_a_exact f k (suc n) h)
    ∙ sym (add-mod ((k + 1) * n + exact_b f n) (k + 1 + exact_a f (suc n)) (2 ^ 32))
    ∙ ap (λ (b : ℕ). b % 2 ^ 32) (omega (arith, mul-suc (k + 1) n))

-- lanes

-- word n of lane j
abbrev pub lane : (ℕ → ℕ) → ℕ → ℕ → ℕ
lane f j n = f (4 * n + j)

-- the first 4 n words are the first n of each lane
record Split (f : ℕ → ℕ) (n : ℕ) : Type 0 where
  a : exact_a f (4 * n) ≡ exact_a (lane f 0) n + exact_a (lane f 1) n + exact_a (lane f 2) n + exact_a (lane f 3) n
  b : exact_b f (4 * n) + (exact_a (lane f 1) n + 2 * exact_a (lane f 2) n + 3 * exact_a (lane f 3) n)
      ≡ 4 * (exact_b (lane f 0) n + exact_b (lane f 1) n + exact_b (lane f 2) n + exact_b (lane f 3) n)

split : (f : ℕ → ℕ) (n : ℕ) → Split f n
unfolding exact_a exact_b
split f zero = record { a = omega arith; b = omega arith }
split f (suc n) =
    let four : 4 * suc n ≡ suc (suc (suc (suc (4 * n)))) = omega arith in
    let w₀ : f (4 * n + 0) ≡ f (4 * n) = ap f (omega arith) in
    let w₁ : f (4 * n + 1) ≡ f (suc (4 * n)) = ap f (omega arith) in
    let w₂ : f (4 * n + 2) ≡ f (suc (suc (4 * n))) = ap f (omega arith) in
    let w₃ : f (4 * n + 3) ≡ f (suc (suc (suc (4 * n)))) = ap f (omega arith) in
    let h = split f n in
    record { a = rw four (omega (arith, h.a)); b = rw four (omega (arith, h.a, h.b)) }

-- s is the exact sums a and b, modulo 2^32
pub record Reduced (a b : ℕ) (s : Sums) : Type 0 where
  pub a_is : s.a ≡ a % 2 ^ 32
  pub b_is : s.b ≡ b % 2 ^ 32

-- one word more
reduced_next : (a b x : ℕ) (s r : Sums) → Reduced a b s → Gained s x r → Reduced (a + x) (b + (a + x)) r
reduced_next a b x s r h g =
    let e = g.a_is ∙ ap (λ (m : ℕ). (m + x) % 2 ^ 32) h.a_is ∙ mod-add-mod a (2 ^ 32) x in
    record {
      a_is = e;
      b_is = g.b_is ∙ ap₂ (λ (m n : ℕ). (m + n) % 2 ^ 32) h.b_is e ∙ sym (add-mod b (a + x) (2 ^ 32));
    }

-- s is the sums of the first n words of lane j of block k
abbrev pub LaneTo : List ℕ → ℕ → ℕ → ℕ → Sums → Type 0
LaneTo v k j n s = Reduced (exact_a (lane (block_word v k) j) n) (exact_b (lane (block_word v k) j) n) s

-- a loop over the words of a lane

pub lane_start : (v : List ℕ) (k j : ℕ) (s : Sums) → s.a ≡ 0 → s.b ≡ 0 → LaneTo v k j 0 s
unfolding exact_a exact_b
lane_start v k j s a b = record { a_is = a; b_is = b }

pub lane_next : (v : List ℕ) (k j n i x : ℕ) (s r : Sums)
    → LaneTo v k j n s → i ≡ 128 * k + (4 * n + j) → x ≡ word_at v i → Gained s x r → LaneTo v k j (n + 1) r
unfolding exact_a exact_b block_word
lane_next v k j n i x s r h p e g =
    let w : x ≡ word_at v (128 * k + (4 * n + j)) = e ∙ ap (word_at v) p in
    rw (add-one n, ← w) (reduced_next _ _ x s r h g)

-- four lanes joined

-- r is A and B of block k after 124 words, if the others are the sums of its lanes: A is their A together; B, with j times A of
-- lane j, is four times their B; and the start at k + 1 is in A once and in B 124 times
pub record Joined (k : ℕ) (l₀ l₁ l₂ l₃ r : Sums) : Type 0 where
  pub a_is : r.a ≡ (k + 1 + (l₀.a + (l₁.a + l₂.a + l₃.a))) % 2 ^ 32
  pub b_is : (r.b + (l₁.a + 2 * l₂.a + 3 * l₃.a)) % 2 ^ 32 ≡ (124 * (k + 1) + 4 * (l₀.b + l₁.b + l₂.b + l₃.b)) % 2 ^ 32
  pub b_fits : r.b < 2 ^ 32

-- what was taken off x is a multiple of 2^32
taken_off : (x r : ℕ) → r ≡ x % 2 ^ 32 → x ≡ r + 2 ^ 32 * (x / 2 ^ 32)
taken_off x r e = omega arith

-- so it changes nothing in a sum modulo 2^32

a_closes : (c x y p r : ℕ) → y ≡ x + 2 ^ 32 * p → r ≡ (c + x) % 2 ^ 32 → r ≡ (c + y) % 2 ^ 32
a_closes c x y p r e h = omega arith

b_closes : (c u x y p q r : ℕ)
    → u + (x + 2 ^ 32 * p) ≡ y + 2 ^ 32 * q → (r + x) % 2 ^ 32 ≡ (c + y) % 2 ^ 32 → r < 2 ^ 32 → r ≡ (c + u) % 2 ^ 32
b_closes c u x y p q r e h fits = omega arith

-- the lanes after 31 words each, joined, are A and B after 124
pub summed_lanes : (v : List ℕ) (k : ℕ) (l₀ l₁ l₂ l₃ s : Sums)
    → k < 3381
    → LaneTo v k 0 31 l₀ → LaneTo v k 1 31 l₁ → LaneTo v k 2 31 l₂ → LaneTo v k 3 31 l₃
    → Joined k l₀ l₁ l₂ l₃ s → SummedTo v k 124 s
summed_lanes v k l₀ l₁ l₂ l₃ s few h₀ h₁ h₂ h₃ e =
    let f = block_word v k in
    let a : ℕ → ℕ = λ j. exact_a (lane f j) 31 / 2 ^ 32 in
    let b : ℕ → ℕ = λ j. exact_b (lane f j) 31 / 2 ^ 32 in
    let a₀ = taken_off _ _ h₀.a_is in
    let a₁ = taken_off _ _ h₁.a_is in
    let a₂ = taken_off _ _ h₂.a_is in
    let a₃ = taken_off _ _ h₃.a_is in
    let b₀ = taken_off _ _ h₀.b_is in
    let b₁ = taken_off _ _ h₁.b_is in
    let b₂ = taken_off _ _ h₂.b_is in
    let b₃ = taken_off _ _ h₃.b_is in
    let t = split f 31 in
    let p = a_closes (k + 1) _ (exact_a f 124) (a 0 + a 1 + a 2 + a 3) _ (omega (arith, t.a, a₀, a₁, a₂, a₃)) e.a_is in
    let q =
    b_closes (124 * (k + 1)) (exact_b f 124) _ _ (a 1 + 2 * a 2 + 3 * a 3) (4 * (b 0 + b 1 + b 2 + b 3)) _
    (omega (arith, t.b, a₁, a₂, a₃, b₀, b₁, b₂, b₃)) e.b_is e.b_fits in
    record {
      a_is = p ∙ sym (sum_a_exact f k 124 (omega arith));
      b_is = q ∙ ap (λ (m : ℕ). m % 2 ^ 32) (omega arith) ∙ sym (sum_b_exact f k 124 (omega arith));
    }

-- what the code joins

-- j times A of lane j, for the three lanes, as B of three words
pub behind : (x₁ x₂ x₃ : ℕ) (s s₃ s₂ s₁ : Sums)
    → s.a ≡ 0 → s.b ≡ 0 → Gained s x₃ s₃ → Gained s₃ x₂ s₂ → Gained s₂ x₁ s₁
    → Reduced (x₁ + x₂ + x₃) (x₁ + 2 * x₂ + 3 * x₃) s₁
behind x₁ x₂ x₃ s s₃ s₂ s₁ a b g₃ g₂ g₁ =
    let h₃ = reduced_next 0 0 x₃ s s₃ (record { a_is = a; b_is = b }) g₃ in
    let h₂ = reduced_next _ _ x₂ s₃ s₂ h₃ g₂ in
    let h₁ = reduced_next _ _ x₁ s₂ s₁ h₂ g₁ in
    record {
      a_is = h₁.a_is ∙ ap (λ (m : ℕ). m % 2 ^ 32) (omega arith);
      b_is = h₁.b_is ∙ ap (λ (m : ℕ). m % 2 ^ 32) (omega arith);
    }

-- four times a sum, doubled twice
pub fourfold : (b₀ b₁ b₂ b₃ left right once twice four : ℕ)
    → left ≡ (b₀ + b₁) % 2 ^ 32 → right ≡ (b₂ + b₃) % 2 ^ 32 → once ≡ (left + right) % 2 ^ 32
    → twice ≡ (once + once) % 2 ^ 32 → four ≡ (twice + twice) % 2 ^ 32
    → four ≡ 4 * (b₀ + b₁ + b₂ + b₃) % 2 ^ 32
fourfold b₀ b₁ b₂ b₃ left right once twice four l r o t f =
    simp (f, t, o, r, l, mod-add-mod, add-mod-mod) (ap (λ (m : ℕ). m % 2 ^ 32) (omega arith))

-- A from lane 0 and the sum y of the others
pub a_joined : (c x y p a r : ℕ) → a ≡ (x + y) % 2 ^ 32 → y ≡ p % 2 ^ 32 → r ≡ (c + a) % 2 ^ 32 → r ≡ (c + (x + p)) % 2 ^ 32
a_joined c x y p a r e f g = simp (g, e, f, add-mod-mod)

-- B from the fourfold y and what it has too much, x
pub b_joined : (c x y p q b r : ℕ)
    → (b + x) % 2 ^ 32 ≡ y → x ≡ p % 2 ^ 32 → y ≡ q % 2 ^ 32 → r ≡ (c + b) % 2 ^ 32
    → (r + p) % 2 ^ 32 ≡ (c + q) % 2 ^ 32
b_joined c x y p q b r e f g h =
    let d : (b + p) % 2 ^ 32 ≡ q % 2 ^ 32 = sym (add-mod-mod b p (2 ^ 32)) ∙ ap (λ (m : ℕ). (b + m) % 2 ^ 32) (sym f) ∙ e ∙ g in
    ap (λ (m : ℕ). (m + p) % 2 ^ 32) h
    ∙ mod-add-mod (c + b) (2 ^ 32) p
    ∙ ap (λ (m : ℕ). m % 2 ^ 32) (omega arith)
    ∙ sym (add-mod-mod c (b + p) (2 ^ 32))
    ∙ ap (λ (m : ℕ). (c + m) % 2 ^ 32) d
    ∙ add-mod-mod c q (2 ^ 32)
