-- The sums A and B of a block. One definition serves sealing and opening.
use Rattle.std.specs.Prelude.{◌≡◌, ℕ, zero, suc, ◌+◌, ◌%◌, ◌^◌, List}
use Rattle.std.proofs.Common.{ap, sym, ◌∙◌, add-one}
use Rattle.block.specs.Word.{block_word}
use Rattle.block.specs.declared.Sums.{Sums}

-- A of block k after the first n of its words f: it starts at k + 1 and gains each word
unfoldable pub sum_a : (ℕ → ℕ) → ℕ → ℕ → ℕ
sum_a f k zero = k + 1
sum_a f k (suc n) = (sum_a f k n + f n) % 2 ^ 32

-- B of block k after the first n of its words f: it starts at 0 and gains A after each word
unfoldable pub sum_b : (ℕ → ℕ) → ℕ → ℕ → ℕ
sum_b f k zero = 0
sum_b f k (suc n) = (sum_b f k n + sum_a f k (suc n)) % 2 ^ 32

-- A and B over the 126 content words of block k
abbrev pub check_a : List ℕ → ℕ → ℕ
check_a v k = sum_a (block_word v k) k 126

abbrev pub check_b : List ℕ → ℕ → ℕ
check_b v k = sum_b (block_word v k) k 126

-- s is A and B of block k after the first n of its words
pub record SummedTo (v : List ℕ) (k n : ℕ) (s : Sums) : Type 0 where
  pub a_is : s.a ≡ sum_a (block_word v k) k n
  pub b_is : s.b ≡ sum_b (block_word v k) k n

-- s is A and B of block k
abbrev pub Summed : List ℕ → ℕ → Sums → Type 0
Summed v k s = SummedTo v k 126 s

-- r is s with one word x more
pub record Gained (s : Sums) (x : ℕ) (r : Sums) : Type 0 where
  pub a_is : r.a ≡ (s.a + x) % 2 ^ 32
  pub b_is : r.b ≡ (s.b + r.a) % 2 ^ 32

-- one word more

pub sum_a_next : (f : ℕ → ℕ) (k n : ℕ) → sum_a f k (n + 1) ≡ (sum_a f k n + f n) % 2 ^ 32
unfolding sum_a
sum_a_next f k n = ap (sum_a f k) (add-one n)

pub sum_b_next : (f : ℕ → ℕ) (k n : ℕ) → sum_b f k (n + 1) ≡ (sum_b f k n + sum_a f k (n + 1)) % 2 ^ 32
unfolding sum_b
sum_b_next f k n =
    ap (sum_b f k) (add-one n) ∙ ap (λ (m : ℕ). (sum_b f k n + sum_a f k m) % 2 ^ 32) (sym (add-one n))

pub summed_next : (v : List ℕ) (k n x : ℕ) (s r : Sums) → SummedTo v k n s → x ≡ block_word v k n → Gained s x r → SummedTo v k (n + 1) r
summed_next v k n x s r h e g =
    let f = block_word v k in
    let a = sum_a_next f k n in
    let b = sum_b_next f k n in
    let ha = h.a_is in
    let hb = h.b_is in
    let ga = g.a_is in
    let gb = g.b_is in
    record { a_is = (cc); b_is = (cc) }
