-- What a stored word does to the bytes and to the other words. Bytes of a lent list are below 256: `Bytes`.
use Rattle.std.specs.Prelude.{◌≡◌, ℕ, ◌+◌, ◌*◌, ◌/◌, ◌%◌, ◌^◌, ◌<◌, ◌≢◌, List, length, set, slice_index, slice_index_or}
use Rattle.std.proofs.Common.{ap, sym, ◌∙◌, arith, length-set, get_or-set_same, get_or-set_other}
use Rattle.std.proofs.Math.Nat.{div-div-eq-div-mul, div-eq_of_lt}
use Rattle.std.proofs.lemmas.List.{set-get_or}
use Rattle.block.specs.Word.{word_from, word_at, put_word}

-- every element is a byte
abbrev pub Bytes : List ℕ → Type 0
Bytes v = (i : ℕ) → slice_index v i < 256

-- the four bytes of word i are those of x
pub record Written (v : List ℕ) (i x : ℕ) : Type 0 where
  pub first : slice_index_or v (4 * i) 0 ≡ x % 256
  pub second : slice_index_or v (4 * i + 1) 0 ≡ x / 256 % 256
  pub third : slice_index_or v (4 * i + 2) 0 ≡ x / 65536 % 256
  pub fourth : slice_index_or v (4 * i + 3) 0 ≡ x / 16777216 % 256

pub put_length : (v : List ℕ) (i x : ℕ) → length (put_word v i x) ≡ length v
unfolding put_word
put_length v i x = simp length-set

-- a byte of another word is as it was
pub put_byte : (v : List ℕ) (i x j : ℕ) → (j / 4 ≢ i) → slice_index (put_word v i x) j ≡ slice_index v j
unfolding put_word
put_byte v i x j ne =
    let n₃ : j ≢ 4 * i + 3 = λ e. ne (omega arith) in
    let n₂ : j ≢ 4 * i + 2 = λ e. ne (omega arith) in
    let n₁ : j ≢ 4 * i + 1 = λ e. ne (omega arith) in
    let n₀ : j ≢ 4 * i = λ e. ne (omega arith) in
    simp get_or-set_other

-- the word itself is written
pub put_written : (v : List ℕ) (i x : ℕ) → 4 * i + 3 < length v → Written (put_word v i x) i x
unfolding put_word
put_written v i x room =
    let r₀ : 4 * i < length v = omega arith in
    let r₁ : 4 * i + 1 < length (set v (4 * i) (x % 256)) = rw length-set (omega arith) in
    let r₂ : 4 * i + 2 < length (set (set v (4 * i) (x % 256)) (4 * i + 1) (x / 256 % 256)) = simp length-set (omega arith) in
    let r₃ : 4 * i + 3 < length (set (set (set v (4 * i) (x % 256)) (4 * i + 1) (x / 256 % 256)) (4 * i + 2) (x / 65536 % 256)) =
    simp length-set room in
    let a₁ : 4 * i ≢ 4 * i + 1 = λ e. omega arith in
    let a₂ : 4 * i ≢ 4 * i + 2 = λ e. omega arith in
    let a₃ : 4 * i ≢ 4 * i + 3 = λ e. omega arith in
    let b₂ : 4 * i + 1 ≢ 4 * i + 2 = λ e. omega arith in
    let b₃ : 4 * i + 1 ≢ 4 * i + 3 = λ e. omega arith in
    let c₃ : 4 * i + 2 ≢ 4 * i + 3 = λ e. omega arith in
    record {
      first = simp (get_or-set_same, get_or-set_other);
      second = simp (get_or-set_same, get_or-set_other);
      third = simp (get_or-set_same, get_or-set_other);
      fourth = simp (get_or-set_same, get_or-set_other);
    }

-- another word stays written
pub written_kept : (v : List ℕ) (i x j y : ℕ) → (j ≢ i) → Written v j y → Written (put_word v i x) j y
written_kept v i x j y ne w = record {
  first = put_byte v i x (4 * j) (λ e. ne (omega arith)) ∙ w.first;
  second = put_byte v i x (4 * j + 1) (λ e. ne (omega arith)) ∙ w.second;
  third = put_byte v i x (4 * j + 2) (λ e. ne (omega arith)) ∙ w.third;
  fourth = put_byte v i x (4 * j + 3) (λ e. ne (omega arith)) ∙ w.fourth;
}

-- a byte that stands there already
same_byte : (v : List ℕ) (i b : ℕ) → slice_index v i ≡ b → set v i b ≡ v
same_byte v i b e = ap (set v i) (sym e) ∙ set-get_or v i 0

-- a word that is written already
pub put_again : (v : List ℕ) (i x : ℕ) → Written v i x → put_word v i x ≡ v
unfolding put_word
put_again v i x w =
    ap
    (λ (l : List ℕ).
    set (set (set l (4 * i + 1) (x / 256 % 256)) (4 * i + 2) (x / 65536 % 256)) (4 * i + 3) (x / 16777216 % 256))
    (same_byte v (4 * i) (x % 256) w.first)
    ∙ ap
    (λ (l : List ℕ). set (set l (4 * i + 2) (x / 65536 % 256)) (4 * i + 3) (x / 16777216 % 256))
    (same_byte v (4 * i + 1) (x / 256 % 256) w.second)
    ∙ ap (λ (l : List ℕ). set l (4 * i + 3) (x / 16777216 % 256)) (same_byte v (4 * i + 2) (x / 65536 % 256) w.third)
    ∙ same_byte v (4 * i + 3) (x / 16777216 % 256) w.fourth

digits : (x : ℕ) → x < 2 ^ 32
    → x % 256 + 256 * (x / 256 % 256) + 65536 * (x / 65536 % 256) + 16777216 * (x / 16777216 % 256) ≡ x
digits x h =
    let p : x / 256 / 256 ≡ x / 65536 = div-div-eq-div-mul x 256 256 in
    let q : x / 65536 / 256 ≡ x / 16777216 = div-div-eq-div-mul x 65536 256 in
    let z : x / 16777216 / 256 ≡ 0 = div-div-eq-div-mul x 16777216 256 ∙ div-eq_of_lt h in
    omega arith

-- what reads where x is written
pub written_word : (v : List ℕ) (i x : ℕ) → x < 2 ^ 32 → Written v i x → word_at v i ≡ x
unfolding word_at word_from
written_word v i x h w =
    let a = w.first in
    let b = w.second in
    let c = w.third in
    let d = w.fourth in
    let e = digits x h in
    omega arith

-- every other word reads as it did
pub put_other : (v : List ℕ) (i x j : ℕ) → (j ≢ i) → word_at (put_word v i x) j ≡ word_at v j
unfolding word_at word_from
put_other v i x j ne =
    let a = put_byte v i x (4 * j) (λ e. ne (omega arith)) in
    let b = put_byte v i x (4 * j + 1) (λ e. ne (omega arith)) in
    let c = put_byte v i x (4 * j + 2) (λ e. ne (omega arith)) in
    let d = put_byte v i x (4 * j + 3) (λ e. ne (omega arith)) in
    omega arith

-- a word of bytes has 32 bits
pub word_fits : (v : List ℕ) (i : ℕ) → Bytes v → word_at v i < 2 ^ 32
unfolding word_at word_from
word_fits v i b = omega (arith, b (4 * i), b (4 * i + 1), b (4 * i + 2), b (4 * i + 3))
