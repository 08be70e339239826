-- What the first k blocks sealed hold, block by block: A and B of the words that were there, and every other word.
use Rattle.std.specs.Prelude.{◌≡◌, ℕ, zero, suc, ◌+◌, ◌*◌, ◌%◌, ◌<◌, ◌≤◌, List, length, ◌≢◌, slice_index, refl}
use Rattle.std.proofs.Common.{ap, sym, ◌∙◌, subst, ⊎_elim, arith, eq-or-lt_of_le, le_of_suc-le-suc}
use Rattle.std.proofs.Math.Path.{ap₂}
use Rattle.block.specs.Word.{put_word, block_word}
use Rattle.block.specs.Sums.{check_a, check_b}
use Rattle.block.specs.Seal.{seal_to}
use Rattle.block.specs.Store.{Written, put_length, put_byte, put_other, put_written, written_kept, put_again}
use Rattle.block.specs.Change.{sum_a_same, sum_b_same}

pub record SealedTo (v : List ℕ) (k : ℕ) : Type 0 where
  pub len : length (seal_to v k) ≡ length v
  pub bytes : (i : ℕ) → i % 512 < 504 → slice_index (seal_to v k) i ≡ slice_index v i
  pub kept : (j i : ℕ) → i < 126 → block_word (seal_to v k) j i ≡ block_word v j i
  pub a : (j : ℕ) → j < k → Written (seal_to v k) (128 * j + 126) (check_a v j)
  pub b : (j : ℕ) → j < k → Written (seal_to v k) (128 * j + 127) (check_b v j)

-- one block more
module _ (v : List ℕ) (k : ℕ) (room : 512 * suc k ≤ length v) (r : SealedTo v k) where
  a_is : check_a (seal_to v k) k ≡ check_a v k
  a_is = sum_a_same (block_word (seal_to v k) k) (block_word v k) k 126 (r.kept k)

  b_is : check_b (seal_to v k) k ≡ check_b v k
  b_is = sum_b_same (block_word (seal_to v k) k) (block_word v k) k 126 (r.kept k)

  -- the blocks after A alone is written
  half : List ℕ
  half = put_word (seal_to v k) (128 * k + 126) (check_a v k)

  half_length : length half ≡ length v
  unfolding half
  half_length = put_length (seal_to v k) (128 * k + 126) (check_a v k) ∙ r.len

  whole_is : seal_to v (suc k) ≡ put_word half (128 * k + 127) (check_b v k)
  unfolding seal_to half
  whole_is =
      ap₂
      (λ (x y : ℕ). put_word (put_word (seal_to v k) (128 * k + 126) x) (128 * k + 127) y)
      a_is
      b_is

  -- words and bytes of other places are as they were
  other : (j i : ℕ) → i < 126 → block_word (seal_to v (suc k)) j i ≡ block_word (seal_to v k) j i
  unfolding block_word half
  other j i h =
      rw whole_is
      (put_other half (128 * k + 127) (check_b v k) (128 * j + i) (λ e. omega arith)
      ∙ put_other (seal_to v k) (128 * k + 126) (check_a v k) (128 * j + i) (λ e. omega arith))

  other_byte : (i : ℕ) → i % 512 < 504 → slice_index (seal_to v (suc k)) i ≡ slice_index (seal_to v k) i
  unfolding half
  other_byte i h =
      rw whole_is
      (put_byte half (128 * k + 127) (check_b v k) i (λ e. omega arith)
      ∙ put_byte (seal_to v k) (128 * k + 126) (check_a v k) i (λ e. omega arith))

  kept_sum : (w x : ℕ) → (w ≢ 128 * k + 126) → (w ≢ 128 * k + 127) → Written (seal_to v k) w x → Written (seal_to v (suc k)) w x
  unfolding half
  kept_sum w x na nb h =
      rw whole_is
      (written_kept half (128 * k + 127) (check_b v k) w x nb (written_kept (seal_to v k) (128 * k + 126) (check_a v k) w x na h))

  new_a : Written (seal_to v (suc k)) (128 * k + 126) (check_a v k)
  unfolding half
  new_a =
      rw whole_is
      (written_kept half (128 * k + 127) (check_b v k) (128 * k + 126) (check_a v k) (λ e. omega arith)
      (put_written (seal_to v k) (128 * k + 126) (check_a v k) (let l = r.len in omega arith)))

  new_b : Written (seal_to v (suc k)) (128 * k + 127) (check_b v k)
  new_b = rw whole_is (put_written half (128 * k + 127) (check_b v k) (let l = half_length in omega arith))

  next : SealedTo v (suc k)
  next = record {
    len = rw whole_is (put_length half (128 * k + 127) (check_b v k) ∙ half_length);
    bytes = λ i h. other_byte i h ∙ r.bytes i h;
    kept = λ j i h. other j i h ∙ r.kept j i h;
    a = λ j lt. ⊎_elim
        (λ e. subst (λ (m : ℕ). Written (seal_to v (suc k)) (128 * m + 126) (check_a v m)) (sym e) new_a)
        (λ l. kept_sum (128 * j + 126) (check_a v j) (λ e. omega arith) (λ e. omega arith) (r.a j l))
        (eq-or-lt_of_le (le_of_suc-le-suc lt));
    b = λ j lt. ⊎_elim
        (λ e. subst (λ (m : ℕ). Written (seal_to v (suc k)) (128 * m + 127) (check_b v m)) (sym e) new_b)
        (λ l. kept_sum (128 * j + 127) (check_b v j) (λ e. omega arith) (λ e. omega arith) (r.b j l))
        (eq-or-lt_of_le (le_of_suc-le-suc lt));
  }

pub sealed_to : (v : List ℕ) (k : ℕ) → 512 * k ≤ length v → SealedTo v k
unfolding seal_to
sealed_to v zero room = record {
  len = refl;
  bytes = λ i h. refl;
  kept = λ j i h. refl;
  a = λ j lt. absurd (omega arith);
  b = λ j lt. absurd (omega arith);
}
sealed_to v (suc k) room = next v k room (sealed_to v k (omega arith))

-- where the first n blocks carry their sums, sealing them changes nothing
pub seal_nothing : (v : List ℕ) (n : ℕ)
    → ((j : ℕ) → j < n → Written v (128 * j + 126) (check_a v j))
    → ((j : ℕ) → j < n → Written v (128 * j + 127) (check_b v j))
    → seal_to v n ≡ v
unfolding seal_to
seal_nothing v zero a b = refl
seal_nothing v (suc n) a b =
    let same = seal_nothing v n (λ j l. a j (omega arith)) (λ j l. b j (omega arith)) in
    ap (λ (w : List ℕ). put_word (put_word w (128 * n + 126) (check_a w n)) (128 * n + 127) (check_b w n)) same
    ∙ ap (λ (w : List ℕ). put_word w (128 * n + 127) (check_b v n)) (put_again v (128 * n + 126) (check_a v n) (a n (omega arith)))
    ∙ put_again v (128 * n + 127) (check_b v n) (b n (omega arith))
