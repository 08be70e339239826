-- What sealing promises, in plain words of the definitions of Word, Sums, Good, Whole and Seal. Everything else in this folder
-- serves these.
use Rattle.std.specs.Prelude.{◌≡◌, ℕ, ◌+◌, ◌*◌, ◌/◌, ◌%◌, ◌<◌, ◌≤◌, Bool, true, false, ◌≢◌, List, length, slice_index, Result, refl}
use Rattle.std.proofs.Math.Path.{ap, sym}
use Rattle.std.proofs.Common.{◌∙◌}
use Rattle.std.proofs.Math.Logic.{⊎_elim}
use native.Mathlib.Omega.{arith}
use Rattle.std.proofs.Math.Nat.{eq-or-lt_of_le}
use Rattle.std.proofs.Math.Decide.{dec_lt}
use Rattle.block.specs.Word.{block_word, content_at}
use Rattle.block.specs.Sums.{check_a, check_b}
use Rattle.block.specs.Good.{good, Good, good_fact, fact_good}
use Rattle.block.specs.Whole.{whole, whole_fact}
use Rattle.block.specs.declared.refusal.Refusal.{Refusal}
use Rattle.block.specs.Seal.{sealing, sealed, seal_to, sealed_yes, sealed_no}
use Rattle.block.specs.Store.{Bytes, Written, written_word, word_fits}
use Rattle.block.specs.Change.{sum_a_fits, sum_b_fits, sum_a_same, sum_b_same, sum_a_shows}
use Rattle.block.specs.Sealed.{SealedTo, sealed_to, seal_nothing}

-- a volume of 1 to 3,381 whole blocks
module _ (v : List ℕ) (w : whole (length v) ≡ true) where
  blocks : SealedTo v (length v / 512)
  blocks = sealed_to v (length v / 512) (omega arith)

  pub sealed_length : length (sealed v) ≡ length v
  sealed_length = ap length (sealed_yes v w) ∙ blocks.len

  -- sealing touches no byte but those of A and B
  pub other_bytes_stay : (i : ℕ) → i % 512 < 504 → slice_index (sealed v) i ≡ slice_index v i
  other_bytes_stay i h = rw (sealed_yes v w) (blocks.bytes i h)

  words_stay : (k i : ℕ) → i < 126 → block_word (sealed v) k i ≡ block_word v k i
  words_stay k i h = rw (sealed_yes v w) (blocks.kept k i h)

  -- content words are untouched
  pub content_stays : (i : ℕ) → content_at (sealed v) i ≡ content_at v i
  unfolding content_at
  content_stays i = words_stay (i / 126) (i % 126) (omega arith)

  -- the sums of the sealed blocks are those of the blocks as they were
  a_stays : (k : ℕ) → check_a (sealed v) k ≡ check_a v k
  a_stays k = sum_a_same (block_word (sealed v) k) (block_word v k) k 126 (words_stay k)

  b_stays : (k : ℕ) → check_b (sealed v) k ≡ check_b v k
  b_stays k = sum_b_same (block_word (sealed v) k) (block_word v k) k 126 (words_stay k)

  a_written : (k : ℕ) → k < length v / 512 → Written (sealed v) (128 * k + 126) (check_a (sealed v) k)
  a_written k h = rw (a_stays k, sealed_yes v w) (blocks.a k h)

  b_written : (k : ℕ) → k < length v / 512 → Written (sealed v) (128 * k + 127) (check_b (sealed v) k)
  b_written k h = rw (b_stays k, sealed_yes v w) (blocks.b k h)

  -- after sealing every block is good
  pub sealed_good : (k : ℕ) → k < length v / 512 → good (sealed v) k ≡ true
  unfolding block_word
  sealed_good k h =
      let few = whole_fact (length v) w in
      fact_good (sealed v) k
      (record {
        a = written_word (sealed v) (128 * k + 126) (check_a (sealed v) k) (sum_a_fits (block_word (sealed v) k) k 126 (omega arith)) (a_written k h);
        b = written_word (sealed v) (128 * k + 127) (check_b (sealed v) k) (sum_b_fits (block_word (sealed v) k) k 126) (b_written k h);
      })

  twice : sealed (sealed v) ≡ sealed v
  twice =
      let same : length (sealed v) / 512 ≡ length v / 512 = ap (λ (n : ℕ). n / 512) sealed_length in
      sealed_yes (sealed v) (rw sealed_length w)
      ∙ ap (seal_to (sealed v)) same
      ∙ seal_nothing (sealed v) (length v / 512) a_written b_written

-- sealing a sealed volume changes nothing, and so does sealing again what was refused
pub sealed_twice : (v : List ℕ) → sealed (sealed v) ≡ sealed v
sealed_twice v = go (whole (length v)) refl
  where
    go : (t : Bool) → whole (length v) ≡ t → sealed (sealed v) ≡ sealed v
    go true e = twice v e
    go false e = ap sealed (sealed_no v e)

-- a change confined to one word of a block, content or sum, is always found: a block that was good and differs now in exactly
-- one word is not good
module _ (v w : List ℕ) (vb : Bytes v) (wb : Bytes w) (k j : ℕ) (few : k < 3381) (inside : j < 128)
    (others : (i : ℕ) → i < 128 → i ≢ j → block_word v k i ≡ block_word w k i)
  where
    content_same : 126 ≤ j → (i : ℕ) → i < 126 → block_word v k i ≡ block_word w k i
    content_same h i l = others i (omega arith) (λ e. omega arith)

    -- two good blocks that differ in one word at most do not differ
    same_word : Good v k → Good w k → block_word v k j ≡ block_word w k j
    unfolding block_word
    same_word g h = go (dec_lt j 126)
      where
        go : Dec (j < 126) → block_word v k j ≡ block_word w k j
        go (yes l) =
            sum_a_shows (block_word v k) (block_word w k) k 126 j (omega arith) (word_fits v (128 * k + j) vb) (word_fits w (128 * k + j) wb) l
            (λ i a b. others i (omega arith) b)
            (sym g.a ∙ others 126 (omega arith) (λ e. omega arith) ∙ h.a)
        go (no n) = ⊎_elim
            (λ e.
            ap (block_word v k) (sym e)
            ∙ g.a
            ∙ sum_a_same (block_word v k) (block_word w k) k 126 (content_same (omega arith))
            ∙ sym h.a
            ∙ ap (block_word w k) e)
            (λ l.
            let e : j ≡ 127 = omega arith in
            ap (block_word v k) e
            ∙ g.b
            ∙ sum_b_same (block_word v k) (block_word w k) k 126 (content_same (omega arith))
            ∙ sym h.b
            ∙ ap (block_word w k) (sym e))
            (let h : 126 ≤ j = omega arith in eq-or-lt_of_le h)

    pub one_change_is_found : good v k ≡ true → block_word v k j ≢ block_word w k j → good w k ≡ false
    one_change_is_found g ne = go (good w k) refl
      where
        go : (t : Bool) → good w k ≡ t → good w k ≡ false
        go true e = absurd (ne (same_word (good_fact v k g) (good_fact w k e)))
        go false e = e

-- the contract of sealing allows one outcome: one answer, and one list of bytes
pub one_sealing : (v : List ℕ) (r s : Result Unit Refusal) (a b : List ℕ) → (r ≡ sealing v) × (a ≡ sealed v) → (s ≡ sealing v) × (b ≡ sealed v)
    → (r ≡ s) × (a ≡ b)
one_sealing v r s a b p q = (p.0 ∙ sym q.0, p.1 ∙ sym q.1)
