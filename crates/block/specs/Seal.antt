-- Sealing: what it answers and what it leaves.
use Rattle.std.specs.Prelude.{◌≡◌, ℕ, zero, suc, ◌+◌, ◌*◌, ◌/◌, true, false, List, length, Result, Ok, Err}
use Rattle.std.proofs.Common.{ap, add-one}
use Rattle.block.specs.Choose.{choose, choose_yes, choose_no}
use Rattle.block.specs.Word.{put_word}
use Rattle.block.specs.Sums.{check_a, check_b}
use Rattle.block.specs.Whole.{whole}
use Rattle.block.specs.declared.refusal.Refusal.{Refusal}
use Rattle.block.specs.declared.refusal.Refusal.TheVariants.{Length}
use Rattle.block.specs.Refusal.{refusal_number}

-- the first k blocks sealed: each block's A is written as its word 126 and its B as its word 127
unfoldable pub seal_to : List ℕ → ℕ → List ℕ
seal_to v zero = v
seal_to v (suc k) =
    let w = seal_to v k in
    put_word (put_word w (128 * k + 126) (check_a w k)) (128 * k + 127) (check_b w k)

-- the bytes after sealing: every block sealed, or no byte changed
unfoldable pub sealed : List ℕ → List ℕ
sealed v = choose (whole (length v)) (seal_to v (length v / 512)) v

-- the answer of sealing: refusal 1, place 0, unless there are 1 to 3,381 whole blocks
unfoldable pub sealing : List ℕ → Result Unit Refusal
sealing v = choose (whole (length v)) (Ok tt) (Err Length)

-- the document's number of each answer: 0, or the refusal's
abbrev pub paper : Result Unit Refusal → ℕ
paper (Ok u) = 0
paper (Err why) = refusal_number why

-- one block more
pub seal_to_next : (v : List ℕ) (k : ℕ)
    → seal_to v (k + 1)
    ≡ put_word (put_word (seal_to v k) (128 * k + 126) (check_a (seal_to v k) k)) (128 * k + 127) (check_b (seal_to v k) k)
unfolding seal_to
seal_to_next v k = ap (seal_to v) (add-one k)

-- the two cases

pub sealed_yes : (v : List ℕ) → whole (length v) ≡ true → sealed v ≡ seal_to v (length v / 512)
unfolding sealed
sealed_yes v e = choose_yes _ _ e

pub sealed_no : (v : List ℕ) → whole (length v) ≡ false → sealed v ≡ v
unfolding sealed
sealed_no v e = choose_no _ _ e

pub sealing_yes : (v : List ℕ) → whole (length v) ≡ true → sealing v ≡ Ok tt
unfolding sealing
sealing_yes v e = choose_yes _ _ e

pub sealing_no : (v : List ℕ) → whole (length v) ≡ false → sealing v ≡ Err Length
unfolding sealing
sealing_no v e = choose_no _ _ e
