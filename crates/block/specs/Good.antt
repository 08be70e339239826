-- A good block carries its own sums, and the first bad block is what opening asks for.
use Rattle.std.specs.Prelude.{◌≡◌, ℕ, Bool, true, false, List, ◌==◌, ◌≢◌, nat_eq}
use Rattle.std.proofs.Common.{◌∙◌, eq-eqb, ne_eqb, eqb-true}
use Rattle.std.proofs.Math.Path.{sym, ap₂}
use Rattle.block.specs.Choose.{both, both_yes, both_no, both_left, both_right}
use Rattle.block.specs.First.{first_not}
use Rattle.block.specs.Word.{block_word}
use Rattle.block.specs.Sums.{Summed, check_a, check_b}
use Rattle.block.specs.declared.Sums.{Sums}

-- block k's words 126 and 127 are its A and its B
unfoldable pub good : List ℕ → ℕ → Bool
good v k = both (check_a v k == block_word v k 126) (check_b v k == block_word v k 127)

-- the first of n blocks that is not good, or n
abbrev pub first_bad : List ℕ → ℕ → ℕ
first_bad v n = first_not (good v) n 0

-- the same as facts
pub record Good (v : List ℕ) (k : ℕ) : Type 0 where
  pub a : block_word v k 126 ≡ check_a v k
  pub b : block_word v k 127 ≡ check_b v k

pub good_fact : (v : List ℕ) (k : ℕ) → good v k ≡ true → Good v k
unfolding good
good_fact v k e = record {
  a = sym (eqb-true (check_a v k) (block_word v k 126) (both_left _ (check_b v k == block_word v k 127) e));
  b = sym (eqb-true (check_b v k) (block_word v k 127) (both_right (check_a v k == block_word v k 126) _ e));
}

pub fact_good : (v : List ℕ) (k : ℕ) → Good v k → good v k ≡ true
unfolding good
fact_good v k g = both_yes _ (eq-eqb _ _ (sym g.a)) ∙ eq-eqb _ _ (sym g.b)

-- what the pass over the blocks learns of block k, whose sums are s, from the words x and y that stand there
module _ (v : List ℕ) (k : ℕ) (s : Sums) (h : Summed v k s) (x y : ℕ) where
  pub a_differs : x ≡ block_word v k 126 → (s.a ≢ x) → good v k ≡ false
  unfolding good
  a_differs hx ne = both_no _ (ne_eqb _ _ (λ z. ne (h.a_is ∙ z ∙ sym hx)))

  module _ (hx : x ≡ block_word v k 126) (e : s.a ≡ x) (hy : y ≡ block_word v k 127) where
    pub b_decides : nat_eq s.b y ≡ good v k
    unfolding good
    b_decides = sym (both_yes _ (eq-eqb _ _ (sym h.a_is ∙ e ∙ hx)) ∙ ap₂ nat_eq (sym h.b_is) (sym hy))
