-- A volume is 1 to 3,381 blocks of 512 bytes.
use Rattle.std.specs.Prelude.{◌≡◌, ℕ, ◌%◌, ◌<◌, ◌≤◌, Bool, true, false, ◌==◌, ◌≢◌, nat_le}
use Rattle.std.proofs.Common.{◌∙◌, leb-true, le-leb, eq-eqb, ne_eqb, eqb-true}
use Rattle.std.proofs.lemmas.Bool.{lt-leb}
use Rattle.block.specs.Choose.{both, both_yes, both_no, both_left, both_right}

-- n bytes are 1 to 3,381 whole blocks
unfoldable pub whole : ℕ → Bool
whole n = both (n % 512 == 0) (both (nat_le 512 n) (nat_le n 1731072))

-- the three ways through the test

pub whole_size : (n : ℕ) → n % 512 ≡ 0 → 512 ≤ n → whole n ≡ nat_le n 1731072
unfolding whole
whole_size n h k = both_yes _ (eq-eqb _ _ h) ∙ both_yes _ (le-leb _ _ k)

pub whole_short : (n : ℕ) → n % 512 ≡ 0 → n < 512 → whole n ≡ false
unfolding whole
whole_short n h k = both_yes _ (eq-eqb _ _ h) ∙ both_no _ (lt-leb _ _ k)

pub whole_ragged : (n : ℕ) → (n % 512 ≢ 0) → whole n ≡ false
unfolding whole
whole_ragged n h = both_no _ (ne_eqb _ _ h)

-- what it says
pub record WholeBlocks (n : ℕ) : Type 0 where
  pub even : n % 512 ≡ 0
  pub some : 512 ≤ n
  pub few : n ≤ 1731072

pub whole_fact : (n : ℕ) → whole n ≡ true → WholeBlocks n
unfolding whole
whole_fact n e =
    let a = both_left (n % 512 == 0) (both (nat_le 512 n) (nat_le n 1731072)) e in
    let b = both_right (n % 512 == 0) (both (nat_le 512 n) (nat_le n 1731072)) e in
    record {
      even = eqb-true (n % 512) 0 a;
      some = leb-true 512 n (both_left (nat_le 512 n) (nat_le n 1731072) b);
      few = leb-true n 1731072 (both_right (nat_le 512 n) (nat_le n 1731072) b);
    }
