-- A road's duration in the document's words, over signed numbers: between neighbouring points f₀ plus the floor of
-- (f₁ - f₀)(x - t₀)/(t₁ - t₀), rounded towards minus infinity also where the road quickens. That `between` is `worded`, at each second of
-- the period, stands in proofs/Wording.
use Prim.Native.Nat.{ℕ, zero, suc, ◌-◌, ◌/◌, ◌≤◌, ◌<◌}
use Rattle.std.specs.Prelude.{◌≡◌, ℤ, negsuc, neg_ℤ, ◌+ℤ◌, ◌-ℤ◌, ◌*ℤ◌, ◌≤ℤ◌, ◌<ℤ◌}
use Rattle.std.proofs.Math.Path.{ap}
use Rattle.std.proofs.Common.{le→leb, lt→ltb, lt-ltb, le-ltb}
use Rattle.std.proofs.Math.IntN.{pos}
use native.Mathlib.Omega.{arith}

-- the floor of z / w, towards minus infinity: of -(n + 1) / w it is -(n / w + 1)
unfoldable pub floor : ℤ → ℕ → ℤ
floor (pos n) w = pos (n / w)
floor (negsuc n) w = negsuc (n / w)

-- the document's duration at second x between the points (t₀, f₀) and (t₁, f₁)
abbrev pub worded : ℕ → ℕ → ℕ → ℕ → ℕ → ℤ
worded t₀ f₀ t₁ f₁ x = pos f₀ +ℤ floor ((pos f₁ -ℤ pos f₀) *ℤ (pos x -ℤ pos t₀)) (t₁ - t₀)

-- -k is at most -(n + 1), and above it
pub neg_le : (k n : ℕ) → n < k → neg_ℤ (pos k) ≤ℤ negsuc n
neg_le zero n h = absurd (omega arith)
neg_le (suc k) n h = record { le = le→leb n k (omega arith) }

pub neg_lt : (k n : ℕ) → k ≤ n → negsuc n <ℤ neg_ℤ (pos k)
neg_lt zero n h = record { lt = tt }
neg_lt (suc k) n h = record { lt = lt→ltb k n h }

-- a difference of two naturals as signed numbers
pub minus_pos : (a b : ℕ) → b ≤ a → pos a -ℤ pos b ≡ pos (a - b)
minus_pos a zero h = ap pos (omega arith)
minus_pos a (suc b) h = rw (le-ltb a (suc b) h)

pub minus_neg : (a b : ℕ) → a < b → pos a -ℤ pos b ≡ negsuc (b - suc a)
minus_neg a zero h = absurd (omega arith)
minus_neg a (suc b) h = rw (lt-ltb a (suc b) h)
