-- An offer changes a label as the rule says.
use Rattle.std.specs.Prelude.{ℕ, ◌≤◌, ◌<◌, Bool, true, false, cond, not, refl, T, ltb}
use Rattle.std.proofs.Common.{arith, ltb→lt, nltb→le}
use Rattle.theory.specs.Settling.{Label, nothing, waiting, settled, offered}
use Rattle.theory.specs.Labels.{Change, Settled, Within, fresh, same, sooner}

-- one offer
pub offered_change : {P : ℕ → ℕ → Type 0} (l : Label) (b k : ℕ) → P b k → Change P l (offered l b k)
offered_change nothing b k q = fresh q
offered_change {P} (waiting a p) b k q = go (ltb b a) (ltb→lt b a)
  where
    go : (t : Bool) → (T t → b < a) → Change P (waiting a p) (cond t (waiting b k) (waiting a p))
    go true f = sooner q (f tt)
    go false f = same
offered_change (settled a p) b k q = same

-- after an offer of b the label has an arrival by then, if none that is settled is later
pub offered_within : (l : Label) (b k : ℕ) → ((c : ℕ) → Settled l c → c ≤ b) → Within (offered l b k) b
offered_within nothing b k h = omega arith
offered_within (waiting c p) b k h = go (ltb b c) (nltb→le b c)
  where
    go : (t : Bool) → (T (not t) → c ≤ b) → Within (cond t (waiting b k) (waiting c p)) b
    go true f = omega arith
    go false f = f tt
offered_within (settled c p) b k h = h c refl
