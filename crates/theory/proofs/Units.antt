-- A unit settles one state more.
use Rattle.std.specs.Prelude.{ℕ, suc, ◌<◌, ◌≢◌, ◌≡◌, refl}
use Rattle.theory.specs.Settling.{Web, Label, Table, settle}
use Rattle.theory.specs.Labels.{Waits}
use Rattle.theory.specs.OneUnit.{Step, kept, settles, reached, hastened}
use Rattle.theory.proofs.OneUnit.{settle_step}
use Rattle.theory.specs.Units.{count_grows, one_if_settled, settled_below}

-- a unit settles one state more
pub unit_counts : (W : Web) (n s a : ℕ) (L : Table) → s < n → Waits (L s) a → suc (settled_below n L) ≡ settled_below n (settle W s a L)
unit_counts W n s a L h w =
    count_grows n s L (settle W s a L) h (here (settle_step W s a L w s)) (λ t ne. there ne (settle_step W s a L w t))
  where
    here : {l m : Label} → Step W s a s l m → suc (one_if_settled l) ≡ one_if_settled m
    here (kept ne) = absurd (ne refl)
    here (settles e) = refl
    here (reached ne o) = absurd (ne refl)
    here (hastened ne o g) = absurd (ne refl)

    there : {t : ℕ} {l m : Label} → t ≢ s → Step W s a t l m → one_if_settled l ≡ one_if_settled m
    there ne (kept i) = refl
    there ne (settles e) = absurd (ne e)
    there ne (reached i o) = refl
    there ne (hastened i o g) = refl
