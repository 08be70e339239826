-- Opening refuses by the numbers 1 to 6 and by no other.
use Rattle.std.specs.Prelude.{ℕ, ◌≤◌, Bool, true, false, List, Result, Ok, Err}
use Rattle.std.proofs.Common.{arith}
use Rattle.block.specs.Choose.{choose}
use Rattle.block.specs.Refusal.{refusal_number}
use Rattle.records.specs.declared.tables.Counts.{Counts}
use Rattle.volume.specs.Open.{records_of, open_of}
use Rattle.block.specs.declared.refusal.Refusal.{Refusal}

-- a refusal's number is one of 1 to 6
abbrev pub Numbered : Result Counts Refusal → Type 0
Numbered (Ok c) = Unit {0}
Numbered (Err why) = (1 ≤ refusal_number why) × (refusal_number why ≤ 6)

-- either of two answers
either : (t : Bool) (a b : Result Counts Refusal) → Numbered a → Numbered b → Numbered (choose t a b)
unfolding choose
either true a b h k = h
either false a b h k = k

-- what opening answers
pub opening_numbered : (v : List ℕ) → Numbered (open_of v)
unfolding open_of records_of
opening_numbered v =
    either _ _ _
    (either _ _ _
    (either _ _ _
    (either _ _ _
    (either _ _ _ (either _ _ _ tt (omega arith, omega arith)) (omega arith, omega arith))
    (omega arith, omega arith))
    (omega arith, omega arith))
    (omega arith, omega arith))
    (omega arith, omega arith)
