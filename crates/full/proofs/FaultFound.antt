-- Roads come before pairs: the fault of the whole volume, from the first road's and the first pair's.
use Rattle.std.specs.Prelude.{◌≡◌, ◌≢◌, Option, None}
use Rattle.std.proofs.Common.{ap, sym, ◌∙◌}
use Rattle.block.specs.Choose.{choose_yes, choose_no}
use Rattle.records.specs.Format.{Volume}
use Rattle.full.specs.Fault.{is_full, lefts_fault, roads_fault, fault_of}
use Rattle.full.specs.FaultRow.{fault_is}
use Rattle.full.specs.declared.Fault.{Fault}

-- a road's fault comes first
pub faults_road : (vol : Volume) (a : Option Fault) → a ≡ roads_fault vol → a ≢ None → a ≡ fault_of vol
unfolding fault_of
faults_road vol a e n =
    e ∙ sym (choose_no (lefts_fault vol) (roads_fault vol) (fault_is (roads_fault vol) (λ z. n (e ∙ z))))

-- where no road has one, a pair's
pub faults_pair : (vol : Volume) (a : Option Fault) → roads_fault vol ≡ None → a ≡ lefts_fault vol → a ≡ fault_of vol
unfolding fault_of
faults_pair vol a f e = e ∙ sym (choose_yes (lefts_fault vol) (roads_fault vol) (ap is_full f))
