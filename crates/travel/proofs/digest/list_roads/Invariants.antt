use Rattle.std.proofs.Common.{◌≡◌, length}
use Rattle.records.specs.Format.{volume_of}
use Rattle.travel.specs.Digest.{steady_back, listed}
use Rattle.travel.proofs.digest.list_roads.Given as goal

abbrev pub invariant-loop-i : goal.invariant-loop-i
invariant-loop-i l =
    (l.digest ≡ listed l.begin (steady_back (volume_of l.opened.records.bytes.now)) l.i l.initial.digest)
    × (length l.digest ≡ length l.initial.digest)
