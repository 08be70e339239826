use Rattle.std.proofs.Common.{ℕ, ◌+◌, ◌≡◌, List, length}
use Rattle.records.specs.Format.{volume_of}
use Rattle.travel.specs.Digest.{pieces_from, listed}
use Rattle.travel.proofs.digest.list_edges.Given as goal

-- digest₀ already has its first place written, so the list before that is any m that gives it
abbrev pub invariant-loop-e : goal.invariant-loop-e
invariant-loop-e l =
    let from = pieces_from (volume_of l.opened.records.bytes.now) in
    (l.word ≡ from l.e)
    × ((m : List ℕ) → l.initial.digest ≡ listed 0 from 1 m → l.digest ≡ listed 0 from (l.e + 1) m)
    × (length l.digest ≡ length l.initial.digest)
