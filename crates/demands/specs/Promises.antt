-- Demand 3 as a customer reads it: on a volume for which the check says full. `verdict_of` is what `full::check` answers, and `Searched` is
-- the contract of `search::search`. What holds on every volume that opens, full or not, stands in the search's own Promises: the path, more
-- budget, and that 2N - 1 units finish.
use Rattle.std.specs.Prelude.{ℕ, ◌≤◌, ◌≡◌, None, List, length, Option, Ok}
use Rattle.std.proofs.Common.{ap}
use Rattle.theory.specs.Ways.{Way, LeastArrival}
use Rattle.theory.specs.Network.{Roads, FullDay}
use Rattle.theory.specs.Windows.{IsAt, Tops, NotBelow}
use Rattle.records.specs.Format.{volume_of}
use Rattle.settle.specs.Units.{Question}
use Rattle.settle.specs.Outcome.{upper_of}
use Rattle.full.specs.Fault.{verdict_of}
use Rattle.full.specs.Paper.{paper}
use Rattle.full.specs.Means.{Opens}
use Rattle.full.proofs.Promises.{full_exactly}
use Rattle.search.specs.Answer.{Searched, path_told, ruled, number}
use Rattle.search.specs.Tells.{said}
use Rattle.search.specs.Promises as Search
use Rattle.search.specs.Promises.{network}
use Rattle.search.specs.Answer.{Reply}
use Rattle.search.specs.declared.Answer.TheVariants.{Closed, NoWay, Open}

module _ (v : List ℕ) (passes : verdict_of v ≡ Ok None) where
  -- what the check's answer says
  opens : Opens v
  opens = ((full_exactly v).0 (ap paper passes)).0

  full : FullDay (network v)
  full = ((full_exactly v).0 (ap paper passes)).1

  module _ {from to x b : ℕ} {work path w p : List ℕ} where
    -- with room enough a question is answered
    pub answered : {r : Reply} → Question (volume_of v) from to x b work
        → length (path_told (volume_of v) x (ruled (volume_of v) from to x b)) ≤ length path → Searched v from to x b work path r w p → number r ≡ 0
    answered = Search.asked_is_answered opens.1

    -- a closed arrival is the least over every walk along the roads
    pub closed_is_least : {a n k : ℕ} → Searched v from to x b work path (Ok (Closed a n k)) w p → LeastArrival (Roads (network v)) from x to a
    closed_is_least = Search.closed_is_least full

    -- no way is said only where no walk exists
    pub no_way_is_none : {n : ℕ} → Searched v from to x b work path (Ok (NoWay n)) w p → (y : ℕ) → Way (Roads (network v)) from x to y → ⊥
    no_way_is_none = Search.no_way_is_none full

    -- an unfinished search gives a window that holds the least arrival: no walk arrives before its lower end, and some walk arrives at its
    -- upper end, where it has one
    pub open_holds : {l n : ℕ} {h : Option ℕ} → Searched v from to x b work path (Ok (Open l h n)) w p
        → ((y : ℕ) → Way (Roads (network v)) from x to y → l ≤ y) × ((y : ℕ) → IsAt (upper_of h) y → Way (Roads (network v)) from x to y)
    open_holds = Search.open_holds full

    -- leaving later never closes earlier, at any two budgets
    pub later_never_earlier : {y c : ℕ} {workLater pathLater u q : List ℕ} {r s : Reply} → x ≤ y → Searched v from to x b work path r w p
        → Searched v from to y c workLater pathLater s u q → number r ≡ 0 → number s ≡ 0 → (t : ℕ) → Tops (said s) t → NotBelow (said r) t
    later_never_earlier later = Search.later_never_earlier full later
