-- What a run of the settling rule ends with, said in the theory's words.
use Rattle.std.specs.Prelude.{ℕ, ◌+◌, ◌*◌, ◌^◌, ◌≤◌, ◌<◌, List, [], ◌≡◌, Option, None, Some, length, drop}
use Rattle.theory.specs.Settling.{arc_of, UpperEnd, none, at_most, no_way, closed, open_from, trail_back, web, answer}
use Rattle.records.specs.Format.{Volume}
use Rattle.travel.specs.Network.{network_of}
use Rattle.settle.specs.Work.{labels}
use Rattle.settle.specs.declared.Outcome.{Outcome}
use Rattle.settle.specs.declared.Outcome.TheVariants.{NoWay, Closed, Open}

-- the upper end of a window, in the theory's words
abbrev pub upper_of : Option ℕ → UpperEnd
upper_of (Some a) = at_most a
upper_of None = none

-- the outcome is the rule's answer to the question from u to d, departure x, budget b; where it is closed, the work area w holds the
-- labels along which the theory's trail leads back
abbrev pub Ends : Volume → ℕ → ℕ → ℕ → ℕ → List ℕ → Outcome → Type 0
Ends vol u d x b w (NoWay n) = answer (network_of vol) u d x b ≡ no_way n
Ends vol u d x b w (Closed a n) =
    answer (network_of vol) u d x b
    ≡ closed a n (trail_back (web (network_of vol) d) u n (labels (vol.junctions + vol.junctions) w) (vol.junctions + d) [])
Ends vol u d x b w (Open l h n) = answer (network_of vol) u d x b ≡ open_from l (upper_of h) n

-- an end of a window is below 2 ^ 62
abbrev pub UpperFits : Option ℕ → Type 0
UpperFits (Some a) = a < 2 ^ 62
UpperFits None = Unit {0}

-- every arrival of the outcome is below 2 ^ 62: refusal 10 cannot occur
abbrev pub OutcomeFits : Outcome → Type 0
OutcomeFits (NoWay n) = Unit {0}
OutcomeFits (Closed a n) = a < 2 ^ 62
OutcomeFits (Open l h n) = (l < 2 ^ 62) × UpperFits h

-- a run from u to d at x with budget b, which found the work area as w₀, left it as w and ended with r
pub record Ran (vol : Volume) (u d x b : ℕ) (w₀ w : List ℕ) (r : Outcome) : Type 0 where
  pub ends : Ends vol u d x b w r
  -- every arc that the labels hold is the turn or an edge
  pub arcs : (t : ℕ) → t < vol.junctions + vol.junctions → arc_of (labels (vol.junctions + vol.junctions) w t) ≤ vol.edges
  pub fits : OutcomeFits r
  pub kept : drop (8 * vol.junctions) w ≡ drop (8 * vol.junctions) w₀
  pub length_kept : length w ≡ length w₀
