-- What a search answers and what it leaves in the lent lists: document 01, "What comes back". Refusals stand in the document's order;
-- between them stands the settling rule's answer, with the trail unfolded to roads. `Searched` is the contract of `search`. What it
-- promises is in Promises.
use Rattle.std.specs.Prelude.{ℕ, ◌*◌, ◌^◌, ◌≡◌, Bool, true, Option, None, Some, List, [], ◌∷◌, ◌++◌, ltb, leb, length, Result, Ok, Err}
use Rattle.block.specs.Choose.{choose, both}
use Rattle.theory.specs.Settling as Rule
use Rattle.theory.specs.Settling.{UpperEnd, none, at_most, no_way, closed, open_from, answer}
use Rattle.records.specs.Format.{Volume, volume_of}
use Rattle.volume.specs.Open.{open_of}
use Rattle.block.specs.declared.refusal.Refusal.{Refusal}
use Rattle.block.specs.declared.refusal.Refusal.TheVariants.{Unknown, UnknownDestination, Work, Path, Arrival}
use Rattle.block.specs.Refusal.{refusal_number, refusal_place}
use Rattle.records.specs.declared.tables.Counts.{Counts}
use Rattle.travel.specs.Network.{network_of}
use Rattle.travel.specs.Written.{with_roads}
use Rattle.settle.specs.Work.{cleared}
use Rattle.search.specs.Path.{path_of}
use Rattle.search.specs.declared.Answer.{Answer}
use Rattle.search.specs.declared.Answer.TheVariants.{Closed, NoWay, Open}

-- what a search comes back with: an answer, or a refusal
abbrev pub Reply : Type 0
Reply = Result Answer Refusal

-- The rule's answer

-- an arrival fits 64 bits
abbrev pub fits : ℕ → Bool
fits a = ltb a (2 ^ 64)

-- and so does an upper end, where there is one
abbrev pub upper_fits : UpperEnd → Bool
upper_fits none = true
upper_fits (at_most a) = fits a

-- the upper end, or none
abbrev pub upper_told : UpperEnd → Option ℕ
upper_told none = None
upper_told (at_most a) = Some a

-- the rule's answer as the search gives it, with room for so many roads. Closed gives arrival, units used and the number of roads; no way
-- gives units used; open gives lower end, upper end or none, and units used. 9: closed, but more roads than room, at the roads needed;
-- 10: an arrival does not fit 64 bits
unfoldable pub told : Volume → ℕ → ℕ → Rule.Answer → Reply
told vol x room (no_way n) = Ok (NoWay n)
told vol x room (closed a n es) =
    let roads = length (path_of vol es x) in
    choose (leb roads room) (choose (fits a) (Ok (Closed a n roads)) (Err Arrival)) (Err (Path roads))
told vol x room (open_from l h n) = choose (both (fits l) (upper_fits h)) (Ok (Open l (upper_told h) n)) (Err Arrival)

-- the path of the rule's answer: the chain of edges unfolded, where it is closed
abbrev pub path_told : Volume → ℕ → Rule.Answer → List ℕ
path_told vol x (no_way n) = []
path_told vol x (closed a n es) = path_of vol es x
path_told vol x (open_from l h n) = []

-- A search of an open volume

-- the settling rule's answer to the question from `from` to `to`, with departure x and budget b
abbrev pub ruled : Volume → ℕ → ℕ → ℕ → ℕ → Rule.Answer
ruled vol from to x b = answer (network_of vol) from to x b

-- 7: start, then destination, not below N; 8: work area below 8N numbers; then the rule. The work area has `space` numbers, the path
-- list room for `room` roads
unfoldable pub answer_in : Volume → ℕ → ℕ → ℕ → ℕ → ℕ → ℕ → Reply
answer_in vol from to x b space room =
    choose (ltb from vol.junctions)
    (choose (ltb to vol.junctions)
    (choose (leb (8 * vol.junctions) space) (told vol x room (ruled vol from to x b)) (Err Work))
    (Err UnknownDestination))
    (Err Unknown)

-- A search of any bytes

-- 1 to 6 as opening refuses them; else the answer r of the open volume
abbrev pub after_opening : Result Counts Refusal → Reply → Reply
after_opening (Ok c) r = r
after_opening (Err why) r = Err why

-- the answer for the bytes v
unfoldable pub answer_of : List ℕ → ℕ → ℕ → ℕ → ℕ → ℕ → ℕ → Reply
answer_of v from to x b space room = after_opening (open_of v) (answer_in (volume_of v) from to x b space room)

-- The lent lists

-- the work area after the answer: the first n numbers are zero after any search not refused 1 to 8, all others keep their values
abbrev pub work_after : Reply → ℕ → List ℕ → List ℕ
work_after (Ok (Closed a u k)) n before = cleared before n
work_after (Ok (NoWay u)) n before = cleared before n
work_after (Ok (Open l h u)) n before = cleared before n
work_after (Err why) n before = choose (leb (refusal_number why) 8) before (cleared before n)

-- the path list after the answer: it changes only on a closed answer, and only its first places, one for each road
abbrev pub path_after : Reply → List ℕ → List ℕ → List ℕ
path_after (Ok (Closed a u k)) roads before = with_roads roads before
path_after (Ok (NoWay u)) roads before = before
path_after (Ok (Open l h u)) roads before = before
path_after (Err why) roads before = before

-- the search of the volume in v, with a work area and a path list lent, answers r and leaves them as `workOut` and `pathOut`
pub record Searched (v : List ℕ) (from to x b : ℕ) (work path : List ℕ) (r : Reply) (workOut pathOut : List ℕ) : Type 0 where
  pub answers : r ≡ answer_of v from to x b (length work) (length path)
  pub clears : workOut ≡ work_after r (8 * (volume_of v).junctions) work
  pub writes : pathOut ≡ path_after r (path_told (volume_of v) x (ruled (volume_of v) from to x b)) path

-- The document's numbers

-- an answer on paper: the document's number, 0 where it is not refused, and the values in the document's order
pub record Paper : Type 0 where
  pub number : ℕ
  pub values : List ℕ

-- the upper end, if there is one
abbrev pub upper_value : Option ℕ → List ℕ
upper_value (Some a) = a ∷ []
upper_value None = []

-- closed gives arrival, units used and the number of roads; no way units used; open lower end, upper end and units used; a refusal its place
abbrev pub paper : Reply → Paper
paper (Ok (Closed arrival used roads)) = record { number = 0; values = arrival ∷ used ∷ roads ∷ [] }
paper (Ok (NoWay used)) = record { number = 0; values = used ∷ [] }
paper (Ok (Open lower upper used)) = record { number = 0; values = lower ∷ (upper_value upper ++ (used ∷ [])) }
paper (Err why) = record { number = refusal_number why; values = refusal_place why ∷ [] }

-- the number of an answer, by which the promises tell refusals apart
abbrev pub number : Reply → ℕ
number r = (paper r).number
