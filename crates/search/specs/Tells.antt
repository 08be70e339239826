-- What an answer of the search tells of the settling rule's answer behind it, read backwards from `answer_of`: an answer that is not
-- refused means that the volume is sound, the question is about its junctions, and the rule answers so. `said` is the answer in the
-- theory's words, of which the theory's windows speak.
use Rattle.std.specs.Prelude.{ℕ, ◌*◌, ◌≤◌, ◌<◌, ◌≡◌, refl, Bool, Option, None, Some, List, [], ltb, leb, length, Result, Ok, Err}
use Rattle.std.proofs.Common.{ap, sym, ◌∙◌, arith, ltb-true, leb-true, leb-false}
use Rattle.std.proofs.Math.Bool.{true, false}
use Rattle.block.specs.Choose.{choose, both}
use Rattle.theory.specs.Settling as Rule
use Rattle.theory.specs.Settling.{UpperEnd, none, at_most, no_way, closed, open_from}
use Rattle.theory.specs.Windows.{NotBelow, Tops, used, Finished, Narrows}
use Rattle.records.specs.Format.{Volume, volume_of}
use Rattle.volume.specs.Sound.{Sound}
use Rattle.volume.specs.Open.{open_of}
use Rattle.volume.specs.Opened.{OpenVolume, opened}
use Rattle.records.specs.declared.tables.Counts.{Counts}
use Rattle.block.specs.declared.refusal.Refusal.{Refusal}
use Rattle.block.specs.declared.refusal.Refusal.TheVariants.{Unknown, UnknownDestination, Work, Path, Arrival}
use Rattle.block.specs.Refusal.{refusal_number, refusal_place}
use Rattle.settle.specs.Outcome.{upper_of}
use Rattle.search.specs.Path.{path_of}
use Rattle.search.specs.Answer.{Reply, fits, upper_fits, upper_told, told, path_told, ruled, answer_in, after_opening, answer_of, number}
use Rattle.search.specs.Steps.{EarlyRefusal, opening_numbered}
use Rattle.search.specs.declared.Answer.TheVariants.{Closed, NoWay, Open}

-- an answer in the theory's words, but for the trail; a refusal says nothing, which is the window of all seconds
abbrev pub said : Reply → Rule.Answer
said (Ok (Closed a n k)) = closed a n []
said (Ok (NoWay n)) = no_way n
said (Ok (Open l h n)) = open_from l (upper_of h) n
said (Err why) = open_from 0 none 0

-- answer r tells that the rule answers q, to who leaves at x with room for so many roads
abbrev pub Tells : Volume → ℕ → ℕ → Rule.Answer → Reply → Type 0
Tells vol x room q (Ok (Closed a n k)) = (es : List ℕ) × (q ≡ closed a n es) × (k ≡ length (path_of vol es x)) × (k ≤ room)
Tells vol x room q (Ok (NoWay n)) = q ≡ no_way n
Tells vol x room q (Ok (Open l h n)) = q ≡ open_from l (upper_of h) n
Tells vol x room q (Err why) = (9 ≤ refusal_number why) × (refusal_number why ≤ 10) × (refusal_number why ≡ 9 → (refusal_place why ≡ length (path_told vol x q)) × (room < refusal_place why))

-- what is told of the rule's answer tells it
pub told_tells : (vol : Volume) (x room : ℕ) (q : Rule.Answer) → Tells vol x room q (told vol x room q)
unfolding told choose
told_tells vol x room (no_way n) = refl
told_tells vol x room (closed a n es) = go (leb k room) (leb-true k room) (leb-false k room) (fits a)
  where
    k : ℕ
    k = length (path_of vol es x)

    go : (s : Bool) → (s ≡ true → k ≤ room) → (s ≡ false → room < k) → (t : Bool)
        → Tells vol x room (closed a n es) (choose s (choose t (Ok (Closed a n k)) (Err Arrival)) (Err (Path k)))
    go true h g true = (es, refl, refl, h refl)
    go true h g false = (omega arith, omega arith, λ z. absurd (omega arith))
    go false h g t = (omega arith, omega arith, λ z. (refl, g refl))
told_tells vol x room (open_from l h n) = go (both (fits l) (upper_fits h)) (same h)
  where
    same : (h : UpperEnd) → h ≡ upper_of (upper_told h)
    same none = refl
    same (at_most a) = refl

    go : (t : Bool) → h ≡ upper_of (upper_told h) → Tells vol x room (open_from l h n) (choose t (Ok (Open l (upper_told h) n)) (Err Arrival))
    go true e = ap (λ (h : UpperEnd). open_from l h n) e
    go false e = (omega arith, omega arith, λ z. absurd (omega arith))

-- r is the rule's answer, on a sound volume
pub record Given (vol : Volume) (from to x b room : ℕ) (r : Reply) : Type 0 where
  pub sound : Sound vol
  pub from_in : from < vol.junctions
  pub to_in : to < vol.junctions
  pub is : r ≡ told vol x room (ruled vol from to x b)
  pub tells : Tells vol x room (ruled vol from to x b) r

-- an answer is given by the rule, or refused 1 to 8
pub data Comes (vol : Volume) (from to x b room : ℕ) (r : Reply) : Type 0 where
  ruled_so : Given vol from to x b room r → Comes vol from to x b room r
  refused_so : 1 ≤ number r → number r ≤ 8 → Comes vol from to x b room r

module _ (vol : Volume) (from to x b space room : ℕ) where
  -- in an open volume
  comes_in : Sound vol → Comes vol from to x b room (answer_in vol from to x b space room)
  unfolding answer_in choose
  comes_in S = go (ltb from vol.junctions) (ltb-true from vol.junctions) (ltb to vol.junctions) (ltb-true to vol.junctions) (leb (8 * vol.junctions) space)
    where
      go : (s : Bool) → (s ≡ true → from < vol.junctions) → (t : Bool) → (t ≡ true → to < vol.junctions) → (w : Bool)
          → Comes vol from to x b room (choose s (choose t (choose w (told vol x room (ruled vol from to x b)) (Err Work)) (Err UnknownDestination)) (Err Unknown))
      go true f true t true = ruled_so (record { sound = S; from_in = f refl; to_in = t refl; is = refl; tells = told_tells vol x room (ruled vol from to x b) })
      go true f true t false = refused_so (omega arith) (omega arith)
      go true f false t w = refused_so (omega arith) (omega arith)
      go false f g t w = refused_so (omega arith) (omega arith)

-- and from any bytes
pub comes : (v : List ℕ) (from to x b space room : ℕ) → Comes (volume_of v) from to x b room (answer_of v from to x b space room)
unfolding answer_of
comes v from to x b space room = go (open_of v) (opened v) (opening_numbered v)
  where
    go : (o : Result Counts Refusal) → ((c : Counts) → o ≡ Ok c → OpenVolume v c) → EarlyRefusal o
        → Comes (volume_of v) from to x b room (after_opening o (answer_in (volume_of v) from to x b space room))
    go (Ok c) s e = comes_in (volume_of v) from to x b space room (s c refl).sound
    go (Err why) s e = refused_so e.0 (omega arith)

-- what is not refused is given by the rule
pub given : (v : List ℕ) (from to x b space room : ℕ) (r : Reply) → r ≡ answer_of v from to x b space room → number r ≡ 0
    → Given (volume_of v) from to x b room r
given v from to x b space room r e z = go (rw e (comes v from to x b space room))
  where
    go : Comes (volume_of v) from to x b room r → Given (volume_of v) from to x b room r
    go (ruled_so g) = g
    go (refused_so l h) = absurd (omega arith)

-- The answer back from what it tells

-- the rule's answer, told with room and clock enough
abbrev pub plainly : Volume → ℕ → Rule.Answer → Reply
plainly vol x (no_way n) = Ok (NoWay n)
plainly vol x (closed a n es) = Ok (Closed a n (length (path_of vol es x)))
plainly vol x (open_from l h n) = Ok (Open l (upper_told h) n)

-- an answer that is not refused is no other
pub tells_plainly : (vol : Volume) (x room : ℕ) (q : Rule.Answer) (r : Reply) → Tells vol x room q r → number r ≡ 0 → r ≡ plainly vol x q
tells_plainly vol x room q (Ok (Closed a n k)) (es, e, c, f) z = ap (λ (i : ℕ). Ok (Closed a n i)) c ∙ ap (plainly vol x) (sym e)
tells_plainly vol x room q (Ok (NoWay n)) e z = ap (plainly vol x) (sym e)
tells_plainly vol x room q (Ok (Open l h n)) e z = ap (λ (h : Option ℕ). Ok (Open l h n)) (same h) ∙ ap (plainly vol x) (sym e)
  where
    same : (h : Option ℕ) → h ≡ upper_told (upper_of h)
    same (Some a) = refl
    same None = refl
tells_plainly vol x room q (Err why) e z = absurd (omega arith)

-- Windows

-- an answer of the rule without its trail
abbrev pub bare : Rule.Answer → Rule.Answer
bare (no_way n) = no_way n
bare (closed a n es) = closed a n []
bare (open_from l h n) = open_from l h n

-- is what is said
pub said_is : (vol : Volume) (x room : ℕ) (q : Rule.Answer) (r : Reply) → Tells vol x room q r → number r ≡ 0 → said r ≡ bare q
said_is vol x room q (Ok (Closed a n k)) (es, e, c, f) z = ap bare (sym e)
said_is vol x room q (Ok (NoWay n)) e z = ap bare (sym e)
said_is vol x room q (Ok (Open l h n)) e z = ap bare (sym e)
said_is vol x room q (Err why) e z = absurd (omega arith)

-- and has the same window

-- what is not below it stays so without the trail
pub below_bare : (q : Rule.Answer) (y : ℕ) → NotBelow q y → NotBelow (bare q) y
below_bare (no_way n) y h = h
below_bare (closed a n es) y h = h
below_bare (open_from l u n) y h = h

-- and with it
bare_below : (q : Rule.Answer) (y : ℕ) → NotBelow (bare q) y → NotBelow q y
bare_below (no_way n) y h = h
bare_below (closed a n es) y h = h
bare_below (open_from l u n) y h = h

-- its upper end is the same without the trail
tops_bare : (q : Rule.Answer) (y : ℕ) → Tops q y → Tops (bare q) y
tops_bare (no_way n) y h = h
tops_bare (closed a n es) y h = h
tops_bare (open_from l u n) y h = h

-- and with it
pub bare_tops : (q : Rule.Answer) (y : ℕ) → Tops (bare q) y → Tops q y
bare_tops (no_way n) y h = h
bare_tops (closed a n es) y h = h
bare_tops (open_from l u n) y h = h

-- what is finished is so without the trail
pub finished_bare : (q : Rule.Answer) → Finished q → Finished (bare q)
finished_bare (no_way n) f = f
finished_bare (closed a n es) f = f
finished_bare (open_from l u n) f = f

-- and with it
pub bare_finished : (q : Rule.Answer) → Finished (bare q) → Finished q
bare_finished (no_way n) f = f
bare_finished (closed a n es) f = f
bare_finished (open_from l u n) f = f

-- the units are the same
pub used_bare : (q : Rule.Answer) → used (bare q) ≡ used q
used_bare (no_way n) = refl
used_bare (closed a n es) = refl
used_bare (open_from l u n) = refl

-- so what narrows, narrows without the trail
pub narrows_bare : (q p : Rule.Answer) → Narrows q p → Narrows (bare q) (bare p)
narrows_bare q p N = record {
  units = rw (used_bare q, used_bare p) N.units;
  lower = λ y h. below_bare q y (N.lower y (bare_below p y h));
  upper = λ y t. let z = N.upper y (bare_tops q y t) in (z.0, tops_bare p z.0 z.1, z.2);
  stays = λ f. ap bare (N.stays (bare_finished q f));
}
