-- What the search promises, read first. `Searched` of Answer is the contract of the code, so each promise speaks of what `search` answers
-- for the bytes v and leaves in the lists that it was lent. r is the answer, `number r` its number in the document: 0 where it is not
-- refused. `said r` is its window in the theory's words; `network v` is the network that the bytes hold.
use Rattle.std.specs.Prelude.{ℕ, ◌+◌, ◌*◌, ◌^◌, ◌≤◌, ◌<◌, ◌≡◌, Option, List, length, take, drop, Ok, Err}
use Rattle.std.proofs.Math.Path.{refl}
use Rattle.std.proofs.Common.{ap, sym, ◌∙◌, arith, take_at, drop_at}
use Rattle.std.proofs.lemmas.Bool.{lt-leb}
use Rattle.block.specs.Choose.{choose_no}
use Rattle.theory.specs.Ways.{Drives, Way, LeastArrival}
use Rattle.theory.specs.Network.{Network, Roads, FullDay, SoundNetwork}
use Rattle.theory.specs.Settling as Rule
use Rattle.theory.specs.Settling.{none, open_from}
use Rattle.theory.specs.Windows.{NotBelow, IsAt, Tops, used, Finished, Narrows}
use Rattle.theory.proofs.Promises as Theory
use Rattle.records.specs.Format.{volume_of}
use Rattle.volume.specs.Open.{open_of}
use Rattle.volume.specs.Opened.{opened}
use Rattle.records.specs.declared.tables.Counts.{Counts}
use Rattle.block.specs.declared.refusal.Refusal.{Refusal}
use Rattle.block.specs.declared.refusal.Refusal.TheVariants.{Path}
use Rattle.block.specs.Refusal.{refusal_number}
use Rattle.travel.specs.Network.{network_of, sound_network}
use Rattle.settle.specs.Work.{cleared}
use Rattle.settle.specs.Units.{Question}
use Rattle.settle.specs.Outcome.{upper_of}
use Rattle.search.specs.Path.{path_of}
use Rattle.search.specs.Answer.{Reply, path_told, ruled, answer_of, work_after, path_after, Searched, number}
use Rattle.search.specs.Steps.{early_keeps, rule_answers}
use Rattle.search.specs.Clock.{answer_by_lem, told_answers, told_never_late}
use Rattle.search.specs.Tells.{said, Tells, plainly, bare, Given, Comes, ruled_so, refused_so, comes, given, tells_plainly, said_is, below_bare, bare_tops, finished_bare, bare_finished, used_bare, narrows_bare}
use Rattle.search.specs.declared.Answer.TheVariants.{Closed, NoWay, Open}

-- the network that the bytes hold
abbrev pub network : List ℕ → Network
network v = network_of (volume_of v)

-- Every input has one answer

module _ {v : List ℕ} {from to x b : ℕ} {work path : List ℕ} where
  -- any two outcomes that the contract allows are equal
  pub only_one_answer : {r s : Reply} {w u p q : List ℕ} → Searched v from to x b work path r w p → Searched v from to x b work path s u q
      → (r ≡ s) × (w ≡ u) × (p ≡ q)
  only_one_answer {r} {s} {w} {u} {p} {q} H K =
      let e = H.answers ∙ sym K.answers in (
        e,
        H.clears ∙ ap (λ (a : Reply). work_after a (8 * (volume_of v).junctions) work) e ∙ sym K.clears,
        H.writes ∙ ap (λ (a : Reply). path_after a (path_told (volume_of v) x (ruled (volume_of v) from to x b)) path) e ∙ sym K.writes,
      )

  -- a refusal has one of the document's numbers
  pub refusal_numbered : {why : Refusal} {w p : List ℕ} → Searched v from to x b work path (Err why) w p → (1 ≤ refusal_number why) × (refusal_number why ≤ 10)
  refusal_numbered {why} H = go (rw H.answers (comes v from to x b (length work) (length path)))
    where
      go : Comes (volume_of v) from to x b (length path) (Err why) → (1 ≤ refusal_number why) × (refusal_number why ≤ 10)
      go (ruled_so g) = (omega (arith, g.tells.0), g.tells.1)
      go (refused_so l h) = (l, omega arith)

  -- but 10 is never given: the question's departure and budget are 32-bit numbers
  pub clock_never : {why : Refusal} {w p : List ℕ} → x < 2 ^ 32 → b < 2 ^ 32 → Searched v from to x b work path (Err why) w p → refusal_number why ≤ 9
  clock_never {why} xs bs H = go (rw H.answers (comes v from to x b (length work) (length path)))
    where
      go : Comes (volume_of v) from to x b (length path) (Err why) → refusal_number why ≤ 9
      go (ruled_so g) =
          let m = answer_by_lem (volume_of v) g.sound from to g.to_in x b in
          let late = told_never_late (volume_of v) x (length path) _ (ruled (volume_of v) from to x b) m (omega arith) in
          rw (← g.is) at late
      go (refused_so l h) = omega arith

  -- 9 is given only where the path has more roads than room, at the roads needed
  pub path_refused : {place : ℕ} {w p : List ℕ} → Searched v from to x b work path (Err (Path place)) w p
      → (place ≡ length (path_told (volume_of v) x (ruled (volume_of v) from to x b))) × (length path < place)
  path_refused {place} H = go (rw H.answers (comes v from to x b (length work) (length path)))
    where
      go : Comes (volume_of v) from to x b (length path) (Err (Path place))
          → (place ≡ length (path_told (volume_of v) x (ruled (volume_of v) from to x b))) × (length path < place)
      go (ruled_so g) = g.tells.2 refl
      go (refused_so l h) = absurd (omega arith)

  -- on a refusal the path list is as it was
  pub refusal_keeps_path : {why : Refusal} {w p : List ℕ} → Searched v from to x b work path (Err why) w p → p ≡ path
  refusal_keeps_path H = H.writes

  -- and on one of 1 to 8 the work area too
  pub refusal_keeps_work : {why : Refusal} {w p : List ℕ} → refusal_number why ≤ 8 → Searched v from to x b work path (Err why) w p → w ≡ work
  refusal_keeps_work {why} h H = H.clears ∙ sym (early_keeps why (8 * (volume_of v).junctions) work h)

  -- after 9 its first 8N numbers are zero
  pub refusal_clears_work : {why : Refusal} {w p : List ℕ} → 9 ≤ refusal_number why → Searched v from to x b work path (Err why) w p
      → w ≡ cleared work (8 * (volume_of v).junctions)
  refusal_clears_work {why} h H = H.clears ∙ choose_no _ _ (lt-leb (refusal_number why) 8 h)

-- there is one for every input
pub every_input_answered : (v : List ℕ) (from to x b : ℕ) (work path : List ℕ)
    → (r : Reply) × (w : List ℕ) × (p : List ℕ) × Searched v from to x b work path r w p
every_input_answered v from to x b work path = (
  answer_of v from to x b (length work) (length path),
  work_after (answer_of v from to x b (length work) (length path)) (8 * (volume_of v).junctions) work,
  path_after (answer_of v from to x b (length work) (length path)) (path_told (volume_of v) x (ruled (volume_of v) from to x b)) path,
  record { answers = refl; clears = refl; writes = refl },
)

-- a question that can be asked of a volume that opens, with room for the path, is answered: nothing is refused without its ground
pub asked_is_answered : {v : List ℕ} {from to x b : ℕ} {work path w p : List ℕ} {r : Reply} {c : Counts} → open_of v ≡ Ok c
    → Question (volume_of v) from to x b work → length (path_told (volume_of v) x (ruled (volume_of v) from to x b)) ≤ length path
    → Searched v from to x b work path r w p → number r ≡ 0
asked_is_answered {v} {from} {to} {x} {b} {work} {path} {w} {p} {r} {c} e A room H =
    let vol = volume_of v in
    let n = (opened v c e).counted.junctions in
    let m = answer_by_lem vol (opened v c e).sound from to A.destined x b in
    ap number (H.answers ∙ sym (rule_answers v from to x b work path c e (omega (arith, A.start)) (omega (arith, A.destined)) (omega (arith, A.room))))
    ∙ told_answers vol x (length path) _ (ruled vol from to x b) m (omega (arith, A.departs, A.budgeted)) room

-- The path

-- a path handed out leads from start to destination and, driven road by road from the departure, takes exactly to the arrival; it stands in
-- the first places of the path list, one for each road, and the other places are as they were
pub path_leads : {v : List ℕ} {from to x b a n k : ℕ} {work path w p : List ℕ} → Searched v from to x b work path (Ok (Closed a n k)) w p
    → Drives (Roads (network v)) from x to a (take k p) × (drop k p ≡ drop k path)
unfolding network_of
path_leads {v} {from} {to} {x} {b} {a} {n} {k} {work} {path} {w} {p} H =
    let vol = volume_of v in
    let g = given v from to x b (length work) (length path) (Ok (Closed a n k)) H.answers refl in
    let es = g.tells.0 in
    let count = g.tells.2 in
    let roads = path_of vol es x in
    let is = H.writes ∙ ap (λ (q : Rule.Answer). path_after (Ok (Closed a n k)) (path_told vol x q) path) g.tells.1 in
    let first : take k p ≡ roads = ap (take k) is ∙ take_at roads (drop (length roads) path) k (sym count) in
    let rest = ap (drop k) is ∙ drop_at roads (drop (length roads) path) k (sym count) ∙ ap (λ (j : ℕ). drop j path) (sym count) in
    (rw first (Theory.trail_drives (network_of vol) (sound_network vol g.sound) from to x g.from_in g.to_in b a n es g.tells.1), rest)

-- On every volume that opens, full or not

module _ {v : List ℕ} {from to x b : ℕ} {work path w p : List ℕ} {r : Reply} (H : Searched v from to x b work path r w p) (z : number r ≡ 0) where
  -- the rule's answer behind it
  behind : Given (volume_of v) from to x b (length path) r
  behind = given v from to x b (length work) (length path) r H.answers z

  -- on a sound network
  sound : SoundNetwork (network v)
  sound = sound_network (volume_of v) behind.sound

  -- the window is the rule's
  window : said r ≡ bare (ruled (volume_of v) from to x b)
  window = said_is (volume_of v) x (length path) (ruled (volume_of v) from to x b) r behind.tells z

  -- the first 8N work numbers are zero, all others as they were
  pub work_is_cleared : w ≡ cleared work (8 * (volume_of v).junctions)
  work_is_cleared = H.clears ∙ go r z behind.tells
    where
      go : (r : Reply) → number r ≡ 0 → Tells (volume_of v) x (length path) (ruled (volume_of v) from to x b) r
          → work_after r (8 * (volume_of v).junctions) work ≡ cleared work (8 * (volume_of v).junctions)
      go (Ok (Closed a n k)) z t = refl
      go (Ok (NoWay n)) z t = refl
      go (Ok (Open l h n)) z t = refl
      go (Err why) z t = absurd (omega arith)

  -- units used never exceed the budget, nor 2N - 1
  pub units_used : (used (said r) ≤ b) × (used (said r) < (volume_of v).junctions + (volume_of v).junctions)
  unfolding network_of
  units_used =
      rw (window, used_bare (ruled (volume_of v) from to x b))
      (Theory.units_bounded (network v) sound from to x behind.from_in behind.to_in b)

  -- 2N - 1 units always finish
  pub enough_finishes : (volume_of v).junctions + (volume_of v).junctions ≤ b + 1 → Finished (said r)
  unfolding network_of
  enough_finishes h =
      rw window (finished_bare (ruled (volume_of v) from to x b)
      (Theory.enough_finishes (network v) sound from to x behind.from_in behind.to_in b h))

  -- some walk arrives at the upper end of the window, closed or open
  pub upper_is_driven : (y : ℕ) → Tops (said r) y → Way (Roads (network v)) from x to y
  unfolding network_of
  upper_is_driven y t =
      Theory.upper_is_driven (network v) sound from to x behind.from_in behind.to_in b y
      (bare_tops (ruled (volume_of v) from to x b) y (rw window at t))

-- More budget

-- a refusal's window is the widest
widest : (q : Rule.Answer) → Narrows (open_from 0 none 0) q
widest q = record { units = omega arith; lower = λ y h. omega arith; upper = λ y t. absurd t; stays = λ f. absurd f }

module _ {v : List ℕ} {from to x b c : ℕ} {work path w p workMore pathMore u q : List ℕ} {r s : Reply} (H : Searched v from to x b work path r w p) (K : Searched v from to x c workMore pathMore s u q) (more : b ≤ c) (z : number s ≡ 0) where
  -- the rule's own window
  rule_narrows : number r ≡ 0 → Narrows (ruled (volume_of v) from to x b) (ruled (volume_of v) from to x c)
  unfolding network_of
  rule_narrows y = Theory.budget_narrows (network v) (sound H y) from to x (behind H y).from_in (behind H y).to_in b c more

  -- more budget never widens a window
  pub budget_narrows : Narrows (said r) (said s)
  budget_narrows = go r refl
    where
      narrows : number r ≡ 0 → Narrows (said r) (said s)
      narrows y = rw (window H y, window K z) (narrows_bare (ruled (volume_of v) from to x b) (ruled (volume_of v) from to x c) (rule_narrows y))

      go : (a : Reply) → r ≡ a → Narrows (said r) (said s)
      go (Ok (Closed a n k)) e = narrows (ap number e)
      go (Ok (NoWay n)) e = narrows (ap number e)
      go (Ok (Open l h n)) e = narrows (ap number e)
      go (Err why) e = rw e (widest (said s))

  -- nor changes a finished answer
  pub finished_stays : number r ≡ 0 → Finished (said r) → s ≡ r
  finished_stays y f =
      let vol = volume_of v in
      let same = (rule_narrows y).stays (bare_finished (ruled vol from to x b) (rw (window H y) at f)) in
      tells_plainly vol x (length pathMore) (ruled vol from to x c) s (behind K z).tells z
      ∙ ap (plainly vol x) same
      ∙ sym (tells_plainly vol x (length path) (ruled vol from to x b) r (behind H y).tells y)

-- On a full volume

module _ {v : List ℕ} (F : FullDay (network v)) {from to x b : ℕ} {work path w p : List ℕ} where
  -- a closed arrival is the least over every walk
  pub closed_is_least : {a n k : ℕ} → Searched v from to x b work path (Ok (Closed a n k)) w p → LeastArrival (Roads (network v)) from x to a
  unfolding network_of
  closed_is_least {a} {n} H =
      let g = behind H refl in
      Theory.closed_is_least (network v) (sound H refl) F from to x g.from_in g.to_in b a n g.tells.0 g.tells.1

  -- no way is said only where no walk exists
  pub no_way_is_none : {n : ℕ} → Searched v from to x b work path (Ok (NoWay n)) w p → (y : ℕ) → Way (Roads (network v)) from x to y → ⊥
  unfolding network_of
  no_way_is_none {n} H y =
      let g = behind H refl in
      Theory.no_way_is_none (network v) (sound H refl) F from to x g.from_in g.to_in b n y g.tells

  -- an open window holds the least arrival, if there is one: no walk arrives before its lower end, and some walk arrives at its upper
  -- end, where it has one
  pub open_holds : {l n : ℕ} {h : Option ℕ} → Searched v from to x b work path (Ok (Open l h n)) w p
      → ((y : ℕ) → Way (Roads (network v)) from x to y → l ≤ y) × ((y : ℕ) → IsAt (upper_of h) y → Way (Roads (network v)) from x to y)
  unfolding network_of
  open_holds {l} {n} {h} H =
      let g = behind H refl in
      Theory.open_holds (network v) (sound H refl) F from to x g.from_in g.to_in b l n (upper_of h) g.tells

-- Leaving later never closes earlier

module _ {v : List ℕ} (F : FullDay (network v)) {from to x b y c : ℕ} {work path w p workLater pathLater u q : List ℕ} (later : x ≤ y) where
  -- whatever the later search has found, at any budget, is not below the earlier one's window
  pub later_never_earlier : {r s : Reply} → Searched v from to x b work path r w p → Searched v from to y c workLater pathLater s u q
      → number r ≡ 0 → number s ≡ 0 → (t : ℕ) → Tops (said s) t → NotBelow (said r) t
  unfolding network_of
  later_never_earlier H K hr hs t top =
      let g = behind H hr in
      rw (window H hr) (below_bare (ruled (volume_of v) from to x b) t
      (Theory.later_never_earlier (network v) (sound H hr) F from to x g.from_in g.to_in y b c t later
      (bare_tops (ruled (volume_of v) from to y c) t (rw (window K hs) at top))))

  -- in particular the arrivals of two closed answers are in the order of their departures
  pub later_closes_later : {a d n m k j : ℕ} → Searched v from to x b work path (Ok (Closed a n k)) w p
      → Searched v from to y c workLater pathLater (Ok (Closed d m j)) u q → a ≤ d
  later_closes_later {a} {d} H K = later_never_earlier H K refl refl d refl
