-- What each step of the search learns on the way to its answer: from the outcome of the rule, from refusals 7 and 8, from opening. The
-- question that the rule is asked is settle's `Question`.
use Rattle.std.specs.Prelude.{ℕ, zero, suc, ◌+◌, ◌*◌, ◌^◌, ◌≤◌, ◌<◌, ◌≡◌, Bool, true, false, cond, Option, None, Some, List, [], ◌∷◌, ◌++◌, ltb, eqb, leb, length, drop, replicate, get_or, Result, Ok, Err}
use Rattle.std.proofs.Math.Path.{refl, ap, sym}
use Rattle.std.proofs.Common.{◌∙◌, arith, length-append, lt-ltb, le-ltb, le-leb}
use Rattle.std.proofs.lemmas.Bool.{lt-leb}
use Rattle.block.specs.Choose.{choose, choose_yes, choose_no, both, both_yes}
use Rattle.theory.specs.Ways.{Leads}
use Rattle.theory.specs.Network.{Network, Edges}
use Rattle.theory.specs.Settling as Rule
use Rattle.theory.specs.Settling.{Table, no_way, closed, open_from, edges_by, web, trail_back, arc_of}
use Rattle.theory.specs.Reach.{edges_along}
use Rattle.theory.proofs.Answers.{closed_trail}
use Rattle.theory.proofs.States.{asked, reach_edges}
use Rattle.theory.proofs.Promises.{units_bounded}
use Rattle.records.specs.Format.{Volume, volume_of}
use Rattle.volume.specs.Sound.{Sound}
use Rattle.volume.specs.Open.{records_of, open_of}
use Rattle.volume.specs.Opened.{opened}
use Rattle.block.specs.declared.refusal.Refusal.{Refusal}
use Rattle.block.specs.declared.refusal.Refusal.TheVariants.{Unknown, UnknownDestination, Work, Path, Arrival}
use Rattle.block.specs.Refusal.{refusal_number}
use Rattle.records.specs.declared.tables.Counts.{Counts}
use Rattle.travel.specs.Network.{network_of, sound_network}
use Rattle.travel.specs.Written.{with_roads}
use Rattle.settle.specs.Work.{labels, cleared}
use Rattle.settle.specs.Units.{Question}
use Rattle.settle.specs.Outcome.{upper_of, UpperFits, Ran}
use Rattle.settle.specs.declared.Outcome as Ending
use Rattle.search.specs.Trail.{Walkable, trail_of}
use Rattle.search.specs.Path.{Chain, path_of}
use Rattle.search.specs.Answer.{Reply, fits, upper_fits, upper_told, told, path_told, ruled, answer_in, answer_of, work_after, path_after, Searched}
use Rattle.search.specs.declared.Answer.TheVariants.{Closed, NoWay, Open}

-- the rule has closed with arrival a after n units, and the labels in the work area w remember the trail
abbrev pub closed_by : Volume → ℕ → ℕ → ℕ → ℕ → List ℕ → Rule.Answer
closed_by vol from to a n w = closed a n (trail_of vol from to n w)

-- The rule's answer, told

-- the rule's answer q is told as r, and the path list is left as r says
pub record Reported (vol : Volume) (x : ℕ) (q : Rule.Answer) (path : List ℕ) (r : Reply) (pathOut : List ℕ) : Type 0 where
  pub answers : r ≡ told vol x (length path) q
  pub writes : pathOut ≡ path_after r (path_told vol x q) path

module _ (vol : Volume) (x : ℕ) (path : List ℕ) where
  -- closed, with more roads than room
  pub report_short : (a n k : ℕ) (es : List ℕ) → k ≡ length (path_of vol es x) → length path < k
      → Reported vol x (closed a n es) path (Err (Path k)) path
  unfolding told
  report_short a n k es e h = record { answers = sym (rw (← e) (choose_no _ _ (lt-leb k (length path) h))); writes = refl }

  -- closed, with the roads written
  pub report_closed : (a n k : ℕ) (es p : List ℕ) → k ≡ length (path_of vol es x) → k ≤ length path → a < 2 ^ 64
      → p ≡ with_roads (path_of vol es x) path → Reported vol x (closed a n es) path (Ok (Closed a n k)) p
  unfolding told
  report_closed a n k es p e h f w = record {
    answers = sym (rw (← e) (choose_yes _ _ (le-leb k (length path) h) ∙ choose_yes _ _ (lt-ltb a (2 ^ 64) f)));
    writes = w;
  }

  -- no way
  report_no_way : (n : ℕ) → Reported vol x (no_way n) path (Ok (NoWay n)) path
  unfolding told
  report_no_way n = record { answers = refl; writes = refl }

  -- open, with ends that fit
  report_open : (l n : ℕ) (h : Option ℕ) → l < 2 ^ 62 → UpperFits h → Reported vol x (open_from l (upper_of h) n) path (Ok (Open l h n)) path
  unfolding told
  report_open l n h f g = record {
    answers = sym (choose_yes _ _ (both_yes _ (lt-ltb l (2 ^ 64) (omega arith)) ∙ fit h g) ∙ ap (λ (h : Option ℕ). Ok (Open l h n)) (same h));
    writes = refl;
  }
    where
      same : (h : Option ℕ) → upper_told (upper_of h) ≡ h
      same (Some a) = refl
      same None = refl

      fit : (h : Option ℕ) → UpperFits h → upper_fits (upper_of h) ≡ true
      fit (Some a) f = lt-ltb a (2 ^ 64) (omega arith)
      fit None f = refl

-- The trail of a closed answer is a chain of edges

-- edges that lead somewhere are edges
leads_known : (M : Network) (u w : ℕ) (es : List ℕ) → Leads (Edges M) u es w → (i : ℕ) → i < length es → get_or es i 0 < M.edges
leads_known M u w [] p i h = absurd (omega arith)
leads_known M u w (e ∷ es) p zero h = p.0
leads_known M u w (e ∷ es) p (suc i) h = leads_known M (M.edge_to e) w es p.2 i (omega arith)

-- an arc drives at most one edge
drives_few : (M : Network) (d k : ℕ) → length (edges_by M d k) ≤ 1
drives_few M d zero = omega arith
drives_few M d (suc e) = omega arith

-- so a trail has at most as many edges as arcs
trail_few : (M : Network) (d u n : ℕ) (L : Table) (t : ℕ) (es : List ℕ) → length (trail_back (web M d) u n L t es) ≤ n + length es
unfolding trail_back
trail_few M d u zero L t es = omega arith
trail_few M d u (suc n) L t es =
    let k = arc_of (L t) in
    go (eqb t u) (trail_back (web M d) u n L ((web M d).back t k) (edges_by M d k ++ es))
    (omega (arith, trail_few M d u n L ((web M d).back t k) (edges_by M d k ++ es), drives_few M d k, length-append (edges_by M d k) es))
  where
    go : (b : Bool) (rest : List ℕ) → length rest ≤ suc n + length es → length (cond b es rest) ≤ suc n + length es
    go true rest h = omega arith
    go false rest h = h

-- What a run tells

-- the rule's answer to the question is reported, and the work area left as it was but for the labels
pub record Applied (vol : Volume) (from to x b : ℕ) (work path : List ℕ) (r : Reply) (workOut pathOut : List ℕ) : Type 0 where
  pub reports : Reported vol x (ruled vol from to x b) path r pathOut
  pub kept : drop (8 * vol.junctions) workOut ≡ drop (8 * vol.junctions) work

module _ {vol : Volume} {from to x b : ℕ} {w₀ w : List ℕ} (path : List ℕ) where
  -- what is reported of its end, is the rule's
  applied : {o : Ending.Outcome} {q : Rule.Answer} {r : Reply} {p : List ℕ} → Ran vol from to x b w₀ w o → ruled vol from to x b ≡ q
      → Reported vol x q path r p → Applied vol from to x b w₀ path r w p
  applied R e P = record { reports = rw e P; kept = R.kept }

  -- nothing waits
  pub tells_no_way : {n : ℕ} → Ran vol from to x b w₀ w (Ending.TheVariants.NoWay n) → Applied vol from to x b w₀ path (Ok (NoWay n)) w path
  tells_no_way {n} R = applied R R.ends (report_no_way vol x path n)

  -- the budget is spent
  pub tells_open : {l n : ℕ} {h : Option ℕ} → Ran vol from to x b w₀ w (Ending.TheVariants.Open l h n)
      → Applied vol from to x b w₀ path (Ok (Open l h n)) w path
  tells_open {l} {n} {h} R = applied R R.ends (report_open vol x path l n h R.fits.0 R.fits.1)

  -- the destination waits with the least arrival, and its labels remember the trail
  pub tells_closed : {a n : ℕ} {p : List ℕ} {r : Reply} → Ran vol from to x b w₀ w (Ending.TheVariants.Closed a n)
      → Reported vol x (closed_by vol from to a n w) path r p → Applied vol from to x b w₀ path r w p
  tells_closed R P = applied R R.ends P

-- the labels that it leaves can be walked
pub ran_walkable : {vol : Volume} {from to x b : ℕ} {w₀ w : List ℕ} {r : Ending.Outcome} (n : ℕ) → n ≡ vol.junctions → Question vol from to x b w₀
    → Ran vol from to x b w₀ w r → Walkable vol n to w
ran_walkable n e A R = record { number = e; to_in = A.destined; room = omega (arith, A.room, R.length_kept); arcs = R.arcs }

-- and the trail of a closed one is a chain of few edges
pub ran_chain : {vol : Volume} {from to x b : ℕ} {w₀ w : List ℕ} {a n : ℕ} → Sound vol → Question vol from to x b w₀
    → Ran vol from to x b w₀ w (Ending.TheVariants.Closed a n) → (n ≤ 2048) × Chain vol (trail_of vol from to n w) x
unfolding network_of
ran_chain {vol} {from} {to} {x} {b} {w₀} {w} {a} {n} S A R =
    let M = network_of vol in
    let N = sound_network vol S in
    let es = trail_of vol from to n w in
    let t = closed_trail (asked M N from to x A.start A.destined) b a n es R.ends in
    let leads = (reach_edges M to N from x A.start t.0).0 in
    let units = rw R.ends at (units_bounded M N from to x A.start A.destined b) in
    let few : n ≤ 2048 = omega (arith, units.1, S.junctions_few) in (
      few,
      record {
        known = rw t.1 (leads_known M from to (edges_along t.0 []) leads);
        few = omega (arith, trail_few M to from n (labels (vol.junctions + vol.junctions) w) (vol.junctions + to) []);
        early = A.departs;
      },
    )

-- The work area

-- a refusal of 1 to 8 keeps it
pub early_keeps : (why : Refusal) (n : ℕ) (before : List ℕ) → refusal_number why ≤ 8 → before ≡ work_after (Err why) n before
early_keeps why n before h = sym (choose_yes _ _ (le-leb (refusal_number why) 8 h))

-- after the rule it is cleared
told_clears : (vol : Volume) (x room n : ℕ) (q : Rule.Answer) (before : List ℕ) → work_after (told vol x room q) n before ≡ cleared before n
unfolding told choose
told_clears vol x room n (no_way u) before = refl
told_clears vol x room n (closed a u es) before = go (leb (length (path_of vol es x)) room) (fits a)
  where
    go : (s t : Bool) → work_after (choose s (choose t (Ok (Closed a u (length (path_of vol es x)))) (Err Arrival)) (Err (Path (length (path_of vol es x))))) n before ≡ cleared before n
    go true true = refl
    go true false = refl
    go false t = refl
told_clears vol x room n (open_from l h u) before = go (both (fits l) (upper_fits h))
  where
    go : (t : Bool) → work_after (choose t (Ok (Open l (upper_told h) u)) (Err Arrival)) n before ≡ cleared before n
    go true = refl
    go false = refl

-- and so is what the rule left of it
rule_clears : {vol : Volume} {from to x b : ℕ} {work path w p : List ℕ} {r : Reply} → Applied vol from to x b work path r w p
    → cleared w (8 * vol.junctions) ≡ work_after r (8 * vol.junctions) work
rule_clears {vol} {from} {to} {x} {b} {work} {path} A =
    ap (λ (l : List ℕ). replicate (8 * vol.junctions) 0 ++ l) A.kept
    ∙ sym (rw A.reports.answers (told_clears vol x (length path) (8 * vol.junctions) (ruled vol from to x b) work))

-- Opening

-- a refusal of opening is one of 1 to 6
abbrev pub EarlyRefusal : Result Counts Refusal → Type 0
EarlyRefusal (Ok c) = Unit {0}
EarlyRefusal (Err why) = (1 ≤ refusal_number why) × (refusal_number why ≤ 6)

-- what holds of both choices holds of the choice
either : {A : Type 0} (P : A → Type 0) (t : Bool) (a b : A) → P a → P b → P (choose t a b)
unfolding choose
either P true a b p q = p
either P false a b p q = q

-- and opening gives no other
pub opening_numbered : (v : List ℕ) → EarlyRefusal (open_of v)
unfolding open_of records_of
opening_numbered v =
    either EarlyRefusal _ _ _
    (either EarlyRefusal _ _ _
    (either EarlyRefusal _ _ _
    (either EarlyRefusal _ _ _ (either EarlyRefusal _ _ _ (either EarlyRefusal _ _ _ tt (omega arith)) (omega arith)) (omega arith))
    (omega arith))
    (omega arith))
    (omega arith)

-- The ways through the search

module _ (v : List ℕ) (from to x b : ℕ) (work path : List ℕ) where
  -- 1 to 8: the lent lists stay
  refused : (why : Refusal) → refusal_number why ≤ 8 → Err why ≡ answer_of v from to x b (length work) (length path)
      → Searched v from to x b work path (Err why) work path
  refused why h e = record { answers = e; clears = early_keeps why (8 * (volume_of v).junctions) work h; writes = refl }

  -- what opening refuses, the search refuses
  pub not_opened : (why : Refusal) → open_of v ≡ Err why → Searched v from to x b work path (Err why) work path
  unfolding answer_of
  not_opened why e = let h = rw e at (opening_numbered v) in refused why (omega arith) (rw e)

  module _ (c : Counts) (e : open_of v ≡ Ok c) where
    -- the counts are the volume's
    junctions_are : c.junctions ≡ (volume_of v).junctions
    junctions_are = (opened v c e).counted.junctions

    -- what it opens, is searched
    pub searched_open : answer_in (volume_of v) from to x b (length work) (length path) ≡ answer_of v from to x b (length work) (length path)
    unfolding answer_of
    searched_open = rw e

    -- the start is no junction
    pub no_start : c.junctions ≤ from → Searched v from to x b work path (Err Unknown) work path
    unfolding answer_in
    no_start h =
        let n = junctions_are in
        refused Unknown (omega arith) (sym (choose_no _ _ (le-ltb from (volume_of v).junctions (omega arith))) ∙ searched_open)

    module _ (from_in : from < c.junctions) where
      -- the start is a junction
      starts : ltb from (volume_of v).junctions ≡ true
      starts = let n = junctions_are in lt-ltb from (volume_of v).junctions (omega arith)

      -- the destination is none
      pub no_destination : c.junctions ≤ to → Searched v from to x b work path (Err UnknownDestination) work path
      unfolding answer_in
      no_destination h =
          let n = junctions_are in
          refused UnknownDestination (omega arith)
          (sym (choose_yes _ _ starts ∙ choose_no _ _ (le-ltb to (volume_of v).junctions (omega arith))) ∙ searched_open)

      module _ (to_in : to < c.junctions) where
        -- so is the destination
        ends : ltb to (volume_of v).junctions ≡ true
        ends = let n = junctions_are in lt-ltb to (volume_of v).junctions (omega arith)

        -- the work area is too small
        pub no_work : length work < 8 * c.junctions → Searched v from to x b work path (Err Work) work path
        unfolding answer_in
        no_work h =
            let n = junctions_are in
            refused Work (omega arith)
            (sym (choose_yes _ _ starts ∙ choose_yes _ _ ends ∙ choose_no _ _ (lt-leb (8 * (volume_of v).junctions) (length work) (omega arith)))
            ∙ searched_open)

        module _ (room : 8 * c.junctions ≤ length work) where
          -- the rule can be asked
          pub question : x < 2 ^ 32 → b < 2 ^ 32 → Question (volume_of v) from to x b work
          question xs bs =
              let n = junctions_are in
              record { start = omega arith; destined = omega arith; departs = xs; budgeted = bs; room = omega arith }

          -- and answers
          pub rule_answers : told (volume_of v) x (length path) (ruled (volume_of v) from to x b)
              ≡ answer_of v from to x b (length work) (length path)
          unfolding answer_in
          rule_answers =
              let n = junctions_are in
              sym (choose_yes _ _ starts ∙ choose_yes _ _ ends ∙ choose_yes _ _ (le-leb (8 * (volume_of v).junctions) (length work) (omega arith)))
              ∙ searched_open

          -- so with the work area cleared, what the rule reports is the answer
          pub by_rule : {r : Reply} {w p : List ℕ} (after : List ℕ) → Applied (volume_of v) from to x b work path r w p
              → after ≡ cleared w (8 * c.junctions) → Searched v from to x b work path r after p
          by_rule {r} {w} after A k =
              let m : after ≡ cleared w (8 * (volume_of v).junctions) = rw junctions_are at k in
              record { answers = A.reports.answers ∙ rule_answers; clears = m ∙ rule_clears A; writes = A.reports.writes }
