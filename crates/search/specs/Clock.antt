-- Refusal 10 never occurs: a unit adds at most one edge to an arrival, so with a 32-bit departure and budget every arrival that the rule
-- answers is far below 2 ^ 64. So the code tests no sum, and the definition of the answer says what document 01 says.
use Prim.Native.Nat.{ℕ, zero, suc, ◌+◌, ◌*◌, ◌^◌, ◌≤◌, ◌<◌}
use Rattle.std.specs.Prelude.{◌≡◌, refl, Bool, true, false, leb, length, Ok, Err}
use Rattle.std.proofs.Common.{ap, ◌∙◌, arith, lt-ltb, le-leb}
use Rattle.block.specs.Choose.{choose, choose_yes, both_yes}
use Rattle.theory.specs.Settling as Rule
use Rattle.theory.specs.Settling.{Label, nothing, waiting, settled, Table, first, settle, UpperEnd, none, at_most, no_way, closed, open_from, upper_end, View, nothing_waits, destination, next, look, tests, run, search_from, arrives_by, web}
use Rattle.theory.specs.Labels.{Waits, Has, waits_has, put_at}
use Rattle.theory.specs.OneUnit.{Step, kept, settles, reached, hastened}
use Rattle.theory.proofs.OneUnit.{settle_step}
use Rattle.theory.specs.Looks.{Sees}
use Rattle.theory.proofs.Looks.{look_right}
use Rattle.theory.specs.Windows.{IsAt}
use Rattle.records.specs.Format.{Volume}
use Rattle.volume.specs.Sound.{Sound}
use Rattle.travel.specs.Network.{network_of}
use Rattle.travel.specs.Halves.{edge_short}
use Rattle.settle.specs.Units.{one_unit}
use Rattle.search.specs.Path.{path_of}
use Rattle.search.specs.Answer.{upper_fits, told, path_told, ruled, number}
use Rattle.search.specs.declared.Answer.TheVariants.{Closed}
use Rattle.block.specs.declared.refusal.Refusal.TheVariants.{Path}

-- every arrival in the table is at most m
abbrev By : Table → ℕ → Type 0
By L m = (t c : ℕ) → Has (L t) c → c ≤ m

-- every arrival of the rule's answer is at most m
abbrev pub AnswerBy : ℕ → Rule.Answer → Type 0
AnswerBy m (no_way n) = Unit {0}
AnswerBy m (closed a n es) = a ≤ m
AnswerBy m (open_from l h n) = (l ≤ m) × ((y : ℕ) → IsAt h y → y ≤ m)

-- an upper end is an arrival that waits
upper_has : (l : Label) (y : ℕ) → IsAt (upper_end l) y → Has l y
upper_has nothing y h = h
upper_has (waiting a k) y h = h
upper_has (settled a k) y h = absurd h

module _ (vol : Volume) (S : Sound vol) (u d : ℕ) (dn : d < vol.junctions) where
  -- an arc adds at most one edge
  arc_adds : (k a : ℕ) → k < suc vol.edges → arrives_by (network_of vol) d k a ≤ a + one_unit
  arc_adds zero a h = omega arith
  arc_adds (suc e) a h = let l : e < vol.edges = omega arith in omega (arith, edge_short vol S e a l, (S.edge e l).span)

  -- and so does a unit
  unit_adds : (s a m : ℕ) (L : Table) → Waits (L s) a → By L m → By (settle (web (network_of vol) d) s a L) (m + one_unit)
  unfolding network_of
  unit_adds s a m L w h t c = go (h t c) (settle_step (web (network_of vol) d) s a L w t)
    where
      early : a ≤ m
      early = h s a (waits_has (L s) a w)

      go : {l k : Label} → (Has l c → c ≤ m) → Step (web (network_of vol) d) s a t l k → Has k c → c ≤ m + one_unit
      go f (kept ne) i = omega (arith, f i)
      go f (settles e) i = omega (arith, f i)
      go f (reached {b = b} {k = k} ne o) i = omega (arith, early, o.arrives, arc_adds k a o.is_arc)
      go f (hastened {b = b} {k = k} ne o g) i = omega (arith, early, o.arrives, arc_adds k a o.is_arc)

  -- what the tests see is at most m
  tests_by : (m n : ℕ) (L : Table) (view : View) (go : ℕ → ℕ → Rule.Answer) → By L m → Sees (web (network_of vol) d) (vol.junctions + d) L view
      → ((s a : ℕ) → Waits (L s) a → AnswerBy m (go s a)) → AnswerBy m (tests (web (network_of vol) d) u (vol.junctions + d) n L view go)
  tests_by m n L nothing_waits go h sees f = tt
  tests_by m n L (destination a) go h sees f = h (vol.junctions + d) a (waits_has (L (vol.junctions + d)) a sees.0)
  tests_by m n L (next s a) go h sees f = f s a sees.waits

  -- what is at most m is at most any later p
  by_more : (m p : ℕ) → m ≤ p → (q : Rule.Answer) → AnswerBy m q → AnswerBy p q
  by_more m p h (no_way n) f = tt
  by_more m p h (closed a n es) f = omega arith
  by_more m p h (open_from l e n) f = (omega (arith, f.0), λ y i. omega (arith, f.1 y i))

  -- so with b units left
  run_by : (b n m : ℕ) (L : Table) → By L m → AnswerBy (m + b * one_unit) (run (web (network_of vol) d) u (vol.junctions + d) b n L)
  unfolding run network_of
  run_by zero n m L h =
      let D = vol.junctions + d in
      by_more m (m + 0 * one_unit) (omega arith) (run (web (network_of vol) d) u D 0 n L)
      (tests_by m n L (look (web (network_of vol) d) D L) (λ s a. open_from a (upper_end (L D)) n) h (look_right (web (network_of vol) d) D L (omega arith))
      (λ s a w. (h s a (waits_has (L s) a w), λ y i. h D y (upper_has (L D) y i))))
  run_by (suc b) n m L h =
      let D = vol.junctions + d in
      let most = m + suc b * one_unit in
      tests_by most n L (look (web (network_of vol) d) D L) (λ s a. run (web (network_of vol) d) u D b (suc n) (settle (web (network_of vol) d) s a L))
      (λ t c i. omega (arith, h t c i)) (look_right (web (network_of vol) d) D L (omega arith))
      (λ s a w. by_more (m + one_unit + b * one_unit) most (omega arith) (run (web (network_of vol) d) u D b (suc n) (settle (web (network_of vol) d) s a L))
      (run_by b (suc n) (m + one_unit) (settle (web (network_of vol) d) s a L) (unit_adds s a m L w h)))

  -- and from the start
  pub answer_by_lem : (x b : ℕ) → AnswerBy (x + b * one_unit) (ruled vol u d x b)
  unfolding search_from network_of
  answer_by_lem x b = run_by b 0 x (first u x) (λ t c. put_at (λ l. Has l c → c ≤ x) (λ t. nothing) u (waiting x 0) t (λ e i. omega arith) (λ ne i. absurd i))

-- The answer as it is told

-- with room for the path it is not refused
pub told_answers : (vol : Volume) (x room m : ℕ) (q : Rule.Answer) → AnswerBy m q → m < 2 ^ 64 → length (path_told vol x q) ≤ room
    → number (told vol x room q) ≡ 0
unfolding told
told_answers vol x room m (no_way n) f h r = refl
told_answers vol x room m (closed a n es) f h r =
    ap number (choose_yes _ _ (le-leb (length (path_of vol es x)) room r) ∙ choose_yes _ _ (lt-ltb a (2 ^ 64) (omega arith)))
told_answers vol x room m (open_from l e n) f h r =
    ap number (choose_yes _ _ (both_yes _ (lt-ltb l (2 ^ 64) (omega (arith, f.0))) ∙ go e f.1))
  where
    go : (e : UpperEnd) → ((y : ℕ) → IsAt e y → y ≤ m) → upper_fits e ≡ true
    go none g = refl
    go (at_most a) g = lt-ltb a (2 ^ 64) (omega (arith, g a refl))

-- and never 10
pub told_never_late : (vol : Volume) (x room m : ℕ) (q : Rule.Answer) → AnswerBy m q → m < 2 ^ 64 → number (told vol x room q) ≤ 9
unfolding told choose
told_never_late vol x room m (no_way n) f h = omega arith
told_never_late vol x room m (closed a n es) f h = rw (lt-ltb a (2 ^ 64) (omega arith)) (go (leb k room))
  where
    k : ℕ
    k = length (path_of vol es x)

    go : (t : Bool) → number (choose t (Ok (Closed a n k)) (Err (Path k))) ≤ 9
    go true = omega arith
    go false = omega arith
told_never_late vol x room m (open_from l e n) f h = omega (arith, told_answers vol x room m (open_from l e n) f h (omega arith))
