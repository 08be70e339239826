-- The rule unit by unit, as the code runs it: what holds before each unit, and what each of the tests ends it with. One unit adds at most
-- one edge to an arrival, so with a 32-bit departure and budget every arrival stays below 2 ^ 62.
use Prim.Native.Nat.{ℕ, zero, suc, ◌+◌, ◌-◌, ◌*◌, ◌^◌, ◌≤◌, ◌<◌}
use Rattle.std.specs.Prelude.{List, ◌≡◌, refl, Option, None, Some, length, drop}
use Rattle.std.proofs.Math.Path.{sym}
use Rattle.std.proofs.Common.{◌∙◌, ap, add-one}
use native.Mathlib.Omega.{arith}
use Rattle.std.proofs.Math.Nat.{sub-zero}
use Rattle.theory.specs.Settling.{Label, nothing, waiting, settled, Table, put, offered, first, arc_of, settle, least, UpperEnd, upper_end, View, nothing_waits, destination, next, view_from, look, run, search_from, arrives_by, answer, open_from}
use Rattle.theory.specs.Labels.{Waits, put_at}
use Rattle.theory.specs.OneUnit.{Step, kept, settles, reached, hastened}
use Rattle.theory.proofs.OneUnit.{settle_step}
use Rattle.theory.specs.Looks.{Next, Sees}
use Rattle.theory.proofs.Looks.{look_right}
use Rattle.theory.specs.Computing.{look_is, run_no_way, run_closed, run_open, run_unit}
use Rattle.records.specs.Format.{Volume}
use Rattle.rules.specs.Rules.{longest, most_span}
use Rattle.volume.specs.Sound.{Sound}
use Rattle.travel.specs.Network.{network_of}
use Rattle.travel.specs.Halves.{edge_short}
use Rattle.settle.specs.Work.{label_at, labels, labels_in, cleared, cleared_zero, Holds, holds_then, holds_cleared}
use Rattle.settle.specs.Chain.{WaitsAt, Chained, chained_none}
use Rattle.settle.specs.Offered.{offer_to, head_to, holds_offer, rechained_offer}
use Rattle.settle.specs.Scan.{waits_at}
use Rattle.settle.specs.Arcs.{web_of, states_of}
use Rattle.settle.specs.Outcome.{upper_of, Ends, UpperFits, OutcomeFits, Ran}
use Rattle.settle.specs.declared.Outcome.{Outcome}
use Rattle.settle.specs.declared.Outcome.TheVariants.{NoWay, Closed, Open}

-- Bounds

-- the most that one unit adds to an arrival
abbrev pub one_unit : ℕ
one_unit = longest * most_span

-- the label's arrival is at most b, and its arc the turn or an edge below E
abbrev pub Modest : ℕ → ℕ → Label → Type 0
Modest b E nothing = Unit {0}
Modest b E (waiting a k) = (a ≤ b) × (k ≤ E)
Modest b E (settled a k) = (a ≤ b) × (k ≤ E)

-- so its arc is
modest_arc : (b E : ℕ) (l : Label) → Modest b E l → arc_of l ≤ E
modest_arc b E nothing h = omega arith
modest_arc b E (waiting a k) h = h.1
modest_arc b E (settled a k) h = h.1

-- so is the arrival with which it waits
modest_waits : (b E a : ℕ) (l : Label) → Modest b E l → Waits l a → a ≤ b
modest_waits b E a nothing h w = absurd w
modest_waits b E a (waiting c k) h w = omega (arith, h.0)
modest_waits b E a (settled c k) h w = absurd w

-- and the upper end that it gives
modest_upper : (b E : ℕ) (l : Label) (h : Option ℕ) → b < 2 ^ 62 → Modest b E l → upper_of h ≡ upper_end l → UpperFits h
modest_upper b E nothing (Some a) lt m e = absurd (let z : ◌≡◌ {A = ℕ} 0 1 = cc in omega arith)
modest_upper b E (waiting c k) (Some a) lt m e = let q : a ≡ c = cc in omega (arith, m.0)
modest_upper b E (settled c k) (Some a) lt m e = absurd (let z : ◌≡◌ {A = ℕ} 0 1 = cc in omega arith)
modest_upper b E l None lt m e = tt

module _ (vol : Volume) (S : Sound vol) (d : ℕ) where
  -- an arc adds at most one edge
  arc_adds : (k a : ℕ) → k < (web_of vol d).arcs → arrives_by (network_of vol) d k a ≤ a + one_unit
  unfolding network_of
  arc_adds zero a h = omega arith
  arc_adds (suc e) a h = let l : e < vol.edges = omega arith in omega (arith, edge_short vol S e a l, (S.edge e l).span)

  -- an arc is the turn or an edge
  arc_edge : (k : ℕ) → k < (web_of vol d).arcs → k ≤ vol.edges
  unfolding network_of
  arc_edge k h = omega arith

  -- so does a unit
  unit_modest : (s a b : ℕ) (L : Table) → Waits (L s) a → ((t : ℕ) → Modest b vol.edges (L t))
      → (t : ℕ) → Modest (b + one_unit) vol.edges (settle (web_of vol d) s a L t)
  unit_modest s a b L w h t = go (h t) (settle_step (web_of vol d) s a L w t)
    where
      early : a ≤ b
      early = modest_waits b vol.edges a (L s) (h s) w

      later : (l : Label) → Modest b vol.edges l → Modest (b + one_unit) vol.edges l
      later nothing m = tt
      later (waiting c k) m = (omega (arith, m.0), m.1)
      later (settled c k) m = (omega (arith, m.0), m.1)

      go : {l m : Label} → Modest b vol.edges l → Step (web_of vol d) s a t l m → Modest (b + one_unit) vol.edges m
      go {l} m (kept ne) = later l m
      go m (settles e) = (omega (arith, m.0), m.1)
      go m (reached {b = c} {k = k} ne o) = (omega (arith, early, o.arrives, arc_adds k a o.is_arc), arc_edge k o.is_arc)
      go m (hastened {b = c} {k = k} ne o g) = (omega (arith, early, o.arrives, arc_adds k a o.is_arc), arc_edge k o.is_arc)

-- The question

-- from junction u to junction d, a 32-bit departure and budget, and a work area with room for the labels
pub record Question (vol : Volume) (u d x b : ℕ) (w : List ℕ) : Type 0 where
  pub start : u < vol.junctions
  pub destined : d < vol.junctions
  pub departs : x < 2 ^ 32
  pub budgeted : b < 2 ^ 32
  pub room : 8 * vol.junctions ≤ length w

-- Before each unit

-- after n units from u to d, departure x, budget b: the rule goes on from the labels in w to its answer; w₀ is the work area at first
pub record Onward (vol : Volume) (u d x b : ℕ) (w₀ : List ℕ) (n : ℕ) (w : List ℕ) : Type 0 where
  pub within : n ≤ b
  pub goes : run (web_of vol d) u (vol.junctions + d) (b - n) n (labels (states_of vol) w) ≡ answer (network_of vol) u d x b
  pub modest : (t : ℕ) → Modest (x + n * one_unit) vol.edges (labels (states_of vol) w t)
  pub tail : drop (4 * states_of vol) w ≡ drop (4 * states_of vol) w₀
  pub size : length w ≡ length w₀

-- what the labels in w show, where d is the destination
abbrev pub seen_in : Volume → ℕ → List ℕ → View
seen_in vol d w = view_from (labels (states_of vol) w (vol.junctions + d)) (least (states_of vol) (labels (states_of vol) w))

-- the same of n junctions, where n is their number
pub seen_as : (vol : Volume) (d n : ℕ) (w : List ℕ) (v : View) → n ≡ vol.junctions
    → v ≡ view_from (labels (n + n) w (n + d)) (least (n + n) (labels (n + n) w)) → v ≡ seen_in vol d w
seen_as vol d n w v count e = e ∙ ap (λ (m : ℕ). view_from (labels (m + m) w (m + d)) (least (m + m) (labels (m + m) w))) count

-- a cleared work area in which the start is offered the departure holds the first table; f is the first of the chain before
pub holds_first : (vol : Volume) (u x n f : ℕ) (e w v : List ℕ) → n ≡ vol.junctions → u < vol.junctions → 8 * vol.junctions ≤ length e
    → w ≡ cleared e (4 * (n + n)) → v ≡ offer_to w f u x 0 → Holds (states_of vol) e v (first u x)
holds_first vol u x n f e w v count h room zeroes label =
    let c : w ≡ cleared e (4 * states_of vol) = zeroes ∙ ap (λ (m : ℕ). cleared e (4 * (m + m))) count in
    let H : Holds (states_of vol) e w (λ t. nothing) = rw c (holds_cleared (states_of vol) e (omega arith)) in
    rw label
    (holds_then (states_of vol) e w (offer_to w f u x 0) (λ t. nothing) (λ (L : Table). put L u (offered (L u) x 0)) H
    (holds_offer (states_of vol) w f u x 0 (omega arith) (omega (arith, H.size))))

-- and the start is all of its chain
pub chained_first : (S u x r : ℕ) (e w v : List ℕ) → u < S → 4 * S ≤ length w → w ≡ cleared e (4 * S) → v ≡ offer_to w S u x 0
    → r ≡ head_to w S u → Chained S v r
chained_first S u x r e w v h room zeroes label head =
    rechained_offer S w S u x 0 h room v r label head
    (chained_none S w (λ t l. rw zeroes (cleared_zero (4 * S) e (4 * t) (omega arith))))

-- at first the start, climbing, waits with the departure
pub onward_first : (vol : Volume) (u d x b : ℕ) (w : List ℕ) → labels (states_of vol) w ≡ first u x → Onward vol u d x b w 0 w
unfolding search_from network_of
onward_first vol u d x b w e = record {
  within = omega arith;
  goes =
      ap (λ (m : ℕ). run (web_of vol d) u (vol.junctions + d) m 0 (labels (states_of vol) w)) (sub-zero b)
      ∙ ap (run (web_of vol d) u (vol.junctions + d) b 0) e;
  modest = λ t. rw e (put_at (Modest (x + 0 * one_unit) vol.edges) (λ t. nothing) u (waiting x 0) t (λ i. (omega arith, omega arith)) (λ ne. tt));
  tail = refl;
  size = refl;
}

module _ (vol : Volume) (S : Sound vol) (u d x b : ℕ) (w₀ : List ℕ) (n : ℕ) (w : List ℕ) (dn : d < vol.junctions)
    (xs : x < 2 ^ 32) (bs : b < 2 ^ 32) (O : Onward vol u d x b w₀ n w)
  where
    abbrev L : Table
    L = labels (states_of vol) w

    -- what the code sees is what the rule sees
    look_of : (v : View) → v ≡ seen_in vol d w → look (web_of vol d) (vol.junctions + d) L ≡ v
    unfolding network_of
    look_of v e = look_is (web_of vol d) (vol.junctions + d) L ∙ sym e

    -- and what is seen is so
    sees : (v : View) → v ≡ seen_in vol d w → Sees (web_of vol d) (vol.junctions + d) L v
    unfolding network_of
    sees v e = rw (look_of v e) at (look_right (web_of vol d) (vol.junctions + d) L (omega arith))

    -- every arrival fits
    bounded : x + n * one_unit < 2 ^ 62
    bounded = omega (arith, O.within)

    -- so what waits does
    waits_fits : (t a : ℕ) → Waits (L t) a → a < 2 ^ 62
    waits_fits t a h = omega (arith, modest_waits (x + n * one_unit) vol.edges a (L t) (O.modest t) h, bounded)

    -- a state is to be settled

    module _ (s a : ℕ) (e : next s a ≡ seen_in vol d w) where
      -- it waits with the least arrival, and the destination does not
      chosen : Next (web_of vol d) (vol.junctions + d) L s a
      chosen = sees (next s a) e

      -- it is a state
      pub next_inside : s < states_of vol
      unfolding network_of
      next_inside = chosen.inside

      -- it waits with that arrival
      pub next_waits : Waits (labels (states_of vol) w s) a
      next_waits = chosen.waits

      -- which fits
      pub next_fits : a < 2 ^ 62
      next_fits = waits_fits s a next_waits

      -- so it can be settled
      pub next_can : (s < states_of vol) × WaitsAt w s × (a < 2 ^ 62)
      next_can = (next_inside, (waits_at (states_of vol) w s a next_inside next_waits).0, next_fits)

      -- one unit more
      pub onward_unit : (v : List ℕ) → n < b → Holds (states_of vol) w v (settle (web_of vol d) s a (labels (states_of vol) w))
          → Onward vol u d x b w₀ (n + 1) v
      onward_unit v l H = record {
        within = omega arith;
        goes =
            ap (run (web_of vol d) u (vol.junctions + d) (b - (n + 1)) (n + 1)) H.table
            ∙ ap (λ (m : ℕ). run (web_of vol d) u (vol.junctions + d) (b - (n + 1)) m (settle (web_of vol d) s a L)) (add-one n)
            ∙ sym (run_unit (web_of vol d) u (vol.junctions + d) n L (b - (n + 1)) s a (look_of (next s a) e))
            ∙ ap (λ (m : ℕ). run (web_of vol d) u (vol.junctions + d) m n L) left
            ∙ O.goes;
        modest = λ t. rw H.table (grown t);
        tail = H.tail ∙ O.tail;
        size = H.size ∙ O.size;
      }
        where
          left : suc (b - (n + 1)) ≡ b - n
          left = omega arith

          more : x + n * one_unit + one_unit ≡ x + (n + 1) * one_unit
          more = omega arith

          grown : (t : ℕ) → Modest (x + (n + 1) * one_unit) vol.edges (settle (web_of vol d) s a L t)
          grown t = rw more at (unit_modest vol S d s a (x + n * one_unit) L next_waits O.modest t)

    -- an end, where e is the work area as the run found it

    module _ (e : List ℕ) (tail : drop (4 * states_of vol) w₀ ≡ drop (4 * states_of vol) e) (size : length w₀ ≡ length e) where
      -- what every end shares
      ran : (r : Outcome) → Ends vol u d x b w r → OutcomeFits r → Ran vol u d x b e w r
      ran r ends fits = record {
        ends = ends;
        arcs = λ t h. modest_arc (x + n * one_unit) vol.edges (L t) (O.modest t);
        fits = fits;
        kept = rw eight at (O.tail ∙ tail);
        length_kept = O.size ∙ size;
      }
        where
          eight : 4 * states_of vol ≡ 8 * vol.junctions
          eight = omega arith

      -- nothing waits
      pub ran_no_way : nothing_waits ≡ seen_in vol d w → Ran vol u d x b e w (NoWay n)
      ran_no_way q =
          ran (NoWay n) (sym O.goes ∙ run_no_way (web_of vol d) u (vol.junctions + d) n L (b - n) (look_of nothing_waits q)) tt

      -- the destination waits with the least arrival
      pub ran_closed : (a : ℕ) → destination a ≡ seen_in vol d w → Ran vol u d x b e w (Closed a n)
      ran_closed a q =
          ran (Closed a n) (sym O.goes ∙ run_closed (web_of vol d) u (vol.junctions + d) n L (b - n) a (look_of (destination a) q))
          (waits_fits (vol.junctions + d) a (sees (destination a) q).0)

      -- the budget is spent
      pub ran_open : (s a : ℕ) (h : Option ℕ) → next s a ≡ seen_in vol d w → n ≡ b
          → upper_of h ≡ upper_end (label_at w (vol.junctions + d)) → Ran vol u d x b e w (Open a h n)
      ran_open s a h q spent top =
          let l : upper_of h ≡ upper_end (L (vol.junctions + d)) =
          top ∙ ap upper_end (sym (labels_in (states_of vol) w (vol.junctions + d) (omega arith))) in
          ran (Open a h n)
          (sym O.goes
          ∙ ap (λ (m : ℕ). run (web_of vol d) u (vol.junctions + d) m n L) (let z : b - n ≡ 0 = omega arith in z)
          ∙ run_open (web_of vol d) u (vol.junctions + d) n L s a (look_of (next s a) q)
          ∙ ap (λ (t : UpperEnd). open_from a t n) (sym l))
          (next_fits s a q, modest_upper (x + n * one_unit) vol.edges (L (vol.junctions + d)) h bounded (O.modest (vol.junctions + d)) l)
