-- The marks as the code finds them: junctions in rising order, each by a walk over its own edges. "A junction is marked if it is the
-- destination or has an edge to a marked junction of lower rank" is `marked` of the theory.
use Rattle.std.specs.Prelude.{ℕ, zero, suc, ◌+◌, ◌≤◌, ◌<◌, Bool, true, List, ◌≢◌, ◌≡◌, refl, T, length, get_or, set}
use Rattle.std.proofs.Math.Bool.{false}
use Rattle.std.proofs.Math.Path.{sym}
use Rattle.std.proofs.Common.{◌∙◌, arith, length-set, get_or-set_same, get_or-set_other}
use Rattle.std.proofs.Math.Decide.{ℕ_discrete}
use borrow.Author.Tests.{eq-eqb, ne_eqb, lt-ltb, le-ltb}
use Rattle.theory.specs.Tests.{any, holds}
use Rattle.theory.specs.Marks.{falls_to, marked, marked_is, marked_destination, marked_above}
use Rattle.records.specs.Format.{Volume}
use Rattle.travel.specs.Network.{network_of}

-- junction u's mark, where d is the destination
abbrev pub mark_of : Volume → ℕ → ℕ → Bool
mark_of vol d u = marked (network_of vol) d u

-- `marks` holds the marks of the n lowest junctions
abbrev pub MarksBelow : Volume → ℕ → ℕ → List Bool → Type 0
MarksBelow vol d n marks = (u : ℕ) → u < n → get_or marks u false ≡ mark_of vol d u

-- it holds them, and every other place is as it was in marks₀
pub record Marks (vol : Volume) (d n : ℕ) (marks₀ marks : List Bool) : Type 0 where
  pub marks_at : MarksBelow vol d n marks
  pub kept : (u : ℕ) → n ≤ u → get_or marks u false ≡ get_or marks₀ u false
  pub size : length marks ≡ length marks₀

-- no junction yet
pub marks_none : (vol : Volume) (d : ℕ) (marks : List Bool) → Marks vol d 0 marks marks
marks_none vol d marks = record { marks_at = λ u h. absurd (omega arith); kept = λ u h. refl; size = refl }

-- one junction more
pub marks_more : (vol : Volume) (d n : ℕ) (k : Bool) (marks₀ marks : List Bool) → n < length marks → k ≡ mark_of vol d n → Marks vol d n marks₀ marks
    → Marks vol d (n + 1) marks₀ (set marks n k)
marks_more vol d n k marks₀ marks room is J = record {
  marks_at = λ u h. at u h (ℕ_discrete u n);
  kept = λ u h. get_or-set_other marks n u k false (λ z. omega arith) ∙ J.kept u (omega arith);
  size = length-set marks n k ∙ J.size;
}
  where
    at : (u : ℕ) → u < n + 1 → Dec (u ≡ n) → get_or (set marks n k) u false ≡ mark_of vol d u
    at u h (yes e) = rw e (get_or-set_same marks n k false room ∙ is)
    at u h (no ne) = get_or-set_other marks n u k false ne ∙ J.marks_at u (omega arith)

-- The mark of junction u

-- no number below n passes
any_none : (n : ℕ) (p : ℕ → Bool) → ((k : ℕ) → k < n → p k ≡ false) → any n p ≡ false
unfolding any
any_none zero p h = refl
any_none (suc n) p h = rw (any_none n p (λ k l. h k (omega arith)), h n (omega arith))

module _ (vol : Volume) (d u : ℕ) where
  -- edge e leads from u to a lower marked junction
  abbrev pub falls : ℕ → Bool
  falls e = falls_to (network_of vol) d (marked (network_of vol) d) u e

  -- an edge that does not begin at u does not
  pub falls_away : (e : ℕ) → vol.edge_from e ≢ u → falls e ≡ false
  unfolding network_of
  falls_away e n = rw (ne_eqb (vol.edge_from e) u n)

  -- nor does one to a higher junction
  pub falls_high : (e : ℕ) → vol.edge_from e ≡ u → u ≤ vol.edge_to e → falls e ≡ false
  unfolding network_of
  falls_high e f h = rw (eq-eqb (vol.edge_from e) u f, le-ltb (vol.edge_to e) u h)

  -- nor one to a junction that is not marked
  pub falls_unmarked : (e : ℕ) → vol.edge_from e ≡ u → vol.edge_to e < u → marked (network_of vol) d (vol.edge_to e) ≡ false → falls e ≡ false
  unfolding network_of
  falls_unmarked e f h m = rw (eq-eqb (vol.edge_from e) u f, lt-ltb (vol.edge_to e) u h, m)

  -- the destination is marked
  pub mark_destination : u ≡ d → true ≡ mark_of vol d u
  mark_destination e =
      let m : T (marked (network_of vol) d u) = rw e (marked_destination (network_of vol) d) in
      sym (holds (marked (network_of vol) d u) m)

  -- so is a junction with an edge to a lower marked one
  pub mark_above : (e : ℕ) → e < vol.edges → vol.edge_from e ≡ u → vol.edge_to e < u → marked (network_of vol) d (vol.edge_to e) ≡ true
      → true ≡ mark_of vol d u
  unfolding network_of
  mark_above e c f l m = sym (holds (marked (network_of vol) d u) (marked_above (network_of vol) d u e c f l (rw m tt)))

  -- no other is
  pub mark_missing : u ≢ d → ((e : ℕ) → e < vol.edges → falls e ≡ false) → false ≡ mark_of vol d u
  unfolding network_of
  mark_missing n h = sym (marked_is (network_of vol) d u ∙ rw (ne_eqb u d n) (any_none vol.edges falls h))

-- a mark as a number: 1 where a test holds, else 0
abbrev pub flag : Bool → ℕ
flag true = 1
flag false = 0

-- a mark that is 1 is a junction marked
pub mark_one : (b : Bool) (k : ℕ) → k ≡ flag b → k ≡ 1 → b ≡ true
mark_one true k p q = refl
mark_one false k p q = absurd (omega arith)

-- any other is not
pub mark_other : (b : Bool) (k : ℕ) → k ≡ flag b → k ≢ 1 → b ≡ false
mark_other true k p q = absurd (q p)
mark_other false k p q = refl
