-- The first fault of a row, as `find_map` over the numbers of the row finds it.
use Rattle.std.specs.Prelude.{ℕ, ◌+◌, ◌<◌, ◌≡◌, Option, Some, None, MatchOption, IfSome, IsSomeAnd, IsTrue}
use Rattle.std.proofs.Common.{ap, sym, subst, ◌∙◌, arith}
use Rattle.std.proofs.iter.Yields.{nat_range_steps}
use Rattle.std.proofs.iter.runs.Sources.{range_runs}
use Rattle.std.specs.Fn.{Called}
use Rattle.std.specs.Iterator.Runs.{Run, SomeRun, AllItemsGive, IsFirstToGive, CallKeepsClosure}
use Rattle.std.specs.Option.{option_map}
use Rattle.std.specs.declared.ops.Range.{Range}
use denote.Param.Members.{Mut}
use Rattle.full.specs.Fault.{first_fault}
use Rattle.full.specs.FaultRow.{row_search}
use Rattle.full.specs.declared.Fault.{Fault}

same : (o : Option ℕ) (k : ℕ) → option_map (λ y. y) o ≡ Some k → o ≡ Some k
same None k e = e
same (Some x) k e = e

module _ {F : Type 0} {g : Mut F (ℕ × Unit {0}) (Option Fault)} {c : F} {s : Range ℕ} {a : Option Fault} (f : ℕ → Option Fault) (n : ℕ) where
  -- the numbers are those of the row, and the closure answers the row's faults
  pub row_of_range : s.start ≡ 0 → s.end ≡ n
      → SomeRun nat_range_steps s (λ p. MatchOption a (IsTrue p.whole × AllItemsGive p g c None) (λ y. (i : ℕ) × (i < p.len) × (p.len ≡ i + 1) × IsFirstToGive p g c (Some y) None i))
      → CallKeepsClosure g c
      → ((x : ℕ) (b : Option Fault) → Called g c (x, tt) b c → b ≡ f x)
      → a ≡ first_fault f n
  row_of_range begins ends run keeps gives = row_search f n a (go a run.2)
    where
      p : Run nat_range_steps
      p = run.0

      from : p.from.start ≡ 0
      from = ap (λ (r : Range ℕ). r.start) run.1 ∙ begins

      to : p.from.end ≡ n
      to = ap (λ (r : Range ℕ). r.end) run.1 ∙ ends

      at : (k : ℕ) → k < p.len → p.at k ≡ Some k
      at k l = same (p.at k) k ((range_runs p p.seen).3 k l ∙ ap Some (omega (arith, from)))

      go : (b : Option Fault) → MatchOption b (IsTrue p.whole × AllItemsGive p g c None) (λ y. (i : ℕ) × (i < p.len) × (p.len ≡ i + 1) × IsFirstToGive p g c (Some y) None i)
          → MatchOption b ((i : ℕ) → i < n → f i ≡ None) (λ y. (k : ℕ) × (k < n) × (f k ≡ Some y) × ((i : ℕ) → i < k → f i ≡ None))
      go None h = λ i l.
          let in_run : i < p.len = omega (arith, (range_runs p p.seen).1 h.0, from, to) in
          sym (gives i None (subst (λ (o : Option ℕ). IfSome o (λ x. Called g c (x, tt) None c)) (at i in_run) (h.1 keeps i)))
      go (Some y) h =
          let first = h.3 keeps in
          let in_row : h.0 < n = omega (arith, (range_runs p p.seen).0, from, to, h.1) in (
            h.0,
            in_row,
            sym (gives h.0 (Some y) (subst (λ (o : Option ℕ). IsSomeAnd o (λ x. Called g c (x, tt) (Some y) c)) (at h.0 h.1) first.0)),
            λ i l.
                let in_run : i < p.len = omega (arith, h.1) in
                sym (gives i None (subst (λ (o : Option ℕ). IsSomeAnd o (λ x. Called g c (x, tt) None c)) (at i in_run) (first.1 i l))),
          )
