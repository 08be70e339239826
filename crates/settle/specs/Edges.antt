-- The walk over the edges of one junction through the index, for whoever marks a junction and for whoever makes a state's offers.
use Rattle.std.specs.Prelude.{ℕ, ◌≤◌, ◌<◌, Bool, false, ◌≢◌, ◌≡◌}
use Rattle.std.proofs.Common.{arith}
use Rattle.std.proofs.Math.Decide.{dec_lt}
use Rattle.records.specs.Format.{Volume}
use Rattle.records.specs.Index.{next_from, next_high, next_begins, next_skips}

-- e is an edge of u, or E
pub record OnWalk (vol : Volume) (u e : ℕ) : Type 0 where
  pub high : e ≤ vol.edges
  pub begins : e < vol.edges → vol.edge_from e ≡ u

-- the first edge, and the next after an edge
pub on_walk : (vol : Volume) (u i e : ℕ) → i ≤ vol.edges → e ≡ next_from vol u i → OnWalk vol u e
on_walk vol u i e h q = record {
  high = omega (arith, next_high vol u i h);
  begins = λ l. rw q (next_begins vol u i h (omega arith));
}

-- no test p of an edge of u holds before i, nor at any edge that does not begin at u; so none does before the next
pub walk_none : (vol : Volume) (u i e : ℕ) (p : ℕ → Bool) → i ≤ vol.edges → e ≡ next_from vol u i
    → ((j : ℕ) → vol.edge_from j ≢ u → p j ≡ false) → ((j : ℕ) → j < i → p j ≡ false) → (j : ℕ) → j < e → p j ≡ false
walk_none vol u i e p h q away none j l = go (dec_lt j i)
  where
    go : Dec (j < i) → p j ≡ false
    go (yes a) = none j a
    go (no b) = away j (next_skips vol u i j h (omega arith) (omega arith))
