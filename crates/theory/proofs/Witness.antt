-- The ferry is full at the seconds of day 0.
use Rattle.std.specs.Prelude.{ℕ, ◌%◌, ◌<◌, ◌≡◌, refl}
use Rattle.std.proofs.Common.{arith}
use Rattle.theory.specs.Network.{road_arr, by_piece, edge_arr, Covers, FullDay}
use Rattle.theory.proofs.Pieces.{edge_is}
use Rattle.theory.specs.Witness.{each, ferry, ferry_sound}

-- and full: edge 2 is no slower than road 2, and is the one pair that meets below
pub ferry_full : FullDay ferry
ferry_full = record {
  road = each (λ k. Covers ferry (λ x. x < 4) (ferry.road_from k) (ferry.road_to k) (road_arr ferry k))
      (record { edge = 0; there = omega arith; starts = refl; ends = refl; never_slower = λ x h. omega (arith, is 0 x (omega arith)) })
      (record { edge = 1; there = omega arith; starts = refl; ends = refl; never_slower = λ x h. omega (arith, is 1 x (omega arith)) })
      (record {
        edge = 2;
        there = omega arith;
        starts = refl;
        ends = refl;
        never_slower = λ x h. omega (arith, is 2 x (omega arith), is 1 (edge_arr ferry 0 x) (omega arith), is 0 x (omega arith));
      });
  pair = λ d e dc ec. each
      (λ d. ferry.edge_to d ≡ ferry.edge_from e → (ferry.edge_from d ≡ ferry.edge_to e → ⊥) → ferry.edge_to d < ferry.edge_from d
      → ferry.edge_to d < ferry.edge_to e → Pair d e)
      (each (λ e. 0 ≡ ferry.edge_from e → (1 ≡ ferry.edge_to e → ⊥) → 0 < 1 → 0 < ferry.edge_to e → Pair 0 e)
      (λ m ne l g. absurd (omega arith))
      (λ m ne l g. record { edge = 2; there = omega arith; starts = refl; ends = refl; never_slower = λ x h. omega (arith, is 2 x (omega arith)) })
      (λ m ne l g. absurd (omega arith)) e ec)
      (λ m ne l g. absurd (omega arith)) (λ m ne l g. absurd (omega arith)) d dc;
}
  where
    is : (e x : ℕ) → e < 3 → edge_arr ferry e x ≡ by_piece ferry (edge_arr ferry) x (ferry.in_force e (x % 4))
    is = edge_is ferry ferry_sound

    Pair : ℕ → ℕ → Type 0
    Pair d e = Covers ferry (λ x. x < 4) (ferry.edge_from d) (ferry.edge_to e) (λ x. edge_arr ferry e (edge_arr ferry d x))
