-- What roads and edges share, as facts: what ends and places that fit say, and where the parts of the next record begin.
use Rattle.std.specs.Prelude.{ℕ, ◌+◌, ◌≤◌, ◌<◌, ◌≡◌, ◌≢◌, Bool, true, not, eqb, leb, ltb}
use Rattle.std.proofs.Common.{ap, add-one, eqb-true, leb-true, ltb-true}
use Rattle.std.proofs.lemmas.Bool.{eqb-false, not-true}
use Rattle.block.specs.Choose.{both, both_left, both_right}
use Rattle.rules.specs.Rules.{ends_fit, placed, begins}

-- ends that fit
pub record Ends (junctions from to : ℕ) : Type 0 where
  pub differ : from ≢ to
  pub from_in : from < junctions
  pub to_in : to < junctions

pub ends_fact : (junctions from to : ℕ) → ends_fit junctions from to ≡ true → Ends junctions from to
unfolding ends_fit
ends_fact junctions from to e =
    let r = both_right (not (eqb from to)) (both (ltb from junctions) (ltb to junctions)) e in
    record {
      differ = eqb-false from to (not-true (eqb from to) (both_left (not (eqb from to)) (both (ltb from junctions) (ltb to junctions)) e));
      from_in = ltb-true from junctions (both_left (ltb from junctions) (ltb to junctions) r);
      to_in = ltb-true to junctions (both_right (ltb from junctions) (ltb to junctions) r);
    }

-- ends and places are tested against a count that is the volume's

pub ends_counted : (m n from to : ℕ) {b : Bool} → m ≡ n → ends_fit m from to ≡ b → ends_fit n from to ≡ b
ends_counted m n from to e q = rw e at q

pub placed_counted : (m n begin first number : ℕ) {b : Bool} → m ≡ n → placed begin m first number ≡ b → placed begin n first number ≡ b
placed_counted m n begin first number e q = rw e at q

-- parts that are placed
pub record Placed (begin total first number : ℕ) : Type 0 where
  pub some : 1 ≤ number
  pub begins_at : first ≡ begin
  pub inside : first + number ≤ total

pub placed_fact : (begin total first number : ℕ) → placed begin total first number ≡ true → Placed begin total first number
unfolding placed
placed_fact begin total first number e =
    let rest = both (eqb first begin) (leb (first + number) total) in
    let r = both_right (leb 1 number) rest e in
    record {
      some = leb-true 1 number (both_left (leb 1 number) rest e);
      begins_at = eqb-true first begin (both_left (eqb first begin) (leb (first + number) total) r);
      inside = leb-true (first + number) total (both_right (eqb first begin) (leb (first + number) total) r);
    }

-- where the parts of the next record begin
pub begins_next : (first number : ℕ → ℕ) (k : ℕ) → begins first number (k + 1) ≡ first k + number k
unfolding begins
begins_next first number k = ap (begins first number) (add-one k)
