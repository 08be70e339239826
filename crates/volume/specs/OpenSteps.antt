-- What each step of opening learns, over plain numbers.
use Rattle.std.specs.Prelude.{ℕ, ◌*◌, ◌/◌, ◌≤◌, Bool, List, length, leb, Ok, Err}
use Rattle.std.proofs.Math.Path.{◌≡◌, refl}
use Rattle.std.proofs.Common.{ap, sym, ◌∙◌, arith, leb-true}
use Rattle.std.proofs.Math.Bool.{true, false}
use Rattle.block.specs.Choose.{choose_yes, choose_no, both, both_left, both_right}
use Rattle.block.specs.First.{first_not}
use Rattle.records.specs.Format.{Volume, volume_of, counts_of, Counted, Few, Laid, tables_of, words_in, words_of}
use Rattle.rules.specs.Rules.{head_fits, fewest_blocks, filler_zero, counts_rule, all_obey, roads_rule, first_road, edges_rule, first_edge}
use Rattle.volume.specs.Passes.{pass_over}
use Rattle.volume.specs.Open.{records_of}
use Rattle.records.specs.declared.tables.Counts.{Counts}
use Rattle.records.specs.declared.tables.Tables.{Tables}
use Rattle.block.specs.declared.refusal.Refusal.{Refusal}
use Rattle.block.specs.declared.refusal.Refusal.TheVariants.{Road, Edge}

-- the head's limits as facts
pub head_few : (c : Counts) → head_fits c ≡ true → Few c
unfolding head_fits
head_few c e =
    let e₁ = both_right (leb 1 c.junctions) _ e in
    let e₂ = both_right (leb c.junctions 1024) _ e₁ in
    let e₃ = both_right (leb c.roads 4096) _ e₂ in
    let e₄ = both_right (leb c.points 65535) _ e₃ in
    record {
      junctions_some = leb-true 1 c.junctions (both_left (leb 1 c.junctions) _ e);
      junctions = leb-true c.junctions 1024 (both_left (leb c.junctions 1024) _ e₁);
      roads = leb-true c.roads 4096 (both_left (leb c.roads 4096) _ e₂);
      points = leb-true c.points 65535 (both_left (leb c.points 65535) _ e₃);
      edges = leb-true c.edges 16384 (both_left (leb c.edges 16384) _ e₄);
      pieces = leb-true c.pieces 65535 (both_right (leb c.edges 16384) (leb c.pieces 65535) e₄);
    }

-- counts that are the volume's
pub counted_of : (vol : Volume) (c : Counts) → c ≡ counts_of vol → Counted vol c
counted_of vol c e = record {
  junctions = ap (λ (d : Counts). d.junctions) e;
  roads = ap (λ (d : Counts). d.roads) e;
  points = ap (λ (d : Counts). d.points) e;
  edges = ap (λ (d : Counts). d.edges) e;
  pieces = ap (λ (d : Counts). d.pieces) e;
}

-- tables that are laid as the counts say
pub laid_of : (v : List ℕ) (c : Counts) (t : Tables) → c ≡ counts_of (volume_of v) → t ≡ tables_of c → words_in c ≤ 126 * (length v / 512)
    → Few c → Laid v t
laid_of v c t e h room few =
    let n = counted_of (volume_of v) c e in
    let p = ap (λ (s : Tables). s.points) h in
    let q = ap (λ (s : Tables). s.edges) h in
    let r = ap (λ (s : Tables). s.pieces) h in
    record { points = omega arith; edges = omega arith; pieces = omega arith; room = omega arith; limit = omega (arith, few.roads, few.points, few.edges, few.pieces) }

-- the test of the counts, from what is read
pub counts_rule_lem : (v : List ℕ) (c : Counts) (words blocks : ℕ) → c ≡ counts_of (volume_of v) → words ≡ words_in c
    → counts_rule v (volume_of v) blocks ≡ both (head_fits c) (both (fewest_blocks words blocks) (filler_zero v words blocks))
unfolding counts_rule
counts_rule_lem v c words blocks e h = let w : words_of (volume_of v) ≡ words = ap words_in (sym e) ∙ sym h in (cc)

-- a refusal is no answer
not_ok : {A E : Type 0} (why : E) (a : A) → Err why ≡ Ok a → ⊥
not_ok why a e = (cc)

-- what a pass says
module _ (fault : ℕ → Refusal) (rule : ℕ → Bool) (first number : ℕ → ℕ) (n total : ℕ) where
  pub pass_faulty : (why : Refusal) → Err why ≡ pass_over fault rule first number n total
      → (all_obey rule first number n total ≡ false) × (why ≡ fault (first_not rule n 0))
  unfolding pass_over
  pass_faulty why h = go (all_obey rule first number n total) refl
    where
      go : (t : Bool) → all_obey rule first number n total ≡ t
          → (all_obey rule first number n total ≡ false) × (why ≡ fault (first_not rule n 0))
      go true q = absurd (not_ok _ _ (h ∙ choose_yes (Ok tt) (Err (fault (first_not rule n 0))) q))
      go false q = (q, (let r = h ∙ choose_no (Ok tt) (Err (fault (first_not rule n 0))) q in (cc)))

  pub pass_whole : (u : Unit) → Ok u ≡ pass_over fault rule first number n total → all_obey rule first number n total ≡ true
  unfolding pass_over
  pass_whole u h = go (all_obey rule first number n total) refl
    where
      go : (t : Bool) → all_obey rule first number n total ≡ t → all_obey rule first number n total ≡ true
      go true q = q
      go false q = absurd (not_ok _ _ (sym (h ∙ choose_no (Ok tt) (Err (fault (first_not rule n 0))) q)))

-- the three ways through the records

pub records_road : (vol : Volume) (why : Refusal) → roads_rule vol ≡ false → why ≡ Road (first_road vol) → records_of vol ≡ Err why
unfolding records_of
records_road vol why q e = choose_no _ _ q ∙ ap Err (sym e)

pub records_edge : (vol : Volume) (why : Refusal) → roads_rule vol ≡ true → edges_rule vol ≡ false → why ≡ Edge (first_edge vol)
    → records_of vol ≡ Err why
unfolding records_of
records_edge vol why p q e = choose_yes _ _ p ∙ choose_no _ _ q ∙ ap Err (sym e)

pub records_fine : (vol : Volume) (c : Counts) → roads_rule vol ≡ true → edges_rule vol ≡ true → c ≡ counts_of vol → records_of vol ≡ Ok c
unfolding records_of
records_fine vol c p q e = choose_yes _ _ p ∙ choose_yes _ _ q ∙ ap Ok (sym e)
