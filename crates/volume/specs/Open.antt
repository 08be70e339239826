-- What opening answers: N, R, P, E and Q, or the first refusal in the document's order with its place.
use Rattle.std.specs.Prelude.{ℕ, ◌/◌, ◌≡◌, true, false, List, length, eqb, Result, Ok, Err}
use Rattle.std.proofs.Common.{◌∙◌, sym, eq-eqb, ne_eqb}
use Rattle.std.proofs.Math.Path.{ap}
use Rattle.block.specs.Choose.{choose, choose_yes, choose_no}
use Rattle.block.specs.Whole.{whole}
use Rattle.block.specs.Good.{first_bad}
use Rattle.records.specs.Format.{Volume, volume_of, counts_of}
use Rattle.rules.specs.Rules.{counts_rule, roads_rule, first_road, edges_rule, first_edge}
use Rattle.records.specs.declared.tables.Counts.{Counts}
use Rattle.block.specs.declared.refusal.Refusal.{Refusal}
use Rattle.block.specs.declared.refusal.Refusal.TheVariants.{Length, Sums, Edition, Head, Road, Edge}

-- 5: the first road at fault, R where points are left over; 6: the first edge at fault, E where pieces are left over
unfoldable pub records_of : Volume → Result Counts Refusal
records_of vol =
    choose (roads_rule vol)
    (choose (edges_rule vol) (Ok (counts_of vol)) (Err (Edge (first_edge vol))))
    (Err (Road (first_road vol)))

-- 1: not 1 to 3,381 whole blocks; 2: the first block whose sums differ; 3: another edition than 1; 4: a head limit, block count or
-- filler
unfoldable pub open_of : List ℕ → Result Counts Refusal
open_of v =
    let blocks = length v / 512 in
    choose (whole (length v))
    (choose (eqb (first_bad v blocks) blocks)
    (choose (eqb (volume_of v).edition 1)
    (choose (counts_rule v (volume_of v) blocks) (records_of (volume_of v)) (Err Head))
    (Err Edition))
    (Err (Sums (first_bad v blocks))))
    (Err Length)

-- the contract of opening allows one answer
pub one_opening : (v : List ℕ) (r s : Result Counts Refusal) → r ≡ open_of v → s ≡ open_of v → r ≡ s
one_opening v r s p q = p ∙ sym q

-- the five ways through the tests

module _ (v : List ℕ) where
  pub open_length : whole (length v) ≡ false → open_of v ≡ Err Length
  unfolding open_of
  open_length e = choose_no _ _ e

  module _ (w : whole (length v) ≡ true) (b : ℕ) (hb : b ≡ first_bad v (length v / 512)) where
    pub open_block : (b ≡ length v / 512 → ⊥) → open_of v ≡ Err (Sums b)
    unfolding open_of
    open_block ne = choose_yes _ _ w ∙ choose_no _ _ (ne_eqb _ _ (λ z. ne (hb ∙ z))) ∙ ap (λ (k : ℕ). Err (Sums k)) (sym hb)

    module _ (e : b ≡ length v / 512) (edition : ℕ) (he : edition ≡ (volume_of v).edition) where
      pub open_edition : (edition ≡ 1 → ⊥) → open_of v ≡ Err Edition
      unfolding open_of
      open_edition ne =
          choose_yes _ _ w ∙ choose_yes _ _ (eq-eqb _ _ (sym hb ∙ e)) ∙ choose_no _ _ (ne_eqb _ _ (λ z. ne (he ∙ z)))

      pub open_rest : edition ≡ 1 → open_of v ≡ choose (counts_rule v (volume_of v) (length v / 512)) (records_of (volume_of v)) (Err Head)
      unfolding open_of
      open_rest q =
          choose_yes _ _ w ∙ choose_yes _ _ (eq-eqb _ _ (sym hb ∙ e)) ∙ choose_yes _ _ (eq-eqb _ _ (sym he ∙ q))
