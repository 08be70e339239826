-- What the pass over the edges learns from the words that it reads: of the earlier edges, of a piece, of its start, of an edge. The
-- span is carried along: `piece_fit` and `pieces_fit` are what the code's two passes over pieces answer.
use Rattle.std.specs.Prelude.{ℕ, ◌+◌, ◌-◌, ◌≤◌, ◌<◌, max, ◌≡◌, refl, ◌≢◌, Bool, true, false, not, eqb, leb, ltb, Option, Some, None}
use Rattle.std.proofs.Common.{sym, ◌∙◌, ap, arith, add-one, eq-eqb, ne_eqb, eqb-true, leb-true, lt-ltb, ltb-true}
use Rattle.std.proofs.Math.Path.{ap₂}
use Rattle.std.proofs.Math.Decide.{ℕ_discrete}
use Rattle.block.specs.Choose.{choose, choose_yes, choose_no, both, both_yes, both_no, both_left, both_right}
use Rattle.block.specs.First.{all_below, all_fails, below_all}
use Rattle.records.specs.Format.{Volume, day, empty}
use Rattle.rules.specs.Rules.{ends_fit, placed, begins, edge_rule, span_rule, most_span, piece_fits, piece_span, piece_rule, greatest_span, new_ends, same_ends, start_fits, start, road_joins, pair_joins}
use Rattle.rules.specs.Facts.{placed_fact, begins_next}

-- the span of piece p of edge e, where it fits
abbrev pub piece_fit : Volume → ℕ → ℕ → Option ℕ
piece_fit vol e p = choose (piece_fits vol e p) (Some (piece_span vol p)) None

-- the greatest span of the pieces of edge e, where they all obey
abbrev pub pieces_fit : Volume → ℕ → Option ℕ
pieces_fit vol e =
    choose (all_below (vol.edge_pieces e) (piece_rule vol e)) (Some (greatest_span vol (vol.edge_first e) (vol.edge_pieces e))) None

-- one piece more
pub greatest_next : (vol : Volume) (p n : ℕ) → greatest_span vol p (n + 1) ≡ max (greatest_span vol p n) (piece_span vol (p + n))
unfolding greatest_span
greatest_next vol p n = ap (greatest_span vol p) (add-one n)

-- an earlier edge has the same two ends, or none has

pub new_found : (vol : Volume) (e d from to : ℕ) → from ≡ vol.edge_from e → to ≡ vol.edge_to e → d < e → vol.edge_from d ≡ from
    → vol.edge_to d ≡ to → new_ends vol e ≡ false
unfolding new_ends same_ends
new_found vol e d from to a b lt f t =
    all_fails e (λ d. not (same_ends vol e d)) d lt
    (ap not (both_yes _ (eq-eqb _ _ (f ∙ a)) ∙ eq-eqb _ _ (t ∙ b)))

pub new_none : (vol : Volume) (e from to : ℕ) → from ≡ vol.edge_from e → to ≡ vol.edge_to e
    → ((d : ℕ) → d < e → vol.edge_from d ≡ from → vol.edge_to d ≢ to) → new_ends vol e ≡ true
unfolding new_ends same_ends
new_none vol e from to a b h = below_all e (λ d. not (same_ends vol e d)) (λ d lt. go d lt (eqb (vol.edge_from d) (vol.edge_from e)) refl)
  where
    go : (d : ℕ) → d < e → (t : Bool) → eqb (vol.edge_from d) (vol.edge_from e) ≡ t → not (same_ends vol e d) ≡ true
    go d lt true q =
        ap not
        (both_yes _ q
        ∙ ne_eqb (vol.edge_to d) (vol.edge_to e) (λ z. h d lt (eqb-true (vol.edge_from d) (vol.edge_from e) q ∙ sym a) (z ∙ sym b)))
    go d lt false q = ap not (both_no _ q)

-- no earlier edge has the ends of edge e, if they lie below N
abbrev pub Fresh : Volume → ℕ → Type 0
Fresh vol e = vol.edge_from e < vol.junctions → vol.edge_to e < vol.junctions → new_ends vol e ≡ true

-- a first piece that starts at 0 starts within the period
pub starts_at_zero : (s : ℕ) → both (eqb s 0) (ltb s day) ≡ eqb s 0
starts_at_zero s = go (eqb s 0) refl
  where
    go : (t : Bool) → eqb s 0 ≡ t → both (eqb s 0) (ltb s day) ≡ eqb s 0
    go true q = both_yes _ q ∙ lt-ltb s day (let z = eqb-true s 0 q in omega arith) ∙ sym q
    go false q = both_no _ q ∙ sym q

-- what the pass asks of a start: the start before the first does not count
pub start_rule : (vol : Volume) (e i b s : ℕ) → vol.period ≡ day → (0 < i → b ≡ start vol e (i - 1)) → s ≡ start vol e i
    → start_fits vol.period i (start vol e (i - 1)) (start vol e i) ≡ start_fits day i b s
unfolding start_fits
start_rule vol e i b s p h g = go (ℕ_discrete i 0)
  where
    go : Dec (i ≡ 0) → both (choose (eqb i 0) (eqb (start vol e i) 0) (ltb (start vol e (i - 1)) (start vol e i))) (ltb (start vol e i) vol.period)
        ≡ both (choose (eqb i 0) (eqb s 0) (ltb b s)) (ltb s day)
    go (yes z) =
        ap₂ both
        (choose_yes _ _ (eq-eqb i 0 z) ∙ ap (λ (x : ℕ). eqb x 0) (sym g) ∙ sym (choose_yes (eqb s 0) (ltb b s) (eq-eqb i 0 z)))
        (ap₂ ltb (sym g) p)
    go (no ne) = let q = h (omega arith) in (cc)

-- what a fit says

pub fit_span : (t : Bool) (x s : ℕ) → Some s ≡ choose t (Some x) None → (t ≡ true) × (s ≡ x)
unfolding choose
fit_span true x s h = (refl, (cc))
fit_span false x s h = absurd (let z : ◌≡◌ {A = ℕ} 0 1 = (cc) in omega arith)

pub fit_fault : (t : Bool) (x : ℕ) → None ≡ choose t (Some x) None → t ≡ false
unfolding choose
fit_fault true x h = absurd (let z : ◌≡◌ {A = ℕ} 0 1 = (cc) in omega arith)
fit_fault false x h = refl

-- what a piece is, from the words that are read

module _ (vol : Volume) (e p from to left right : ℕ) (hf : from ≡ vol.edge_from e) (ht : to ≡ vol.edge_to e)
    (hl : left ≡ vol.piece_left p) (hr : right ≡ vol.piece_right p)
  where
    pub fit_road : right ≡ empty → {t : Bool} → road_joins vol left from to ≡ t → piece_fit vol e p ≡ choose t (Some 1) None
    unfolding piece_fits piece_span
    fit_road z {t} q =
        ap₂ (λ (b : Bool) (n : ℕ). choose b (Some n) None)
        (choose_yes _ _ (eq-eqb _ _ (sym hr ∙ z)) ∙ (let i : road_joins vol (vol.piece_left p) (vol.edge_from e) (vol.edge_to e) ≡ t = (cc) in i))
        (choose_yes _ _ (eq-eqb _ _ (sym hr ∙ z)))

    pub fit_pair : right ≢ empty → {t : Bool} → pair_joins vol e left right from to ≡ t → (a b : ℕ) → a ≡ vol.edge_span left
        → b ≡ vol.edge_span right → piece_fit vol e p ≡ choose t (Some (a + b)) None
    unfolding piece_fits piece_span
    fit_pair ne {t} q a b ha hb =
        ap₂ (λ (b : Bool) (n : ℕ). choose b (Some n) None)
        (choose_no _ _ (ne_eqb _ _ (λ z. ne (hr ∙ z)))
        ∙ (let i : pair_joins vol e (vol.piece_left p) (vol.piece_right p) (vol.edge_from e) (vol.edge_to e) ≡ t = (cc) in i))
        (choose_no _ _ (ne_eqb _ _ (λ z. ne (hr ∙ z))) ∙ (let i : vol.edge_span (vol.piece_left p) + vol.edge_span (vol.piece_right p) ≡ a + b = (cc) in i))

-- the halves of a pair that joins are of smaller number
pub pair_below : (vol : Volume) (e l r from to : ℕ) → pair_joins vol e l r from to ≡ true → (l < e) × (r < e)
unfolding pair_joins
pair_below vol e l r from to q =
    let a = both_left (ltb l e) _ q in
    let b = both_left (ltb r e) _ (both_right (ltb l e) _ q) in
    (ltb-true l e a, ltb-true r e b)

-- a piece that breaks its rule, by its start or by what it holds, and one that obeys

module _ (vol : Volume) (e i b s : ℕ) (p : vol.period ≡ day) (hb : 0 < i → b ≡ start vol e (i - 1)) (hs : s ≡ start vol e i) where
  pub late_start : start_fits day i b s ≡ false → piece_rule vol e i ≡ false
  unfolding piece_rule
  late_start q = both_no _ (start_rule vol e i b s p hb hs ∙ q)

  pub after_start : start_fits day i b s ≡ true → piece_rule vol e i ≡ piece_fits vol e (vol.edge_first e + i)
  unfolding piece_rule
  after_start q = both_yes _ (start_rule vol e i b s p hb hs ∙ q)

-- how the pass over an edge's pieces ends

pub pieces_fault : (vol : Volume) (e : ℕ) → all_below (vol.edge_pieces e) (piece_rule vol e) ≡ false → pieces_fit vol e ≡ None
pieces_fault vol e q = choose_no _ _ q

pub pieces_fine : (vol : Volume) (e g : ℕ) → all_below (vol.edge_pieces e) (piece_rule vol e) ≡ true
    → g ≡ greatest_span vol (vol.edge_first e) (vol.edge_pieces e) → pieces_fit vol e ≡ Some g
pieces_fine vol e g q h = choose_yes _ _ q ∙ ap Some (sym h)

-- what the pass asks of an edge, from the words that it reads
pub edge_rule_lem : (vol : Volume) (e from to at n begin : ℕ) → from ≡ vol.edge_from e → to ≡ vol.edge_to e → at ≡ vol.edge_first e
    → n ≡ vol.edge_pieces e → begin ≡ begins vol.edge_first vol.edge_pieces e
    → edge_rule vol e
    ≡ both (ends_fit vol.junctions from to)
    (both (new_ends vol e)
    (both (placed begin vol.pieces at n) (both (all_below (vol.edge_pieces e) (piece_rule vol e)) (span_rule vol e))))
unfolding edge_rule
edge_rule_lem vol e from to at n begin a b c d g = (cc)

-- and of its span
pub span_rule_lem : (vol : Volume) (e s g : ℕ) → s ≡ vol.edge_span e → g ≡ greatest_span vol (vol.edge_first e) (vol.edge_pieces e)
    → span_rule vol e ≡ both (eqb s g) (leb s most_span)
unfolding span_rule
span_rule_lem vol e s g a b = (cc)

-- an edge whose ends an earlier one has is at fault, whatever else it is
pub edge_repeats : (vol : Volume) (e : ℕ) → new_ends vol e ≡ false → edge_rule vol e ≡ false
unfolding edge_rule
edge_repeats vol e q = go (ends_fit vol.junctions (vol.edge_from e) (vol.edge_to e)) refl
  where
    go : (t : Bool) → ends_fit vol.junctions (vol.edge_from e) (vol.edge_to e) ≡ t → edge_rule vol e ≡ false
    go true h = both_yes _ h ∙ both_no _ q
    go false h = both_no _ h

-- an edge that obeys

-- the five parts of the edge rule
pub record EdgeTests (vol : Volume) (e : ℕ) : Type 0 where
  pub ends : ends_fit vol.junctions (vol.edge_from e) (vol.edge_to e) ≡ true
  pub new : new_ends vol e ≡ true
  pub place : placed (begins vol.edge_first vol.edge_pieces e) vol.pieces (vol.edge_first e) (vol.edge_pieces e) ≡ true
  pub pieces : all_below (vol.edge_pieces e) (piece_rule vol e) ≡ true
  pub span : span_rule vol e ≡ true

pub edge_tests : (vol : Volume) (e : ℕ) → edge_rule vol e ≡ true → EdgeTests vol e
unfolding edge_rule
edge_tests vol e q =
    let ends = ends_fit vol.junctions (vol.edge_from e) (vol.edge_to e) in
    let place = placed (begins vol.edge_first vol.edge_pieces e) vol.pieces (vol.edge_first e) (vol.edge_pieces e) in
    let pieces = all_below (vol.edge_pieces e) (piece_rule vol e) in
    let q₁ = both_right ends _ q in
    let q₂ = both_right (new_ends vol e) _ q₁ in
    let q₃ = both_right place _ q₂ in
    record {
      ends = both_left ends _ q;
      new = both_left (new_ends vol e) _ q₁;
      place = both_left place _ q₂;
      pieces = both_left pieces (span_rule vol e) q₃;
      span = both_right pieces (span_rule vol e) q₃;
    }

pub edge_spans : (vol : Volume) (e : ℕ) → span_rule vol e ≡ true
    → (vol.edge_span e ≡ greatest_span vol (vol.edge_first e) (vol.edge_pieces e)) × (vol.edge_span e ≤ most_span)
unfolding span_rule
edge_spans vol e q =
    let g = greatest_span vol (vol.edge_first e) (vol.edge_pieces e) in (
      eqb-true (vol.edge_span e) g (both_left (eqb (vol.edge_span e) g) (leb (vol.edge_span e) most_span) q),
      leb-true (vol.edge_span e) most_span (both_right (eqb (vol.edge_span e) g) (leb (vol.edge_span e) most_span) q),
    )

-- where the next edge's pieces begin
pub begin_next : (vol : Volume) (e : ℕ) → edge_rule vol e ≡ true
    → begins vol.edge_first vol.edge_pieces (e + 1) ≡ begins vol.edge_first vol.edge_pieces e + vol.edge_pieces e
begin_next vol e q =
    begins_next vol.edge_first vol.edge_pieces e
    ∙ ap (λ (b : ℕ). b + vol.edge_pieces e) (placed_fact _ _ _ _ (edge_tests vol e q).place).begins_at
