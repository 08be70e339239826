-- What the pass over the edges keeps of those that have passed: the start, the end and the span of each, three numbers an edge.
use Rattle.std.specs.Prelude.{ℕ, zero, suc, ◌+◌, ◌*◌, ◌≤◌, ◌<◌, ◌≡◌, refl, true, List, length, get_or, set}
use Rattle.std.proofs.Common.{◌∙◌, arith, length-set, get_or-set_same, get_or-set_other}
use Rattle.std.proofs.Math.Decide.{dec_lt}
use Rattle.records.specs.Format.{Volume}
use Rattle.rules.specs.Rules.{edge_rule}
use Rattle.rules.specs.Facts.{ends_fact}
use Rattle.rules.specs.EdgeSteps.{edge_tests, edge_spans}

-- number i of those kept of edge d: its start, its end, its span
unfoldable pub part : Volume → ℕ → ℕ → ℕ
part vol d zero = vol.edge_from d
part vol d (suc zero) = vol.edge_to d
part vol d (suc (suc i)) = vol.edge_span d

-- the list with the numbers of edge e
unfoldable pub keeping : Volume → ℕ → List ℕ → List ℕ
keeping vol e kept =
    set (set (set kept (3 * e + 0) (vol.edge_from e)) (3 * e + 1) (vol.edge_to e)) (3 * e + 2) (vol.edge_span e)

-- the list holds the edges below e, and has room for all
pub record Kept (vol : Volume) (e : ℕ) (kept : List ℕ) : Type 0 where
  pub room : 3 * vol.edges ≤ length kept
  pub inside : e ≤ vol.edges
  pub parts : (d i : ℕ) → d < e → i < 3 → get_or kept (3 * d + i) 0 ≡ part vol d i

-- the numbers of edge e fit 16 bits
pub record Short (vol : Volume) (e : ℕ) : Type 0 where
  pub from : vol.edge_from e < 65536
  pub to : vol.edge_to e < 65536
  pub span : vol.edge_span e < 65536

pub short_edge : (vol : Volume) (e : ℕ) → vol.junctions ≤ 1024 → edge_rule vol e ≡ true → Short vol e
short_edge vol e few q =
    let t = edge_tests vol e q in
    let a = ends_fact _ _ _ t.ends in
    record { from = omega (arith, a.from_in); to = omega (arith, a.to_in); span = omega (arith, (edge_spans vol e t.span).1) }

-- before the first edge
pub kept_none : (vol : Volume) (kept : List ℕ) → 3 * vol.edges ≤ length kept → Kept vol 0 kept
kept_none vol kept room = record { room = room; inside = omega arith; parts = λ d i h. absurd (omega arith) }

-- keeping an edge leaves the list as long as it was
pub keeping_length : (vol : Volume) (e : ℕ) (kept : List ℕ) → length (keeping vol e kept) ≡ length kept
unfolding keeping
keeping_length vol e kept = simp length-set refl

-- one edge more
pub kept_next : (vol : Volume) (e : ℕ) (kept : List ℕ) → Kept vol e kept → e < vol.edges → Kept vol (e + 1) (keeping vol e kept)
unfolding keeping part
kept_next vol e kept K lt = record {
  room = rw (keeping_length vol e kept) K.room;
  inside = omega arith;
  parts = λ d i h l. at d i l (dec_lt d e) h;
}
  where
    one : List ℕ
    one = set kept (3 * e + 0) (vol.edge_from e)

    two : List ℕ
    two = set one (3 * e + 1) (vol.edge_to e)

    one_long : length one ≡ length kept
    one_long = length-set kept (3 * e + 0) (vol.edge_from e)

    two_long : length two ≡ length kept
    two_long = length-set one (3 * e + 1) (vol.edge_to e) ∙ one_long

    old : (d i : ℕ) → d < e → i < 3 → get_or (keeping vol e kept) (3 * d + i) 0 ≡ part vol d i
    old d i h l =
        get_or-set_other two (3 * e + 2) (3 * d + i) (vol.edge_span e) 0 (λ z. omega arith)
        ∙ get_or-set_other one (3 * e + 1) (3 * d + i) (vol.edge_to e) 0 (λ z. omega arith)
        ∙ get_or-set_other kept (3 * e + 0) (3 * d + i) (vol.edge_from e) 0 (λ z. omega arith)
        ∙ K.parts d i h l

    new : (i : ℕ) → i < 3 → get_or (keeping vol e kept) (3 * e + i) 0 ≡ part vol e i
    new zero l =
        get_or-set_other two (3 * e + 2) (3 * e + 0) (vol.edge_span e) 0 (λ z. omega arith)
        ∙ get_or-set_other one (3 * e + 1) (3 * e + 0) (vol.edge_to e) 0 (λ z. omega arith)
        ∙ get_or-set_same kept (3 * e + 0) (vol.edge_from e) 0 (omega (arith, K.room))
    new (suc zero) l =
        get_or-set_other two (3 * e + 2) (3 * e + 1) (vol.edge_span e) 0 (λ z. omega arith)
        ∙ get_or-set_same one (3 * e + 1) (vol.edge_to e) 0 (omega (arith, K.room, one_long))
    new (suc (suc zero)) l = get_or-set_same two (3 * e + 2) (vol.edge_span e) 0 (omega (arith, K.room, two_long))
    new (suc (suc (suc i))) l = absurd (omega arith)

    at : (d i : ℕ) → i < 3 → Dec (d < e) → d < e + 1 → get_or (keeping vol e kept) (3 * d + i) 0 ≡ part vol d i
    at d i l (yes a) h = old d i a l
    at d i l (no a) h = let q : d ≡ e = omega arith in rw q (new i l)
