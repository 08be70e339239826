-- The roads of a closed answer stand in the path list: it has at least as many places as the answer has roads.
use Rattle.std.specs.Prelude.{ℕ, ◌≤◌, ◌≡◌, refl, List, Ok, length, drop}
use Rattle.std.proofs.Common.{ap, sym, ◌∙◌, arith, length-append}
use Rattle.theory.specs.Settling as Rule
use Rattle.records.specs.Format.{volume_of}
use Rattle.search.specs.Answer.{Searched, path_after, path_told, ruled, Reply}
use Rattle.search.specs.Path.{path_of}
use Rattle.search.specs.Tells.{given}
use Rattle.search.specs.declared.Answer.TheVariants.{Closed}

-- where r is closed, the list p has a place for each of its roads
abbrev pub RoadsFit : Reply → List ℕ → Type 0
RoadsFit r p = (a n k : ℕ) → r ≡ Ok (Closed a n k) → k ≤ length p

-- so it is after every search
pub roads_fit : {v : List ℕ} {from to x b : ℕ} {work path w p : List ℕ} {r : Reply} → Searched v from to x b work path r w p → RoadsFit r p
roads_fit {v} {from} {to} {x} {b} {work} {path} {w} {p} {r} s a n k e =
    let vol = volume_of v in
    let g = given v from to x b (length work) (length path) (Ok (Closed a n k)) (sym e ∙ s.answers) refl in
    let roads = path_of vol g.tells.0 x in
    let is =
    s.writes ∙ ap (λ (r : Reply). path_after r (path_told vol x (ruled vol from to x b)) path) e
    ∙ ap (λ (q : Rule.Answer). path_after (Ok (Closed a n k)) (path_told vol x q) path) g.tells.1 in
    omega (arith, g.tells.2, ap length is, length-append roads (drop (length roads) path))
