-- The path of a chain of edges, as it is unfolded edge after edge: the roads and the second after the first i edges, and what the next
-- edge adds. What one edge unfolds to is said in travel's Unfolds, how roads are written to the lent list in travel's Written.
use Rattle.std.specs.Prelude.{ℕ, suc, ◌+◌, ◌*◌, ◌^◌, ◌≤◌, ◌<◌, ◌≡◌, refl, List, [], ◌∷◌, ◌++◌, length, get_or, take, drop}
use Rattle.std.proofs.Common.{ap, sym, ◌∙◌, append_assoc, append-nil, add-one, arith, length-append, take-suc, take_all}
use Rattle.std.proofs.Math.Seq.{split_at}
use Rattle.theory.specs.Ways.{drive, drive_append}
use Rattle.theory.specs.Network.{Network, edge_arr, Edges}
use Rattle.theory.specs.Unfold.{roads_of_edge, path_along}
use Rattle.records.specs.Format.{Volume}
use Rattle.rules.specs.Rules.{longest, most_span}
use Rattle.volume.specs.Sound.{Sound}
use Rattle.travel.specs.Network.{network_of, arrival, roads_of, Enters}
use Rattle.travel.specs.Promises.{edge_takes}
use Rattle.travel.specs.Unfolds.{Unfolds, few_roads}
use Rattle.travel.specs.declared.path.Unfolded.{Unfolded}

-- the path: the roads of the edges es driven in turn from x, each unfolded at its own departure
abbrev pub path_of : Volume → List ℕ → ℕ → List ℕ
path_of vol es x = path_along (network_of vol) es x

-- the arrival of who drives the edges es one after the other from x on
abbrev pub arrival_of : Volume → List ℕ → ℕ → ℕ
arrival_of vol es x = drive (Edges (network_of vol)) es x

-- es are edges, at most two for each junction, and the departure x is one that can be asked
pub record Chain (vol : Volume) (es : List ℕ) (x : ℕ) : Type 0 where
  pub known : (i : ℕ) → i < length es → get_or es i 0 < vol.edges
  pub few : length es ≤ 2048
  pub early : x < 2 ^ 32

-- after the first i edges of es, entered at x: the second is y, and the roads are n
pub record Driven (vol : Volume) (es : List ℕ) (x i y n : ℕ) : Type 0 where
  pub arrives : y ≡ arrival_of vol (take i es) x
  pub number : n ≡ length (path_of vol (take i es) x)
  pub early : y ≤ x + i * (longest * most_span)
  pub few : n ≤ i * most_span

-- One chain after another

-- the second chain's roads stand after the first one's
path_append : (M : Network) (es fs : List ℕ) (x : ℕ) → path_along M (es ++ fs) x ≡ path_along M es x ++ path_along M fs (drive (Edges M) es x)
unfolding path_along
path_append M [] fs x = refl
path_append M (e ∷ es) fs x =
    ap (λ (l : List ℕ). roads_of_edge M e x ++ l) (path_append M es fs (edge_arr M e x))
    ∙ sym (append_assoc (roads_of_edge M e x) (path_along M es (edge_arr M e x)) (path_along M fs (drive (Edges M) es (edge_arr M e x))))

-- the path of one edge is its roads
path_one : (M : Network) (e x : ℕ) → path_along M (e ∷ []) x ≡ roads_of_edge M e x
unfolding path_along
path_one M e x = append-nil _

-- no edge is driven, and the second is the departure
pub drive_none : (vol : Volume) (es : List ℕ) (x : ℕ) → Driven vol es x 0 x 0
unfolding path_along
drive_none vol es x = record { arrives = refl; number = refl; early = omega arith; few = omega arith }

-- after the last edge the roads are those of the path
pub drive_all : {vol : Volume} {es : List ℕ} {x i y n : ℕ} → Driven vol es x i y n → length es ≤ i → n ≡ length (path_of vol es x)
drive_all {vol} {es} {x} {i} D h = rw (take_all i es h) at D.number

-- Edge e, the next one of the chain

module _ {vol : Volume} (S : Sound vol) {es : List ℕ} {x i y n : ℕ} (C : Chain vol es x) (D : Driven vol es x i y n) (more : i < length es) (e : ℕ) (is : e ≡ get_or es i 0) where
  -- it is an edge
  there : e < vol.edges
  there = rw is (C.known i more)

  -- it can be entered
  pub drive_enters : Enters vol e y
  drive_enters = record { there = there; fits = omega (arith, D.early, C.few, C.early, (S.edge e there).span) }

  -- the chain up to it
  next_is : take (i + 1) es ≡ take i es ++ (e ∷ [])
  next_is = ap (λ (k : ℕ). take k es) (add-one i) ∙ take-suc es i 0 more ∙ ap (λ (k : ℕ). take i es ++ (k ∷ [])) (sym is)

  -- the roads so far, with its own after them
  pub roads_more : path_of vol (take (i + 1) es) x ≡ path_of vol (take i es) x ++ roads_of vol e y
  roads_more =
      ap (λ (l : List ℕ). path_of vol l x) next_is ∙ path_append (network_of vol) (take i es) (e ∷ []) x
      ∙ ap (λ (l : List ℕ). path_of vol (take i es) x ++ l) (path_one (network_of vol) e (arrival_of vol (take i es) x) ∙ ap (roads_of vol e) (sym D.arrives))

  -- are among all
  pub roads_within : length (path_of vol (take i es) x ++ roads_of vol e y) ≤ length (path_of vol es x)
  roads_within =
      let all : es ≡ take (i + 1) es ++ drop (suc i) es =
      split_at es i 0 more ∙ sym (append_assoc (take i es) (get_or es i 0 ∷ []) (drop (suc i) es))
      ∙ ap (λ (l : List ℕ). l ++ drop (suc i) es) (ap (λ (k : ℕ). take i es ++ (k ∷ [])) (sym is) ∙ sym next_is) in
      let p = ap (λ (l : List ℕ). length (path_of vol l x)) all
      ∙ ap length (path_append (network_of vol) (take (i + 1) es) (drop (suc i) es) x)
      ∙ length-append (path_of vol (take (i + 1) es) x) (path_of vol (drop (suc i) es) (arrival_of vol (take (i + 1) es) x)) in
      omega (arith, p, ap length roads_more)

  -- driven
  pub drive_more : (u : Unfolded) → Unfolds vol e y u → Driven vol es x (i + 1) (y + u.duration) (n + u.roads)
  drive_more u U = record {
    arrives =
        U.duration
        ∙ ap (arrival vol e) D.arrives
        ∙ sym (drive_append (Edges (network_of vol)) (take i es) (e ∷ []) x)
        ∙ ap (λ (l : List ℕ). arrival_of vol l x) (sym next_is);
    number =
        let l = length-append (path_of vol (take i es) x) (roads_of vol e y) in
        omega (arith, D.number, U.roads, ap length roads_more);
    early = omega (arith, U.duration, D.early, (edge_takes vol S e y there).1, (S.edge e there).span);
    few = omega (arith, D.few, few_roads vol S e y u there U);
  }

  -- and second and roads are numbers of the code
  pub drive_fits : (u : Unfolded) → Unfolds vol e y u → (y + u.duration < 2 ^ 64) × (n + u.roads < 2 ^ 64)
  drive_fits u U = let D = drive_more u U in (omega (arith, D.early, C.few, C.early), omega (arith, D.few, C.few))
