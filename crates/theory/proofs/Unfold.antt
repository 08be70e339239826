-- Unfolding, proved: on a sound network the roads of an edge, and the path of a chain of edges, lead where the edges lead and arrive when
-- the edges arrive.
use Prim.Native.Nat.{ℕ, ◌%◌, ◌<◌}
use mathlib.Core.List.{List, [], ◌∷◌}
use Rattle.std.specs.Prelude.{◌≡◌}
use Rattle.std.proofs.Math.Path.{refl, ap}
use Rattle.std.proofs.Common.{sym, ◌∙◌}
use Rattle.theory.specs.Ways.{Leads, drive, Drives, Way, drives_append}
use Rattle.theory.specs.Network.{Piece, road_of, pair_of, Network, edge_arr, Roads, Edges, Fits, SoundNetwork}
use Rattle.theory.specs.Pieces.{InForce}
use Rattle.theory.proofs.Pieces.{depth_is, by_pieces}
use Rattle.theory.specs.Unfold.{path_along, roads_by_piece, roads_of_edge}

module _ (M : Network) where
  open M use {period, edges, edge_from, edge_to, in_force}

  module _ (S : SoundNetwork M) where
    -- the roads of an edge are those of its piece in force
    pub unfold_is : (e x : ℕ) → e < edges → roads_of_edge M e x ≡ roads_by_piece M (roads_of_edge M) x (in_force e (x % period))
    unfolding roads_of_edge
    unfold_is e x c = depth_is M S [] (roads_by_piece M) asks_below e x c
      where
        asks_below : (e x : ℕ) (q : Piece) → Fits M e q → (f g : ℕ → ℕ → List ℕ) → ((d y : ℕ) → d < e → f d y ≡ g d y)
            → roads_by_piece M f x q ≡ roads_by_piece M g x q
        asks_below e x (road_of k) h f g i = refl
        asks_below e x (pair_of l r) h f g i = rw (i l x h.0, i r (edge_arr M l x) h.1)

    -- the roads of an edge lead from its start to its end and, driven, take exactly to its arrival
    pub edge_unfolds : (e x : ℕ) → e < edges → Drives (Roads M) (edge_from e) x (edge_to e) (edge_arr M e x) (roads_of_edge M e x)
    edge_unfolds = by_pieces M S Unfolds road pair
      where
        Unfolds : ℕ → ℕ → Type 0
        Unfolds e x = Drives (Roads M) (edge_from e) x (edge_to e) (edge_arr M e x) (roads_of_edge M e x)

        is : (e x : ℕ) (q : Piece) → e < edges → InForce M e x q → roads_of_edge M e x ≡ roads_by_piece M (roads_of_edge M) x q
        is e x q c i = unfold_is e x c ∙ ap (roads_by_piece M (roads_of_edge M) x) i.chosen

        road : (e x k : ℕ) → e < edges → InForce M e x (road_of k) → Unfolds e x
        road e x k c i = rw (is e x (road_of k) c i) ((i.fit.0, i.fit.1, i.fit.2), sym i.arrives)

        pair : (e x l r : ℕ) → e < edges → InForce M e x (pair_of l r) → Unfolds l x → Unfolds r (edge_arr M l x) → Unfolds e x
        pair e x l r c i hl hr =
            let f = i.fit in
            let y = edge_arr M l x in
            rw (is e x (pair_of l r) c i, i.arrives, ← f.2, ← f.3) (
            drives_append (Roads M) (edge_from l) x (edge_to l) y (edge_to r) (edge_arr M r y) (roads_of_edge M l x) (roads_of_edge M r y) hl (rw f.4 hr)
            )

    -- the path of a chain of edges leads from its start to its end and, driven, takes exactly to its arrival
    pub path_unfolds : (es : List ℕ) (u x w : ℕ) → Leads (Edges M) u es w → Drives (Roads M) u x w (drive (Edges M) es x) (path_along M es x)
    unfolding path_along
    path_unfolds [] u x w p = (p, refl)
    path_unfolds (e ∷ es) u x w p =
        let y = edge_arr M e x in
        drives_append (Roads M) u x (edge_to e) y w (drive (Edges M) es y) (roads_of_edge M e x) (path_along M es y)
        (rw p.1 at (edge_unfolds e x p.0)) (path_unfolds es (edge_to e) y w p.2)

    -- so every way of edges is a way of roads with the same arrival
    pub edges_unfold : {u x w y : ℕ} → Way (Edges M) u x w y → Way (Roads M) u x w y
    edges_unfold {u} {x} {w} p =
        let q = path_unfolds p.arcs u x w p.leads in
        record { arcs = path_along M p.arcs x; leads = q.0; arrives = q.1 ∙ p.arrives }
