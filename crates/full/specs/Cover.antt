-- How the edges cover a road, or two edges in turn: document 01, "Full". What is to be covered is a `Piece` of the theory, so that
-- roads and pairs have one definition: no edge with its two ends, or the first second at which that edge is late. Which roads and
-- pairs are to be covered, and in which order, is in Fault.
use Rattle.std.specs.Prelude.{ℕ, Bool, Option, Some, None, not, eqb, leb}
use Rattle.block.specs.Choose.{choose, both}
use Rattle.block.specs.First.{first_not}
use Rattle.theory.specs.Network.{Piece, road_of, pair_of, by_piece, edge_arr}
use Rattle.records.specs.Format.{Volume, empty}
use Rattle.travel.specs.Network.{network_of, arrival}
use Rattle.full.specs.declared.cover.Flaw.{Flaw}
use Rattle.full.specs.declared.cover.Flaw.TheVariants.{Missing, Late}

-- a road or two edges in turn, by two numbers as a piece has them: the right is empty for a road
unfoldable pub named : ℕ → ℕ → Piece
named left right = choose (eqb right empty) (road_of left) (pair_of left right)

module _ (vol : Volume) where
  -- the arrival by the road, or by the two edges in turn, entered at x
  abbrev pub arrival_by : Piece → ℕ → ℕ
  arrival_by q x = by_piece (network_of vol) (edge_arr (network_of vol)) x q

  -- entered at x, p arrives no later than q
  unfoldable pub not_after : Piece → Piece → ℕ → Bool
  not_after p q x = leb (arrival_by p x) (arrival_by q x)

  -- edge d leads from u to w
  unfoldable pub leads : ℕ → ℕ → ℕ → Bool
  leads u w d = both (eqb (vol.edge_from d) u) (eqb (vol.edge_to d) w)

  -- the edge from u to w, or E
  unfoldable pub edge_with : ℕ → ℕ → ℕ
  edge_with u w = first_not (λ d. not (leads u w d)) vol.edges 0

  -- edge e, entered at x, is no slower than q
  unfoldable pub no_slower : ℕ → Piece → ℕ → Bool
  no_slower e q x = leb (arrival vol e x) (arrival_by q x)

  -- the earliest second of the period at which edge e is late, or the period
  unfoldable pub first_late : ℕ → Piece → ℕ
  first_late e q = first_not (no_slower e q) vol.period 0

  -- how the edges cover q, which leads from u to w: the flaw, or none
  unfoldable pub cover_of : ℕ → ℕ → Piece → Option Flaw
  cover_of u w q =
      let e = edge_with u w in
      let x = first_late e q in
      choose (eqb e vol.edges) (Some Missing) (choose (eqb x vol.period) None (Some (Late x)))
