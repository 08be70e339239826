-- What this crate promises of a sound volume, read first. `road_time`, `arrival` and `roads_of` of Network are what the code's contracts
-- speak of; Wording says a road's duration in the document's words.
use Rattle.std.specs.Prelude.{ℕ, ◌+◌, ◌*◌, ◌%◌, ◌≤◌, ◌<◌, ◌≡◌, refl}
use Rattle.std.proofs.Common.{ap, ap₂, sym, ◌∙◌, arith}
use Rattle.std.proofs.Math.Nat.{mod-lt, mul-add-mod_self_right}
use Rattle.theory.specs.Ways.{Leads, drive}
use Rattle.theory.specs.Network.{Roads}
use Rattle.theory.proofs.Pieces as Pieces
use Rattle.theory.proofs.Pieces.{edge_later}
use Rattle.theory.proofs.Fifo.{road_fifo}
use Rattle.theory.proofs.Unfold.{edge_unfolds}
use Rattle.records.specs.Format.{Volume}
use Rattle.rules.specs.Rules.{longest}
use Rattle.volume.specs.Sound.{Sound}
use Rattle.travel.specs.Network.{network_of, piece_at, road_time, arrival, piece_arrival, roads_of, sound_network, bounded}
use Rattle.travel.specs.Halves.{edge_by_piece, edge_short}
use Rattle.travel.specs.Unfolds.{Unfolds}
use Rattle.travel.specs.declared.path.Unfolded.{Unfolded}

module _ (vol : Volume) (S : Sound vol) where
  -- roads

  -- a road takes at least a second and at most the longest duration, entered at any second
  pub road_takes : (k x : ℕ) → k < vol.roads → (1 ≤ road_time vol k x) × (road_time vol k x ≤ longest)
  unfolding network_of
  road_takes k x h =
      let t = mod-lt x S.period in
      ((sound_network vol S).lasts k (x % vol.period) h t, (bounded vol S).short k (x % vol.period) h t)

  -- who enters a road later never arrives earlier, at any two departures
  pub road_in_order : (k x y : ℕ) → k < vol.roads → x ≤ y → x + road_time vol k x ≤ y + road_time vol k y
  unfolding network_of
  road_in_order k x y h l = road_fifo (network_of vol) (sound_network vol S) k x y h l

  -- a road repeats with the period
  pub road_repeats : (k q x : ℕ) → road_time vol k (q * vol.period + x) ≡ road_time vol k x
  road_repeats k q x = ap ((network_of vol).duration k) (mul-add-mod_self_right q vol.period x)

  -- edges

  -- an edge is its piece in force: the road, or left and then right from the second at which left arrives
  pub edge_is_piece : (e x : ℕ) → e < vol.edges → arrival vol e x ≡ piece_arrival vol (piece_at vol e (x % vol.period)) x
  edge_is_piece e x h = edge_by_piece vol S e x (piece_at vol e (x % vol.period)) h refl

  -- an edge takes at least a second, and at most the longest duration for each road of its span
  pub edge_takes : (e x : ℕ) → e < vol.edges → (x < arrival vol e x) × (arrival vol e x ≤ x + longest * vol.edge_span e)
  unfolding network_of
  edge_takes e x h = (edge_later (network_of vol) (sound_network vol S) e x h, edge_short vol S e x h)

  -- an edge repeats with the period
  pub edge_repeats : (e q x : ℕ) → e < vol.edges → arrival vol e (q * vol.period + x) ≡ q * vol.period + arrival vol e x
  unfolding network_of
  edge_repeats e q x h = Pieces.edge_repeats (network_of vol) (sound_network vol S) e q x h

  -- the unfolded roads lead from the edge's start to its end and, driven road by road from the departure, take exactly to its arrival
  pub roads_are_edge : (e x : ℕ) → e < vol.edges
      → Leads (Roads (network_of vol)) (vol.edge_from e) (roads_of vol e x) (vol.edge_to e)
      × (drive (Roads (network_of vol)) (roads_of vol e x) x ≡ arrival vol e x)
  unfolding network_of
  roads_are_edge e x h = edge_unfolds (network_of vol) (sound_network vol S) e x h

-- the contract of the unfolding allows one answer
pub one_answer : (vol : Volume) (e x : ℕ) (u w : Unfolded) → Unfolds vol e x u → Unfolds vol e x w → u ≡ w
one_answer vol e x u w a b =
    let r : u.roads ≡ w.roads = a.roads ∙ sym b.roads in
    let d : u.duration ≡ w.duration = omega (arith, a.duration, b.duration) in
    ap₂ answer r d
  where
    answer : ℕ → ℕ → Unfolded
    answer roads duration = record { roads = roads; duration = duration }
