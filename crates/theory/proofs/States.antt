-- The states of a network, proved: their web is lawful on every sound network and FIFO on a full one; what it reaches was driven along
-- edges; and every up-down way to the destination is reached.
use Rattle.std.specs.Prelude.{ℕ, zero, suc, ◌+◌, ◌≤◌, ◌<◌, List, [], ◌∷◌, ◌++◌, ◌≡◌, refl, T}
use Rattle.std.proofs.Common.{arith, ap, ◌∙◌, lt-ltb, le-ltb}
use Rattle.theory.specs.Ways.{Leads, drive, Drives, Down, stop, fall, UpDown, turn, rise}
use Rattle.theory.specs.Network.{Network, Edges, SoundNetwork, Full}
use Rattle.theory.proofs.Pieces.{edge_later}
use Rattle.theory.proofs.Fifo.{edge_fifo}
use Rattle.theory.specs.Marks.{marked, marked_destination, marked_above}
use Rattle.theory.specs.Settling.{came_from, arrives_by, edges_by, web}
use Rattle.theory.specs.Reach.{Lawful, FifoArcs, Reach, start, along, edges_along, Question}
use Rattle.theory.specs.States.{Move, Stands, climbing, climbs, descending, descends, move_of, of_move, turns}

module _ (M : Network) (d : ℕ) where
  open M use {junctions as N, edges, edge_from, edge_to}

  module _ (S : SoundNetwork M) where
    -- the web is lawful
    pub web_lawful : Lawful (web M d)
    web_lawful = record {
      later = later;
      inside = λ s k sn kc lv. inside (move_of M d s k lv) sn kc;
      backs = λ s k kc lv. backs (move_of M d s k lv) kc;
    }
      where
        later : (k x : ℕ) → k < suc edges → x ≤ arrives_by M d k x
        later zero x h = omega arith
        later (suc e) x h = omega (arith, edge_later M S e x (omega arith))

        inside : {s k t : ℕ} → Move M d s k t → s < N + N → k < suc edges → t < N + N
        inside (turns l q) h c = omega arith
        inside (climbs e l f j) h c = omega (arith, S.to_in e (omega arith))
        inside (descends e l q) h c = omega (arith, S.to_in e (omega arith))

        backs : {s k t : ℕ} → Move M d s k t → k < suc edges → came_from M d t k ≡ s
        backs (turns l q) c = omega arith
        backs (climbs e l f j) c = rw (lt-ltb (edge_to e) N (S.to_in e (omega arith))) f
        backs (descends e l q) c = rw (le-ltb (N + edge_to e) N (omega arith))

    -- on a full network its arcs are FIFO
    pub web_fifo : Full M → FifoArcs (web M d)
    web_fifo F zero x y h l = l
    web_fifo F (suc e) x y h l = edge_fifo M S F e x y (omega arith) l

    -- What is reached was driven along edges

    module _ (u x : ℕ) (un : u < N) where
      -- state s at a stands at a junction from which any edges go on, where `f` puts before them what was driven
      record Driven (s a : ℕ) (f : List ℕ → List ℕ) : Type 0 where
        place : ℕ
        stands : Stands N s place
        goes : (es : List ℕ) (w : ℕ) → Leads (Edges M) place es w → Drives (Edges M) u x w (drive (Edges M) es a) (f es)

      -- a move drives its edge after what was driven
      one_more : {s k t : ℕ} (a : ℕ) (f : List ℕ → List ℕ) → k < suc edges → Driven s a f → Move M d s k t
          → Driven t (arrives_by M d k a) (λ es. f (edges_by M d k ++ es))
      one_more a f c D m = go D.place c D.stands D.goes m
        where
          go : {s k t : ℕ} (v : ℕ) → k < suc edges → Stands N s v
              → ((es : List ℕ) (w : ℕ) → Leads (Edges M) v es w → Drives (Edges M) u x w (drive (Edges M) es a) (f es))
              → Move M d s k t → Driven t (arrives_by M d k a) (λ es. f (edges_by M d k ++ es))
          go v c (climbing i vn) g (turns l q) = record { place = v; stands = descending (ap (λ z. N + z) i); goes = g }
          go v c (descending i) g (turns l q) = absurd (omega arith)
          go v c (climbing i vn) g (climbs e l h j) =
              record { place = edge_to e; stands = climbing refl (S.to_in e (omega arith)); goes = λ es w p. g (e ∷ es) w (omega arith, h ∙ i, p) }
          go v c (descending i) g (climbs e l h j) = absurd (omega arith)
          go v c (climbing i vn) g (descends e l q) = absurd (omega arith)
          go v c (descending i) g (descends e l q) =
              record { place = edge_to e; stands = descending refl; goes = λ es w p. g (e ∷ es) w (omega arith, omega arith, p) }

      -- all that was driven
      driven : {s a : ℕ} (r : Reach (web M d) u x s a) → Driven s a (edges_along r)
      driven start = record { place = u; stands = climbing refl un; goes = λ es w p. (p, refl) }
      driven (along {s} {a} k c l r) = one_more a (edges_along r) c (driven r) (move_of M d s k l)

      -- the edges along a way to the descending destination lead there and arrive with it
      pub reach_edges : {a : ℕ} (r : Reach (web M d) u x (N + d) a) → Drives (Edges M) u x d a (edges_along r [])
      reach_edges r = let D = driven r in D.goes [] d (home D.place D.stands)
        where
          home : (v : ℕ) → Stands N (N + d) v → v ≡ d
          home v (climbing i vn) = omega arith
          home v (descending i) = omega arith

      -- Every up-down way is reached

      -- one move more
      move : {s a t : ℕ} (k : ℕ) → k < suc edges → Move M d s k t → Reach (web M d) u x s a → Reach (web M d) u x t (arrives_by M d k a)
      move {s} {a} {t} k c m r = let i = of_move M d s k t m in rw i.1 at (along k c i.0 r)

      -- a junction from which a way descends to the destination is marked
      down_marked : {v a w y : ℕ} → w ≡ d → Down (Edges M) v a w y → T (marked M d v)
      down_marked i stop = rw i (marked_destination M d)
      down_marked {v} i (fall e c f l p) = marked_above M d v e c f l (down_marked i p)

      -- what descends to the destination reaches it
      down_reach : {v a w y : ℕ} → w ≡ d → Down (Edges M) v a w y → Reach (web M d) u x (N + v) a → Reach (web M d) u x (N + d) y
      down_reach i stop r = rw i at r
      down_reach i (fall e c f l p) r = down_reach i p (move (suc e) (omega arith) (descends e (rw f l) (down_marked i p)) (rw f r))

      -- and so does what climbs first
      up_reach : {v a w y : ℕ} → w ≡ d → v < N → UpDown (Edges M) v a w y → Reach (web M d) u x v a → Reach (web M d) u x (N + d) y
      up_reach i vn (turn p) r = down_reach i p (move 0 (omega arith) (turns vn (down_marked i p)) r)
      up_reach i vn (rise e c f l p) r = up_reach i (S.to_in e c) p (move (suc e) (omega arith) (climbs e vn f l) r)

      -- an up-down way from the start to the destination is reached with its arrival
      pub up_down_reach : {y : ℕ} → UpDown (Edges M) u x d y → Reach (web M d) u x (N + d) y
      up_down_reach p = up_reach refl un p start

-- the question on a sound network from u at x to d: climbing at the start, descending at the destination
abbrev pub asked : (M : Network) → SoundNetwork M → (u d x : ℕ) → u < M.junctions → d < M.junctions → Question
asked M S u d x un dn = record {
  web = web M d;
  lawful = web_lawful M d S;
  from = u;
  departure = x;
  to = M.junctions + d;
  from_in = omega arith;
  to_in = omega arith;
}
