-- The content words of an edge's pieces: where they stand, what they hold, and which is in force.
use Rattle.std.specs.Prelude.{ℕ, ◌+◌, ◌-◌, ◌*◌, ◌/◌, ◌%◌, ◌<◌, ◌≡◌, refl, List}
use Rattle.std.proofs.Math.Path.{ap}
use Rattle.std.proofs.Common.{◌∙◌, arith}
use Rattle.block.specs.Word.{content_at, most_words, Holds}
use Rattle.records.specs.Format.{piece_words, volume_of, Laid}
use Rattle.volume.specs.Sound.{Sound}
use Rattle.records.specs.declared.tables.Tables.{Tables}
use Rattle.travel.specs.Last.{last_le}
use Rattle.travel.specs.Network.{piece_at, has_piece, Enters}
use Rattle.travel.specs.Halves.{force_has, force_in}
use Rattle.travel.specs.Unfolds.{InForce}
use Rattle.travel.specs.Row.{Row, row_at, starts_row, starts_last}
use Rattle.travel.specs.Digest.{piece_word, Stands}

module _ {v : List ℕ} {t : Tables} (L : Laid v t) where
  -- piece p stands at word w
  module _ (p w : ℕ) (is : w ≡ piece_word (volume_of v) p) where
    held_at : (i : ℕ) → i < piece_words → p < (volume_of v).pieces → Holds v (w + i)
    held_at i h l = (omega (arith, L.room), omega (arith, L.limit))

    left_at : (x : ℕ) → x ≡ content_at v (w + 1) → x ≡ (volume_of v).piece_left p
    unfolding volume_of
    left_at x e = e ∙ ap (content_at v) (omega (arith, is))

    right_at : (x : ℕ) → x ≡ content_at v (w + 2) → x ≡ (volume_of v).piece_right p
    unfolding volume_of
    right_at x e = e ∙ ap (content_at v) (omega (arith, is))

  -- the piece in force stands at word w: the bytes hold it, and what its words say
  module _ (S : Sound (volume_of v)) (e x w : ℕ) (E : Enters (volume_of v) e x)
      (is : w ≡ piece_word (volume_of v) (piece_at (volume_of v) e (x % (volume_of v).period))) where
    pub force_held : (i : ℕ) → i < piece_words → Holds v (w + i)
    force_held i h = held_at _ w is i h (force_in _ S e x _ E.there refl)

    pub force_read : (l r : ℕ) → l ≡ content_at v (w + 1) → r ≡ content_at v (w + 2)
        → InForce (volume_of v) e x (piece_at (volume_of v) e (x % (volume_of v).period)) l r
    force_read l r p q = record {
      hand = record {
        sound = S;
        enters = E;
        has = force_has _ S e x _ E.there refl;
        left = left_at _ w is l p;
        right = right_at _ w is r q;
      };
      force = refl;
    }

  -- the pieces of edge e stand from word `at` up to word `end`
  module _ (S : Sound (volume_of v)) (e at end : ℕ) (h : e < (volume_of v).edges) (B : Stands (volume_of v) e at end) where
    pub words_few : end < most_words + 1
    words_few = omega (arith, B.end_is, (S.edge e h).inside, L.limit)

    pub words_some : at < end
    words_some = omega (arith, B.begin, B.end_is, (S.edge e h).some)

    -- there is one
    pub one_word : (x : ℕ) → at + piece_words ≡ end → at ≡ piece_word (volume_of v) (piece_at (volume_of v) e (x % (volume_of v).period))
    one_word x one =
        let P = has_piece (volume_of v) S e (x % (volume_of v).period) h in
        omega (arith, B.begin, B.end_is, P.low, P.high)

    number : (end - at) / piece_words ≡ (volume_of v).edge_pieces e
    number = omega (arith, B.begin, B.end_is)

    pub words_row : (y : ℕ) → Row v at piece_words ((end - at) / piece_words) y
    words_row y = starts_row L S e ((volume_of v).edge_first e) _ at h refl number (omega (arith, B.begin, L.pieces)) y

    pub word_last : (x y w : ℕ) → y ≡ x % (volume_of v).period → w ≡ at + piece_words * last_le (row_at v at piece_words) ((end - at) / piece_words) y
        → w ≡ piece_word (volume_of v) (piece_at (volume_of v) e (x % (volume_of v).period))
    word_last x y w m q =
        let z = starts_last L S e ((volume_of v).edge_first e) _ at h refl number (omega (arith, B.begin, L.pieces)) x y _ m refl in
        omega (arith, B.begin, q, z)
