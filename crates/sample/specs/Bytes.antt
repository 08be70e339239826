-- The sample network of document 01 as bytes: its words in the document's order, least byte first, the filler, and the sums that
-- sealing writes. Beside it the same network with edge 2 having its first piece alone. What is asked of the two is in Cases.
use Rattle.std.specs.Prelude.{ℕ, ◌-◌, ◌/◌, ◌%◌, List, [], ◌∷◌, ◌++◌, length, replicate}
use Rattle.block.specs.Seal.{sealed}
use Rattle.records.specs.Format.{empty}

-- the bytes of words, least byte first
unfoldable pub bytes_of : List ℕ → List ℕ
bytes_of [] = []
bytes_of (w ∷ ws) = w % 256 ∷ w / 256 % 256 ∷ w / 65536 % 256 ∷ w / 16777216 % 256 ∷ bytes_of ws

-- the words in a block of 128, zero after them, and sealed
unfoldable pub one_block : List ℕ → List ℕ
one_block words = sealed (bytes_of (words ++ replicate (128 - length words) 0))

-- roads, each with from, to, first point and number of points: 0 is 1 to 0, 1 is 0 to 2, 2 is 1 to 2
unfoldable pub roads : List ℕ
roads =
    1 ∷ 0 ∷ 0 ∷ 1
    ∷ 0 ∷ 2 ∷ 1 ∷ 2
    ∷ 1 ∷ 2 ∷ 3 ∷ 1
    ∷ []

-- points, each with second and duration: one of road 0, two of road 1, one of road 2
unfoldable pub points : List ℕ
points =
    0 ∷ 60
    ∷ 0 ∷ 100
    ∷ 100 ∷ 50
    ∷ 0 ∷ 150
    ∷ []

-- edges, each with from, to, first piece, number of pieces and span: 0 is 1 to 0, 1 is 0 to 2
unfoldable pub low_edges : List ℕ
low_edges =
    1 ∷ 0 ∷ 0 ∷ 1 ∷ 1
    ∷ 0 ∷ 2 ∷ 1 ∷ 1 ∷ 1
    ∷ []

-- pieces, each with starting second, left and right: edge 0 is road 0, edge 1 is road 1, and edge 2 begins with edges 0 and 1
unfoldable pub first_pieces : List ℕ
first_pieces =
    0 ∷ 0 ∷ empty
    ∷ 0 ∷ 1 ∷ empty
    ∷ 0 ∷ 0 ∷ 1
    ∷ []

-- the sample network: edition 1, N 3, R 3, P 4, E 3, Q 5; edge 2 is 1 to 2 with three pieces, span 2, and its second piece is road 2
unfoldable pub sample : List ℕ
sample =
    one_block (
    (1 ∷ 3 ∷ 3 ∷ 4 ∷ 3 ∷ 5 ∷ [])
    ++ roads
    ++ points
    ++ low_edges
    ++ (1 ∷ 2 ∷ 2 ∷ 3 ∷ 2 ∷ [])
    ++ first_pieces
    ++ (70806 ∷ 2 ∷ empty ∷ 86359 ∷ 0 ∷ 1 ∷ []))

-- edge 2 with its first piece alone: Q is 3 and edge 2 has one piece
unfoldable pub one_piece : List ℕ
one_piece =
    one_block (
    (1 ∷ 3 ∷ 3 ∷ 4 ∷ 3 ∷ 3 ∷ [])
    ++ roads
    ++ points
    ++ low_edges
    ++ (1 ∷ 2 ∷ 2 ∷ 1 ∷ 2 ∷ [])
    ++ first_pieces)
