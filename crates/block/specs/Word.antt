-- The words of a volume: 32 bits, least byte first; and its content words, those of all blocks joined without the sums.
use Rattle.std.specs.Prelude.{ℕ, ◌+◌, ◌*◌, ◌/◌, ◌%◌, ◌<◌, List, length, set, slice_index}

-- the word that begins at byte `at`
unfoldable pub word_from : List ℕ → ℕ → ℕ
word_from v at =
    slice_index v at + 256 * slice_index v (at + 1) + 65536 * slice_index v (at + 2) + 16777216 * slice_index v (at + 3)

-- word i
unfoldable pub word_at : List ℕ → ℕ → ℕ
word_at v i = word_from v (4 * i)

-- the bytes with x as word i
unfoldable pub put_word : List ℕ → ℕ → ℕ → List ℕ
put_word v i x =
    set
    (set (set (set v (4 * i) (x % 256)) (4 * i + 1) (x / 256 % 256)) (4 * i + 2) (x / 65536 % 256))
    (4 * i + 3)
    (x / 16777216 % 256)

-- word i of block k: a block is 128 words
unfoldable pub block_word : List ℕ → ℕ → ℕ → ℕ
block_word v k i = word_at v (128 * k + i)

-- content word w: the first 126 words of each block, joined
unfoldable pub content_at : List ℕ → ℕ → ℕ
content_at v w = block_word v (w / 126) (w % 126)

-- the content words of 3,381 blocks, the most that a volume has
abbrev pub most_words : ℕ
most_words = 426006

-- the whole blocks of v hold content word w, and it is one that a volume can have
abbrev pub Holds : List ℕ → ℕ → Type 0
Holds v w = (w < 126 * (length v / 512)) × (w < most_words)
