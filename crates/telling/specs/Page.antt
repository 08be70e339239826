-- Writing content words where a volume may be too short for them.
use Rattle.std.specs.Prelude.{ℕ, zero, suc, ◌+◌, ◌*◌, ◌/◌, ◌%◌, ◌≤◌, ◌<◌, ◌≡◌, List, ltb, length, get_or}
use Rattle.std.proofs.Common.{ap, add-one, lt-ltb, le-ltb}
use Rattle.block.specs.Choose.{choose, choose_yes, choose_no}
use Rattle.block.specs.Word.{put_word}

-- which word content word w is: two sums stand behind every 126 content words
abbrev pub place : ℕ → ℕ
place w = w + 2 * (w / 126)

-- the bytes v with x as content word w, where they have one
unfoldable pub put_content : List ℕ → ℕ → ℕ → List ℕ
put_content v w x = choose (ltb (place w) (length v / 4)) (put_word v (place w) x) v

-- the bytes v with the first n of the numbers xs as content words from word w on, of the first million
unfoldable pub put_row : List ℕ → ℕ → List ℕ → ℕ → List ℕ
put_row v w xs zero = v
put_row v w xs (suc n) = put_content (put_row v w xs n) ((w + n) % 1000000) (get_or xs n 0)

-- one number more
pub put_row_next : (v : List ℕ) (w : ℕ) (xs : List ℕ) (n : ℕ)
    → put_row v w xs (n + 1) ≡ put_content (put_row v w xs n) ((w + n) % 1000000) (get_or xs n 0)
unfolding put_row
put_row_next v w xs n = ap (put_row v w xs) (add-one n)

-- the two cases of one content word

module _ (v : List ℕ) (w x : ℕ) where
  pub put_inside : place w < length v / 4 → put_content v w x ≡ put_word v (place w) x
  unfolding put_content
  put_inside h = choose_yes _ _ (lt-ltb _ _ h)

  pub put_past : length v / 4 ≤ place w → put_content v w x ≡ v
  unfolding put_content
  put_past h = choose_no _ _ (le-ltb _ _ h)
