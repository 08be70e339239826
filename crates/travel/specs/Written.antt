-- How roads are written to the lent path list: what stands in the first places, and that two parts, one after the other, are one list.
use Rattle.std.specs.Prelude.{ℕ, ◌+◌, ◌-◌, ◌≤◌, ◌<◌, ◌≡◌, List, [], ◌∷◌, ◌++◌, length, take, drop, set}
use Rattle.std.proofs.Common.{ap, ap₂, sym, ◌∙◌, append_assoc, append-nil, length-append, length-drop, drop_at, take_at, drop-drop, arith}
use Rattle.std.proofs.Math.Seq.{take-length, drop-length}
use Rattle.std.proofs.lemmas.List.{set_split}

-- the list `before` with the roads ks in its first places, and after them what stood there
abbrev pub with_roads : List ℕ → List ℕ → List ℕ
with_roads ks before = ks ++ drop (length ks) before

-- one road
pub one_written : (before : List ℕ) (k : ℕ) → 0 < length before → set before 0 k ≡ with_roads (k ∷ []) before
one_written before k h = set_split before 0 k h

-- the n roads ks are written, and then the roads js in the part after them: together ks and js, and what stood there after both
module _ (ks js before between : List ℕ) (n : ℕ) (count : n ≡ length ks) (left : between ≡ with_roads ks before) where
  tail_is : drop n between ≡ drop (length ks) before
  tail_is = ap (drop n) left ∙ drop_at ks (drop (length ks) before) n (sym count)

  rest_is : length between - n ≡ length (drop (length ks) before)
  rest_is = let a = ap length left in let b = length-append ks (drop (length ks) before) in omega arith

  part_is : take (length between - n) (drop n between) ≡ drop (length ks) before
  part_is = ap₂ take rest_is tail_is ∙ take-length (drop (length ks) before)

  -- they fit
  pub count_in : n ≤ length between
  count_in = let a = ap length left in let b = length-append ks (drop (length ks) before) in omega arith

  pub room_after : length (ks ++ js) ≤ length before → length js ≤ length (take (length between - n) (drop n between))
  room_after h = rw part_is (let a = length-drop (length ks) before in let b = length-append ks js in omega arith)

  pub two_written : (part : List ℕ) → part ≡ with_roads js (take (length between - n) (drop n between))
      → take n between ++ (part ++ drop (length between - n) (drop n between)) ≡ with_roads (ks ++ js) before
  two_written part right =
      ap₂ ◌++◌ (ap (take n) left ∙ take_at ks (drop (length ks) before) n (sym count))
      (ap₂ ◌++◌
      (right ∙ ap (λ (l : List ℕ). js ++ drop (length js) l) part_is ∙ ap (λ (l : List ℕ). js ++ l) (drop-drop (length js) (length ks) before))
      (ap₂ drop rest_is tail_is ∙ drop-length (drop (length ks) before))
      ∙ append-nil _)
      ∙ sym (append_assoc ks js (drop (length ks + length js) before))
      ∙ ap (λ (m : ℕ). (ks ++ js) ++ drop m before) (sym (length-append ks js))
