-- How an answer is told to a host: a number, and values for the first places of the lent list `out`. A list with fewer than 8 places
-- gets 9, and nothing is changed.
use Rattle.std.specs.Prelude.{ℕ, ◌≤◌, ◌<◌, ◌≡◌, List, ◌++◌, length, drop, ltb}
use Rattle.std.proofs.Common.{ap, sym, ◌∙◌, zero-add, arith, lt-ltb, le-ltb}
use Rattle.std.proofs.lemmas.List.Edits.{sets, sets-eq}
use Rattle.block.specs.Choose.{choose, choose_yes, choose_no}

-- the number returned, and the values of the first places
pub record Told : Type 0 where
  pub number : ℕ
  pub values : List ℕ

-- the list with the values in its first places, and after them what stood there
unfoldable pub with_first : List ℕ → List ℕ → List ℕ
with_first values out = values ++ drop (length values) out

-- what is returned
unfoldable pub told_number : List ℕ → Told → ℕ
told_number out told = choose (ltb (length out) 8) 9 told.number

-- what `out` holds afterwards
unfoldable pub told_places : List ℕ → Told → List ℕ
told_places out told = choose (ltb (length out) 8) out (with_first told.values out)

-- a list that is too short

pub short_number : (out : List ℕ) (told : Told) → length out < 8 → told_number out told ≡ 9
unfolding told_number
short_number out told h = choose_yes _ _ (lt-ltb (length out) 8 h)

pub short_places : (out : List ℕ) (told : Told) → length out < 8 → told_places out told ≡ out
unfolding told_places
short_places out told h = choose_yes _ _ (lt-ltb (length out) 8 h)

-- a list that is long enough

pub long_number : (out : List ℕ) (told : Told) → 8 ≤ length out → told_number out told ≡ told.number
unfolding told_number
long_number out told h = choose_no _ _ (le-ltb (length out) 8 h)

pub long_places : (out : List ℕ) (told : Told) → 8 ≤ length out → told_places out told ≡ with_first told.values out
unfolding told_places
long_places out told h = choose_no _ _ (le-ltb (length out) 8 h)

-- values that are stored one after the other
pub stored : (out values : List ℕ) → length values ≤ length out → sets out 0 values ≡ with_first values out
unfolding with_first
stored out values h = sets-eq values out 0 (omega arith) ∙ ap (λ (n : ℕ). values ++ drop n out) (zero-add (length values))

-- what a function of the C face ends with: a list that is too short, or an answer that is told

pub tells_not : (out : List ℕ) (told : Told) → length out < 8 → (9 ≡ told_number out told) × (out ≡ told_places out told)
tells_not out told h = (sym (short_number out told h), sym (short_places out told h))

pub tells : (out places : List ℕ) (said told : Told) → said ≡ told → 8 ≤ length out → places ≡ with_first said.values out
    → (said.number ≡ told_number out told) × (places ≡ told_places out told)
tells out places said told is h e = (
  ap (λ (t : Told). t.number) is ∙ sym (long_number out told h),
  e ∙ ap (λ (t : Told). with_first t.values out) is ∙ sym (long_places out told h),
)

-- the same of a number and places that are what is said
pub tells_as : (out places : List ℕ) (number : ℕ) (said told : Told) → said ≡ told → 8 ≤ length out
    → (number ≡ said.number) × (places ≡ with_first said.values out)
    → (number ≡ told_number out told) × (places ≡ told_places out told)
tells_as out places number said told is h e = let t = tells out places said told is h e.1 in (e.0 ∙ t.0, t.1)

-- a function of the C face that tells its answer has one outcome: its number, and the places of `out`
pub one_telling : (out : List ℕ) (told : Told) (r s : ℕ) (a b : List ℕ) → (r ≡ told_number out told) × (a ≡ told_places out told)
    → (s ≡ told_number out told) × (b ≡ told_places out told) → (r ≡ s) × (a ≡ b)
one_telling out told r s a b p q = (p.0 ∙ sym q.0, p.1 ∙ sym q.1)
