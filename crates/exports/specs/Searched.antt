-- What the search under its C name answers, and what it leaves in the three lent lists.
use Rattle.std.specs.Prelude.{ℕ, ◌*◌, ◌<◌, ◌≤◌, ◌≡◌, List, length, ltb}
use Rattle.std.proofs.Common.{ap, sym, ◌∙◌, lt-ltb, le-ltb}
use Rattle.block.specs.Choose.{choose, choose_yes, choose_no}
use Rattle.records.specs.Format.{volume_of}
use Rattle.search.specs.Answer.{answer_of, work_after, path_after, path_told, ruled, Reply, Searched}
use Rattle.exports.specs.Told.{told_number, told_places, tells_not}
use Rattle.exports.specs.Numbers.{answer_told}

-- the answer of the search, by the bytes and the rooms
abbrev pub asked : List ℕ → ℕ → ℕ → ℕ → ℕ → List ℕ → List ℕ → Reply
asked v from to x b work path = answer_of v from to x b (length work) (length path)

-- with fewer than 8 places in `out` nothing is changed; else the search leaves work and path as it says, and its answer is told
pub record HostSearched (v : List ℕ) (from to x b : ℕ) (work path out : List ℕ) (r : ℕ) (workOut pathOut outOut : List ℕ) : Type 0 where
  pub answers : r ≡ told_number out (answer_told (asked v from to x b work path))
  pub tells : outOut ≡ told_places out (answer_told (asked v from to x b work path))
  pub works : workOut ≡ choose (ltb (length out) 8) work (work_after (asked v from to x b work path) (8 * (volume_of v).junctions) work)
  pub writes : pathOut
      ≡ choose (ltb (length out) 8) path
      (path_after (asked v from to x b work path) (path_told (volume_of v) x (ruled (volume_of v) from to x b)) path)

module _ (v : List ℕ) (from to x b : ℕ) (work path out : List ℕ) where
  -- a list `out` that is too short
  pub host_short : length out < 8 → HostSearched v from to x b work path out 9 work path out
  host_short h =
      let told = answer_told (asked v from to x b work path) in
      record {
        answers = (tells_not out told h).0;
        tells = (tells_not out told h).1;
        works = sym (choose_yes _ _ (lt-ltb (length out) 8 h));
        writes = sym (choose_yes _ _ (lt-ltb (length out) 8 h));
      }

  -- one that is long enough, after the search answered a
  pub host_long : (a : Reply) (r : ℕ) (workOut pathOut outOut : List ℕ) → 8 ≤ length out → Searched v from to x b work path a workOut pathOut
      → r ≡ told_number out (answer_told a) → outOut ≡ told_places out (answer_told a)
      → HostSearched v from to x b work path out r workOut pathOut outOut
  host_long a r workOut pathOut outOut h s n p = record {
    answers = n ∙ ap (λ (q : Reply). told_number out (answer_told q)) s.answers;
    tells = p ∙ ap (λ (q : Reply). told_places out (answer_told q)) s.answers;
    works = s.clears ∙ ap (λ (q : Reply). work_after q (8 * (volume_of v).junctions) work) s.answers ∙ sym (choose_no _ _ (le-ltb (length out) 8 h));
    writes = s.writes
        ∙ ap (λ (q : Reply). path_after q (path_told (volume_of v) x (ruled (volume_of v) from to x b)) path) s.answers
        ∙ sym (choose_no _ _ (le-ltb (length out) 8 h));
  }

-- the contract of the search under its C name allows one outcome: number, work area, path list and places of `out`
pub one_host_search : (v : List ℕ) (from to x b : ℕ) (work path out : List ℕ) (r s : ℕ) (w₁ w₂ p₁ p₂ o₁ o₂ : List ℕ)
    → HostSearched v from to x b work path out r w₁ p₁ o₁ → HostSearched v from to x b work path out s w₂ p₂ o₂
    → (r ≡ s) × (w₁ ≡ w₂) × (p₁ ≡ p₂) × (o₁ ≡ o₂)
one_host_search v from to x b work path out r s w₁ w₂ p₁ p₂ o₁ o₂ a c =
    (a.answers ∙ sym c.answers, a.works ∙ sym c.works, a.writes ∙ sym c.writes, a.tells ∙ sym c.tells)
