-- The last index whose key is at most x: the point in force of a road and the piece in force of an edge are both this one, and the
-- code has one search for it. First the definition, then what it says, and at the end rising keys.
use Rattle.std.specs.Prelude.{ℕ, zero, suc, ◌+◌, ◌-◌, ◌/◌, ◌≤◌, ◌<◌, ◌≡◌, refl, Bool, true, false, leb}
use Rattle.std.proofs.Common.{ap, sym, ◌∙◌, subst, ⊎_elim, le-leb, leb-true, leb-false, arith, eq-or-lt_of_le, le_of_suc-le-suc, lt-suc_self}
use Rattle.std.proofs.lemmas.Bool.{lt-leb}
use Rattle.block.specs.Choose.{choose, choose_yes, choose_no}

-- the last index below n whose key is at most x; 0 where there is none
unfoldable pub last_le : (ℕ → ℕ) → ℕ → ℕ → ℕ
last_le key zero x = 0
last_le key (suc n) x = let r = last_le key n x in choose (leb (key n) x) n r

-- i is the last index below n whose key is at most x
pub record IsLast (key : ℕ → ℕ) (n x i : ℕ) : Type 0 where
  pub below : i < n
  pub le : key i ≤ x
  pub above : (j : ℕ) → i < j → j < n → x < key j

-- where the first key is at most x, `last_le` is the last such index
pub last_is_last : (key : ℕ → ℕ) (n x : ℕ) → 0 < n → key 0 ≤ x → IsLast key n x (last_le key n x)
unfolding last_le
last_is_last key zero x h k = absurd (omega arith)
last_is_last key (suc zero) x h k =
    rw (choose_yes {A = ℕ} 0 0 (le-leb _ _ k)) (record { below = omega arith; le = k; above = λ j a b. absurd (omega arith) })
last_is_last key (suc (suc n)) x h k = go (leb (key (suc n)) x) refl (last_is_last key (suc n) x (omega arith) k)
  where
    go : (t : Bool) → leb (key (suc n)) x ≡ t → IsLast key (suc n) x (last_le key (suc n) x)
        → IsLast key (suc (suc n)) x (choose (leb (key (suc n)) x) (suc n) (last_le key (suc n) x))
    go true e r =
        rw (choose_yes (suc n) (last_le key (suc n) x) e)
        (record { below = omega arith; le = leb-true _ _ e; above = λ j a b. absurd (omega arith) })
    go false e r =
        rw (choose_no (suc n) (last_le key (suc n) x) e)
        (record {
          below = let q = r.below in omega arith;
          le = r.le;
          above = λ j a b.
              ⊎_elim
              (λ z. subst (λ (m : ℕ). x < key m) (sym z) (leb-false _ _ e))
              (λ z. r.above j a z)
              (eq-or-lt_of_le (le_of_suc-le-suc b));
        })

-- only one index is the last
pub last_is : (key : ℕ → ℕ) (n x i : ℕ) → IsLast key n x i → last_le key n x ≡ i
unfolding last_le
last_is key zero x i l = absurd (let a = l.below in omega arith)
last_is key (suc n) x i l =
    ⊎_elim
    (λ e. choose_yes _ _ (le-leb _ _ (subst (λ (k : ℕ). key k ≤ x) e l.le)) ∙ sym e)
    (λ h.
    choose_no _ _ (lt-leb _ _ (l.above n h (lt-suc_self n)))
    ∙ last_is key n x i (record { below = h; le = l.le; above = λ j a b. l.above j a (omega arith) }))
    (eq-or-lt_of_le (le_of_suc-le-suc l.below))

-- Rising keys.

-- each of the n keys is below the next
abbrev pub Rises : (ℕ → ℕ) → ℕ → Type 0
Rises key n = (i : ℕ) → i + 1 < n → key i < key (i + 1)

-- and so below every later one
pub rise_far : (key : ℕ → ℕ) (n : ℕ) → Rises key n → (i j : ℕ) → i ≤ j → j < n → key i ≤ key j
rise_far key n r i zero a b = let e : i ≡ 0 = omega arith in rw e (omega arith)
rise_far key n r i (suc j) a b =
    ⊎_elim
    (λ e. rw e (omega arith))
    (λ h.
    let s : key j < key (j + 1) = r j (omega arith) in
    let e : key (j + 1) ≡ key (suc j) = ap key (omega arith) in
    omega (arith, rise_far key n r i j (omega arith) (omega arith)))
    (eq-or-lt_of_le a)

-- what lies above x at index m lies above x from m on
pub above_from : (key : ℕ → ℕ) (n x m : ℕ) → Rises key n → x < key m → (j : ℕ) → m ≤ j → j < n → x < key j
above_from key n x m r h j a b = omega (arith, rise_far key n r m j a b)

-- The search for it.

-- the last index whose key is at most x is one of the `left` indices from `lo` on
pub record Within (key : ℕ → ℕ) (n x lo left : ℕ) : Type 0 where
  pub some : 0 < left
  pub inside : lo + left ≤ n
  pub le : key lo ≤ x
  pub above : (j : ℕ) → lo + left ≤ j → j < n → x < key j

pub within_all : (key : ℕ → ℕ) (n x : ℕ) → 0 < n → key 0 ≤ x → Within key n x 0 n
within_all key n x h k = record { some = h; inside = omega arith; le = k; above = λ j a b. absurd (omega arith) }

-- half of them are left out, by the key in the middle
module _ (key : ℕ → ℕ) (n x lo left : ℕ) (W : Within key n x lo left) (more : 1 < left) where
  pub upper_half : key (lo + left / 2) ≤ x → Within key n x (lo + left / 2) (left - left / 2)
  upper_half k = record {
    some = omega arith;
    inside = omega (arith, W.inside);
    le = k;
    above = λ j a b. W.above j (omega arith) b;
  }

  pub lower_half : Rises key n → x < key (lo + left / 2) → Within key n x lo (left - left / 2)
  lower_half r k = record {
    some = omega arith;
    inside = omega (arith, W.inside);
    le = W.le;
    above = λ j a b. above_from key n x (lo + left / 2) r k j (omega arith) b;
  }

-- one is left
pub within_one : (key : ℕ → ℕ) (n x lo left : ℕ) → Within key n x lo left → left ≤ 1 → lo ≡ last_le key n x
within_one key n x lo left W one =
    sym (last_is key n x lo (record { below = omega (arith, W.some, W.inside); le = W.le; above = λ j a b. W.above j (omega (arith, W.some)) b }))
