-- An offer to a state of the work area: "an offer counts only for an unsettled state and only if none or a strictly later arrival waits
-- there". One that counts is a store; a state that begins to wait goes in front of the chain of the waiting.
use Prim.Native.Nat.{ℕ, zero, suc, ◌+◌, ◌*◌, ◌≤◌, ◌<◌}
use Rattle.std.specs.Prelude.{Bool, cond, List, ◌≢◌, ◌≡◌, ltb, length, get_or, set}
use Rattle.std.proofs.Math.Bool.{true, false}
use Rattle.std.proofs.Math.Path.{refl, ap, fun_ext}
use Rattle.std.proofs.Common.{sym, ◌∙◌, arith, length-set, get_or-set_same, get_or-set_other, lt-ltb, le-ltb}
use Rattle.std.proofs.Math.Decide.{ℕ_discrete, dec_lt}
use Rattle.block.specs.Choose.{choose, choose_yes, choose_no}
use Rattle.theory.specs.Settling.{Label, nothing, waiting, settled, Table, put, offered}
use Rattle.theory.specs.Labels.{put_same, put_other}
use Rattle.settle.specs.Work.{label_of, label_at, labels, labels_in, store, at_kind, elsewhere, Holds, holds_same, holds_then, holds_as, holds_store, holds_spare}
use Rattle.settle.specs.Chain.{WaitsAt, Chained, Rechained, chained_same, chained_more}

-- the work area in which state s begins to wait with arrival a by arc k, in front of the chain from h
abbrev pub begun : List ℕ → ℕ → ℕ → ℕ → ℕ → List ℕ
begun w h s a k = set (store w s 1 a k) (4 * s + 3) h

-- the work area after an offer of arrival a by arc k to state s, by the state's label; h is the first of the chain
abbrev pub offer_on : Label → List ℕ → ℕ → ℕ → ℕ → ℕ → List ℕ
offer_on nothing w h s a k = begun w h s a k
offer_on (waiting b p) w h s a k = choose (ltb a b) (store w s 1 a k) w
offer_on (settled b p) w h s a k = w

-- the first of the chain after it
abbrev pub head_on : Label → ℕ → ℕ → ℕ
head_on nothing h s = s
head_on (waiting b p) h s = h
head_on (settled b p) h s = h

-- the work area after an offer of arrival a by arc k to state s; h is the first of the chain
unfoldable pub offer_to : List ℕ → ℕ → ℕ → ℕ → ℕ → List ℕ
offer_to w h s a k = offer_on (label_at w s) w h s a k

-- the first of the chain after an offer to state s
unfoldable pub head_to : List ℕ → ℕ → ℕ → ℕ
head_to w h s = head_on (label_at w s) h s

-- What the code finds

module _ (w : List ℕ) (h s a k : ℕ) where
  -- the work area, by the kind
  offer_kind : (kind : ℕ) → get_or w (4 * s) 0 ≡ kind
      → offer_to w h s a k ≡ offer_on (label_of kind (get_or w (4 * s + 1) 0) (get_or w (4 * s + 2) 0)) w h s a k
  unfolding offer_to
  offer_kind kind e = ap (λ (n : ℕ). offer_on (label_of n (get_or w (4 * s + 1) 0) (get_or w (4 * s + 2) 0)) w h s a k) e

  -- nothing is there
  pub offer_fresh : get_or w (4 * s) 0 ≡ 0 → offer_to w h s a k ≡ begun w h s a k
  offer_fresh e = offer_kind 0 e

  -- a strictly later arrival waits
  pub offer_sooner : get_or w (4 * s) 0 ≡ 1 → a < get_or w (4 * s + 1) 0 → offer_to w h s a k ≡ store w s 1 a k
  offer_sooner e l = offer_kind 1 e ∙ choose_yes _ _ (lt-ltb a (get_or w (4 * s + 1) 0) l)

  -- an arrival as early waits
  pub offer_later : get_or w (4 * s) 0 ≡ 1 → get_or w (4 * s + 1) 0 ≤ a → offer_to w h s a k ≡ w
  offer_later e l = offer_kind 1 e ∙ choose_no _ _ (le-ltb a (get_or w (4 * s + 1) 0) l)

  -- the state is settled
  pub offer_settled : get_or w (4 * s) 0 ≢ 0 → get_or w (4 * s) 0 ≢ 1 → offer_to w h s a k ≡ w
  unfolding offer_to
  offer_settled n₀ n₁ = go (get_or w (4 * s) 0) n₀ n₁
    where
      go : (kind : ℕ) → kind ≢ 0 → kind ≢ 1 → offer_on (label_of kind (get_or w (4 * s + 1) 0) (get_or w (4 * s + 2) 0)) w h s a k ≡ w
      go zero p q = absurd (p refl)
      go (suc zero) p q = absurd (q refl)
      go (suc (suc n)) p q = refl

module _ (w : List ℕ) (h s : ℕ) where
  -- a state with nothing becomes the first
  pub head_fresh : get_or w (4 * s) 0 ≡ 0 → head_to w h s ≡ s
  unfolding head_to
  head_fresh e = ap (λ (n : ℕ). head_on (label_of n (get_or w (4 * s + 1) 0) (get_or w (4 * s + 2) 0)) h s) e

  -- any other leaves the first as it was
  pub head_stays : get_or w (4 * s) 0 ≢ 0 → head_to w h s ≡ h
  unfolding head_to
  head_stays n = go (get_or w (4 * s) 0) n
    where
      go : (kind : ℕ) → kind ≢ 0 → head_on (label_of kind (get_or w (4 * s + 1) 0) (get_or w (4 * s + 2) 0)) h s ≡ h
      go zero p = absurd (p refl)
      go (suc zero) p = refl
      go (suc (suc n)) p = refl

-- all of these
pub ruleset offer_cases = (offer_fresh, offer_sooner, offer_later, offer_settled, head_fresh, head_stays)

-- What it does to the table

-- a label put where it stands
pub put_again : (L : Table) (s : ℕ) (l : Label) → l ≡ L s → L ≡ put L s l
put_again L s l e = fun_ext (λ t. go t (ℕ_discrete t s))
  where
    go : (t : ℕ) → Dec (t ≡ s) → L t ≡ put L s l t
    go t (yes q) = rw q (sym e ∙ sym (put_same L s l))
    go t (no ne) = sym (put_other L s l t ne)

module _ (S : ℕ) (w : List ℕ) (h s a k : ℕ) (inside : s < S) (room : 4 * S ≤ length w) where
  -- an offer that changes nothing
  holds_again : (l : Label) → label_at w s ≡ l → Holds S w w (put (labels S w) s l)
  holds_again l e =
      holds_as S w w (labels S w) (put (labels S w) s l) (put_again (labels S w) s l (sym (labels_in S w s inside ∙ e))) (holds_same S w)

  -- an offer to a state of the work area is the rule's
  pub holds_offer : Holds S w (offer_to w h s a k) (put (labels S w) s (offered (labels S w s) a k))
  unfolding offer_to
  holds_offer = rw (labels_in S w s inside) (go (label_at w s) refl)
    where
      go : (l : Label) → label_at w s ≡ l → Holds S w (offer_on l w h s a k) (put (labels S w) s (offered l a k))
      go nothing e =
          holds_then S w (store w s 1 a k) (begun w h s a k) (put (labels S w) s (waiting a k)) (λ (L : Table). L)
          (holds_store S w s 1 a k inside room) (holds_spare S (store w s 1 a k) s h inside)
      go (waiting b p) e = test (ltb a b)
        where
          test : (t : Bool) → Holds S w (choose t (store w s 1 a k) w) (put (labels S w) s (cond t (waiting a k) (waiting b p)))
          test true = rw (choose_yes {t = true} (store w s 1 a k) w refl) (holds_store S w s 1 a k inside room)
          test false = rw (choose_no {t = false} (store w s 1 a k) w refl) (holds_again (waiting b p) e)
      go (settled b p) e = holds_again (settled b p) e

  -- What it does to the chain

  -- a state that begins to wait
  chained_begun : get_or w (4 * s) 0 ≡ 0 → Chained S w h → Chained S (begun w h s a k) s
  chained_begun e =
      chained_more S w (begun w h s a k) h s inside (λ q. omega arith)
      (other (4 * s) (omega arith) ∙ at_kind w s 1 a k (omega arith))
      (get_or-set_same (store w s 1 a k) (4 * s + 3) h 0
      (omega (arith, length-set w (4 * s) 1, length-set (set w (4 * s) 1) (4 * s + 1) a, length-set (set (set w (4 * s) 1) (4 * s + 1) a) (4 * s + 2) k)))
      (λ t ne. other (4 * t) (omega arith) ∙ elsewhere w s 1 a k (omega arith) (4 * t) (omega arith) (omega arith) (omega arith))
      (λ t ne. other (4 * t + 3) (omega arith) ∙ elsewhere w s 1 a k (omega arith) (4 * t + 3) (omega arith) (omega arith) (omega arith))
    where
      other : (j : ℕ) → j ≢ 4 * s + 3 → get_or (begun w h s a k) j 0 ≡ get_or (store w s 1 a k) j 0
      other j ne = get_or-set_other (store w s 1 a k) (4 * s + 3) j h 0 ne

  -- one that waits sooner
  chained_sooner : WaitsAt w s → Chained S w h → Chained S (store w s 1 a k) h
  chained_sooner e =
      chained_same S w (store w s 1 a k) h (λ t q. to t q (ℕ_discrete t s)) (λ t q. from t q (ℕ_discrete t s))
      (λ t. elsewhere w s 1 a k (omega arith) (4 * t + 3) (omega arith) (omega arith) (omega arith))
    where
      other : (t : ℕ) → t ≢ s → get_or (store w s 1 a k) (4 * t) 0 ≡ get_or w (4 * t) 0
      other t ne = elsewhere w s 1 a k (omega arith) (4 * t) (omega arith) (omega arith) (omega arith)

      to : (t : ℕ) → WaitsAt w t → Dec (t ≡ s) → WaitsAt (store w s 1 a k) t
      to t q (yes i) = rw i (at_kind w s 1 a k (omega arith))
      to t q (no ne) = other t ne ∙ q

      from : (t : ℕ) → WaitsAt (store w s 1 a k) t → Dec (t ≡ s) → WaitsAt w t
      from t q (yes i) = rw i e
      from t q (no ne) = sym (other t ne) ∙ q

  -- an offer keeps the waiting states chained
  pub rechained_offer : (v : List ℕ) (r : ℕ) → v ≡ offer_to w h s a k → r ≡ head_to w h s → Rechained S w h v r
  rechained_offer v r is first C = rw (is, first) (go (ℕ_discrete (get_or w (4 * s) 0) 0) (ℕ_discrete (get_or w (4 * s) 0) 1) (dec_lt a (get_or w (4 * s + 1) 0)))
    where
      go : Dec (get_or w (4 * s) 0 ≡ 0) → Dec (get_or w (4 * s) 0 ≡ 1) → Dec (a < get_or w (4 * s + 1) 0)
          → Chained S (offer_to w h s a k) (head_to w h s)
      go (yes e) y l = rw (offer_fresh w h s a k e, head_fresh w h s e) (chained_begun e C)
      go (no n) (yes e) (yes l) = rw (offer_sooner w h s a k e l, head_stays w h s n) (chained_sooner e C)
      go (no n) (yes e) (no g) = rw (offer_later w h s a k e (omega arith), head_stays w h s n) C
      go (no n) (no m) l = rw (offer_settled w h s a k n m, head_stays w h s n) C
