-- What one unit does, proved: every label afterwards is a step from the one before, and every arc of the settled state is taken up.
use Prim.Native.Nat.{ℕ, zero, suc, ◌≤◌, ◌<◌}
use Rattle.std.proofs.Math.Decide.{ℕ_discrete, dec_lt}
use Rattle.std.proofs.Common.{not-suc-le-zero, sym, ap}
use native.Mathlib.Omega.{arith}
use Rattle.std.specs.Prelude.{Bool, true, false, ◌≢◌, ◌≡◌, refl, T}
use Rattle.theory.specs.Settling.{Web, Label, nothing, waiting, settled, Table, put, offered, offer, relax, settle_label, settle}
use Rattle.theory.specs.Computing.{offer_skips, offer_makes}
use Rattle.theory.specs.Tests.{holds}
use Rattle.theory.specs.Labels.{Waits, Settled, Within, Change, same, fresh, sooner, change_then, change_within, change_settled, put_same, put_other, put_at}
use Rattle.theory.proofs.Labels.{offered_change, offered_within}
use Rattle.theory.specs.OneUnit.{Offers, Step, hastened, kept, reached, settles}

module _ (W : Web) (s a : ℕ) where
  -- one arc, offered or not
  offer_change : (k : ℕ) (L : Table) → k < W.arcs → (t : ℕ) → Change (Offers W s a t) (L t) (offer W s a k L t)
  offer_change k L kc t = go (W.leaves s k) refl
    where
      go : (x : Bool) → W.leaves s k ≡ x → Change (Offers W s a t) (L t) (offer W s a k L t)
      go true e =
          let o : t ≡ W.to s k → Offers W s a t (W.arr k a) k = λ i. record { is_arc = kc; leaves = rw e tt; leads = i; arrives = refl } in
          rw (ap (λ K. K t) (offer_makes W s a k L e)) (
          put_at (Change (Offers W s a t) (L t)) L (W.to s k) (offered (L (W.to s k)) (W.arr k a) k) t
          (λ i. rw (ap L (sym i)) (offered_change (L t) (W.arr k a) k (o i))) (λ ne. same)
          )
      go false e = rw (ap (λ K. K t) (offer_skips W s a k L e)) same

  -- the first n arcs
  relax_change : (n : ℕ) (L : Table) → n ≤ W.arcs → (t : ℕ) → Change (Offers W s a t) (L t) (relax W s a n L t)
  unfolding relax
  relax_change zero L h t = same
  relax_change (suc n) L h t = change_then (relax_change n L (omega arith) t) (offer_change n (relax W s a n L) h t)

  -- an offer that is made is taken up
  offer_within : (k : ℕ) (L : Table) → T (W.leaves s k) → ((c : ℕ) → Settled (L (W.to s k)) c → c ≤ W.arr k a)
      → Within (offer W s a k L (W.to s k)) (W.arr k a)
  offer_within k L lv h =
      rw (
        ap (λ K. K (W.to s k)) (offer_makes W s a k L (holds (W.leaves s k) lv)),
        put_same L (W.to s k) (offered (L (W.to s k)) (W.arr k a) k),
      ) (offered_within (L (W.to s k)) (W.arr k a) k h)

  -- so is each of the first n, where no settled state is later than any of them arrives
  relax_within : (n : ℕ) (L : Table) → n ≤ W.arcs → ((k t c : ℕ) → k < W.arcs → Settled (L t) c → c ≤ W.arr k a)
      → (k : ℕ) → k < n → T (W.leaves s k) → Within (relax W s a n L (W.to s k)) (W.arr k a)
  unfolding relax
  relax_within zero L h early k kn lv = absurd (not-suc-le-zero kn)
  relax_within (suc n) L h early k kn lv = go (dec_lt k n) (relax_within n L (omega arith) early k)
    where
      K : Table
      K = relax W s a n L

      go : Dec (k < n) → (k < n → T (W.leaves s k) → Within (K (W.to s k)) (W.arr k a)) → Within (offer W s a n K (W.to s k)) (W.arr k a)
      go (yes lt) ih = change_within (W.arr k a) (offer_change n K h (W.to s k)) (ih lt lv)
      go (no ge) ih =
          let e : k ≡ n = omega arith in
          rw e (offer_within n K (rw e at lv)
          (λ c d. early n (W.to s n) c h (change_settled c (relax_change n L (omega arith) (W.to s n)) d)))

  module _ (L : Table) (w : Waits (L s) a) where
    -- the table with state s settled, before its offers
    abbrev done : Table
    done = put L s (settle_label (L s))

    -- the label of every state after the unit
    pub settle_step : (t : ℕ) → Step W s a t (L t) (settle W s a L t)
    unfolding settle
    settle_step t = go (ℕ_discrete t s)
      where
        here : (l m : Label) → Waits l a → Change (Offers W s a s) (settle_label l) m → Step W s a s l m
        here nothing m w h = absurd w
        here (waiting b k) m w same = rw w (settles refl)
        here (settled b k) m w h = absurd w

        there : {l m : Label} → t ≢ s → Change (Offers W s a t) l m → Step W s a t l m
        there ne same = kept ne
        there ne (fresh q) = reached ne q
        there ne (sooner q h) = hastened ne q h

        offers : (t : ℕ) → Change (Offers W s a t) (done t) (relax W s a W.arcs done t)
        offers = relax_change W.arcs done (omega arith)

        go : Dec (t ≡ s) → Step W s a t (L t) (relax W s a W.arcs done t)
        go (yes e) = rw e (here (L s) (relax W s a W.arcs done s) w (rw (put_same L s (settle_label (L s))) at (offers s)))
        go (no ne) = there ne (rw (put_other L s (settle_label (L s)) t ne) at (offers t))

    -- every arc by which the settled state leaves is taken up, where arcs arrive no earlier than a and no settled state is later than a
    pub settle_within : ((k : ℕ) → k < W.arcs → a ≤ W.arr k a) → ((t c : ℕ) → Settled (L t) c → c ≤ a)
        → (k : ℕ) → k < W.arcs → T (W.leaves s k) → Within (settle W s a L (W.to s k)) (W.arr k a)
    unfolding settle
    settle_within later before = relax_within W.arcs done (omega arith) early
      where
        at_a : (l : Label) (c : ℕ) → Waits l a → Settled (settle_label l) c → c ≤ a
        at_a nothing c w h = absurd w
        at_a (waiting b k) c w h = omega arith
        at_a (settled b k) c w h = absurd w

        early : (k t c : ℕ) → k < W.arcs → Settled (done t) c → c ≤ W.arr k a
        early k t c kc h =
            let le : c ≤ a = put_at (λ l. Settled l c → c ≤ a) L s (settle_label (L s)) t (λ e. at_a (L s) c w) (λ ne. before t c) h in
            omega (arith, later k kc)
