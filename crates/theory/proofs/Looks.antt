-- The pick and the view are right: the least waiting arrival, and what is seen of it.
use Rattle.std.specs.Prelude.{ℕ, zero, suc, ◌≤◌, ◌<◌, Bool, true, false, cond, not, ◌≡◌, refl, T, eqb, ltb}
use Rattle.std.proofs.Math.Decide.{dec_lt}
use Rattle.std.proofs.Common.{not-suc-le-zero, arith, eqb→eq, ltb→lt, nltb→le}
use Rattle.theory.specs.Settling.{Web, Label, nothing, waiting, settled, Table, Pick, nobody, picked, better, least, waits_with, destination, next, view_from, look}
use Rattle.theory.specs.Labels.{Waits}
use Rattle.theory.specs.Tests.{eq_test}
use Rattle.theory.specs.Looks.{Next, Picks, Sees}

-- a waiting state below n + 1 is below n, or is n
split : {X : Type 0} (L : Table) (n t b : ℕ) → t < suc n → Waits (L t) b → (t < n → X) → (t ≡ n → Waits (L n) b → X) → X
split {X} L n t b h w f g = go (dec_lt t n)
  where
    go : Dec (t < n) → X
    go (yes lt) = f lt
    go (no ge) = let e : t ≡ n = omega arith in g e (rw e at w)

-- one more state, that does not wait
keep : (L : Table) (n : ℕ) (q : Pick) → ((b : ℕ) → Waits (L n) b → ⊥) → Picks L n q → Picks L (suc n) q
keep L n nobody z h = λ t b tn w. split L n t b tn w (λ lt. h t b lt w) (λ e. z b)
keep L n (picked s a) z h = record {
  inside = omega (arith, h.inside);
  waits = h.waits;
  least_of = λ t b tn w. split L n t b tn w (λ lt. h.least_of t b lt w) (λ e v. absurd (z b v));
  lowest = λ t b tn w ba. split L n t b tn w (λ lt. h.lowest t b lt w ba) (λ e v. absurd (z b v));
}

-- one more state, with label l
better_right : (L : Table) (n : ℕ) (q : Pick) (l : Label) → L n ≡ l → Picks L n q → Picks L (suc n) (better q n l)
better_right L n q nothing e h = keep L n q (λ b w. (rw e at w)) h
better_right L n nobody (waiting a p) e h = record {
  inside = omega arith;
  waits = rw e refl;
  least_of = λ t b tn w. split L n t b tn w (λ lt. absurd (h t b lt w)) (λ _ v. let v : a ≡ b = rw e at v in omega arith);
  lowest = λ t b tn w ba. split L n t b tn w (λ lt. absurd (h t b lt w)) (λ i v. omega arith);
}
better_right L n (picked s c) (waiting a p) e h = go (ltb a c) (ltb→lt a c) (nltb→le a c)
  where
    go : (x : Bool) → (T x → a < c) → (T (not x) → c ≤ a) → Picks L (suc n) (cond x (picked n a) (picked s c))
    go true f g = record {
      inside = omega arith;
      waits = rw e refl;
      least_of = λ t b tn w. split L n t b tn w (λ lt. omega (arith, h.least_of t b lt w, f tt)) (λ _ v. let v : a ≡ b = rw e at v in omega arith);
      lowest = λ t b tn w ba. split L n t b tn w (λ lt. absurd (omega (arith, h.least_of t b lt w, f tt))) (λ i v. omega arith);
    }
    go false f g = record {
      inside = omega (arith, h.inside);
      waits = h.waits;
      least_of = λ t b tn w. split L n t b tn w (λ lt. h.least_of t b lt w) (λ _ v. let v : a ≡ b = rw e at v in omega (arith, g tt));
      lowest = λ t b tn w ba. split L n t b tn w (λ lt. h.lowest t b lt w ba) (λ i v. omega (arith, h.inside));
    }
better_right L n q (settled a p) e h = keep L n q (λ b w. (rw e at w)) h

-- the pick is the document's: the least waiting arrival, among equals climbing before descending, then the lower junction
pub least_right : (L : Table) (n : ℕ) → Picks L n (least n L)
unfolding least
least_right L zero = λ t b h w. not-suc-le-zero h
least_right L (suc n) = better_right L n (least n L) (L n) refl (least_right L n)

-- the view of a right pick is right
view_right : (W : Web) (d : ℕ) (L : Table) (q : Pick) → d < W.states → Picks L W.states q → Sees W d L (view_from (L d) q)
view_right W d L nobody dn h = h
view_right W d L (picked s a) dn h = go (L d) refl
  where
    onward : ((b : ℕ) → Waits (L d) b → a < b) → Next W d L s a
    onward f = record { inside = h.inside; waits = h.waits; least_of = h.least_of; not_yet = f }

    go : (l : Label) → L d ≡ l → Sees W d L (cond (waits_with l a) (destination a) (next s a))
    go nothing e = onward (λ b w. absurd (rw e at w))
    go (waiting c p) e = test (eqb c a) (eqb→eq c a) (λ i. eq_test c a i)
      where
        w : Waits (L d) c
        w = rw e refl

        test : (x : Bool) → (T x → c ≡ a) → (c ≡ a → T x) → Sees W d L (cond x (destination a) (next s a))
        test true f g = (rw (f tt) at w, h.least_of)
        test false f g = onward (λ b v. let i : c ≡ b = rw e at v in omega (arith, h.least_of d c dn w, g))
    go (settled c p) e = onward (λ b w. absurd (rw e at w))

-- what is seen is so
pub look_right : (W : Web) (d : ℕ) (L : Table) → d < W.states → Sees W d L (look W d L)
unfolding look
look_right W d L dn = view_right W d L (least W.states L) dn (least_right L W.states)
