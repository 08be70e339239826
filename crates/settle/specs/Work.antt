-- The lent work area as the settling rule's table of labels: state t has four numbers from place 4 t on, its kind (0 nothing, 1 waiting,
-- 2 settled), its arrival, its arc and what follows it in the chain of the waiting (Chain). Here is how a table is read, what a store of a state's three numbers does to it,
-- and `Holds`, in which every function that writes the work area says what it leaves.
use Rattle.std.specs.Prelude.{ℕ, zero, suc, ◌+◌, ◌*◌, ◌≤◌, ◌<◌, cond, List, ◌++◌, ◌≢◌, ◌≡◌, refl, ltb, length, get_or, set, drop, replicate}
use Rattle.std.proofs.Common.{sym, ◌∙◌, ap, arith, length-set, length-append, length-drop, get_or-set_same, get_or-set_other, drop-set-lt, drop_at, lt-ltb, le-ltb}
use Rattle.std.proofs.Math.Path.{fun_ext}
use Rattle.std.proofs.Math.Decide.{ℕ_discrete, dec_lt}
use Rattle.std.proofs.lemmas.List.{length-replicate, get_or-replicate}
use Rattle.std.proofs.Math.ListN.{get_or-append}
use Rattle.theory.specs.Settling.{Label, nothing, waiting, settled, Table, put}
use Rattle.theory.specs.Labels.{put_same, put_other}

-- The table

-- the label that a kind, an arrival and an arc make
abbrev pub label_of : ℕ → ℕ → ℕ → Label
label_of zero a k = nothing
label_of (suc zero) a k = waiting a k
label_of (suc (suc n)) a k = settled a k

-- the label at the four places of state t
abbrev pub label_at : List ℕ → ℕ → Label
label_at w t = label_of (get_or w (4 * t) 0) (get_or w (4 * t + 1) 0) (get_or w (4 * t + 2) 0)

-- the labels of the first S states; there are no others
unfoldable pub labels : ℕ → List ℕ → Table
labels S w t = cond (ltb t S) (label_at w t) nothing

-- the label of a state
pub labels_in : (S : ℕ) (w : List ℕ) (t : ℕ) → t < S → labels S w t ≡ label_at w t
unfolding labels
labels_in S w t h = rw (lt-ltb t S h)

-- past the last state there is nothing
pub labels_out : (S : ℕ) (w : List ℕ) (t : ℕ) → S ≤ t → labels S w t ≡ nothing
unfolding labels
labels_out S w t h = rw (le-ltb t S h)

-- What is written

-- w holds the table L of S states, and after them what w₀ holds
pub record Holds (S : ℕ) (w₀ w : List ℕ) (L : Table) : Type 0 where
  pub table : labels S w ≡ L
  pub tail : drop (4 * S) w ≡ drop (4 * S) w₀
  pub size : length w ≡ length w₀

-- nothing is written
pub holds_same : (S : ℕ) (w : List ℕ) → Holds S w w (labels S w)
holds_same S w = record { table = refl; tail = refl; size = refl }

-- one writes after another
pub holds_then : (S : ℕ) (w₀ w v : List ℕ) (L : Table) (f : Table → Table) → Holds S w₀ w L → Holds S w v (f (labels S w)) → Holds S w₀ v (f L)
holds_then S w₀ w v L f a b = record {
  table = b.table ∙ ap f a.table;
  tail = b.tail ∙ a.tail;
  size = b.size ∙ a.size;
}

-- the same table by another name
pub holds_as : (S : ℕ) (w₀ w : List ℕ) (L K : Table) → L ≡ K → Holds S w₀ w L → Holds S w₀ w K
holds_as S w₀ w L K e a = record { table = a.table ∙ e; tail = a.tail; size = a.size }

-- Zeroes

-- w with zeroes in its first n places
abbrev pub cleared : List ℕ → ℕ → List ℕ
cleared w n = replicate n 0 ++ drop n w

-- each of them reads as zero
pub cleared_zero : (n : ℕ) (w : List ℕ) (i : ℕ) → i < n → get_or (cleared w n) i 0 ≡ 0
cleared_zero n w i l = get_or-append (replicate n 0) (drop n w) 0 i (rw length-replicate l) ∙ get_or-replicate n i 0 0 l

-- in a cleared work area there is nothing
pub holds_cleared : (S : ℕ) (w : List ℕ) → 4 * S ≤ length w → Holds S w (cleared w (4 * S)) (λ t. nothing)
holds_cleared S w h = record {
  table = fun_ext (λ t. go t (dec_lt t S));
  tail = drop_at (replicate (4 * S) 0) (drop (4 * S) w) (4 * S) (length-replicate (4 * S) 0);
  size = simp (length-append, length-replicate, length-drop) (omega arith);
}
  where
    go : (t : ℕ) → Dec (t < S) → labels S (cleared w (4 * S)) t ≡ nothing
    go t (yes l) =
        labels_in S (cleared w (4 * S)) t l
        ∙ ap (λ (k : ℕ). label_of k (get_or (cleared w (4 * S)) (4 * t + 1) 0) (get_or (cleared w (4 * S)) (4 * t + 2) 0))
        (cleared_zero (4 * S) w (4 * t) (omega arith))
    go t (no g) = labels_out S (cleared w (4 * S)) t (omega arith)

-- A store

-- the three numbers of state s, stored
abbrev pub store : List ℕ → ℕ → ℕ → ℕ → ℕ → List ℕ
store w s kind a k = set (set (set w (4 * s) kind) (4 * s + 1) a) (4 * s + 2) k

module _ (w : List ℕ) (s kind a k : ℕ) (l : 4 * s + 4 ≤ length w) where
  -- the kind that is read there
  pub at_kind : get_or (store w s kind a k) (4 * s) 0 ≡ kind
  at_kind =
      get_or-set_other (set (set w (4 * s) kind) (4 * s + 1) a) (4 * s + 2) (4 * s) k 0 (omega arith)
      ∙ get_or-set_other (set w (4 * s) kind) (4 * s + 1) (4 * s) a 0 (omega arith)
      ∙ get_or-set_same w (4 * s) kind 0 (omega arith)

  -- the arrival
  at_arrival : get_or (store w s kind a k) (4 * s + 1) 0 ≡ a
  at_arrival =
      get_or-set_other (set (set w (4 * s) kind) (4 * s + 1) a) (4 * s + 2) (4 * s + 1) k 0 (omega arith)
      ∙ get_or-set_same (set w (4 * s) kind) (4 * s + 1) a 0 (omega (arith, length-set w (4 * s) kind))

  -- the arc
  at_arc : get_or (store w s kind a k) (4 * s + 2) 0 ≡ k
  at_arc =
      get_or-set_same (set (set w (4 * s) kind) (4 * s + 1) a) (4 * s + 2) k 0
      (omega (arith, length-set w (4 * s) kind, length-set (set w (4 * s) kind) (4 * s + 1) a))

  -- every other place is as it was
  pub elsewhere : (j : ℕ) → j ≢ 4 * s → j ≢ 4 * s + 1 → j ≢ 4 * s + 2 → get_or (store w s kind a k) j 0 ≡ get_or w j 0
  elsewhere j n₀ n₁ n₂ =
      get_or-set_other (set (set w (4 * s) kind) (4 * s + 1) a) (4 * s + 2) j k 0 n₂
      ∙ get_or-set_other (set w (4 * s) kind) (4 * s + 1) j a 0 n₁
      ∙ get_or-set_other w (4 * s) j kind 0 n₀

  -- the label that is read at the state that is stored
  label_same : label_at (store w s kind a k) s ≡ label_of kind a k
  label_same = rw (at_kind, at_arrival, at_arc)

  -- and at any other
  label_other : (t : ℕ) → t ≢ s → label_at (store w s kind a k) t ≡ label_at w t
  label_other t ne =
      rw (
        elsewhere (4 * t) (omega arith) (omega arith) (omega arith),
        elsewhere (4 * t + 1) (omega arith) (omega arith) (omega arith),
        elsewhere (4 * t + 2) (omega arith) (omega arith) (omega arith),
      )

-- a store of the three numbers of a state is a put
pub labels_store : (S : ℕ) (w : List ℕ) (s kind a k : ℕ) → s < S → 4 * S ≤ length w
    → labels S (store w s kind a k) ≡ put (labels S w) s (label_of kind a k)
labels_store S w s kind a k h l = fun_ext (λ t. go t (ℕ_discrete t s) (dec_lt t S))
  where
    go : (t : ℕ) → Dec (t ≡ s) → Dec (t < S) → labels S (store w s kind a k) t ≡ put (labels S w) s (label_of kind a k) t
    go t (yes e) d =
        rw e
        (labels_in S (store w s kind a k) s h
        ∙ label_same w s kind a k (omega arith)
        ∙ sym (put_same (labels S w) s (label_of kind a k)))
    go t (no ne) (yes i) =
        labels_in S (store w s kind a k) t i
        ∙ label_other w s kind a k (omega arith) t ne
        ∙ sym (labels_in S w t i)
        ∙ sym (put_other (labels S w) s (label_of kind a k) t ne)
    go t (no ne) (no o) =
        labels_out S (store w s kind a k) t (omega arith)
        ∙ sym (labels_out S w t (omega arith))
        ∙ sym (put_other (labels S w) s (label_of kind a k) t ne)

-- and leaves what stands after the states
pub holds_store : (S : ℕ) (w : List ℕ) (s kind a k : ℕ) → s < S → 4 * S ≤ length w
    → Holds S w (store w s kind a k) (put (labels S w) s (label_of kind a k))
holds_store S w s kind a k h l = record {
  table = labels_store S w s kind a k h l;
  tail =
      drop-set-lt (4 * S) (set (set w (4 * s) kind) (4 * s + 1) a) (4 * s + 2) k (omega arith)
      ∙ drop-set-lt (4 * S) (set w (4 * s) kind) (4 * s + 1) a (omega arith)
      ∙ drop-set-lt (4 * S) w (4 * s) kind (omega arith);
  size = simp length-set;
}

-- A store to the number that is no part of a label

-- leaves every label and what stands after the states
pub holds_spare : (S : ℕ) (w : List ℕ) (s x : ℕ) → s < S → Holds S w (set w (4 * s + 3) x) (labels S w)
holds_spare S w s x h = record {
  table = fun_ext (λ t. go t (dec_lt t S));
  tail = drop-set-lt (4 * S) w (4 * s + 3) x (omega arith);
  size = simp length-set;
}
  where
    go : (t : ℕ) → Dec (t < S) → labels S (set w (4 * s + 3) x) t ≡ labels S w t
    go t (yes l) =
        labels_in S (set w (4 * s + 3) x) t l
        ∙ rw (
          get_or-set_other w (4 * s + 3) (4 * t) x 0 (omega arith),
          get_or-set_other w (4 * s + 3) (4 * t + 1) x 0 (omega arith),
          get_or-set_other w (4 * s + 3) (4 * t + 2) x 0 (omega arith),
        )
        (sym (labels_in S w t l))
    go t (no g) = labels_out S (set w (4 * s + 3) x) t (omega arith) ∙ sym (labels_out S w t (omega arith))
