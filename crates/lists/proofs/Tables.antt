-- A `match` on a number against a table of numbers.
-- Assumes nothing.
use Prim.Native.Nat.{ℕ, ◌+◌, ◌≤◌, ◌<◌}
use mathlib.Core.Path.{◌≡◌, refl, sym, subst, ◌∙◌}
use mathlib.Core.Bool.{Bool, true, false, cond}
use mathlib.Core.List.{List, [], ◌∷◌}
use mathlib.Core.Logic.{⊎_elim, inl, inr}
use types.Run.{OneOf}
use native.Mathlib.Omega.{arith}
use borrow.Author.Tests.{eq-eqb, ne_eqb, le-ltb, lt-leb}
use lib.Dec.{eqb, ltb, leb}
use Rattle.lists.specs.Lists.{member, every, all}
use Rattle.lists.proofs.Tests.{clash, and-true}
use Rattle.lists.proofs.Searches.{all-each}

pub one_of : (ks : List ℕ) (x : ℕ) → OneOf ks x → member ks x ≡ true
unfolding member
one_of [] x h = absurd h
one_of (k ∷ []) x h = rw (eq-eqb x k h)
one_of (k ∷ k' ∷ ks) x h = ⊎_elim (λ e. rw (eq-eqb x k e)) (λ r. later (eqb x k) (one_of (k' ∷ ks) x r)) h
  where
    later : (b : Bool) → member (k' ∷ ks) x ≡ true → cond b true (member (k' ∷ ks) x) ≡ true
    later true e = refl
    later false e = e

pub none_of : (ks : List ℕ) (x : ℕ) → (OneOf ks x → ⊥) → member ks x ≡ false
unfolding member
none_of [] x h = refl
none_of (k ∷ []) x h = rw (ne_eqb x k h)
none_of (k ∷ k' ∷ ks) x h = rw (ne_eqb x k (λ e. h (inl e))) (none_of (k' ∷ ks) x (λ r. h (inr r)))

-- ---- neighbours in a table, which a `match` asks as a range

pub in-range : (ks : List ℕ) (low n x : ℕ) → all (member ks) low n ≡ true → low ≤ x → x < low + n → member ks x ≡ true
in-range ks low n x e l h = all-each (member ks) low n e x l h

-- outside a range, or one of those that are excepted
abbrev pub spared : List ℕ → ℕ → ℕ → ℕ → Bool
spared es low high k = cond (ltb k low) true (cond (leb high k) true (member es k))

-- a range in which a table has at most the excepted numbers
pub in-gap : (ks es : List ℕ) (low high x : ℕ) → every (spared es low high) ks ≡ true → low ≤ x → x < high → (OneOf es x → ⊥) → member ks x ≡ false
unfolding member every
in-gap [] es low high x e l h n = refl
in-gap (k ∷ ks) es low high x e l h n =
    let b : (spared es low high k ≡ true) × (every (spared es low high) ks ≡ true) = and-true (spared es low high k) (every (spared es low high) ks) e in
    rw (ne_eqb x k (λ q. away q b.0)) (in-gap ks es low high x b.1 l h n)
  where
    away : x ≡ k → spared es low high k ≡ true → ⊥
    away q t =
        let m : member es k ≡ false = subst (λ (y : ℕ). member es y ≡ false) q (none_of es x n) in
        let f : spared es low high k ≡ false = rw (le-ltb k low (omega arith), lt-leb high k (omega arith), m) in
        clash (sym t ∙ f)

-- a part of a table
pub in_table : (ms ks : List ℕ) (x : ℕ) → every (member ms) ks ≡ true → OneOf ks x → member ms x ≡ true
unfolding every
in_table ms [] x e h = absurd h
in_table ms (k ∷ []) x e h = subst (λ (y : ℕ). member ms y ≡ true) (sym h) (and-true (member ms k) true e).0
in_table ms (k ∷ k' ∷ ks) x e h =
    let b : (member ms k ≡ true) × (every (member ms) (k' ∷ ks) ≡ true) = and-true (member ms k) (every (member ms) (k' ∷ ks)) e in
    ⊎_elim (λ q. subst (λ (y : ℕ). member ms y ≡ true) (sym q) b.0) (λ r. in_table ms (k' ∷ ks) x b.1 r) h
