-- Loops over a range of numbers: `all` and `first_from` as an invariant "what remains gives what the whole gives".
-- Assumes nothing.
use Prim.Native.Nat.{ℕ, zero, suc, ◌+◌, ◌-◌, ◌<◌, ◌≤◌}
use mathlib.Core.Path.{◌≡◌, refl, sym, ap, subst, ◌∙◌}
use mathlib.Core.Bool.{Bool, true, false, ◌&&◌, cond}
use mathlib.Core.List.{List}
use mathlib.Core.Logic.{◌⊎◌, ⊎_elim, inl, inr}
use native.Mathlib.Omega.{arith}
use native.Mathlib.Nat.{sub-zero, eq-or-lt_of_le}
use native.Mathlib.Numerals.{add-one}
use lib.ListN.{length, get_or, drop, drop_of_length-le}
use lib.Seq.{drop-cons}
use Rattle.lists.specs.Lists.{all, first_from, every, sum}
use Rattle.std.specs.Prelude.{Some, None, Option}
use Rattle.lists.proofs.Tests.{clash, and-true, Cut, equal, apart, cut}

-- what is left of a count at k below n is one more than at k + 1
pub less_one : (n k : ℕ) → k < n → n - k ≡ suc (n - (k + 1))
less_one n k h = omega arith

module _ (p : ℕ → Bool) (n : ℕ) where
  all-step : (k : ℕ) → k < n → all p k (n - k) ≡ (p k && all p (k + 1) (n - (k + 1)))
  unfolding all
  all-step k h = rw (less_one n k h)

  pub all_start : all p 0 (n - 0) ≡ all p 0 n
  all_start = simp sub-zero

  pub all-fails : (w : Bool) (k : ℕ) → k < n → all p k (n - k) ≡ w → p k ≡ false → false ≡ w
  all-fails w k h inv e = sym (ap (λ (t : Bool). t && all p (k + 1) (n - (k + 1))) e) ∙ sym (all-step k h) ∙ inv

  pub all-again : (w : Bool) (k : ℕ) → k < n → all p k (n - k) ≡ w → p k ≡ true → all p (k + 1) (n - (k + 1)) ≡ w
  all-again w k h inv e = sym (ap (λ (t : Bool). t && all p (k + 1) (n - (k + 1))) e) ∙ sym (all-step k h) ∙ inv

  pub all_end : (w : Bool) (k : ℕ) → n ≤ k → all p k (n - k) ≡ w → true ≡ w
  unfolding all
  all_end w k h inv =
      let e : n - k ≡ 0 = omega arith in
      rw e at inv

  first_step : (k : ℕ) → k < n → first_from p k (n - k) ≡ cond (p k) (Some k) (first_from p (k + 1) (n - (k + 1)))
  unfolding first_from
  first_step k h = rw (less_one n k h)

  pub first-start : first_from p 0 (n - 0) ≡ first_from p 0 n
  first-start = simp sub-zero

  pub first_found : (w : Option ℕ) (k : ℕ) → k < n → first_from p k (n - k) ≡ w → p k ≡ true → Some k ≡ w
  first_found w k h inv e = sym (ap (λ (t : Bool). cond t (Some k) (first_from p (k + 1) (n - (k + 1)))) e) ∙ sym (first_step k h) ∙ inv

  pub first-again : (w : Option ℕ) (k : ℕ) → k < n → first_from p k (n - k) ≡ w → p k ≡ false → first_from p (k + 1) (n - (k + 1)) ≡ w
  first-again w k h inv e = sym (ap (λ (t : Bool). cond t (Some k) (first_from p (k + 1) (n - (k + 1)))) e) ∙ sym (first_step k h) ∙ inv

  pub first-end : (w : Option ℕ) (k : ℕ) → n ≤ k → first_from p k (n - k) ≡ w → None ≡ w
  unfolding first_from
  first-end w k h inv =
      let e : n - k ≡ 0 = omega arith in
      rw e at inv

-- ---- what an answer says

-- what holds of all holds of each
pub all-each : (p : ℕ → Bool) (i k : ℕ) → all p i k ≡ true → (j : ℕ) → i ≤ j → j < i + k → p j ≡ true
unfolding all
all-each p i zero e j l h = absurd (omega arith)
all-each p i (suc k) e j l h =
    let b : (p i ≡ true) × (all p (i + 1) k ≡ true) = and-true _ _ e in
    ⊎_elim
    (λ q. subst (λ (m : ℕ). p m ≡ true) q b.0)
    (λ (q : i < j). all-each p (i + 1) k b.1 j (omega arith) (omega arith))
    (eq-or-lt_of_le l)

-- what holds of each holds of all
pub each_all : (p : ℕ → Bool) (i k : ℕ) → ((j : ℕ) → i ≤ j → j < i + k → p j ≡ true) → all p i k ≡ true
unfolding all
each_all p i zero f = refl
each_all p i (suc k) f = rw (f i (omega arith) (omega arith)) (each_all p (i + 1) k (λ j l h. f j (omega arith) (omega arith)))

cond-at : (t : Bool) (i j : ℕ) (rest : Option ℕ) → cond t (Some i) rest ≡ Some j → ((t ≡ true) × (i ≡ j)) ⊎ ((t ≡ false) × (rest ≡ Some j))
cond-at true i j rest e = inl (refl, cc)
cond-at false i j rest e = inr (refl, e)

-- what a search finds: a place in its range at which the test holds
pub record Hit (p : ℕ → Bool) (i k j : ℕ) : Type 0 where
  pub low : i ≤ j
  pub high : j < i + k
  pub holds : p j ≡ true

pub first-hit : (p : ℕ → Bool) (i k j : ℕ) → first_from p i k ≡ Some j → Hit p i k j
unfolding first_from
first-hit p i zero j e = let z : ◌≡◌ {A = ℕ} 0 1 = cc in absurd (omega arith)
first-hit p i (suc k) j e =
    ⊎_elim
    (λ w. record { low = omega arith; high = omega arith; holds = subst (λ (m : ℕ). p m ≡ true) w.1 w.0 })
    (λ w. let h : Hit p (i + 1) k j = first-hit p (i + 1) k j w.1 in
    record { low = omega arith; high = omega arith; holds = h.holds })
    (cond-at (p i) i j (first_from p (i + 1) k) e)

-- none before what a search finds passes
pub first-before : (p : ℕ → Bool) (n i k : ℕ) → first_from p i n ≡ Some k → (j : ℕ) → i ≤ j → j < k → p j ≡ false
unfolding first_from
first-before p zero i k e j lo hi = clash (cc)
first-before p (suc n) i k e j lo hi = go (p i) refl (cut i j) e (λ d l. first-before p n (i + 1) k d j l hi)
  where
    go : (t : Bool) → p i ≡ t → Cut i j → cond t (Some i) (first_from p (i + 1) n) ≡ Some k → (first_from p (i + 1) n ≡ Some k → i + 1 ≤ j → p j ≡ false) → p j ≡ false
    go true x c e down = let z : i ≡ k = cc in absurd (omega arith)
    go false x (equal t q) e down = rw (sym q) x
    go false x (apart t q) e down = down e (omega (arith, q))

-- where none is found, none passes
pub first-none : (p : ℕ → Bool) (n i : ℕ) → first_from p i n ≡ None → (j : ℕ) → i ≤ j → j < i + n → p j ≡ false
unfolding first_from
first-none p zero i e j lo hi = absurd (omega arith)
first-none p (suc n) i e j lo hi = go (p i) refl (cut i j) e (λ d l. first-none p n (i + 1) d j l (omega arith))
  where
    go : (t : Bool) → p i ≡ t → Cut i j → cond t (Some i) (first_from p (i + 1) n) ≡ None → (first_from p (i + 1) n ≡ None → i + 1 ≤ j → p j ≡ false) → p j ≡ false
    go true x c e down = clash (cc)
    go false x (equal t q) e down = rw (sym q) x
    go false x (apart t q) e down = down e (omega (arith, q))

-- ---- every element, as a loop looks at them

module _ (p : ℕ → Bool) (s : List ℕ) (w : Bool) (i : ℕ) where
  every-step : i < length s → every p (drop i s) ≡ (p (get_or s i 0) && every p (drop (i + 1) s))
  unfolding every
  every-step h = rw (add-one, drop-cons s i 0)

  pub every-fails : i < length s → every p (drop i s) ≡ w → p (get_or s i 0) ≡ false → false ≡ w
  every-fails h inv e = sym (ap (λ (t : Bool). t && every p (drop (i + 1) s)) e) ∙ sym (every-step h) ∙ inv

  pub every-again : i < length s → every p (drop i s) ≡ w → p (get_or s i 0) ≡ true → every p (drop (i + 1) s) ≡ w
  every-again h inv e = sym (ap (λ (t : Bool). t && every p (drop (i + 1) s)) e) ∙ sym (every-step h) ∙ inv

  pub every-end : length s ≤ i → every p (drop i s) ≡ w → true ≡ w
  unfolding every
  every-end h inv = rw (drop_of_length-le s h) at inv

-- ---- sums, as a loop adds them

pub sum_step : (s : List ℕ) (i : ℕ) → i < length s → sum (drop i s) ≡ get_or s i 0 + sum (drop (i + 1) s)
unfolding sum
sum_step s i h = rw (add-one, drop-cons s i 0)

pub sum-none : (s : List ℕ) (i : ℕ) → length s ≤ i → sum (drop i s) ≡ 0
unfolding sum
sum-none s i h = rw (drop_of_length-le s h)
