-- A search over places against a search over the list of what stands there: what is found, and the list with what is found changed.
-- Assumes nothing.
use Prim.Native.Nat.{ℕ, zero, suc, ◌+◌, ◌≤◌, ◌<◌}
use mathlib.Core.Path.{◌≡◌, refl, sym, ap, ◌∙◌}
use mathlib.Core.Bool.{Bool, true, false, not, cond}
use mathlib.Core.List.{List, [], ◌∷◌, map}
use Rattle.std.specs.Prelude.{Option, None, Some}
use native.Mathlib.Omega.{arith}
use native.Mathlib.Numerals.{add-one}
use lib.Dec.{eqb, ltb}
use lib.ListN.{length}
use borrow.Author.Tests.{eq-eqb, ne_eqb, lt-ltb, le-ltb, ltb-true, ltb-false}
use Rattle.lists.specs.Lists.{range, first_from, is_some}
use Rattle.lists.proofs.Ranges.{map_range}
use Rattle.lists.proofs.Searches.{Hit, first-hit}
use Rattle.lists.proofs.Tests.{Cut, equal, apart, cut}
use Rattle.entries.specs.Entries.{Maker}
use Rattle.page.specs.Page.{occupied}
use Rattle.makers.specs.Makers.{named, find_maker}
use Rattle.update.specs.Parts.{Reading}
use Rattle.update.proofs.Model.{set_at, rewrite, allocate, on_reading}
use Rattle.update.proofs.TableLaws.{length-range}

-- what follows from a place that was found, or from none
abbrev pub found_by : {B : Type 0} → (ℕ → B) → B → Option ℕ → B
found_by f d (Some k) = f k
found_by f d None = d

abbrev pub is_at : Option ℕ → Bool
is_at (Some k) = true
is_at None = false

-- ---- a search over places

-- the same tests find the same place
pub first-same : (p q : ℕ → Bool) (n i : ℕ) → ((j : ℕ) → i ≤ j → j < i + n → p j ≡ q j) → first_from p i n ≡ first_from q i n
unfolding first_from
first-same p q zero i h = refl
first-same p q (suc n) i h = rw (h i (omega arith) (omega arith)) (ap (cond (q i) (Some i)) (first-same p q n (i + 1) (λ j l u. h j (omega arith) (omega arith))))

-- a place that passes, with none before it that does, is the one that is found
pub first-is : (p : ℕ → Bool) (n i k : ℕ) → i ≤ k → k < i + n → p k ≡ true → ((j : ℕ) → i ≤ j → j < k → p j ≡ false) → first_from p i n ≡ Some k
unfolding first_from
first-is p zero i k lo hi e b = absurd (omega arith)
first-is p (suc n) i k lo hi e b = go (cut i k) (λ l. first-is p n (i + 1) k l (omega arith) e (λ j l u. b j (omega arith) u))
  where
    go : Cut i k → (i + 1 ≤ k → first_from p (i + 1) n ≡ Some k) → cond (p i) (Some i) (first_from p (i + 1) n) ≡ Some k
    go (equal t q) down = rw (q, e)
    go (apart t q) down = rw (b i (omega arith) (omega (arith, q))) (down (omega (arith, q)))

-- ---- a search over a list

-- what the first member that passes a test gives; the list with that member changed
abbrev pub first_by : {A B : Type 0} → (A → Bool) → (A → B) → B → List A → B
first_by t h d [] = d
first_by t h d (x ∷ xs) = cond (t x) (h x) (first_by t h d xs)

abbrev pub change_first : {A : Type 0} → (A → Bool) → (A → A) → List A → List A
change_first t g [] = []
change_first t g (x ∷ xs) = cond (t x) (g x ∷ xs) (x ∷ change_first t g xs)

module _ {A : Type 0} (t : A → Bool) (f : ℕ → A) where
  abbrev place : ℕ → ℕ → Option ℕ
  place i n = first_from (λ k. t (f k)) i n

  pub first-by : {B : Type 0} (h : A → B) (d : B) (n i : ℕ) → first_by t h d (map f (range n i)) ≡ found_by (λ k. h (f k)) d (first_from (λ k. t (f k)) i n)
  unfolding first_from
  first-by h d zero i = refl
  first-by {B} h d (suc n) i = rw (add-one i) (go (t (f i)) (first-by h d n (suc i)))
    where
      go : (b : Bool) → first_by t h d (map f (range n (suc i))) ≡ found_by (λ k. h (f k)) d (place (suc i) n)
          → cond b (h (f i)) (first_by t h d (map f (range n (suc i)))) ≡ found_by (λ k. h (f k)) d (cond b (Some i) (place (suc i) n))
      go true e = refl
      go false e = e

  pub change-first : (g : A → A) (n i : ℕ) → change_first t g (map f (range n i)) ≡ found_by (λ k. map (set_at k (g (f k)) f) (range n i)) (map f (range n i)) (first_from (λ k. t (f k)) i n)
  unfolding first_from
  change-first g zero i = go (first_from (λ k. t (f k)) i zero)
    where
      go : (r : Option ℕ) → [] ≡ found_by {B = List A} (λ k. []) [] r
      go (Some k) = refl
      go None = refl
  change-first g (suc n) i = rw (add-one i) (go (t (f i)) (place (suc i) n) refl (change-first g n (suc i)))
    where
      low : (k : ℕ) → first_from (λ j. t (f j)) (suc i) n ≡ Some k → set_at k (g (f k)) f i ≡ f i
      low k e = let h : Hit (λ j. t (f j)) (suc i) n k = first-hit (λ j. t (f j)) (suc i) n k e in rw (ne_eqb k i (λ z. omega (arith, h.low)))

      here : map f (range n (suc i)) ≡ map (set_at i (g (f i)) f) (range n (suc i))
      here = sym (map_range f (set_at i (g (f i)) f) n (suc i) (λ j l h. rw (ne_eqb i j (λ z. omega arith))))

      top : g (f i) ≡ set_at i (g (f i)) f i
      top = rw (eq-eqb i i refl)

      go : (b : Bool) (r : Option ℕ) → place (suc i) n ≡ r
          → change_first t g (map f (range n (suc i))) ≡ found_by (λ k. map (set_at k (g (f k)) f) (range n (suc i))) (map f (range n (suc i))) (place (suc i) n)
          → cond b (g (f i) ∷ map f (range n (suc i))) (f i ∷ change_first t g (map f (range n (suc i))))
          ≡ found_by (λ k. map (set_at k (g (f k)) f) (range (suc n) i)) (map f (range (suc n) i)) (cond b (Some i) (place (suc i) n))
      go true r e d = λ z. top z ∷ here z
      go false (Some k) e d =
          let l : f i ≡ set_at k (g (f k)) f i = sym (low k e) in
          let c : change_first t g (map f (range n (suc i))) ≡ map (set_at k (g (f k)) f) (range n (suc i)) = rw e at d in
          rw e (λ z. l z ∷ c z)
      go false None e d = rw e (ap {B = List A} (λ z. f i ∷ z) (rw e at d))

-- ---- makers and readings

find-is : (m : ℕ) (cs : List (Option Maker)) → find_maker m cs ≡ first_by (named m) (λ c. c) None cs
unfolding find_maker
find-is m [] = refl
find-is m (c ∷ cs) = ap (cond (named m c) c) (find-is m cs)

rewrite-is : (m : ℕ) (c : Option Maker) (cs : List (Option Maker)) → rewrite m c cs ≡ change_first (named m) (λ x. c) cs
rewrite-is m c [] = refl
rewrite-is m c (x ∷ cs) = ap (λ (z : List (Option Maker)). cond (named m x) (c ∷ cs) (x ∷ z)) (rewrite-is m c cs)

allocate-is : (y : Maker) (cs : List (Option Maker)) → allocate y cs ≡ change_first (λ x. not (is_some x)) (λ x. Some y) cs
allocate-is y [] = refl
allocate-is y (None ∷ cs) = refl
allocate-is y (Some x ∷ cs) = ap {B = List (Option Maker)} (λ z. Some x ∷ z) (allocate-is y cs)

on-is : (s : ℕ) (g : Reading → Reading) (rs : List Reading) → on_reading s g rs ≡ change_first (λ r. eqb r.symbol s) g rs
on-is s g [] = refl
on-is s g (r ∷ rs) = ap (λ (z : List Reading). cond (eqb r.symbol s) (g r ∷ rs) (r ∷ z)) (on-is s g rs)

module _ (f : ℕ → Option Maker) (n : ℕ) where
  pub find-place : (m : ℕ) → find_maker m (map f (range n 0)) ≡ found_by f None (first_from (λ k. named m (f k)) 0 n)
  find-place m = find-is m (map f (range n 0)) ∙ first-by (named m) f (λ c. c) None n 0

  pub rewrite-place : (m : ℕ) (c : Option Maker)
      → rewrite m c (map f (range n 0)) ≡ found_by (λ k. map (set_at k c f) (range n 0)) (map f (range n 0)) (first_from (λ k. named m (f k)) 0 n)
  rewrite-place m c = rewrite-is m c (map f (range n 0)) ∙ change-first (named m) f (λ x. c) n 0

  pub allocate-place : (y : Maker)
      → allocate y (map f (range n 0)) ≡ found_by (λ k. map (set_at k (Some y) f) (range n 0)) (map f (range n 0)) (first_from (λ k. not (is_some (f k))) 0 n)
  allocate-place y = allocate-is y (map f (range n 0)) ∙ change-first (λ x. not (is_some x)) f (λ x. Some y) n 0

pub on-place : (s : ℕ) (g : Reading → Reading) (f : ℕ → Reading) (n : ℕ)
    → on_reading s g (map f (range n 0)) ≡ found_by (λ k. map (set_at k (g (f k)) f) (range n 0)) (map f (range n 0)) (first_from (λ k. eqb (f k).symbol s) 0 n)
on-place s g f n = on-is s g (map f (range n 0)) ∙ change-first (λ (r : Reading). eqb r.symbol s) f g n 0

-- ---- how many stand

ltb-suc : (a n : ℕ) → ltb (suc a) (suc n) ≡ ltb a n
ltb-suc a n = go (ltb a n) refl
  where
    go : (t : Bool) → ltb a n ≡ t → ltb (suc a) (suc n) ≡ t
    go true e = lt-ltb (suc a) (suc n) (omega (arith, ltb-true a n e))
    go false e = le-ltb (suc a) (suc n) (omega (arith, ltb-false a n e))

pub occupied-most : (cs : List (Option Maker)) → length (occupied cs) ≤ length cs
occupied-most [] = omega arith
occupied-most (None ∷ cs) = omega (arith, occupied-most cs)
occupied-most (Some x ∷ cs) = omega (arith, occupied-most cs)

-- fewer than n of n cells are occupied exactly if a search finds a free one
pub room-place : (f : ℕ → Option Maker) (n i : ℕ) → ltb (length (occupied (map f (range n i)))) n ≡ is_at (first_from (λ k. not (is_some (f k))) i n)
unfolding first_from
room-place f zero i = refl
room-place f (suc n) i = rw (add-one i) (go (f i) (room-place f n (suc i)))
  where
    short : length (occupied (map f (range n (suc i)))) ≤ n
    short = omega (arith, occupied-most (map f (range n (suc i))), length-range f n (suc i))

    go : (o : Option Maker) → ltb (length (occupied (map f (range n (suc i))))) n ≡ is_at (first_from (λ k. not (is_some (f k))) (suc i) n)
        → ltb (length (occupied (o ∷ map f (range n (suc i))))) (suc n) ≡ is_at (cond (not (is_some o)) (Some i) (first_from (λ k. not (is_some (f k))) (suc i) n))
    go None e = lt-ltb (length (occupied (map f (range n (suc i))))) (suc n) (omega (arith, short))
    go (Some x) e = ltb-suc (length (occupied (map f (range n (suc i))))) n ∙ e
