-- Members of lists: of `collect`; lists without repeats that have the same members have the same length.
-- Assumes nothing.
use mathlib.Core.Path.{◌≡◌, refl, sym, ap, ◌∙◌}
use mathlib.Core.Logic.{◌⊎◌, inl, inr}
use mathlib.Core.List.{List, [], ◌∷◌}
use Rattle.std.specs.Prelude.{Option, None, Some}
use Prim.Native.Nat.{ℕ, suc, ◌≤◌}
use native.Mathlib.Omega.{arith}
use lib.ListN.{length}
use Rattle.lists.specs.Lists.{collect, cons_option}

-- membership, by recursion on the list
abbrev pub In : {A : Type 0} → A → List A → Type 0
In x [] = ⊥
In x (y ∷ ys) = (x ≡ y) ⊎ In x ys

module _ {A B : Type 0} (f : A → Option B) where
  Source : B → List A → Type 0
  Source b xs = (a : A) × In a xs × (f a ≡ Some b)

  source-step : (b : B) (x : A) (xs : List A) (o : Option B) → f x ≡ o → (In b (collect f xs) → Source b xs) → In b (cons_option o (collect f xs)) → Source b (x ∷ xs)
  unfolding Source
  source-step b x xs None e down m = let r = down m in (r.0, inr r.1, r.2)
  source-step b x xs (Some y) e down (inl p) = (x, inl refl, e ∙ ap Some (sym p))
  source-step b x xs (Some y) e down (inr m) = let r = down m in (r.0, inr r.1, r.2)

  pub in-collect : (b : B) (xs : List A) → In b (collect f xs) → (a : A) × In a xs × (f a ≡ Some b)
  unfolding Source
  in-collect b [] m = absurd m
  in-collect b (x ∷ xs) m = source-step b x xs (f x) refl (in-collect b xs) m

  in-cons : (b : B) (o : Option B) (ys : List B) → In b ys → In b (cons_option o ys)
  in-cons b None ys m = m
  in-cons b (Some y) ys m = inr m

  pub collect-in : (a : A) (b : B) (xs : List A) → In a xs → f a ≡ Some b → In b (collect f xs)
  collect-in a b [] m e = absurd m
  collect-in a b (x ∷ xs) (inl p) e = rw (sym (ap f p) ∙ e) (inl refl)
  collect-in a b (x ∷ xs) (inr m) e = in-cons b (f x) (collect f xs) (collect-in a b xs m e)

-- no two members have one key
module _ {A : Type 0} (key : A → ℕ) where
  abbrev pub Distinct : List A → Type 0
  Distinct [] = Unit {0}
  Distinct (x ∷ xs) = ((y : A) → In y xs → key y ≡ key x → ⊥) × Distinct xs

module _ {A : Type 0} where
  -- the list without the member at a place
  dropped : (x : A) (ys : List A) → In x ys → List A
  dropped x [] m = []
  dropped x (y ∷ ys) (inl p) = ys
  dropped x (y ∷ ys) (inr m) = y ∷ dropped x ys m

  length-dropped : (x : A) (ys : List A) (m : In x ys) → length ys ≡ suc (length (dropped x ys m))
  unfolding dropped
  length-dropped x [] m = absurd m
  length-dropped x (y ∷ ys) (inl p) = refl
  length-dropped x (y ∷ ys) (inr m) = ap suc (length-dropped x ys m)

  still-in : (x z : A) (ys : List A) (m : In x ys) → In z ys → (z ≡ x → ⊥) → In z (dropped x ys m)
  unfolding dropped
  still-in x z [] m n k = absurd m
  still-in x z (y ∷ ys) (inl p) (inl q) k = absurd (k (q ∙ sym p))
  still-in x z (y ∷ ys) (inl p) (inr n) k = n
  still-in x z (y ∷ ys) (inr m) (inl q) k = inl q
  still-in x z (y ∷ ys) (inr m) (inr n) k = inr (still-in x z ys m n k)

module _ {A : Type 0} (key : A → ℕ) where
  pub at_most : (xs ys : List A) → Distinct key xs → ((z : A) → In z xs → In z ys) → length xs ≤ length ys
  at_most [] ys d f = omega arith
  at_most (x ∷ xs) ys d f =
      let m : In x ys = f x (inl refl) in
      let r : length xs ≤ length (dropped x ys m) =
      at_most xs (dropped x ys m) d.1
      (λ z n. still-in x z ys m (f z (inr n)) (λ p. d.0 z n (ap key p))) in
      omega (arith, length-dropped x ys m)

  pub same_length : (xs ys : List A) → Distinct key xs → Distinct key ys → ((z : A) → In z xs → In z ys) → ((z : A) → In z ys → In z xs) → length xs ≡ length ys
  same_length xs ys d e f g = omega (arith, at_most xs ys d f, at_most ys xs e g)
