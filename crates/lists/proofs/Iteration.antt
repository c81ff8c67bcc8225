-- What std's iterators and methods say of a list, in the words of specs/Lists.antt: `every` is `list_all`, `member` is `list_any`, `sum` is std's.
-- Assumes nothing.
use Prim.Native.Nat.{ℕ}
use mathlib.Core.Path.{◌≡◌, refl, sym, ap, ◌∙◌}
use mathlib.Core.Bool.{Bool, true, false, not, ◌&&◌, ◌||◌, cond}
use mathlib.Core.List.{List, [], ◌∷◌}
use denote.Param.Members.{Mut}
use denote.Ref.{Bor}
use native.Mathlib.Omega.{arith}
use borrow.Author.Tests.{ltb-false}
use lib.Dec.{eqb, ltb}
use lib.ListN.{length}
use Rattle.std.specs.Fn.{Called}
use Rattle.std.specs.Iterator.{YieldsThen}
use Rattle.std.specs.List.{FoldsTo, list_all, list_any, position, position_or_len, sum as std_sum}
use Rattle.std.specs.Option.{MatchOption, unwrap_or}
use Rattle.std.proofs.iter.Yields.{fronts}
use Rattle.std.proofs.Common.{Iter, Option, None, Some}
use Rattle.std.specs.Slice.Iter.{iter_rest}
use Rattle.std.proofs.lemmas.Iterator.{YieldsList-from_slice}
use Rattle.std.proofs.lemmas.Iterator.Search.{all_from_yields_List, any_from_yields_List, position_from_yields_List}
use Rattle.std.proofs.lemmas.List.Sums.{prefix_len-le-length}
use Rattle.std.proofs.lemmas.List.Recursion.{is_sum_by}
use Rattle.lists.specs.Lists.{every, sum, member}
use Rattle.lists.proofs.Tests.{Cut, equal, apart, cut}

pub every-all : (p : ℕ → Bool) (xs : List ℕ) → every p xs ≡ list_all p xs
unfolding every
every-all p [] = refl
every-all p (x ∷ xs) = ap (λ (t : Bool). p x && t) (every-all p xs)

swap : (a b : ℕ) → eqb a b ≡ eqb b a
swap a b = go (cut a b) (cut b a)
  where
    go : Cut a b → Cut b a → eqb a b ≡ eqb b a
    go (equal e p) (equal f q) = e ∙ sym f
    go (equal e p) (apart f q) = absurd (q (sym p))
    go (apart e p) (equal f q) = absurd (p (sym q))
    go (apart e p) (apart f q) = e ∙ sym f

pub member_any : (xs : List ℕ) (y : ℕ) → member xs y ≡ list_any (λ x. eqb x y) xs
unfolding member
member_any [] y = refl
member_any (x ∷ xs) y = ap (λ (t : Bool). cond t true (member xs y)) (swap y x) ∙ step (eqb x y) (member_any xs y)
  where
    step : (t : Bool) {a b : Bool} → a ≡ b → cond t true a ≡ t || b
    step true e = refl
    step false e = e

pub sum_std : (xs : List ℕ) → sum xs ≡ std_sum xs
unfolding sum
sum_std xs = is_sum_by sum (λ x. x) refl (λ _ _. refl) xs

-- the first place at which a test holds, or the length
first_or_length : (p : ℕ → Bool) (xs : List ℕ) → unwrap_or (position p xs) (length xs) ≡ position_or_len p xs
first_or_length p xs = go (ltb (position_or_len p xs) (length xs)) refl
  where
    go : (t : Bool) → ltb (position_or_len p xs) (length xs) ≡ t → unwrap_or (cond t (Some (position_or_len p xs)) None) (length xs) ≡ position_or_len p xs
    go true e = refl
    go false e = omega (arith, ltb-false _ _ e, prefix_len-le-length (λ x. not (p x)) xs)

-- ---- what `all`, `any` and `position` answer over a slice's elements: the call's clause `ran`, and that the closure computes the test

module _ {F : Type 0} {g : Mut F (Bor ℕ × Unit {0}) Bool} {s : Iter ℕ} (test : ℕ → Bool) (xs : List ℕ) (r : Bool) {u : Iter ℕ} {f : F} where
  pub every_from_all : iter_rest s ≡ xs → (ys : List (Bor ℕ)) × (o : Option (Bor ℕ)) × (j : F) × YieldsThen fronts s ys o u × FoldsTo (λ p x q. Called g p (x, tt) true q) f ys j × MatchOption o (r ≡ true) (λ x. (r ≡ false) × ((h : F) × Called g j (x, tt) false h)) → ((x : Bor ℕ) (b : Bool) (q : F) → Called g f (x, tt) b q → (q ≡ f) × (b ≡ test x.now)) → r ≡ every test xs
  every_from_all e ran h = all_from_yields_List test u f r ran (YieldsList-from_slice xs e) h ∙ sym (every-all test xs)

  pub any_from_any : iter_rest s ≡ xs → (ys : List (Bor ℕ)) × (o : Option (Bor ℕ)) × (j : F) × YieldsThen fronts s ys o u × FoldsTo (λ p x q. Called g p (x, tt) false q) f ys j × MatchOption o (r ≡ false) (λ x. (r ≡ true) × ((h : F) × Called g j (x, tt) true h)) → ((x : Bor ℕ) (b : Bool) (q : F) → Called g f (x, tt) b q → (q ≡ f) × (b ≡ test x.now)) → r ≡ list_any test xs
  any_from_any e ran h = any_from_yields_List test u f r ran (YieldsList-from_slice xs e) h

module _ {F : Type 0} {g : Mut F (Bor ℕ × Unit {0}) Bool} {s : Iter ℕ} (test : ℕ → Bool) (xs : List ℕ) {u : Iter ℕ} {f : F} where
  pub position_from_position : {o : Option ℕ} → iter_rest s ≡ xs → (ys : List (Bor ℕ)) × (w : Option (Bor ℕ)) × (j : F) × YieldsThen fronts s ys w u × FoldsTo (λ p x q. Called g p (x, tt) false q) f ys j × MatchOption w (o ≡ None) (λ x. (o ≡ Some (length ys)) × ((h : F) × Called g j (x, tt) true h)) → ((x : Bor ℕ) (b : Bool) (q : F) → Called g f (x, tt) b q → (q ≡ f) × (b ≡ test x.now)) → unwrap_or o (length xs) ≡ position_or_len test xs
  position_from_position {o} e ran h =
      let a : o ≡ position test xs = position_from_yields_List test u f o ran (YieldsList-from_slice xs e) h in
      ap (λ (z : Option ℕ). unwrap_or z (length xs)) a ∙ first_or_length test xs
