-- The place of a symbol's page is that of the symbol in the list.
-- Assumes nothing.
use Prim.Native.Nat.{ℕ, zero, suc}
use mathlib.Core.Path.{◌≡◌, refl, sym, ap, ◌∙◌}
use mathlib.Core.Bool.{Bool, true, false, cond}
use mathlib.Core.Logic.{inl, inr}
use mathlib.Core.List.{List, [], ◌∷◌, map}
use native.Mathlib.Omega.{arith}
use native.Mathlib.Numerals.{add-one}
use lib.Dec.{eqb}
use lib.ListN.{length}
use borrow.Author.Tests.{eq-eqb}
use Rattle.lists.specs.Lists.{range, first_from}
use Rattle.std.specs.Prelude.{Some, None, Option}
use Rattle.lists.proofs.Tests.{clash}
use Rattle.lists.proofs.Members.{In}
use Rattle.update.specs.Parts.{Reading, reading_of}
use Rattle.opening.specs.Opening.{count_of, page_at, pages_in, first_place, page_place}
use Rattle.work.specs.Work.{Listed, is_listed, listed_of}
use Rattle.opening.proofs.OpeningLaws.{Sound, length-page}
use Rattle.update.proofs.SearchLaws.{is_at}
use Rattle.opening.proofs.PageLaws.{place-hit}
use Rattle.work.proofs.PlaceLaws.{listed_at}
use Rattle.review.specs.Frame.{bytes_at, page_of}
use Rattle.review.proofs.Agree.{Apart}
use Rattle.review.proofs.OnceLaws.{once-first}
use Rattle.page.specs.Layout.{page_length}

abbrev pub place_in : ℕ → ℕ → List Listed → Option ℕ
place_in s i [] = None
place_in s i (x ∷ xs) = cond (eqb x.symbol s) (Some i) (place_in s (suc i) xs)

place-from : (f : ℕ → Reading) (s n i : ℕ) → first_from (λ k. eqb (f k).symbol s) i n ≡ place_in s i (listed_of (map f (range n i)))
unfolding first_from listed_of
place-from f s zero i = refl
place-from f s (suc n) i =
    ap (λ (x : Option ℕ). cond (eqb (f i).symbol s) (Some i) x) (ap (λ (j : ℕ). first_from (λ k. eqb (f k).symbol s) j n) (add-one i) ∙ place-from f s n (suc i))

pub place_is : (b : List ℕ) (s : ℕ) → Apart (listed_of (pages_in b)) → page_place b s ≡ place_in s 0 (listed_of (pages_in b))
unfolding first_place pages_in reading_of
place_is b s a = once-first b a s ∙ place-from (λ k. reading_of (page_at b k)) s (count_of b) 0

pub listed-in : (x : Listed) (xs : List Listed) → In x xs → is_listed x.symbol xs ≡ true
unfolding is_listed
listed-in x [] m = absurd m
listed-in x (y ∷ xs) (inl p) = rw (eq-eqb y.symbol x.symbol (ap (λ (z : Listed). z.symbol) (sym p)))
listed-in x (y ∷ xs) (inr m) = go (eqb y.symbol x.symbol) (listed-in x xs m)
  where
    go : (t : Bool) → is_listed x.symbol xs ≡ true → cond t true (is_listed x.symbol xs) ≡ true
    go true e = refl
    go false e = e

-- a symbol that is listed has a page
pub listed-page : (n : ℕ) (b : List ℕ) → Sound n b → (s : ℕ) → is_listed s (listed_of (pages_in b)) ≡ true → length (page_of b s) ≡ page_length
unfolding page_of
listed-page n b sd s e = go (page_place b s) refl
  where
    go : (o : Option ℕ) → page_place b s ≡ o → length (bytes_at b o) ≡ page_length
    go (Some k) p = length-page n b sd k (omega (arith, (place-hit b s k p).0, sd.count))
    go None p = clash (sym e ∙ listed_at b s ∙ ap is_at p)
