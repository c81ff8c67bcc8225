-- Where no symbol is listed twice, a symbol's page is the first that has it: what is read there is what `find_reading` finds.
-- Assumes nothing.
use Prim.Native.Nat.{ℕ, zero, suc, ◌+◌, ◌≤◌, ◌<◌}
use mathlib.Core.Path.{◌≡◌, refl, sym, ap, ◌∙◌}
use mathlib.Core.Bool.{Bool, true, false, cond}
use mathlib.Core.List.{List, map}
use native.Mathlib.Omega.{arith}
use lib.Dec.{eqb}
use borrow.Author.Tests.{eq-eqb, eqb-true}
use Rattle.lists.specs.Lists.{range}
use Rattle.lists.proofs.Tests.{clash, Cut, equal, apart, cut}
use Rattle.message.specs.Message.{symbol_of}
use Rattle.update.specs.Parts.{Reading, reading_of}
use Rattle.opening.specs.Opening.{count_of, page_at, pages_in, first_place, page_place, reading_for}
use Rattle.work.specs.Work.{is_listed, find_reading, listed_of, code_on}
use Rattle.opening.proofs.PageLaws.{place-first}
use Rattle.work.proofs.PlaceLaws.{find-page}
use Rattle.page.specs.Layout.{page_symbol}
use Rattle.review.proofs.Agree.{Apart}
use Rattle.review.proofs.WorkLaws.{code_in}

module _ (f : ℕ → Reading) where
  in-range : (n i k s : ℕ) → i ≤ k → k < i + n → (f k).symbol ≡ s → is_listed s (listed_of (map f (range n i))) ≡ true
  unfolding is_listed listed_of
  in-range zero i k s lo hi e = absurd (omega arith)
  in-range (suc n) i k s lo hi e = go (cut i k) (λ l. in-range n (suc i) k s l (omega arith) e)
    where
      go : Cut i k → (suc i ≤ k → is_listed s (listed_of (map f (range n (suc i)))) ≡ true) → cond (eqb (f i).symbol s) true (is_listed s (listed_of (map f (range n (suc i))))) ≡ true
      go (equal t q) rest = rw (eq-eqb (f i).symbol s (ap (λ (j : ℕ). (f j).symbol) q ∙ e))
      go (apart t q) rest = any (eqb (f i).symbol s) (rest (omega (arith, q)))
        where
          any : (t : Bool) → is_listed s (listed_of (map f (range n (suc i)))) ≡ true → cond t true (is_listed s (listed_of (map f (range n (suc i))))) ≡ true
          any true d = refl
          any false d = d

  no-two : (n i j k : ℕ) → Apart (listed_of (map f (range n i))) → i ≤ j → j < k → k < i + n → (f k).symbol ≡ (f j).symbol → ⊥
  unfolding listed_of
  no-two zero i j k a lo l hi e = absurd (omega arith)
  no-two (suc n) i j k a lo l hi e = go (cut i j) (λ h. no-two n (suc i) j k a.1 h l (omega arith) e)
    where
      go : Cut i j → (suc i ≤ j → ⊥) → ⊥
      go (equal t q) rest = clash (sym (in-range n (suc i) k (f i).symbol (omega (arith, q)) (omega arith) (e ∙ ap (λ (x : ℕ). (f x).symbol) (sym q))) ∙ a.0)
      go (apart t q) rest = rest (omega (arith, q))

module _ (b : List ℕ) (a : Apart (listed_of (pages_in b))) where
  pub once-first : (s : ℕ) → page_place b s ≡ first_place b s
  unfolding pages_in reading_of
  once-first s =
      place-first b s (λ j k l h e d. no-two (λ i. reading_of (page_at b i)) (count_of b) 0 j k a (omega arith) l (omega arith) (eqb-true (page_symbol (page_at b k)) s d ∙ sym (eqb-true (page_symbol (page_at b j)) s e)))

  pub once-reading : (s : ℕ) → reading_for b s ≡ find_reading s (pages_in b)
  once-reading s = find-page b s (once-first s)

  -- a message is judged by the readings
  pub once-code : (letter : ℕ) (m : List ℕ) → code_on letter m b ≡ code_in letter m (pages_in b)
  once-code letter m = rw (once-reading (symbol_of m))
