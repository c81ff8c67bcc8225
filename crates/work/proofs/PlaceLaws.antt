-- The page of a symbol: a message is judged and a symbol read by that page alone, and where no symbol is listed twice it is what `find_reading` finds.
-- Assumes nothing.
use Prim.Native.Nat.{ℕ, ◌+◌, ◌≤◌, ◌<◌}
use mathlib.Core.Path.{◌≡◌, refl, sym, ap, ◌∙◌}
use mathlib.Core.Bool.{true, false, cond}
use mathlib.Core.List.{List, [], ◌∷◌}
use Rattle.std.specs.Prelude.{None, Some, Option}
use native.Mathlib.Omega.{arith}
use lib.Dec.{eqb}
use lib.ListN.{length}
use Rattle.field.specs.Field.{be, part, field}
use Rattle.field.proofs.Laws.{splice-part}
use Rattle.lists.proofs.Tests.{Cut, equal, apart, cut}
use Rattle.message.specs.Message.{symbol_of, code_of}
use Rattle.update.specs.Parts.{Reading, reading_of, known_of}
use Rattle.update.proofs.TableLaws.{cell-order}
use Rattle.update.proofs.SearchLaws.{found_by, is_at, first_by, first-by}
use Rattle.update.proofs.EntryLaws.{Kept}
use Rattle.update.proofs.RefreshLaws.{splice-over}
use Rattle.update.proofs.WorkLaws.{page_code}
use Rattle.opening.specs.Opening.{count_of, page_at, set_page, pages_in, first_place, bucket_of, hint_of, page_place, reading_at, reading_for, on_page}
use Rattle.work.specs.Work.{is_listed, listed_of, find_reading, code_on}
use Rattle.opening.proofs.OpeningLaws.{Sound, page-room, length-page, bytes-page}
use Rattle.opening.proofs.PageLaws.{OpeningKept, kept-count, place-hit, place_at, place-by, set-kept, set_same, set_other}
use Rattle.text.specs.Form.{symbol_length}
use Rattle.page.specs.Layout.{symbol_at, hints_at, head_length, page_length}
use Rattle.opening.specs.Layout.{page_start}

-- ---- the search and the readings

find-is : (s : ℕ) (rs : List Reading) → find_reading s rs ≡ first_by (λ r. eqb r.symbol s) Some None rs
unfolding find_reading
find-is s [] = refl
find-is s (r ∷ rs) = ap (cond (eqb r.symbol s) (Some r)) (find-is s rs)

listed-is : (s : ℕ) (rs : List Reading) → is_listed s (listed_of rs) ≡ first_by (λ r. eqb r.symbol s) (λ r. true) false rs
unfolding is_listed listed_of
listed-is s [] = refl
listed-is s (r ∷ rs) = ap (cond (eqb r.symbol s) true) (listed-is s rs)

module _ (b : List ℕ) (s : ℕ) where
  -- where the symbol's page is the first that has it, its reading is the first of the symbol
  pub find-page : page_place b s ≡ first_place b s → reading_for b s ≡ find_reading s (pages_in b)
  unfolding pages_in first_place reading_of
  find-page one =
      ap (reading_at b) one ∙ go (first_place b s)
      ∙ sym (find-is s (pages_in b) ∙ first-by (λ (r : Reading). eqb r.symbol s) (λ k. reading_of (page_at b k)) Some None (count_of b) 0)
    where
      go : (r : Option ℕ) → reading_at b r ≡ found_by (λ k. Some (reading_of (page_at b k))) None r
      go (Some k) = refl
      go None = refl

  -- a symbol is listed exactly if its page is found
  pub listed_at : is_listed s (listed_of (pages_in b)) ≡ is_at (page_place b s)
  unfolding pages_in first_place reading_of
  listed_at =
      listed-is s (pages_in b) ∙ first-by (λ (r : Reading). eqb r.symbol s) (λ k. reading_of (page_at b k)) (λ r. true) false (count_of b) 0 ∙ go (first_place b s) ∙ sym (place_at b s)
    where
      go : (r : Option ℕ) → found_by (λ k. true) false r ≡ is_at r
      go (Some k) = refl
      go None = refl

-- ---- a message is judged by its page alone

module _ (letter : ℕ) (m : List ℕ) (b : List ℕ) where
  pub code_at : (k : ℕ) → page_place b (symbol_of m) ≡ Some k → code_on letter m b ≡ page_code letter m (page_at b k)
  unfolding known_of
  code_at k e = ap (λ (r : Option ℕ). code_of (known_of (reading_at b r)) letter m) e

  -- and one whose symbol is not listed by nothing
  pub code-nowhere : page_place b (symbol_of m) ≡ None → code_on letter m b ≡ code_of (known_of None) letter m
  code-nowhere e = ap (λ (r : Option ℕ). code_of (known_of (reading_at b r)) letter m) e

-- ---- a page changed twice

module _ (n : ℕ) (b : List ℕ) (sd : Sound n b) where
  -- where every page's head stays, a symbol's page stays where it is
  pub place_same : (b' : List ℕ) (s : ℕ) → OpeningKept b b' → ((j at m : ℕ) → j < n → at + m ≤ head_length → part (page_at b' j) at m ≡ part (page_at b j) at m) → page_place b' s ≡ page_place b s
  unfolding hint_of field
  place_same b' s k h =
      place-by b b' s (kept-count b b' k) (λ j l. ap be (h j symbol_at symbol_length (omega (arith, sd.count)) (omega arith))) (ap be (h 0 (hints_at + bucket_of s) 1 (omega (arith, sd.low)) (omega arith)))

  -- the page that stands there written again: nothing changed
  pub set-none : (k : ℕ) → k < n → set_page b k (page_at b k) ≡ b
  unfolding set_page page_at
  set-none k h = splice-part b (page_start k) page_length (omega (arith, cell-order page_length k n h, page-room n b sd))

  module _ (s k : ℕ) (e : page_place b s ≡ Some k) where
    below : k < n
    below = omega (arith, (place-hit b s k e).0, sd.count)

    wide : length (page_at b k) ≡ page_length
    wide = length-page n b sd k below

    pub on-at : (g : List ℕ → List ℕ) → on_page s g b ≡ set_page b k (g (page_at b k))
    unfolding on_page
    on-at g = rw e

    module _ (p : List ℕ) (kept : Kept (page_at b k) p) where
      after-set : page_place (set_page b k p) s ≡ Some k
      after-set = place_same (set_page b k p) s (set-kept n b sd k below p kept.size (λ y. kept.bytes (bytes-page b k y))) heads ∙ e
        where
          heads : (j at m : ℕ) → j < n → at + m ≤ head_length → part (page_at (set_page b k p) j) at m ≡ part (page_at b j) at m
          heads j at m h l = go (cut k j)
            where
              go : Cut k j → part (page_at (set_page b k p) j) at m ≡ part (page_at b j) at m
              go (equal t q) = rw (sym q) (ap (λ (z : List ℕ). part z at m) (set_same n b sd k below p kept.size) ∙ kept.head at m l)
              go (apart t q) = ap (λ (z : List ℕ). part z at m) (set_other n b sd k below p kept.size j q)

      over : (q : List ℕ) → length q ≡ page_length → set_page (set_page b k p) k q ≡ set_page b k q
      unfolding set_page
      over q w = splice-over b (page_start k) p q (omega (arith, cell-order page_length k n below, page-room n b sd)) (kept.size ∙ sym w)

    -- two changes of one page are one
    pub on-twice : (f g : List ℕ → List ℕ) → Kept (page_at b k) (f (page_at b k)) → length (g (f (page_at b k))) ≡ page_length
        → on_page s g (on_page s f b) ≡ set_page b k (g (f (page_at b k)))
    unfolding on_page
    on-twice f g x w =
        rw (e, after-set (f (page_at b k)) x, set_same n b sd k below (f (page_at b k)) x.size) (over (f (page_at b k)) x (g (f (page_at b k))) w)

  pub on-nowhere : (s : ℕ) → page_place b s ≡ None → (g : List ℕ → List ℕ) → on_page s g b ≡ b
  unfolding on_page
  on-nowhere s e g = rw e
