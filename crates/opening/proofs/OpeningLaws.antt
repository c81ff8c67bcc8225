-- A sound opening, and what the readings of a book depend on: its opening by the bytes before the pages, its pages by the rest.
-- Assumes nothing.
use Rattle.std.proofs.Common.{◌≡◌, ℕ, ◌+◌, ◌<◌, ◌≤◌, Bool, true, false, cond, eqb, ltb, leb, List, [], ◌∷◌, length, sym, refl, ap, ◌∙◌, arith, ltb-true, eq-eqb, eqb-true, le-leb, leb-true}
use mathlib.Core.Path.{fun_ext}
use Rattle.std.specs.Prelude.{None}
use Rattle.field.specs.Field.{Bytes, be, part, field, splice}
use Rattle.field.proofs.Laws.{part-behind, length_part, bytes-part}
use Rattle.lists.specs.Lists.{same_list}
use Rattle.lists.proofs.Ranges.{map_range}
use Rattle.lists.proofs.Tests.{clash, and-true}
use Rattle.update.specs.Parts.{reading_of}
use Rattle.update.proofs.TableLaws.{cell-order}
use Rattle.opening.specs.Opening.{symbols_of, count_of, sound, line_in, lines_in, allowance_on, rest_in, page_at, pages_in}
use Rattle.allowance.specs.Allowance.{allowance_length, allowance_in}
use Rattle.page.specs.Layout.{page_length}
use Rattle.opening.specs.Layout.{day_at, first_page_at, lines_at, line_length, n_at, count_at, line_count, allowance_at, opening_length, book_length, page_start, line_at, symbols_most, mark}

-- "mark, offset and length are right, n is 1 to 64, the count at most n and the day flag 0 or 1"
pub record Sound (n : ℕ) (b : List ℕ) : Type 0 where
  pub size : length b ≡ book_length n
  pub low : 1 ≤ n
  pub up : n ≤ symbols_most
  pub symbols : symbols_of b ≡ n
  pub count : count_of b ≤ n
  pub marked : part b 0 n_at ≡ mark
  pub first : field b first_page_at 4 ≡ opening_length
  pub day : field b day_at 1 ≤ 1

pub same-is : (a b : List ℕ) → same_list a b ≡ true → a ≡ b
unfolding same_list
same-is [] [] e = refl
same-is [] (y ∷ b) e = clash (sym e)
same-is (x ∷ a) [] e = clash (sym e)
same-is (x ∷ a) (y ∷ b) e =
    let t = and-true (eqb x y) (same_list a b) e in
    let p : x ≡ y = eqb-true x y t.0 in
    let q : a ≡ b = same-is a b t.1 in
    λ i. p i ∷ q i

pub sound-is : (n : ℕ) (b : List ℕ) → Sound n b → sound b ≡ true
unfolding sound same_list
sound-is n b s =
    rw (s.marked, s.symbols, eq-eqb (field b first_page_at 4) opening_length s.first, le-leb 1 n s.low, le-leb n symbols_most s.up, le-leb (count_of b) n s.count, le-leb (field b day_at 1) 1 s.day, eq-eqb (length b) (book_length n) s.size)

pub sound-of : (b : List ℕ) → sound b ≡ true → Sound (symbols_of b) b
unfolding sound
sound-of b e =
    let a = and-true (same_list (part b 0 n_at) mark) _ e in
    let c = and-true (leb 1 (symbols_of b)) _ a.1 in
    let d = and-true (leb (symbols_of b) symbols_most) _ c.1 in
    let f = and-true (leb (count_of b) (symbols_of b)) _ d.1 in
    let g = and-true (leb (field b day_at 1) 1) _ f.1 in
    let h = and-true (eqb (field b first_page_at 4) opening_length) (eqb (length b) (book_length (symbols_of b))) g.1 in
    record {
      size = eqb-true (length b) (book_length (symbols_of b)) h.1;
      low = leb-true 1 (symbols_of b) c.0;
      up = leb-true (symbols_of b) symbols_most d.0;
      symbols = refl;
      count = leb-true (count_of b) (symbols_of b) f.0;
      marked = same-is (part b 0 n_at) mark a.0;
      first = eqb-true (field b first_page_at 4) opening_length h.0;
      day = leb-true (field b day_at 1) 1 g.0;
    }

-- ---- the opening's readings

module _ (b b' : List ℕ) where
  -- nothing changed before byte n
  abbrev pub Front : ℕ → Type 0
  Front n = (at m : ℕ) → at + m ≤ n → part b' at m ≡ part b at m

  pub sound-by : (n : ℕ) → Sound n b → length b' ≡ length b → Front lines_at → Sound n b'
  unfolding symbols_of count_of field
  sound-by n s l h =
      record {
        size = l ∙ s.size;
        low = s.low;
        up = s.up;
        symbols = ap be (h n_at 1 (omega arith)) ∙ s.symbols;
        count = rw (ap be (h count_at 1 (omega arith))) s.count;
        marked = h 0 n_at (omega arith) ∙ s.marked;
        first = ap be (h first_page_at 4 (omega arith)) ∙ s.first;
        day = rw (ap be (h day_at 1 (omega arith))) s.day;
      }

  pub count_by : Front lines_at → count_of b' ≡ count_of b
  unfolding count_of field
  count_by h = ap be (h count_at 1 (omega arith))

  pub lines-by : ((i : ℕ) → i < line_count → part b' (line_at i) line_length ≡ part b (line_at i) line_length) → lines_in b' ≡ lines_in b
  unfolding lines_in
  lines-by h = fun_ext (λ i. go i (ltb i line_count) refl)
    where
      go : (i : ℕ) (t : Bool) → ltb i line_count ≡ t → cond t (line_in (part b' (line_at i) line_length)) None ≡ cond t (line_in (part b (line_at i) line_length)) None
      go i true e = ap line_in (h i (ltb-true i line_count e))
      go i false e = refl

  pub allowance-by : part b' allowance_at allowance_length ≡ part b allowance_at allowance_length → allowance_on b' ≡ allowance_on b
  unfolding allowance_on
  allowance-by h = ap allowance_in h

  pub rest-by : Front opening_length → rest_in b' ≡ rest_in b
  unfolding rest_in symbols_of field
  rest-by h =
      let n : be (part b' n_at 1) ≡ be (part b n_at 1) = ap be (h n_at 1 (omega arith)) in
      let d : eqb (be (part b' day_at 1)) 1 ≡ eqb (be (part b day_at 1)) 1 = ap (λ (l : List ℕ). eqb (be l) 1) (h day_at 1 (omega arith)) in
      let l : lines_in b' ≡ lines_in b = lines-by (λ i k. h (line_at i) line_length (omega arith)) in
      let a : allowance_on b' ≡ allowance_on b = allowance-by (h allowance_at allowance_length (omega arith)) in
      λ i. record { n = n i; lines = l i; day = d i; allowance = a i }

  -- ---- the pages' readings

  pub pages-by : count_of b' ≡ count_of b → ((k : ℕ) → k < count_of b → page_at b' k ≡ page_at b k) → pages_in b' ≡ pages_in b
  unfolding pages_in
  pages-by c h = rw c (map_range (λ k. reading_of (page_at b k)) (λ k. reading_of (page_at b' k)) (count_of b) 0 (λ j a k. ap reading_of (h j (omega arith))))

-- a write in the opening leaves every page
pub opening-page : (b : List ℕ) (a : ℕ) (new : List ℕ) → a + length new ≤ opening_length → (k : ℕ) → page_at (splice b a new) k ≡ page_at b k
unfolding page_at
opening-page b a new h k = part-behind b a new (page_start k) page_length (omega arith)

module _ (n : ℕ) (b : List ℕ) (sd : Sound n b) where
  pub page-room : book_length n ≤ length b
  page-room = omega (arith, sd.size)

  pub length-page : (k : ℕ) → k < n → length (page_at b k) ≡ page_length
  unfolding page_at
  length-page k l = length_part b (page_start k) page_length (omega (arith, cell-order page_length k n l, page-room))

pub bytes-page : (b : List ℕ) (k : ℕ) → Bytes b → Bytes (page_at b k)
unfolding page_at
bytes-page b k y = bytes-part b (page_start k) page_length y
