-- What the code writes into a book: a line, every line, every page, a made book, a publication.
-- Assumes nothing.
use Rattle.std.proofs.Common.{◌≡◌, ℕ, zero, suc, ◌+◌, ◌-◌, ◌*◌, ◌<◌, ◌≤◌, List, [], ◌∷◌, ◌++◌, length, take, drop, replicate, sym, refl, ap, ◌∙◌, ap₂, append_assoc, append-nil, suc-mul, arith, length-append, drop_of_length-le, take_at, drop_at}
use lib.ListN.{length-replicate}
use borrow.Rule.Slice.PartMut.{put_mid}
use Rattle.field.specs.Field.{Bytes, part, field, splice, be_bytes}
use Rattle.field.proofs.Laws.{length-be_bytes, be_bytes-one, splice-join, splice-part, part-part, part_join, length_part, be_bytes-field, lent_back}
use Rattle.lists.proofs.Searches.{less_one}
use Rattle.update.specs.Parts.{blank_page, emptied}
use Rattle.field.proofs.ZeroLaws.{part-zeros}
use Rattle.field.proofs.JoinLaws.{part-front, part-after}
use Rattle.update.proofs.BlankLaws.{length-blank}
use Rattle.opening.specs.declared.Line.{Line}
use Rattle.opening.specs.Opening.{line_bytes, page_at, set_page, each_page, blank_pages, fresh_bytes, restarted, restart_lines}
use Rattle.opening.proofs.FreshLaws.{no_symbol}
use Rattle.opening.proofs.ReadLaws.{mark-bytes}
use Rattle.entries.specs.Publication.{publication_length}
use Rattle.page.specs.Layout.{page_length, head_length}
use Rattle.opening.specs.Layout.{first_page_at, lines_at, line_length, lines_length, opening_length, book_length, n_at, line_count, page_start, line_at, symbols_most, mark}

-- ---- lines

pub put-line : (b b1 b2 b3 : List ℕ) (a : ℕ) (x : Line) → b1 ≡ splice b a (be_bytes 1 x.letter) → b2 ≡ splice b1 (a + 1) (be_bytes 4 x.expected) → b3 ≡ splice b2 (a + 5) (be_bytes 8 x.count)
    → b3 ≡ splice b a (line_bytes x)
unfolding line_bytes be_bytes
put-line b b1 b2 b3 a x e1 e2 e3 =
    e3
    ∙ rw (e2, e1, splice-join b a 1 (be_bytes 1 x.letter) (be_bytes 4 x.expected) refl)
    (splice-join b a 5 (be_bytes 1 x.letter ++ be_bytes 4 x.expected) (be_bytes 8 x.count) refl)

-- its letter stays
pub put-restart : (b b1 b2 : List ℕ) (a : ℕ) → a + line_length ≤ length b → b1 ≡ splice b (a + 1) (be_bytes 4 1) → b2 ≡ splice b1 (a + 5) (be_bytes 8 0) → b2 ≡ splice b a (restarted (part b a line_length))
unfolding restarted
put-restart b b1 b2 a h e1 e2 =
    let z : a + 0 ≡ a = omega arith in
    let l : part (part b a line_length) 0 1 ≡ part b a 1 = part-part b a line_length 0 1 (omega arith) ∙ ap (λ (k : ℕ). part b k 1) z in
    let w : length (part b a 1) ≡ 1 = length_part b a 1 (omega arith) in
    let n : length (part b a 1 ++ be_bytes 4 1) ≡ 5 = length-append (part b a 1) (be_bytes 4 1) ∙ ap₂ ◌+◌ w (length-be_bytes 4 1) in
    let f : splice b (a + 1) (be_bytes 4 1) ≡ splice b a (part b a 1 ++ be_bytes 4 1) =
    ap (λ (s : List ℕ). splice s (a + 1) (be_bytes 4 1)) (sym (splice-part b a 1 (omega arith))) ∙ splice-join b a 1 (part b a 1) (be_bytes 4 1) w in
    e2 ∙ rw (e1, f, l) (splice-join b a 5 (part b a 1 ++ be_bytes 4 1) (be_bytes 8 0) n)

pub restart-again : (i : ℕ) (b b' w : List ℕ) → i < line_count → restart_lines i (line_count - i) b ≡ w → b' ≡ splice b (line_at i) (restarted (part b (line_at i) line_length)) → restart_lines (i + 1) (line_count - (i + 1)) b' ≡ w
unfolding restart_lines
restart-again i b b' w h inv e = rw e (rw (less_one line_count i h) at inv)

pub restart-end : (i : ℕ) (b w : List ℕ) → line_count ≤ i → restart_lines i (line_count - i) b ≡ w → b ≡ w
unfolding restart_lines
restart-end i b w h inv = let z : line_count - i ≡ 0 = omega arith in rw z at inv

-- ---- a page lent

module _ (b : List ℕ) (k : ℕ) where
  page-span : (page_start k + page_length) - page_start k ≡ page_length
  page-span = omega arith

  pub lent-page : take ((page_start k + page_length) - page_start k) (drop (page_start k) b) ≡ page_at b k
  unfolding page_at part
  lent-page = rw page-span

  pub page-back : (p : List ℕ) → length p ≡ page_length → put_mid (page_start k) ((page_start k + page_length) - page_start k) b p ≡ set_page b k p
  unfolding set_page
  page-back p w = rw page-span (lent_back (page_start k) page_length b p w)

-- ---- every page

module _ (g : List ℕ → List ℕ) (n : ℕ) where
  pub each_start : (b : List ℕ) → each_page g 0 (n - 0) b ≡ each_page g 0 n b
  each_start b = let z : n - 0 ≡ n = omega arith in rw z

  -- what the page that was lent is left as
  pub each_again : (i : ℕ) (b p w : List ℕ) → i < n → each_page g i (n - i) b ≡ w → p ≡ g (take ((page_start i + page_length) - page_start i) (drop (page_start i) b)) → length p ≡ page_length
      → each_page g (i + 1) (n - (i + 1)) (put_mid (page_start i) ((page_start i + page_length) - page_start i) b p) ≡ w
  unfolding each_page
  each_again i b p w h inv e l = rw (page-back b i p l, e, lent-page b i) (rw (less_one n i h) at inv)

  pub each-end : (i : ℕ) (b w : List ℕ) → n ≤ i → each_page g i (n - i) b ≡ w → b ≡ w
  unfolding each_page
  each-end i b w h inv = let z : n - i ≡ 0 = omega arith in rw z at inv

-- ---- a made book

zeros-join : (m n : ℕ) → replicate {A = ℕ} (m + n) 0 ≡ replicate m 0 ++ replicate n 0
zeros-join zero n = let e : 0 + n ≡ n = omega arith in ap (λ (k : ℕ). replicate {A = ℕ} k 0) e
zeros-join (suc m) n = let e : suc m + n ≡ suc (m + n) = omega arith in ap (λ (k : ℕ). replicate {A = ℕ} k 0) e ∙ ap (λ (z : List ℕ). 0 ∷ z) (zeros-join m n)

-- written over a list's middle
splice-middle : (a x z y : List ℕ) (n : ℕ) → length a ≡ n → length x ≡ length y → splice (a ++ (x ++ z)) n y ≡ a ++ (y ++ z)
unfolding splice
splice-middle a x z y n e w =
    let t : take n (a ++ (x ++ z)) ≡ a = take_at a (x ++ z) n e in
    let l : length (a ++ x) ≡ n + length y = length-append a x ∙ ap₂ ◌+◌ e w in
    let d : drop (n + length y) (a ++ (x ++ z)) ≡ z = ap (drop (n + length y)) (sym (append_assoc a x z)) ∙ drop_at (a ++ x) z (n + length y) l in
    ap₂ (λ (u v : List ℕ). u ++ y ++ v) t d ∙ append_assoc a y z

-- written over the whole of a list
splice-whole : (p x : List ℕ) → length x ≡ length p → splice p 0 x ≡ x
unfolding splice
splice-whole p x w = ap (λ (l : List ℕ). x ++ l) (drop_of_length-le p {i = 0 + length x} (omega arith)) ∙ append-nil x

-- k pages of zeros become k blank pages; what stands before them stays
module _ (m : ℕ) (size : m ≡ page_length) where
  abbrev zeros : ℕ → List ℕ
  zeros k = replicate k 0

  zero-page : (front rest : List ℕ) (i : ℕ) → length front ≡ page_start i → emptied (page_at (front ++ (zeros m ++ rest)) i) ≡ no_symbol
  unfolding emptied page_at
  zero-page front rest i w =
      let b : List ℕ = front ++ (zeros m ++ rest) in
      let z : length (zeros m) ≡ m = length-replicate {A = ℕ} m 0 in
      ap blank_page
      (part-part b (page_start i) page_length 0 head_length (omega arith) ∙ part-after front (zeros m ++ rest) (page_start i) 0 head_length w
      ∙ part-front (zeros m) rest 0 head_length (omega (arith, z, size)) ∙ part-zeros m 0 head_length (omega (arith, size)))

  blank-length : length no_symbol ≡ page_length
  blank-length = length-blank (replicate head_length 0) (length-replicate {A = ℕ} head_length 0)

  blank-from : (k i : ℕ) (front : List ℕ) → length front ≡ page_start i → each_page emptied i k (front ++ zeros (k * m)) ≡ front ++ blank_pages k
  unfolding each_page blank_pages set_page
  blank-from zero i front w = let e : 0 * m ≡ 0 = omega arith in ap (λ (j : ℕ). front ++ zeros j) e
  blank-from (suc k) i front w =
      let c : suc k * m ≡ m + k * m = omega (arith, suc-mul k m) in
      let e : zeros (suc k * m) ≡ zeros m ++ zeros (k * m) = ap zeros c ∙ zeros-join m (k * m) in
      let b : List ℕ = front ++ (zeros m ++ zeros (k * m)) in
      let n : length (zeros m) ≡ length no_symbol = length-replicate {A = ℕ} m 0 ∙ size ∙ sym blank-length in
      let l : length (front ++ no_symbol) ≡ page_start (i + 1) = length-append front no_symbol ∙ (omega (arith, w, blank-length)) in
      let s : splice b (page_start i) (emptied (page_at b i)) ≡ front ++ no_symbol ++ zeros (k * m) =
      ap (splice b (page_start i)) (zero-page front (zeros (k * m)) i w) ∙ splice-middle front (zeros m) (zeros (k * m)) no_symbol (page_start i) w n
      ∙ sym (append_assoc front no_symbol (zeros (k * m))) in
      ap (λ (x : List ℕ). each_page emptied i (suc k) (front ++ x)) e ∙ ap (each_page emptied (i + 1) k) s ∙ blank-from k (i + 1) (front ++ no_symbol) l
      ∙ append_assoc front no_symbol (blank_pages k)

-- the opening over zeros
module _ (n : ℕ) where
  abbrev opening : List ℕ → List ℕ
  opening x = mark ++ ((n ∷ 0 ∷ 0 ∷ be_bytes 4 opening_length) ++ x)

  opening-put : (x : List ℕ) → splice (splice (splice (replicate lines_at 0 ++ x) 0 mark) n_at (n ∷ [])) first_page_at (be_bytes 4 opening_length) ≡ opening x
  unfolding splice be_bytes
  opening-put x = refl

  opening-then : (x y : List ℕ) → opening (x ++ y) ≡ opening x ++ y
  unfolding be_bytes
  opening-then x y = refl

  opening-length : length (opening (replicate lines_length 0)) ≡ opening_length
  unfolding be_bytes
  opening-length = refl

pub made-is : (b b1 b2 b3 b4 b5 : List ℕ) (n : ℕ) → n ≤ symbols_most → length b ≡ book_length n → b1 ≡ splice b 0 (replicate (length b - 0) 0) → b2 ≡ splice b1 0 (be_bytes 8 5860677713450388273)
    → b3 ≡ splice b2 n_at (be_bytes 1 n) → b4 ≡ splice b3 first_page_at (be_bytes 4 opening_length) → b5 ≡ each_page emptied 0 n b4 → b5 ≡ fresh_bytes n
unfolding fresh_bytes
made-is b b1 b2 b3 b4 b5 n up size e1 e2 e3 e4 e5 =
    let z : List ℕ = replicate (n * page_length) 0 in
    let l : length b - 0 ≡ lines_at + (lines_length + n * page_length) = omega arith in
    let w : length (replicate {A = ℕ} (length b - 0) 0) ≡ length b = length-replicate {A = ℕ} (length b - 0) 0 ∙ (omega arith) in
    let j : b1 ≡ replicate lines_at 0 ++ (replicate lines_length 0 ++ z) =
    e1 ∙ splice-whole b (replicate (length b - 0) 0) w ∙ ap (λ (k : ℕ). replicate {A = ℕ} k 0) l ∙ zeros-join lines_at (lines_length + n * page_length)
    ∙ ap (λ (x : List ℕ). replicate lines_at 0 ++ x) (zeros-join lines_length (n * page_length)) in
    let o : b4 ≡ opening n (replicate lines_length 0) ++ z =
    e4 ∙ rw (e3, e2, j, mark-bytes, be_bytes-one n (omega arith)) (opening-put n (replicate lines_length 0 ++ z)) ∙ opening-then n (replicate lines_length 0) z in
    e5 ∙ ap (each_page emptied 0 n) o ∙ blank-from page_length refl n 0 (opening n (replicate lines_length 0)) (opening-length n) ∙ sym (opening-then n (replicate lines_length 0) (blank_pages n))

-- ---- a publication copied, 8 bytes at a time

pub copy_start : (b p : List ℕ) (at : ℕ) → splice p (8 * 0) (part b (at + 8 * 0) (publication_length - 8 * 0)) ≡ splice p 0 (part b at publication_length)
copy_start b p at = let z : at + 8 * 0 ≡ at = omega arith in rw z

pub copy-again : (b p p' w : List ℕ) (at i v : ℕ) → at + publication_length ≤ length b → Bytes b → i < 12 → splice p (8 * i) (part b (at + 8 * i) (publication_length - 8 * i)) ≡ w → v ≡ field b (at + 8 * i) 8
    → p' ≡ splice p (8 * i) (be_bytes 8 v) → splice p' (8 * (i + 1)) (part b (at + 8 * (i + 1)) (publication_length - 8 * (i + 1))) ≡ w
copy-again b p p' w at i v h y l inv ve e =
    let e1 : 8 * (i + 1) ≡ 8 * i + 8 = omega arith in
    let e2 : at + (8 * i + 8) ≡ at + 8 * i + 8 = omega arith in
    let e3 : publication_length - 8 * i ≡ 8 + (publication_length - (8 * i + 8)) = omega arith in
    let f : be_bytes 8 v ≡ part b (at + 8 * i) 8 = ap (be_bytes 8) ve ∙ be_bytes-field b (at + 8 * i) 8 (omega arith) y in
    let t : List ℕ = part b (at + 8 * i + 8) (publication_length - (8 * i + 8)) in
    let j : splice (splice p (8 * i) (part b (at + 8 * i) 8)) (8 * i + 8) t ≡ splice p (8 * i) (part b (at + 8 * i) 8 ++ t) =
    splice-join p (8 * i) 8 (part b (at + 8 * i) 8) t (length_part b (at + 8 * i) 8 (omega arith)) in
    rw (e1, e2, e, f) (j ∙ ap (splice p (8 * i)) (sym (part_join b (at + 8 * i) 8 (publication_length - (8 * i + 8))) ∙ ap (part b (at + 8 * i)) (sym e3)) ∙ inv)

pub copy-end : (b p w : List ℕ) (at i : ℕ) → publication_length ≤ length p → 12 ≤ i → i ≤ 12 → splice p (8 * i) (part b (at + 8 * i) (publication_length - 8 * i)) ≡ w → p ≡ w
unfolding part
copy-end b p w at i l h u inv =
    let z : publication_length - 8 * i ≡ 0 = omega arith in
    sym (splice-part p (8 * i) 0 (omega arith)) ∙ (rw z at inv)
