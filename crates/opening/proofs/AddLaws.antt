-- A symbol added: one blank page more, and nothing else.
-- Assumes nothing.
use Rattle.std.proofs.Common.{◌≡◌, ℕ, zero, suc, ◌+◌, ◌<◌, ◌≤◌, eqb, List, [], ◌∷◌, ◌++◌, map, length, replicate, refl, ap, ◌∙◌, add-one, arith, lit≤}
use Rattle.field.specs.Field.{Bytes, be, part, field, splice, be_bytes}
use Rattle.field.proofs.Laws.{length-be_bytes, bytes-be_bytes, bytes-append, bytes-splice, length-splice, part-before, part-behind, field_put}
use Rattle.lists.specs.Lists.{range}
use Rattle.lists.proofs.Ranges.{map_range}
use Rattle.update.specs.Parts.{Reading, reading_of, blank_page, new_head}
use Rattle.update.proofs.Model.{blank_reading}
use Rattle.update.proofs.TableLaws.{length-put, cell_same, cell_other, put-before, range_snoc}
use Rattle.field.proofs.JoinLaws.{part-front, part-after, part-whole}
use Rattle.update.proofs.BlankLaws.{length-blank, bytes-blank, blank-reads}
use Rattle.update.proofs.StoreLaws.{length-head}
use Rattle.field.proofs.ZeroLaws.{bytes-zeros}
use Rattle.opening.specs.Opening.{symbols_of, count_of, lines_in, allowance_on, rest_in, page_at, set_page, pages_in, hinted}
use Rattle.opening.proofs.OpeningLaws.{Sound, lines-by, allowance-by, rest-by, opening-page}
use Rattle.opening.proofs.PageLaws.{OpeningKept, kept-sound}
use Rattle.opening.proofs.HintLaws.{hinted-kept, hinted-pages}
use Rattle.page.specs.Layout.{page_length, symbol_at, lot_at, primary_at, hint_count, head_length}
use Rattle.opening.specs.Layout.{count_at, day_at, first_page_at, line_length, allowance_at, opening_length, book_length, n_at, page_start, line_at}
use Rattle.allowance.specs.Allowance.{allowance_length}
use Rattle.text.specs.Form.{symbol_length}

module _ (n : ℕ) (b : List ℕ) (sd : Sound n b) (s : List ℕ) (l m : ℕ) (eleven : length s ≡ symbol_length) (room : count_of b < n) where
  abbrev head : List ℕ
  head = new_head s l m

  abbrev counted : List ℕ
  counted = splice b count_at (be_bytes 1 (count_of b + 1))

  abbrev paged : List ℕ
  paged = set_page counted (count_of b) (blank_page head)

  abbrev pub added : List ℕ
  added = hinted (be s) (count_of b) paged

  head-length : length head ≡ head_length
  head-length = length-head s l m eleven

  wide : length (blank_page head) ≡ page_length
  wide = length-blank head head-length

  count-in : count_at + length (be_bytes 1 (count_of b + 1)) ≤ length b
  count-in = omega (arith, length-be_bytes 1 (count_of b + 1), sd.size)

  counted-length : length counted ≡ length b
  counted-length = length-splice b count_at (be_bytes 1 (count_of b + 1)) count-in

  pages-room : book_length n ≤ length counted
  pages-room = omega (arith, counted-length, sd.size)

  paged-front : (at m : ℕ) → at + m ≤ opening_length → part paged at m ≡ part counted at m
  unfolding set_page
  paged-front at m h = put-before counted opening_length page_length n (count_of b) (blank_page head) pages-room room wide at m (omega arith)

  before : (at m : ℕ) → at + m ≤ count_at → part paged at m ≡ part b at m
  before at m h = paged-front at m (omega arith) ∙ part-before b count_at (be_bytes 1 (count_of b + 1)) at m (omega (arith, count-in)) h

  behind : (at m : ℕ) → day_at ≤ at → at + m ≤ opening_length → part paged at m ≡ part b at m
  behind at m h k = paged-front at m k ∙ part-behind b count_at (be_bytes 1 (count_of b + 1)) at m (omega (arith, length-be_bytes 1 (count_of b + 1)))

  paged-length : length paged ≡ length b
  unfolding set_page
  paged-length = length-put counted opening_length page_length n (count_of b) (blank_page head) pages-room room wide ∙ counted-length

  count-put : field counted count_at 1 ≡ count_of b + 1
  count-put = field_put b count_at 1 (count_of b + 1) (omega (arith, count-in)) (omega (arith, sd.up))

  paged-count : count_of paged ≡ count_of b + 1
  unfolding count_of field
  paged-count = ap be (paged-front count_at 1 (omega arith)) ∙ count-put

  paged-symbols : symbols_of paged ≡ symbols_of b
  unfolding symbols_of field
  paged-symbols = ap be (before n_at 1 (omega arith))

  paged-first : field paged first_page_at 4 ≡ field b first_page_at 4
  unfolding field
  paged-first = ap be (behind first_page_at 4 (omega arith) (omega arith))

  paged-day : field paged day_at 1 ≡ field b day_at 1
  unfolding field
  paged-day = ap be (behind day_at 1 (omega arith) (omega arith))

  paged-sound : Sound n paged
  paged-sound =
      record {
        size = paged-length ∙ sd.size;
        low = sd.low;
        up = sd.up;
        symbols = paged-symbols ∙ sd.symbols;
        count = rw paged-count (omega arith);
        marked = before 0 n_at (omega arith) ∙ sd.marked;
        first = paged-first ∙ sd.first;
        day = rw paged-day sd.day;
      }

  abbrev zeros : List ℕ
  zeros = replicate hint_count 0

  two_bytes : l < 256 → m < 256 → Bytes (l ∷ m ∷ zeros)
  two_bytes h k zero = h
  two_bytes h k (suc zero) = k
  two_bytes h k (suc (suc i)) = bytes-zeros hint_count i

  paged-bytes : Bytes b → Bytes s → l < 256 → m < 256 → Bytes paged
  unfolding set_page
  paged-bytes y z h k =
      bytes-splice counted (page_start (count_of b)) (blank_page head) (bytes-splice b count_at (be_bytes 1 (count_of b + 1)) y (bytes-be_bytes 1 (count_of b + 1)))
      (bytes-blank head (bytes-append s (l ∷ m ∷ zeros) z (two_bytes h k)))

  paged-rest : rest_in paged ≡ rest_in b
  unfolding rest_in
  paged-rest =
      let x : lines_in paged ≡ lines_in b = lines-by b paged (λ i h. behind (line_at i) line_length (omega arith) (omega arith)) in
      let a : allowance_on paged ≡ allowance_on b = allowance-by b paged (behind allowance_at allowance_length (omega arith) (omega arith)) in
      λ i. record { n = paged-symbols i; lines = x i; day = eqb (paged-day i) 1; allowance = a i }

  -- the pages before it stay
  paged-other : (j : ℕ) → (count_of b ≡ j → ⊥) → page_at paged j ≡ page_at b j
  unfolding page_at set_page
  paged-other j d =
      cell_other counted opening_length page_length n (count_of b) (blank_page head) pages-room room wide j d
      ∙ opening-page b count_at (be_bytes 1 (count_of b + 1)) (omega (arith, length-be_bytes 1 (count_of b + 1))) j

  paged-page : page_at paged (count_of b) ≡ blank_page head
  unfolding page_at set_page
  paged-page = cell_same counted opening_length page_length n (count_of b) (blank_page head) pages-room room wide

  head-reads : reading_of (blank_page head) ≡ blank_reading (be s) l m
  unfolding field be
  head-reads =
      let x : be (part head symbol_at symbol_length) ≡ be s = ap be (part-front s (l ∷ m ∷ zeros) symbol_at symbol_length (omega arith) ∙ part-whole s symbol_length eleven) in
      let y : be (part head lot_at 1) ≡ l = ap be (part-after s (l ∷ m ∷ zeros) symbol_length 0 1 eleven ∙ part-front (l ∷ []) (m ∷ zeros) 0 1 (lit≤ tt) ∙ part-whole (l ∷ []) 1 refl) ∙ (omega arith) in
      let z : be (part head primary_at 1) ≡ m = ap be (part-after s (l ∷ m ∷ zeros) symbol_length 1 1 eleven ∙ part-after (l ∷ []) (m ∷ zeros) 1 0 1 refl ∙ part-front (m ∷ []) zeros 0 1 (lit≤ tt) ∙ part-whole (m ∷ []) 1 refl) ∙ (omega arith) in
      blank-reads head head-length ∙ (λ i. blank_reading (x i) (y i) (z i))

  -- one reading more: the symbol with nothing
  paged-pages : pages_in paged ≡ pages_in b ++ (blank_reading (be s) l m ∷ [])
  unfolding pages_in
  paged-pages =
      let e : count_of paged ≡ suc (count_of b) = paged-count ∙ add-one (count_of b) in
      let f : ℕ → Reading = λ k. reading_of (page_at paged k) in
      let old : map f (range (count_of b) 0) ≡ map (λ k. reading_of (page_at b k)) (range (count_of b) 0) =
      map_range (λ k. reading_of (page_at b k)) f (count_of b) 0 (λ j x y. ap reading_of (paged-other j (λ q. omega arith))) in
      let last : 0 + count_of b ≡ count_of b = omega arith in
      let new : f (0 + count_of b) ≡ blank_reading (be s) l m = ap f last ∙ ap reading_of paged-page ∙ head-reads in
      ap (λ (k : ℕ). map f (range k 0)) e ∙ range_snoc f (count_of b) 0 ∙ (λ i. old i ++ (new i ∷ []))

  -- ---- then the hint

  hint-kept : OpeningKept paged added
  hint-kept = hinted-kept n paged paged-sound (be s) (count_of b)

  pub added-sound : Sound n added
  added-sound = kept-sound paged added hint-kept n paged-sound

  pub added-bytes : Bytes b → Bytes s → l < 256 → m < 256 → Bytes added
  added-bytes y z h k = hint-kept.bytes (paged-bytes y z h k)

  pub added-rest : rest_in added ≡ rest_in b
  added-rest = rest-by paged added hint-kept.front ∙ paged-rest

  pub added-pages : pages_in added ≡ pages_in b ++ (blank_reading (be s) l m ∷ [])
  added-pages = hinted-pages n paged paged-sound (be s) (count_of b) ∙ paged-pages
