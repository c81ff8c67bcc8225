-- What make leaves, whatever the bytes were: a sound book with no symbols, no lines, a closed day and n blank pages.
-- Assumes nothing.
use Rattle.std.proofs.Common.{◌≡◌, ℕ, zero, suc, ◌+◌, ◌*◌, ◌^◌, ◌<◌, ◌≤◌, Bool, true, false, cond, eqb, ltb, List, [], ◌∷◌, ◌++◌, length, replicate, sym, refl, ap, ◌∙◌, append_assoc, suc-mul, arith, lit<, length-append, ltb-true}
use mathlib.Core.Path.{fun_ext}
use Rattle.std.specs.Prelude.{None}
use lib.ListN.{length-replicate}
use Rattle.field.specs.Field.{Bytes, be, part, field, be_bytes}
use Rattle.field.proofs.Laws.{bytes-append}
use Rattle.lists.specs.Lists.{every}
use Rattle.update.specs.Parts.{blank_page}
use Rattle.update.proofs.EntryLaws.{bytes-every}
use Rattle.field.proofs.ZeroLaws.{part-zeros, bytes-zeros}
use Rattle.field.proofs.JoinLaws.{part-front, part-after, part-whole}
use Rattle.update.proofs.BlankLaws.{length-blank, bytes-blank}
use Rattle.opening.specs.Opening.{symbols_of, count_of, line_in, lines_in, allowance_on, rest_in, page_at, pages_in, blank_pages, fresh_bytes}
use Rattle.opening.proofs.OpeningLaws.{Sound}
use Rattle.allowance.specs.Allowance.{allowance_length, allowance_in, no_allowance}
use Rattle.page.specs.Layout.{page_length, head_length}
use Rattle.opening.specs.Layout.{day_at, first_page_at, lines_at, line_length, lines_length, book_length, n_at, line_count, allowance_at, opening_length, page_start, line_at, symbols_most, mark}

-- ---- the blank pages

abbrev pub no_symbol : List ℕ
no_symbol = blank_page (replicate head_length 0)

no-symbol-length : length no_symbol ≡ page_length
no-symbol-length = length-blank (replicate head_length 0) (length-replicate {A = ℕ} head_length 0)

length-pages : (n : ℕ) → length (blank_pages n) ≡ n * page_length
unfolding blank_pages
length-pages zero = refl
length-pages (suc n) = length-append no_symbol (blank_pages n) ∙ (omega (arith, no-symbol-length, length-pages n, suc-mul n page_length))

bytes-pages : (n : ℕ) → Bytes (blank_pages n)
unfolding blank_pages
bytes-pages zero = λ i. lit< tt
bytes-pages (suc n) = bytes-append no_symbol (blank_pages n) (bytes-blank (replicate head_length 0) (bytes-zeros head_length)) (bytes-pages n)

blank-at : (n k : ℕ) → k < n → part (blank_pages n) (k * page_length) page_length ≡ no_symbol
unfolding blank_pages
blank-at zero k h = absurd (omega arith)
blank-at (suc n) zero h = part-front no_symbol (blank_pages n) 0 page_length (omega (arith, no-symbol-length)) ∙ part-whole no_symbol page_length no-symbol-length
blank-at (suc n) (suc k) h =
    let e : suc k * page_length ≡ page_length + k * page_length = omega arith in
    ap (λ (i : ℕ). part (no_symbol ++ blank_pages n) i page_length) e ∙ part-after no_symbol (blank_pages n) page_length (k * page_length) page_length no-symbol-length ∙ blank-at n k (omega arith)

-- ---- the opening

module _ (n : ℕ) where
  abbrev head : List ℕ
  head = mark ++ (n ∷ 0 ∷ 0 ∷ be_bytes 4 opening_length)

  -- behind the first lines_at bytes: the lines, then the pages
  behind : (i w : ℕ) → part (fresh_bytes n) (lines_at + i) w ≡ part (replicate lines_length 0 ++ blank_pages n) i w
  unfolding fresh_bytes be_bytes
  behind i w =
      ap (λ (z : List ℕ). part z (lines_at + i) w) (sym (append_assoc mark (n ∷ 0 ∷ 0 ∷ be_bytes 4 opening_length) (replicate lines_length 0 ++ blank_pages n)))
      ∙ part-after head (replicate lines_length 0 ++ blank_pages n) lines_at i w refl

  line-at : (i : ℕ) → i < line_count → part (fresh_bytes n) (line_at i) line_length ≡ replicate line_length 0
  line-at i h =
      behind (i * line_length) line_length ∙ part-front (replicate lines_length 0) (blank_pages n) (i * line_length) line_length (omega (arith, length-replicate {A = ℕ} lines_length 0)) ∙ part-zeros lines_length (i * line_length) line_length (omega arith)

  pub fresh-page : (k : ℕ) → k < n → page_at (fresh_bytes n) k ≡ no_symbol
  unfolding page_at
  fresh-page k h =
      let e : page_start k ≡ lines_at + (lines_length + k * page_length) = omega arith in
      ap (λ (i : ℕ). part (fresh_bytes n) i page_length) e ∙ behind (lines_length + k * page_length) page_length
      ∙ part-after (replicate lines_length 0) (blank_pages n) lines_length (k * page_length) page_length (length-replicate {A = ℕ} lines_length 0) ∙ blank-at n k h

  pub fresh-length : length (fresh_bytes n) ≡ book_length n
  unfolding fresh_bytes be_bytes
  fresh-length =
      length-append mark ((n ∷ 0 ∷ 0 ∷ be_bytes 4 opening_length) ++ (replicate lines_length 0 ++ blank_pages n))
      ∙ ap (λ (z : ℕ). 8 + z) (length-append (n ∷ 0 ∷ 0 ∷ be_bytes 4 opening_length) (replicate lines_length 0 ++ blank_pages n)
      ∙ ap (λ (z : ℕ). 7 + z) (length-append (replicate lines_length 0) (blank_pages n) ∙ (λ i. length-replicate {A = ℕ} lines_length 0 i + length-pages n i)))
      ∙ (omega arith)

  fresh-symbols : symbols_of (fresh_bytes n) ≡ n
  unfolding symbols_of fresh_bytes field part be
  fresh-symbols = let e : n * 256 ^ 0 + 0 ≡ n = omega arith in e

  fresh-count : count_of (fresh_bytes n) ≡ 0
  unfolding count_of fresh_bytes field part be
  fresh-count = refl

  fresh-day : field (fresh_bytes n) day_at 1 ≡ 0
  unfolding fresh_bytes field part be
  fresh-day = refl

  fresh-first : field (fresh_bytes n) first_page_at 4 ≡ opening_length
  unfolding fresh_bytes field part be be_bytes
  fresh-first = refl

  fresh-mark : part (fresh_bytes n) 0 n_at ≡ mark
  unfolding fresh_bytes part
  fresh-mark = refl

  pub fresh-sound : 1 ≤ n → n ≤ symbols_most → Sound n (fresh_bytes n)
  fresh-sound low up =
      record {
        size = fresh-length;
        low = low;
        up = up;
        symbols = fresh-symbols;
        count = rw fresh-count (omega arith);
        marked = fresh-mark;
        first = fresh-first;
        day = rw fresh-day (omega arith);
      }

  opening-bytes : n ≤ symbols_most → Bytes (n ∷ 0 ∷ 0 ∷ be_bytes 4 opening_length)
  unfolding every be_bytes
  opening-bytes up zero = omega arith
  opening-bytes up (suc i) = bytes-every (0 ∷ 0 ∷ be_bytes 4 opening_length) refl i

  pub fresh-bytes : n ≤ symbols_most → Bytes (fresh_bytes n)
  unfolding fresh_bytes every
  fresh-bytes up =
      bytes-append mark ((n ∷ 0 ∷ 0 ∷ be_bytes 4 opening_length) ++ (replicate lines_length 0 ++ blank_pages n)) (bytes-every mark refl)
      (bytes-append (n ∷ 0 ∷ 0 ∷ be_bytes 4 opening_length) (replicate lines_length 0 ++ blank_pages n) (opening-bytes up)
      (bytes-append (replicate lines_length 0) (blank_pages n) (bytes-zeros lines_length) (bytes-pages n)))

  no_line : line_in (replicate line_length 0) ≡ None
  unfolding line_in field part
  no_line = refl

  fresh_lines : lines_in (fresh_bytes n) ≡ (λ i. None)
  unfolding lines_in
  fresh_lines = fun_ext (λ i. go i (ltb i line_count) refl)
    where
      go : (i : ℕ) (t : Bool) → ltb i line_count ≡ t → cond t (line_in (part (fresh_bytes n) (line_at i) line_length)) None ≡ None
      go i true e = ap line_in (line-at i (ltb-true i line_count e)) ∙ no_line
      go i false e = refl

  allowance-zeros : part (fresh_bytes n) allowance_at allowance_length ≡ replicate allowance_length 0
  allowance-zeros =
      behind (line_count * line_length) allowance_length
      ∙ part-front (replicate lines_length 0) (blank_pages n) (line_count * line_length) allowance_length (omega (arith, length-replicate {A = ℕ} lines_length 0))
      ∙ part-zeros lines_length (line_count * line_length) allowance_length (omega arith)

  zeros-none : allowance_in (replicate allowance_length 0) ≡ no_allowance
  unfolding allowance_in field part be
  zeros-none = refl

  -- "A made book has no allowance"
  fresh-allowance : allowance_on (fresh_bytes n) ≡ no_allowance
  unfolding allowance_on
  fresh-allowance = ap allowance_in allowance-zeros ∙ zeros-none

  pub fresh-rest : rest_in (fresh_bytes n) ≡ record { n = n; lines = λ i. None; day = false; allowance = no_allowance }
  unfolding rest_in
  fresh-rest = λ k. record { n = fresh-symbols k; lines = fresh_lines k; day = eqb (fresh-day k) 1; allowance = fresh-allowance k }

  pub fresh-pages : pages_in (fresh_bytes n) ≡ []
  unfolding pages_in
  fresh-pages = rw fresh-count
