-- What the opening of a book says, the pages behind it, and what make and Start of Day leave.
-- Assumes nothing.
use Rattle.std.specs.Prelude.{ℕ, zero, suc, ◌+◌, ◌/◌, ◌%◌, ◌^◌, Bool, cond, ◌&&◌, List, [], ◌∷◌, ◌++◌, map, length, replicate, ◌==◌, nat_eq, nat_le, nat_lt, Option, None, Some}
use Rattle.field.specs.Field.{part, field, splice, be_bytes}
use Rattle.lists.specs.Lists.{range, first_from, same_list}
use Rattle.text.specs.Form.{letter_good}
use Rattle.update.specs.Parts.{Reading, reading_of, blank_page}
use Rattle.opening.specs.declared.Line.{Line}
use Rattle.allowance.specs.Allowance.{Allowance, allowance_length, allowance_in}
use Rattle.page.specs.Layout.{hints_at, hint_count, head_length, page_length, page_symbol}
use Rattle.opening.specs.Layout.{n_at, count_at, day_at, first_page_at, line_length, line_count, lines_length, allowance_at, opening_length, book_length, page_start, line_at, symbols_most, mark}

unfoldable pub symbols_of : List ℕ → ℕ
symbols_of b = field b n_at 1

unfoldable pub count_of : List ℕ → ℕ
count_of b = field b count_at 1

-- "An opening is sound if mark, offset and length are right, n is 1 to 64, the count at most n and the day flag 0 or 1"
unfoldable pub sound : List ℕ → Bool
sound b =
    same_list (part b 0 n_at) mark
    && (nat_le 1 (symbols_of b) && (nat_le (symbols_of b) symbols_most
    && (nat_le (count_of b) (symbols_of b)
    && (nat_le (field b day_at 1) 1
    && (field b first_page_at 4 == opening_length && length b == book_length (symbols_of b))))))

-- ---- lines

-- a line whose letter byte is no letter is not open
unfoldable pub line_in : List ℕ → Option Line
line_in r = cond (letter_good (field r 0 1)) (Some (record { letter = field r 0 1; expected = field r 1 4; count = field r 5 8 })) None

unfoldable pub line_bytes : Line → List ℕ
line_bytes x = be_bytes 1 x.letter ++ be_bytes 4 x.expected ++ be_bytes 8 x.count

unfoldable pub lines_in : List ℕ → ℕ → Option Line
lines_in b i = cond (nat_lt i line_count) (line_in (part b (line_at i) line_length)) None

-- ---- the allowance of T-14

-- every byte pattern has this reading
unfoldable pub allowance_on : List ℕ → Allowance
allowance_on b = allowance_in (part b allowance_at allowance_length)

-- the book with the allowance's bytes changed
unfoldable pub on_allowance : (List ℕ → List ℕ) → List ℕ → List ℕ
on_allowance g b = splice b allowance_at (g (part b allowance_at allowance_length))

-- n, the lines, the day and the allowance
pub record Rest : Type 0 where
  pub n : ℕ
  pub lines : ℕ → Option Line
  pub day : Bool
  pub allowance : Allowance

unfoldable pub rest_in : List ℕ → Rest
rest_in b = record { n = symbols_of b; lines = lines_in b; day = (field b day_at 1 == 1); allowance = allowance_on b }

-- "After a block is taken, expected becomes its number + c under that modulus, and the line's count rises by c modulo 2^64"; the letter stays
abbrev pub line_after : Line → ℕ → ℕ → Line
line_after r next c = record { letter = r.letter; expected = next; count = (r.count + c) % 18446744073709551616 }

-- ---- pages

unfoldable pub page_at : List ℕ → ℕ → List ℕ
page_at b k = part b (page_start k) page_length

unfoldable pub set_page : List ℕ → ℕ → List ℕ → List ℕ
set_page b k p = splice b (page_start k) p

-- the readings of the counted pages
unfoldable pub pages_in : List ℕ → List Reading
pages_in b = map (λ k. reading_of (page_at b k)) (range (count_of b) 0)

-- ---- where a symbol's page is

-- the first counted page of a symbol
unfoldable pub first_place : List ℕ → ℕ → Option ℕ
first_place b s = first_from (λ k. nat_eq (page_symbol (page_at b k)) s) 0 (count_of b)

-- the bucket of a symbol: its first 8 bytes as one number, modulo the count of hints
abbrev pub bucket_of : ℕ → ℕ
bucket_of s = s / 256 ^ 3 % hint_count

-- the first page's hint for a symbol, whatever byte it is
unfoldable pub hint_of : List ℕ → ℕ → ℕ
hint_of b s = field (page_at b 0) (hints_at + bucket_of s) 1

-- page k is counted and has the symbol
unfoldable pub is_place : List ℕ → ℕ → ℕ → Bool
is_place b s k = nat_lt k (count_of b) && page_symbol (page_at b k) == s

-- the hinted page if it is counted and has the symbol, else the first counted page that has it
unfoldable pub page_place : List ℕ → ℕ → Option ℕ
page_place b s = cond (is_place b s (hint_of b s)) (Some (hint_of b s)) (first_place b s)

-- the book with page k as the hint for a symbol
unfoldable pub hinted : ℕ → ℕ → List ℕ → List ℕ
hinted s k b = splice b (page_start 0 + (hints_at + bucket_of s)) (be_bytes 1 k)

abbrev pub reading_at : List ℕ → Option ℕ → Option Reading
reading_at b (Some k) = Some (reading_of (page_at b k))
reading_at b None = None

-- the reading of a symbol's page
abbrev pub reading_for : List ℕ → ℕ → Option Reading
reading_for b s = reading_at b (page_place b s)

-- ---- pages changed

-- the book with a page changed
abbrev pub on_place : (List ℕ → List ℕ) → List ℕ → Option ℕ → List ℕ
on_place g b (Some k) = set_page b k (g (page_at b k))
on_place g b None = b

unfoldable pub on_page : ℕ → (List ℕ → List ℕ) → List ℕ → List ℕ
on_page s g b = on_place g b (page_place b s)

-- the k pages from i on, each changed
unfoldable pub each_page : (List ℕ → List ℕ) → ℕ → ℕ → List ℕ → List ℕ
each_page g i zero b = b
each_page g i (suc k) b = each_page g (i + 1) k (set_page b i (g (page_at b i)))

-- ---- what make and Start of Day leave

-- n pages with no symbol
unfoldable pub blank_pages : ℕ → List ℕ
blank_pages zero = []
blank_pages (suc n) = blank_page (replicate head_length 0) ++ blank_pages n

-- "A made book has no symbols, no lines and a closed day", whatever the bytes were
unfoldable pub fresh_bytes : ℕ → List ℕ
fresh_bytes n = mark ++ ((n ∷ 0 ∷ 0 ∷ be_bytes 4 opening_length) ++ (replicate lines_length 0 ++ blank_pages n))

-- "sets every line's next expected number to 1 and its count to 0"; the letter stays
unfoldable pub restarted : List ℕ → List ℕ
restarted r = part r 0 1 ++ be_bytes 4 1 ++ be_bytes 8 0

-- the k lines from i on
unfoldable pub restart_lines : ℕ → ℕ → List ℕ → List ℕ
restart_lines i zero b = b
restart_lines i (suc k) b = restart_lines (i + 1) k (splice b (line_at i) (restarted (part b (line_at i) line_length)))
