-- The opening of a book and where its pages stand. Every place and length of it is named here.
-- Assumes nothing.
use Rattle.std.specs.Prelude.{ℕ, ◌+◌, ◌-◌, ◌*◌, List, [], ◌∷◌}
use Rattle.field.specs.Ascii.{B, E, K, O, Q, T, U}
use Rattle.page.specs.Layout.{page_length}
use Rattle.allowance.specs.Allowance.{allowance_length}

-- QUOTEBK1
abbrev pub mark : List ℕ
mark = Q ∷ U ∷ O ∷ T ∷ E ∷ B ∷ K ∷ 49 ∷ []

-- behind the mark: n, the count of symbols, the day flag, the offset of the first page
abbrev pub n_at : ℕ
n_at = 8

abbrev pub count_at : ℕ
count_at = n_at + 1

abbrev pub day_at : ℕ
day_at = count_at + 1

abbrev pub first_page_at : ℕ
first_page_at = day_at + 1

-- a line: letter 1, next expected 4, count 8
abbrev pub lines_at : ℕ
lines_at = first_page_at + 4

abbrev pub line_length : ℕ
line_length = 13

abbrev pub line_count : ℕ
line_count = 64

-- behind the lines, T-14's allowance: B, a share for each line, the charges of each line
abbrev pub allowance_at : ℕ
allowance_at = lines_at + line_count * line_length

abbrev pub opening_length : ℕ
opening_length = allowance_at + allowance_length

-- from the lines to the end: zeros in a made book
abbrev pub lines_length : ℕ
lines_length = opening_length - lines_at

-- where line i stands
abbrev pub line_at : ℕ → ℕ
line_at i = lines_at + i * line_length

-- "a book is made for n symbols, 1 to 64"
abbrev pub symbols_most : ℕ
symbols_most = 64

-- the opening, then n pages
abbrev pub book_length : ℕ → ℕ
book_length n = opening_length + n * page_length

abbrev pub page_start : ℕ → ℕ
page_start k = opening_length + k * page_length
