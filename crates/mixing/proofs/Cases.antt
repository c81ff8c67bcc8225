-- T-09 on cases: the same blocks in two orders, what each line hears, and the case that "at most one line" leaves out. Computed on the reviewer, whose
-- answers are the book's (`demand3`); rows of odd lots and of one maker, so that no flag goes by how the national entries are worked out.
-- Assumes nothing.
use Prim.Native.Nat.{ℕ}
use mathlib.Core.Path.{◌≡◌, refl}
use mathlib.Core.List.{List, [], ◌∷◌, ◌++◌}
use native.Mathlib.Omega.{arith}
use lib.ListN.{replicate, set}
use Rattle.field.specs.Field.{be, part, field}
use Rattle.opening.specs.declared.Line.{Line}
use Rattle.opening.specs.Opening.{line_in, lines_in}
use Rattle.calls.specs.Call.{Call, add, open_line, start_day, Answer}
use Rattle.review.specs.Reviewer.{fresh_review, review_after, review_answers}
use Rattle.cases.proofs.Rows.{item, control, block, all_told, only, accepted, gap, refused, odd, nothing, shown, none, rejected, zt, levels_by, status_by, halt, trade, maker_of, unknown, day, look, Row, in_day, from_make, answered, Answered, end, ◌▹◌}
use Rattle.mixing.specs.Mixing.{Received, calls, of_line, OneLineEach, unflagged, heard, codes_in, codes}

-- ---- blocks of three lines: 5 is N's, 6 is P's, 7 is D's, and 9 is not open

abbrev on_line : ℕ → ℕ → List (List ℕ) → Received
on_line i sequence ms = record { line = i; block = block sequence ms; room = 180 }

-- one odd bid of ZT
abbrev bid : ℕ → ℕ → ℕ → List ℕ
bid letter price shares = levels_by letter 8 32 1 0 (item price shares)

-- N: a bid at 9.00, the same number again, a short buffer, a gap of 3 with an unknown type
abbrev n1 : Received
n1 = on_line 5 1 (bid 78 9000000 5 ∷ [])

abbrev n2 : Received
n2 = on_line 5 1 (bid 78 9001000 5 ∷ [])

abbrev n3 : Received
n3 = record { line = 5; block = block 2 (bid 78 9001000 5 ∷ []); room = 179 }

abbrev n4 : Received
n4 = on_line 5 5 (unknown ∷ [])

-- P: a larger bid at 9.00, a wrong checksum
abbrev p1 : Received
p1 = on_line 6 1 (bid 80 9000000 6 ∷ [])

abbrev p2 : Received
p2 = record { line = 6; block = set (block 2 (bid 80 9001000 5 ∷ [])) 9 0; room = 180 }

-- D: a maker's bid at 10.00, FINRA Close
abbrev d1 : Received
d1 = on_line 7 1 (maker_of 7 82 10000000 3 0 0 65 ∷ [])

abbrev d2 : Received
d2 = on_line 7 2 (control 67 68 ∷ [])

-- N halts ZT, whose primary letter it is, and lets it trade; P may do neither
abbrev h1 : Received
h1 = on_line 5 1 (halt ∷ [])

abbrev h2 : Received
h2 = on_line 5 2 (trade ∷ [])

abbrev q2 : Received
q2 = on_line 6 2 (status_by 80 9 zt 84 ∷ [])

abbrev x1 : Received
x1 = on_line 9 1 (bid 78 9000000 5 ∷ [])

-- ---- two lines in both orders: all answers. The flags of N differ, all else is equal

-- lines 5 and 6 are both N's
abbrev two_of_n : List Call
two_of_n = add zt 100 78 ∷ open_line 5 78 ∷ open_line 6 78 ∷ start_day ∷ []

abbrev best : List ℕ
best = shown nothing nothing nothing nothing (odd 80 9000000 6) nothing

abbrev halt_on5 : Received
halt_on5 = on_line 5 2 (halt ∷ [])

abbrev trade_on6 : Received
trade_on6 = on_line 6 1 (trade ∷ [])

-- N's bid alone; the answers to `two_of_n`, then these
abbrev led : List ℕ
led = shown nothing nothing nothing nothing (odd 78 9000000 5) nothing

abbrev four0 : List (List ℕ) → List (List ℕ)
four0 rest = only 0 ∷ only 0 ∷ only 0 ∷ only 0 ∷ rest

unfoldable pub table : List Row
table =
    -- N's bid leads until P's comes
    in_day (calls (n1 ∷ p1 ∷ []) ++ (look ∷ [])) (accepted 2 1 16 ∷ accepted 2 1 16 ∷ best ∷ [])
    -- it never leads
    ∷ in_day (calls (p1 ∷ n1 ∷ []) ++ (look ∷ [])) (accepted 2 1 16 ∷ accepted 2 1 0 ∷ best ∷ [])
    -- three lines, refused blocks among them, line by line: D's bid hides the odd lots, its Close shows them again
    ∷ in_day (calls (n1 ∷ n2 ∷ n3 ∷ n4 ∷ p1 ∷ p2 ∷ d1 ∷ d2 ∷ x1 ∷ []) ++ (look ∷ []))
    (accepted 2 1 16 ∷ refused 35 2 1 ∷ only 9 ∷ gap 3 6 2 ∷ accepted 2 1 16 ∷ refused 32 2 1 ∷ accepted 2 1 21 ∷ accepted 3 2 21 ∷ only 21 ∷ best ∷ [])
    -- and mixed
    ∷ in_day (calls (x1 ∷ d1 ∷ n1 ∷ p1 ∷ n2 ∷ d2 ∷ p2 ∷ n3 ∷ n4 ∷ []) ++ (look ∷ []))
    (only 21 ∷ accepted 2 1 5 ∷ accepted 2 1 0 ∷ accepted 2 1 0 ∷ refused 35 2 1 ∷ accepted 3 2 21 ∷ refused 32 2 1 ∷ only 9 ∷ gap 3 6 2 ∷ best ∷ [])
    -- T-10: P's bid before N's halt, and in it; what P says of ZT's trading has 76 before the halt, in it and after it
    ∷ in_day (calls (p1 ∷ q2 ∷ h1 ∷ []) ++ (look ∷ [])) (accepted 2 1 16 ∷ rejected 3 2 76 ∷ accepted 2 1 16 ∷ none ∷ [])
    ∷ in_day (calls (h1 ∷ p1 ∷ q2 ∷ []) ++ (look ∷ [])) (accepted 2 1 0 ∷ accepted 2 1 0 ∷ rejected 3 2 76 ∷ none ∷ [])
    ∷ in_day (calls (h1 ∷ p1 ∷ h2 ∷ q2 ∷ []) ++ (look ∷ [])) (accepted 2 1 0 ∷ accepted 2 1 0 ∷ accepted 3 2 16 ∷ rejected 3 2 76 ∷ best ∷ [])
    ∷ in_day (calls (h1 ∷ h2 ∷ p1 ∷ q2 ∷ []) ++ (look ∷ [])) (accepted 2 1 0 ∷ accepted 3 2 0 ∷ accepted 2 1 16 ∷ rejected 3 2 76 ∷ best ∷ [])
    -- which "at most one line" leaves out: a halt and its end on two lines of N
    ∷ from_make 1 (two_of_n ++ (calls (n1 ∷ halt_on5 ∷ trade_on6 ∷ []) ++ (look ∷ []))) (four0 (accepted 2 1 16 ∷ accepted 3 2 16 ∷ accepted 2 1 16 ∷ led ∷ []))
    ∷ from_make 1 (two_of_n ++ (calls (n1 ∷ trade_on6 ∷ halt_on5 ∷ []) ++ (look ∷ []))) (four0 (accepted 2 1 16 ∷ accepted 2 1 0 ∷ accepted 3 2 16 ∷ none ∷ []))
    ∷ []

-- one for each row, in order
pub cases : Answered table
unfolding table answered
cases =
    refl  -- N, P
    ▹ refl  -- P, N
    ▹ refl  -- line by line
    ▹ refl  -- mixed
    ▹ refl  -- before a halt
    ▹ refl  -- in it
    ▹ refl  -- a halt that ends, in it
    ▹ refl  -- and after it
    ▹ refl  -- two lines: halt, trading
    ▹ refl  -- two lines: trading, halt
    ▹ end

-- ---- what each line hears, by the definitions of the theorem

-- the answers to blocks on a book, after these calls
unfoldable pub answers_to : List Call → List Received → List Answer
unfolding answered
answers_to begun xs = review_answers (review_after (fresh_review 1) begun) (calls xs)

-- what lines 5, 6, 7 and 9 hear
unfoldable pub heard_by : List Received → List (List (List ℕ))
unfolding answers_to
heard_by xs =
    all_told (heard 5 xs (answers_to (day []) xs)) ∷ all_told (heard 6 xs (answers_to (day []) xs)) ∷ all_told (heard 7 xs (answers_to (day []) xs))
    ∷ all_told (heard 9 xs (answers_to (day []) xs)) ∷ []

-- of each block number, gap, next expected, count, counts, then index, code, 0 and 0 of each message
abbrev to_each : List (List (List ℕ))
to_each =
    (accepted 2 1 0 ∷ refused 35 2 1 ∷ only 9 ∷ gap 3 6 2 ∷ []) ∷ (accepted 2 1 0 ∷ refused 32 2 1 ∷ []) ∷ (accepted 2 1 0 ∷ accepted 3 2 0 ∷ []) ∷ (only 21 ∷ []) ∷ []

pub line-by-line : heard_by (n1 ∷ n2 ∷ n3 ∷ n4 ∷ p1 ∷ p2 ∷ d1 ∷ d2 ∷ x1 ∷ []) ≡ to_each
unfolding heard_by
line-by-line = refl

pub mixed : heard_by (x1 ∷ d1 ∷ n1 ∷ p1 ∷ n2 ∷ d2 ∷ p2 ∷ n3 ∷ n4 ∷ []) ≡ to_each
unfolding heard_by
mixed = refl

-- both are mixings of the same blocks: line by line, in their order, with their buffers
pub blocks-of-n : of_line 5 (x1 ∷ d1 ∷ n1 ∷ p1 ∷ n2 ∷ d2 ∷ p2 ∷ n3 ∷ n4 ∷ []) ≡ n1 ∷ n2 ∷ n3 ∷ n4 ∷ []
blocks-of-n = refl

pub blocks-of-p : of_line 6 (x1 ∷ d1 ∷ n1 ∷ p1 ∷ n2 ∷ d2 ∷ p2 ∷ n3 ∷ n4 ∷ []) ≡ p1 ∷ p2 ∷ []
blocks-of-p = refl

pub no_blocks : of_line 8 (x1 ∷ d1 ∷ n1 ∷ p1 ∷ n2 ∷ d2 ∷ p2 ∷ n3 ∷ n4 ∷ []) ≡ []
no_blocks = refl

-- the four bytes of a message without its flags; its code
pub without-flags : unflagged (0 ∷ 64 ∷ 63 ∷ 0 ∷ 1 ∷ 0 ∷ 16 ∷ 0 ∷ []) ≡ 0 ∷ 64 ∷ 0 ∷ 0 ∷ 1 ∷ 0 ∷ 0 ∷ 0 ∷ []
without-flags = refl

pub codes-of-two : codes_in (0 ∷ 64 ∷ 63 ∷ 0 ∷ 1 ∷ 0 ∷ 16 ∷ 0 ∷ []) ≡ 64 ∷ 0 ∷ []
codes-of-two = refl

-- ---- a code goes by its own letter's levels: N's four bids leave P's fifth price its room

abbrev four : ℕ → List ℕ
four letter = levels_by letter 8 32 4 0 (item 9000000 5 ++ (item 9001000 5 ++ (item 9002000 5 ++ item 9003000 5)))

unfoldable pub codes_of : List Call → ℕ → List Received → List (List ℕ)
unfolding answers_to
codes_of begun i xs = codes i xs (answers_to begun xs)

pub own-levels : codes_of (day []) 6 (on_line 5 1 (four 78 ∷ []) ∷ on_line 6 1 (bid 80 9004000 5 ∷ []) ∷ []) ≡ (0 ∷ []) ∷ []
unfolding codes_of
own-levels = refl

-- ---- two lines of one letter, which the supposition leaves out: codes do differ

pub four-bids-first : codes_of two_of_n 6 (on_line 5 1 (four 78 ∷ []) ∷ on_line 6 1 (bid 78 9004000 5 ∷ []) ∷ []) ≡ (64 ∷ []) ∷ []
unfolding codes_of
four-bids-first = refl

pub four-bids-last : codes_of two_of_n 6 (on_line 6 1 (bid 78 9004000 5 ∷ []) ∷ on_line 5 1 (four 78 ∷ []) ∷ []) ≡ (0 ∷ []) ∷ []
unfolding codes_of
four-bids-last = refl

-- the bytes of such an opening, from its start to the end of line 6
abbrev lines_of_n : List ℕ
lines_of_n = replicate 80 0 ++ ((78 ∷ replicate 12 0) ++ (78 ∷ replicate 12 0))

abbrev record_of_n : Line
record_of_n = record { letter = 78; expected = 0; count = 0 }

pub not-one-each : OneLineEach lines_of_n → ⊥
unfolding lines_in line_in field part be
not-one-each o = let e : ◌≡◌ {A = ℕ} 5 6 = o 5 6 record_of_n record_of_n refl refl refl in omega arith
