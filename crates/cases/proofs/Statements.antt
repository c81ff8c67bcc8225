-- What only statements use, by computing: the symbols that a block touches (`frame`), the numbers of each call and the codes (`numbers-known`).
-- Assumes nothing.
use Prim.Native.Nat.{ℕ}
use mathlib.Core.Path.{◌≡◌, refl}
use mathlib.Core.Bool.{Bool, true, false}
use mathlib.Core.List.{List, [], ◌∷◌}
use lib.ListN.{set}
use Rattle.field.specs.Field.{be}
use Rattle.lists.specs.Lists.{range}
use Rattle.calls.specs.Call.{Call, make, add, open_line, start_day, end_day, take, read, protected, convert_len, convert, snapshot_len, snapshot, try_order, set_allowance, tick}
use Rattle.review.specs.Reviewer.{fresh_review, review_after}
use Rattle.review.specs.Frame.{touched, taken_of, taken_r}
use Rattle.review.specs.Numbers.{numbers_of, codes}
use Rattle.cases.proofs.Rows.{odds, control, integrity, test, block, zt, ab, round_of, no_odd, plain, levels, finra_levels, status_by, halt, standing, unknown, answered}

-- ---- which symbols a block touches

-- ZT and AB, line 5 for N, 7 for D, the day open
abbrev begun : List Call
begun = add zt 100 78 ∷ add ab 10 78 ∷ open_line 5 78 ∷ open_line 7 68 ∷ start_day ∷ []

-- a block on a line: a sequence number, its messages; whether it touches the symbol
unfoldable pub touched_by : ℕ → ℕ → List (List ℕ) → List ℕ → Bool
unfolding answered touched taken_of taken_r
touched_by line sequence ms s = touched (taken_r (review_after (fresh_review 2) begun) line (block sequence ms) 180) (be s)

-- ZT, then AB
abbrev both : ℕ → ℕ → List (List ℕ) → List Bool
both line sequence ms = touched_by line sequence ms zt ∷ touched_by line sequence ms ab ∷ []

-- Q K of ZT: accepted, partly accepted with 60, rejected with 46
pub round-lots : both 5 1 (plain 78 7 3 no_odd ∷ []) ≡ true ∷ false ∷ []
unfolding touched_by
round-lots = refl

pub a-round-part : both 5 1 (plain 78 7 3 (odds 90 0 0 (0 ∷ []) []) ∷ []) ≡ true ∷ false ∷ []
unfolding touched_by
a-round-part = refl

pub a-rejected-quote : both 5 1 (round_of 78 7 76 1 1 2 1 no_odd ∷ []) ≡ false ∷ false ∷ []
unfolding touched_by
a-rejected-quote = refl

-- Q M of ZT: accepted, rejected with 60; Q U of ZT
pub odd-lots : both 5 1 (levels 32 0 0 [] ∷ []) ≡ true ∷ false ∷ []
unfolding touched_by
odd-lots = refl

pub rejected-odd-lots : both 5 1 (levels 90 0 0 [] ∷ []) ≡ false ∷ false ∷ []
unfolding touched_by
rejected-odd-lots = refl

-- Q T of ZT: accepted, rejected with 60; off D's line, rejected with 44
pub finra-odd-lots : both 7 1 (finra_levels 68 8 32 0 0 [] ∷ []) ≡ true ∷ false ∷ []
unfolding touched_by
finra-odd-lots = refl

pub rejected-finra-odd-lots : both 7 1 (finra_levels 68 8 90 0 0 [] ∷ []) ≡ false ∷ false ∷ []
unfolding touched_by
rejected-finra-odd-lots = refl

pub misplaced-finra-odd-lots : both 5 1 (finra_levels 78 8 32 0 0 [] ∷ []) ≡ false ∷ false ∷ []
unfolding touched_by
misplaced-finra-odd-lots = refl

pub a-maker : both 7 1 (standing 7 3 65 ∷ []) ≡ true ∷ false ∷ []
unfolding touched_by
a-maker = refl

-- T S of ZT by its primary letter: accepted, rejected with 77; off its line, rejected with 76
pub statuses : both 5 1 (halt ∷ []) ≡ true ∷ false ∷ []
unfolding touched_by
statuses = refl

pub rejected-statuses : both 5 1 (status_by 78 9 zt 0 ∷ []) ≡ false ∷ false ∷ []
unfolding touched_by
rejected-statuses = refl

pub misplaced-statuses : both 7 1 (status_by 68 9 zt 72 ∷ []) ≡ false ∷ false ∷ []
unfolding touched_by
misplaced-statuses = refl

-- FINRA Close and Open touch every symbol; off D's line, rejected with 44, none
pub finra-close : both 7 1 (control 67 68 ∷ []) ≡ true ∷ true ∷ []
unfolding touched_by
finra-close = refl

pub finra-open : both 7 1 (control 79 68 ∷ []) ≡ true ∷ true ∷ []
unfolding touched_by
finra-open = refl

pub finra-off-its-line : both 5 1 (control 67 78 ∷ []) ≡ false ∷ false ∷ []
unfolding touched_by
finra-off-its-line = refl

-- C I and C T touch nothing; C 5 neither, not even what its bytes 20 to 30 would name
pub inquiries : both 5 1 (control 73 78 ∷ []) ≡ false ∷ false ∷ []
unfolding touched_by
inquiries = refl

pub line-integrity : both 5 1 (integrity ∷ []) ≡ false ∷ false ∷ []
unfolding touched_by
line-integrity = refl

pub a_test : both 5 1 (test ∷ []) ≡ false ∷ false ∷ []
unfolding touched_by
a_test = refl

pub bytes-of-a-test : touched_by 5 1 (test ∷ []) (range 11 32) ≡ false
unfolding touched_by
bytes-of-a-test = refl

-- a message of an unknown type touches nothing, even if it were accepted
pub an-unknown-type : touched (unknown ∷ []) (be zt) ≡ false
unfolding answered touched
an-unknown-type = refl

-- of a block, what its accepted messages name: a Q K of ZT with 46, then one of AB; a refused block, 35, touches nothing
pub two-messages : both 5 1 (round_of 78 7 76 1 1 2 1 no_odd ∷ set (set (plain 78 7 3 no_odd) 20 65) 21 66 ∷ []) ≡ false ∷ true ∷ []
unfolding touched_by
two-messages = refl

pub a-refused-block : both 5 0 (plain 78 7 3 no_odd ∷ []) ≡ false ∷ false ∷ []
unfolding touched_by
a-refused-block = refl

-- ---- document 01's numbers of each call, and its codes

pub of-make : (n : ℕ) → numbers_of (make n) ≡ 0 ∷ 2 ∷ []
of-make n = refl

pub of-add : (s : List ℕ) (k l : ℕ) → numbers_of (add s k l) ≡ 0 ∷ 1 ∷ 3 ∷ 6 ∷ 75 ∷ 4 ∷ 5 ∷ []
of-add s k l = refl

pub of-open : (i l : ℕ) → numbers_of (open_line i l) ≡ 0 ∷ 1 ∷ 7 ∷ 8 ∷ []
of-open i l = refl

pub of-start : numbers_of start_day ≡ 0 ∷ 1 ∷ 11 ∷ []
of-start = refl

pub of_end : numbers_of end_day ≡ 0 ∷ 1 ∷ 12 ∷ []
of_end = refl

pub of-take : (i : ℕ) (b : List ℕ) (room : ℕ) → numbers_of (take i b room) ≡ 0 ∷ 70 ∷ 1 ∷ 9 ∷ 21 ∷ 30 ∷ 31 ∷ 32 ∷ 33 ∷ 34 ∷ 20 ∷ 35 ∷ 86 ∷ []
of-take i b room = refl

pub of-read : (s : List ℕ) (room : ℕ) → numbers_of (read s room) ≡ 0 ∷ 1 ∷ 9 ∷ 10 ∷ []
of-read s room = refl

pub of-protected : (s : List ℕ) (m x : ℕ) → numbers_of (protected s m x) ≡ 0 ∷ 1 ∷ 10 ∷ 74 ∷ []
of-protected s m x = refl

pub of-convert-len : (v : List ℕ) → numbers_of (convert_len v) ≡ 0 ∷ 1 ∷ 78 ∷ 79 ∷ []
of-convert-len v = refl

pub of-convert : (v : List ℕ) (room : ℕ) → numbers_of (convert v room) ≡ 0 ∷ 1 ∷ 78 ∷ 79 ∷ 80 ∷ []
of-convert v room = refl

pub of-snapshot-len : (s : List ℕ) → numbers_of (snapshot_len s) ≡ 0 ∷ 1 ∷ 10 ∷ []
of-snapshot-len s = refl

pub of-snapshot : (s : List ℕ) (room : ℕ) → numbers_of (snapshot s room) ≡ 0 ∷ 1 ∷ 10 ∷ 81 ∷ []
of-snapshot s room = refl

pub of-order : (s : List ℕ) (m w room : ℕ) → numbers_of (try_order s m w room) ≡ 0 ∷ 1 ∷ 10 ∷ 74 ∷ 82 ∷ 83 ∷ []
of-order s m w room = refl

pub of-setting : (n : ℕ) (ss : List ℕ) → numbers_of (set_allowance n ss) ≡ 0 ∷ 1 ∷ 84 ∷ 85 ∷ []
of-setting n ss = refl

pub of-tick : numbers_of tick ≡ 0 ∷ 1 ∷ []
of-tick = refl

pub of-messages : codes ≡ 0 ∷ 40 ∷ 41 ∷ 42 ∷ 43 ∷ 44 ∷ 45 ∷ 46 ∷ 47 ∷ 48 ∷ 49 ∷ 60 ∷ 61 ∷ 62 ∷ 63 ∷ 64 ∷ 76 ∷ 77 ∷ []
of-messages = refl
