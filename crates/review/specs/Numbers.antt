-- Document 01's numbers (operator, line) of each call, and its codes of a message (participant, odd part).
-- Assumes nothing.
use Rattle.std.specs.Prelude.{ℕ, List, [], ◌∷◌}
use Rattle.calls.specs.Call.{Call, make, add, open_line, start_day, end_day, take, read, protected, convert_len, convert, snapshot_len, snapshot, try_order, set_allowance, tick}

abbrev pub numbers_of : Call → List ℕ
numbers_of (make n) = 0 ∷ 2 ∷ []
numbers_of (add s k l) = 0 ∷ 1 ∷ 3 ∷ 6 ∷ 75 ∷ 4 ∷ 5 ∷ []
numbers_of (open_line i l) = 0 ∷ 1 ∷ 7 ∷ 8 ∷ []
numbers_of start_day = 0 ∷ 1 ∷ 11 ∷ []
numbers_of end_day = 0 ∷ 1 ∷ 12 ∷ []
numbers_of (take i b room) = 0 ∷ 70 ∷ 1 ∷ 9 ∷ 21 ∷ 30 ∷ 31 ∷ 32 ∷ 33 ∷ 34 ∷ 20 ∷ 35 ∷ 86 ∷ []
numbers_of (read s room) = 0 ∷ 1 ∷ 9 ∷ 10 ∷ []
numbers_of (protected s m x) = 0 ∷ 1 ∷ 10 ∷ 74 ∷ []
numbers_of (convert_len v) = 0 ∷ 1 ∷ 78 ∷ 79 ∷ []
numbers_of (convert v room) = 0 ∷ 1 ∷ 78 ∷ 79 ∷ 80 ∷ []
numbers_of (snapshot_len s) = 0 ∷ 1 ∷ 10 ∷ []
numbers_of (snapshot s room) = 0 ∷ 1 ∷ 10 ∷ 81 ∷ []
numbers_of (try_order s m w room) = 0 ∷ 1 ∷ 10 ∷ 74 ∷ 82 ∷ 83 ∷ []
numbers_of (set_allowance n ss) = 0 ∷ 1 ∷ 84 ∷ 85 ∷ []
numbers_of tick = 0 ∷ 1 ∷ []

abbrev pub codes : List ℕ
codes = 0 ∷ 40 ∷ 41 ∷ 42 ∷ 43 ∷ 44 ∷ 45 ∷ 46 ∷ 47 ∷ 48 ∷ 49 ∷ 60 ∷ 61 ∷ 62 ∷ 63 ∷ 64 ∷ 76 ∷ 77 ∷ []
