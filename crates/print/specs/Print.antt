-- What is printed of a symbol: its entries, each behind a label.
-- Assumes nothing.
use Rattle.std.specs.Prelude.{ℕ}

-- a kind, a side and a space
abbrev pub label_length : ℕ
label_length = 3

-- entries of a symbol
abbrev pub entry_count : ℕ
entry_count = 6
