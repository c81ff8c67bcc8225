-- The input buffer and the length of a record.
-- Assumes nothing.
use Rattle.std.specs.Prelude.{ℕ}

abbrev pub input_length : ℕ
input_length = 131072

-- a record's line and the length of its block
abbrev pub head_length : ℕ
head_length = 3

-- as two bytes say it
abbrev pub block_most : ℕ
block_most = 65535
