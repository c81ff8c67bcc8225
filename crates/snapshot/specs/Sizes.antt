-- A snapshot's blocks and bytes, from the number of its letters alone (document 02, T-12: "the number of blocks and bytes beforehand").
-- Assumes nothing.
use Rattle.std.specs.Prelude.{ℕ, ◌+◌, ◌*◌, cond, leb}
use Rattle.snapshot.specs.Feed.{consolidated_length, participant_length, finra_length, feed_header}

-- A to Z without D and S
abbrev pub letters_most : ℕ
letters_most = 24

-- the letters that fit one block beside the two other messages, and beside Consolidated alone
abbrev pub letters_alone : ℕ
letters_alone = 13

abbrev pub letters_first : ℕ
letters_first = 14

-- the first of two blocks
abbrev pub first_length : ℕ
first_length = feed_header + consolidated_length + participant_length * letters_first

unfoldable pub feed_count : ℕ → ℕ
feed_count k = cond (leb k letters_alone) 1 2

unfoldable pub feed_length : ℕ → ℕ
feed_length k = consolidated_length + participant_length * k + finra_length + feed_header * feed_count k
