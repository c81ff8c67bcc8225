-- A venue's block as a run of our blocks (document 02, T-11): as many messages to a block as fit, numbers following on; and its length, worked out first.
-- Assumes nothing.
use Rattle.std.specs.Prelude.{ℕ, ◌+◌, cond, List, [], ◌∷◌, ◌++◌, map, length, ◌==◌, nat_le, nat_lt}
use Rattle.block.specs.Block.{block_longest, offset_at}
use Rattle.block.specs.Sequence.{next_of}
use Rattle.block.specs.Written.{written}
use Rattle.venue.specs.Venue.{venue_sequence, venue_messages, venue_number}
use Rattle.venuequote.specs.Quote.{converted_length, converted_for}

-- a message and its offset, behind what a block has already
abbrev pub with_one : ℕ → ℕ → ℕ
with_one used n = used + (2 + n)

-- "each with as many messages as fit": the bytes and messages of the block that is being filled, then the messages to come
unfoldable pub pack_into : ℕ → List (List ℕ) → List (List ℕ) → List (List (List ℕ))
pack_into used block [] = block ∷ []
pack_into used block (m ∷ ms) =
    cond (nat_le (with_one used (length m)) block_longest)
    (pack_into (with_one used (length m)) (block ++ (m ∷ [])) ms)
    (block ∷ pack_into (with_one (offset_at 0) (length m)) (m ∷ []) ms)

unfoldable pub packed : List (List ℕ) → List (List (List ℕ))
packed [] = []
packed (m ∷ ms) = pack_into (with_one (offset_at 0) (length m)) (m ∷ []) ms

-- "the first under the block's own number, the others following on under document 01's modulus"
unfoldable pub run_from : ℕ → List (List (List ℕ)) → List (List ℕ)
run_from number [] = []
run_from number (p ∷ ps) = written number p ∷ run_from (next_of number (length p)) ps

-- these messages as a run of blocks, the first under that number
unfoldable pub run_of : ℕ → List (List ℕ) → List (List ℕ)
run_of number ms = run_from number (packed ms)

-- the messages of a venue's block in our form; `lots` gives a symbol's round lot, 0 if it is not listed
abbrev pub converted_in : (ℕ → ℕ) → List ℕ → List (List ℕ)
converted_in lots b = map (converted_for lots) (venue_messages b)

-- ---- "The needed output length can be worked out first, without writing": from the messages' lengths

unfoldable pub fill_into : ℕ → List ℕ → ℕ
fill_into used [] = used
fill_into used (n ∷ ns) =
    cond (nat_le (with_one used n) block_longest) (fill_into (with_one used n) ns) (used + fill_into (with_one (offset_at 0) n) ns)

unfoldable pub filled : List ℕ → ℕ
filled [] = 0
filled (n ∷ ns) = fill_into (with_one (offset_at 0) n) ns

-- of a venue's block that is neither 78 nor 79
unfoldable pub needed_of : List ℕ → ℕ
needed_of b = filled (map converted_length (venue_messages b))

-- what is told of it: 0 for a block that is refused
unfoldable pub needed_told : List ℕ → ℕ
needed_told b = cond (venue_number b == 0) (needed_of b) 0

-- 78, 79, "then 80 output too short"
unfoldable pub convert_number : List ℕ → ℕ → ℕ
convert_number b room = cond (venue_number b == 0) (cond (nat_lt room (needed_of b)) 80 0) (venue_number b)

-- the run of a venue's block
abbrev pub venue_run : (ℕ → ℕ) → List ℕ → List (List ℕ)
venue_run lots b = run_of (venue_sequence b) (converted_in lots b)
