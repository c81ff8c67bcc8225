-- A block in the form of source document 000: its messages, and checks 78 and 79 (document 02, T-11). Numbers like 4.7.2 are sections of 000.
-- Bytes 0 version, 1-2 block size, 3-6 block sequence number, 7 messages in block, 8-9 checksum; messages end to end; a pad byte where they end odd.
-- Assumes nothing.
use Rattle.std.specs.Prelude.{ℕ, zero, suc, ◌+◌, ◌%◌, Bool, true, ◌&&◌, ◌||◌, cond, List, [], ◌∷◌, leb, eqb, length}
use Rattle.field.specs.Field.{part, field}
use Rattle.lists.specs.Lists.{at}
use Rattle.block.specs.Block.{checksum_of}
use Rattle.venueform.specs.Form.{venue_header}
use Rattle.venuerules.specs.Rules.{message_good, message_placed}

abbrev pub venue_first : ℕ
venue_first = 10

abbrev pub venue_sequence : List ℕ → ℕ
venue_sequence b = field b 3 4

abbrev pub venue_count : List ℕ → ℕ
venue_count b = at b 7

-- B1. 4.3: "a maximum of 1,000 bytes inclusive of Block Separator", which has two and is not lent; a header and a message's header at least
abbrev pub venue_shortest : ℕ
venue_shortest = venue_first + venue_header

abbrev pub venue_longest : ℕ
venue_longest = 998

-- B2. 4.7.2: "the size in bytes of the entire transmission block". B3. 4.5: "to ensure the Block is an even number of bytes"
unfoldable pub size_good : List ℕ → Bool
size_good b =
    leb venue_shortest (length b) && (leb (length b) venue_longest && (eqb (field b 1 2) (length b) && eqb (length b % 2) 0))

-- B7. 5.1: the message at p has a header and lies in the block
abbrev pub lies_at : List ℕ → ℕ → Bool
lies_at b p = leb (p + venue_header) (length b) && (leb venue_header (field b p 2) && leb (p + field b p 2) (length b))

-- B8. 4.4, 4.5: the messages end the block, or one "binary zero (Hex 0x00)" behind them does
abbrev pub ends_at : List ℕ → ℕ → Bool
ends_at b p = eqb p (length b) || eqb (p + 1) (length b) && eqb (at b p) 0

-- B7, B8: k messages from p on, each behind the one before it, and nothing else
unfoldable pub laid_from : List ℕ → ℕ → ℕ → Bool
laid_from b p zero = ends_at b p
laid_from b p (suc k) = lies_at b p && laid_from b (p + field b p 2) k

-- B4. 4.7.1: "Version value is set to "0"". B5. 4.7.5: "Lower 2 bytes of the 4 byte sum of all the bytes in the block, excluding this Block Checksum
-- field": the sum and the place of our own checksum. B6. 4.4: "one or more CQS messages"; 4.7.4: "The number of messages contained"
unfoldable pub block_good : List ℕ → Bool
block_good b =
    size_good b
    && (eqb (at b 0) 0
    && (eqb (checksum_of b) (field b 8 2)
    && (leb 1 (venue_count b) && laid_from b venue_first (venue_count b))))

-- where the message behind the one at p starts; the block's end if no whole message stands there
unfoldable pub next_at : List ℕ → ℕ → ℕ
next_at b p = cond (leb (p + 2) (length b) && leb (p + field b p 2) (length b)) (p + field b p 2) (length b)

-- the k messages from p on
unfoldable pub venue_from : List ℕ → ℕ → ℕ → List (List ℕ)
venue_from b p zero = []
venue_from b p (suc k) = part b p (field b p 2) ∷ venue_from b (p + field b p 2) k

abbrev pub venue_messages : List ℕ → List (List ℕ)
venue_messages b = venue_from b venue_first (venue_count b)

-- ---- 78 and 79

-- messages from message i on, of a block of `count` under that number
unfoldable pub messages_good : ℕ → ℕ → ℕ → List (List ℕ) → Bool
messages_good count sequence i [] = true
messages_good count sequence i (m ∷ ms) = message_good count sequence i m && messages_good count sequence (i + 1) ms

unfoldable pub messages_placed : List (List ℕ) → Bool
messages_placed [] = true
messages_placed (m ∷ ms) = message_placed m && messages_placed ms

-- "78 the block breaks the rules of these sections; then 79"
unfoldable pub venue_number : List ℕ → ℕ
venue_number b =
    cond (block_good b && messages_good (venue_count b) (venue_sequence b) 0 (venue_messages b))
    (cond (messages_placed (venue_messages b)) 0 79)
    78
