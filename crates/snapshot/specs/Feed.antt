-- A snapshot's messages and blocks as source document 002 sends them (document 02, T-12). Numbers like 2.3.1 are sections of 002.
-- Assumes nothing.
use Rattle.std.specs.Prelude.{ℕ, zero, suc, ◌+◌, ◌%◌, Bool, true, false, cond, List, [], ◌∷◌, ◌++◌, map, leb, length, take, drop, replicate}
use Rattle.field.specs.Field.{part, be_bytes}
use Rattle.field.specs.Ascii.{C, D, F, P, R, S, space}
use Rattle.lists.specs.Lists.{sum}
use Rattle.text.specs.Form.{symbol_length}
use Rattle.block.specs.Written.{joined}
use Rattle.snapshot.specs.Snapshot.{Priced, Shown, BothEntries, Snapshot}

-- 2.2: "Any numeric field that is unused or does not apply to a given message has a value set to 0"
abbrev pub zeros : ℕ → List ℕ
zeros n = replicate n 0

-- "All alpha fields are ASCII fields which are left justified and padded on the right with spaces"
abbrev pub spaces : ℕ → List ℕ
spaces n = replicate n space

-- ---- messages

-- header and body: 5 and 97 (3.3), 57 (3.4), 63 (3.5)
abbrev pub consolidated_length : ℕ
consolidated_length = 102

abbrev pub participant_length : ℕ
participant_length = 62

abbrev pub finra_length : ℕ
finra_length = 68

-- of them the header and the symbol
abbrev pub opened_length : ℕ
opened_length = 5 + symbol_length

-- 2.4: Message Length, Message Category, Message Type, Participant ID; then every message has its Security Symbol
unfoldable pub opened : ℕ → ℕ → ℕ → List ℕ → List ℕ
opened length type participant symbol = be_bytes 2 length ++ (R ∷ type ∷ participant ∷ []) ++ symbol

abbrev pub national_length : ℕ
national_length = 18

-- of an entry: Participant ID, Quote Condition, Price, Size; Market Maker ID
unfoldable pub national_side : List ℕ → List ℕ
national_side e = part e 0 2 ++ part e 4 12 ++ spaces 4

-- 3.3: Instrument Type; Price Bands (2), Auction Collar (3), Number of Extensions; National Best Bid and Offer; National BBO LULD Indicator, Primary
-- Listing Market Participant ID, Financial Status Indicator, Short Sale Restriction Indicator, Halt Reason, Reserved (3)
unfoldable pub consolidated : List ℕ → BothEntries → List ℕ
consolidated symbol e =
    opened consolidated_length C S symbol
    ++ spaces 1
    ++ zeros 41
    ++ national_side e.bid
    ++ national_side e.offer
    ++ spaces 8

abbrev pub priced_length : ℕ
priced_length = 12

-- Price, Size
unfoldable pub priced_bytes : Priced → List ℕ
priced_bytes p = be_bytes 8 p.price ++ be_bytes 4 p.size

-- 3.4: Quote Condition; bid, offer; Retail Interest Indicator, Settlement Condition, Market Condition, LULD Indicator; High and Low Indication Price;
-- Halt Reason
unfoldable pub participant : List ℕ → Shown → List ℕ
participant symbol v =
    opened participant_length P v.letter symbol
    ++ (v.condition ∷ [])
    ++ priced_bytes v.bid
    ++ priced_bytes v.offer
    ++ spaces 4
    ++ zeros 16
    ++ spaces 1

abbrev pub finra_side_length : ℕ
finra_side_length = 17

-- of an entry: Quote Condition; Price, Size, Market Maker ID
unfoldable pub finra_side : List ℕ → List ℕ
finra_side e = spaces 1 ++ part e 4 12 ++ part e 0 4

-- 3.5: FINRA Best Bid and Offer; FINRA BBO LULD Indicator; High and Low Indication Price; Halt Reason
unfoldable pub finra_message : List ℕ → BothEntries → List ℕ
finra_message symbol e =
    opened finra_length F D symbol
    ++ finra_side e.bid
    ++ finra_side e.offer
    ++ spaces 1
    ++ zeros 16
    ++ spaces 1

-- "Consolidated goes first, then each letter .. from A on, then FINRA, even with no maker"
unfoldable pub feed_messages : Snapshot → List (List ℕ)
feed_messages x = consolidated x.symbol x.national ∷ (map (participant x.symbol) x.letters ++ (finra_message x.symbol x.finra ∷ []))

-- ---- blocks

abbrev pub feed_header : ℕ
feed_header = 24

-- 2.1: "a maximum of 1,000 bytes inclusive of Block Header, Block Data, and Block Pad Byte"
abbrev pub feed_longest : ℕ
feed_longest = 1000

-- 2.1: "the Block Pad Byte is added to ensure the Block is an even number of bytes"
abbrev pub evened : ℕ → ℕ
evened n = n + n % 2

-- "as many messages as fit" behind bytes that are used
unfoldable pub fitting : ℕ → List (List ℕ) → ℕ
fitting used [] = 0
fitting used (m ∷ ms) = cond (leb (evened (used + length m)) feed_longest) (suc (fitting (used + length m) ms)) 0

-- the messages of each block, for at most that many blocks
unfoldable pub grouped : ℕ → List (List ℕ) → List (List (List ℕ))
grouped zero ms = []
grouped (suc n) [] = []
grouped (suc n) (m ∷ ms) = take (fitting feed_header (m ∷ ms)) (m ∷ ms) ∷ grouped n (drop (fitting feed_header (m ∷ ms)) (m ∷ ms))

-- 2.3.1: "Version value is set to 11"
abbrev pub feed_version : ℕ
feed_version = 11

-- 2.3.5: the only block, the first, the last, an intermediate one
abbrev pub delivery_flag : Bool → Bool → ℕ
delivery_flag true true = 4
delivery_flag true false = 1
delivery_flag false true = 3
delivery_flag false false = 2

-- 2.3: Version, Block Size, Block Sequence Number, Messages In Block, DeliveryFlag; LastSeqNum, TotPubSeqRollover, SIP Block Timestamp; Block Checksum
unfoldable pub feed_front : ℕ → ℕ → ℕ → ℕ → ℕ → List ℕ
feed_front size sequence count flag checksum =
    (feed_version ∷ []) ++ be_bytes 2 size ++ be_bytes 4 sequence ++ (count ∷ flag ∷ []) ++ zeros 13 ++ be_bytes 2 checksum

-- header, messages, pad byte
unfoldable pub feed_with : ℕ → ℕ → List (List ℕ) → ℕ → List ℕ
feed_with sequence flag ms checksum =
    feed_front (evened (feed_header + length (joined ms))) sequence (length ms) flag checksum ++ (joined ms ++ zeros ((feed_header + length (joined ms)) % 2))

-- 2.3.9: "Lower 2 bytes of the 4-byte sum of all the bytes in the block, excluding this Block Checksum field"
unfoldable pub feed_checksum : List ℕ → ℕ
feed_checksum b = sum (take 22 b ++ drop feed_header b) % 65536

unfoldable pub feed_block : ℕ → ℕ → List (List ℕ) → List ℕ
feed_block sequence flag ms = feed_with sequence flag ms (feed_checksum (feed_with sequence flag ms 0))

abbrev pub is_nil : {A : Type 0} → List A → Bool
is_nil [] = true
is_nil (x ∷ xs) = false

-- 2.3.3: "the Block Sequence Number in the next Block is incremented by the number of messages published in the previous Block"
unfoldable pub feed_from : ℕ → Bool → List (List (List ℕ)) → List (List ℕ)
feed_from sequence first [] = []
feed_from sequence first (g ∷ gs) = feed_block sequence (delivery_flag first (is_nil gs)) g ∷ feed_from (sequence + length g) false gs

-- the blocks, "numbered from 1"; there are no more of them than messages
unfoldable pub feed_blocks : Snapshot → List (List ℕ)
feed_blocks x = feed_from 1 true (grouped (length (feed_messages x)) (feed_messages x))

-- end to end
unfoldable pub feed_bytes : Snapshot → List ℕ
feed_bytes x = joined (feed_blocks x)
