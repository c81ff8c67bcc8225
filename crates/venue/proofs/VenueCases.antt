-- Checks 78 and 79, by computing (document 02, T-11): each rule of source document 000 broken alone, and its nearest good neighbour.
-- Assumes nothing.
use Prim.Native.Nat.{ℕ, suc, ◌+◌}
use mathlib.Core.Path.{◌≡◌, refl}
use mathlib.Core.List.{List, [], ◌∷◌, ◌++◌, map}
use lib.ListN.{length, replicate}
use Rattle.field.specs.Field.{be, part, field, splice, be_bytes}
use Rattle.lists.specs.Lists.{member, every, all, sum}
use Rattle.text.specs.Form.{padded}
use Rattle.block.specs.Block.{checksum_of}
use Rattle.venueform.specs.Form.{layout_of}
use Rattle.venuerules.specs.Rules.{pair_good, participant_good, time_good, reference_good, header_good, control_good, sender_good, items_good, odd_good, market_good, finra_good, own_good, round_good, quote_good, message_good, quote_placed, message_placed}
use Rattle.venue.specs.Venue.{size_good, laid_from, block_good, next_at, venue_from, messages_good, messages_placed, venue_number}

-- ---- blocks to try

-- a header without its length and ID: pair, participant, seconds, nanoseconds, reserved, reference number; ID 1
abbrev header : ℕ → ℕ → ℕ → List ℕ
header category type participant =
    (0 ∷ 0 ∷ category ∷ type ∷ participant ∷ 106 ∷ 11 ∷ 20 ∷ 88 ∷ 57 ∷ 245 ∷ 174 ∷ 139 ∷ 1 ∷ 32 ∷ 32 ∷ 32 ∷ 32 ∷ []) ++ replicate 8 0

-- IBM, in five bytes and in eleven
abbrev IBM : ℕ → List ℕ
IBM n = (73 ∷ 66 ∷ 77 ∷ []) ++ replicate n 32

-- Q P by N: 10.00 for 300 and 10.02 for 200 shares
abbrev short : List ℕ
short = header 81 80 78 ++ (IBM 2 ++ ((3 ∷ 232 ∷ 1 ∷ 44 ∷ 3 ∷ 234 ∷ 0 ∷ 200 ∷ []) ++ (32 ∷ 0 ∷ 0 ∷ [])))

-- Q K by N: condition O, 227.40 for 250, 227.405 for 99 shares; retail, settlement and market normal, no maker, no indicator, no second time
abbrev long : List ℕ
long =
    header 81 75 78
    ++ (IBM 8
    ++ ((79 ∷ be_bytes 8 227400000)
    ++ (be_bytes 4 250
    ++ (be_bytes 8 227405000
    ++ (be_bytes 4 99
    ++ (replicate 8 32
    ++ (replicate 8 0 ++ (32 ∷ 0 ∷ 0 ∷ []))))))))

-- Q R by N: one bid of 10.01 for 24 shares, one offer of 10.03 removed
abbrev short_odds : List ℕ
short_odds = header 81 82 78 ++ (IBM 2 ++ ((83 ∷ 1 ∷ 1 ∷ []) ++ (3 ∷ 233 ∷ 24 ∷ 3 ∷ 235 ∷ 0 ∷ [])))

-- Q M by N: one bid of 10.01 for 24 shares
abbrev long_odds : List ℕ
long_odds = header 81 77 78 ++ (IBM 8 ++ ((66 ∷ 1 ∷ 0 ∷ []) ++ (be_bytes 8 10010000 ++ (24 ∷ []))))

-- messages end to end, each with its length and its ID, from ID i on
abbrev laid : ℕ → List (List ℕ) → List ℕ
laid i [] = []
laid i (m ∷ ms) = splice (splice m 0 (be_bytes 2 (length m))) 13 (i ∷ []) ++ laid (suc i) ms

-- a block of this version, size, number, count and body
abbrev unsealed : ℕ → ℕ → ℕ → ℕ → ℕ → List ℕ → List ℕ
unsealed version size sequence count checksum body =
    (version ∷ []) ++ (be_bytes 2 size ++ (be_bytes 4 sequence ++ ((count ∷ []) ++ (be_bytes 2 checksum ++ body))))

abbrev sealed : ℕ → ℕ → ℕ → ℕ → List ℕ → List ℕ
sealed version size sequence count body = unsealed version size sequence count (checksum_of (unsealed version size sequence count 0 body)) body

-- these bytes behind the header, under a number and a count
abbrev of_data : ℕ → ℕ → List ℕ → List ℕ
of_data sequence count body = sealed 0 (10 + length body) sequence count body

-- one message of an even length, and of an odd one, which asks for the pad byte
abbrev even : List ℕ → List ℕ
even m = of_data 1 1 (laid 1 (m ∷ []))

abbrev odd : List ℕ → List ℕ
odd m = of_data 1 1 (laid 1 (m ∷ []) ++ (0 ∷ []))

-- the message with bytes written over it
abbrev with_bytes : List ℕ → ℕ → List ℕ → List ℕ
with_bytes m at bytes = splice m at bytes

-- numbers of some blocks
abbrev numbers : List (List ℕ) → List ℕ
numbers bs = map venue_number bs

-- ---- each rule alone

-- Q P, Q K with its pad byte, Q R and Q M with its pad byte: all have a place
pub forms-read :
    numbers
    (even short
    ∷ odd long
    ∷ even short_odds
    ∷ odd long_odds
    ∷ [])
    ≡ 0 ∷ 0 ∷ 0 ∷ 0 ∷ []
unfolding venue_number block_good size_good laid_from venue_from messages_good messages_placed message_good header_good pair_good participant_good time_good reference_good control_good quote_good sender_good items_good odd_good market_good finra_good own_good round_good message_placed quote_placed layout_of checksum_of field part be be_bytes splice sum member every all padded
forms-read = refl

-- B1, B2: under 36 bytes; a size one too low and one too high; B3: a pad byte behind an even number of bytes, none behind an odd one; B4: version 1 and the digit 0
pub block-lengths :
    numbers
    (of_data 1 1 (replicate 25 0)
    ∷ sealed 0 51 1 1 (laid 1 (short ∷ []))
    ∷ sealed 0 53 1 1 (laid 1 (short ∷ []))
    ∷ odd short
    ∷ even long
    ∷ sealed 1 52 1 1 (laid 1 (short ∷ []))
    ∷ sealed 48 52 1 1 (laid 1 (short ∷ []))
    ∷ [])
    ≡ 78 ∷ 78 ∷ 78 ∷ 78 ∷ 78 ∷ 78 ∷ 78 ∷ []
unfolding venue_number block_good size_good laid_from venue_from messages_good messages_placed message_good header_good pair_good participant_good time_good reference_good control_good quote_good sender_good items_good odd_good market_good finra_good own_good round_good message_placed quote_placed layout_of checksum_of field part be be_bytes splice sum member every all padded
block-lengths = refl

-- B5: checksum one off, and one that counts itself; B6: no message; B7, B8: one message more, one less, a pad byte of 1, two bytes behind; any number
pub block-contents :
    numbers
    (unsealed 0 52 1 1 2332 (laid 1 (short ∷ []))
    ∷ unsealed 0 52 1 1 2333 (laid 1 (short ∷ []))
    ∷ unsealed 0 52 1 1 2371 (laid 1 (short ∷ []))
    ∷ of_data 1 0 (laid 1 (short ∷ []))
    ∷ of_data 1 2 (laid 1 (short ∷ []))
    ∷ of_data 1 1 (laid 1 (short ∷ short ∷ []))
    ∷ of_data 1 1 (laid 1 (long ∷ []) ++ (1 ∷ []))
    ∷ of_data 1 1 (laid 1 (short ∷ []) ++ (0 ∷ 0 ∷ []))
    ∷ of_data 0 1 (laid 1 (short ∷ []))
    ∷ of_data 4294967295 1 (laid 1 (short ∷ []))
    ∷ [])
    ≡ 78 ∷ 0 ∷ 78 ∷ 78 ∷ 78 ∷ 78 ∷ 78 ∷ 78 ∷ 0 ∷ 0 ∷ []
unfolding venue_number block_good size_good laid_from venue_from messages_good messages_placed message_good header_good pair_good participant_good time_good reference_good control_good quote_good sender_good items_good odd_good market_good finra_good own_good round_good message_placed quote_placed layout_of checksum_of field part be be_bytes splice sum member every all padded
block-contents = refl

-- B7: a Message Length of 25, one past the block's end, and 26 of a type whose header alone is read
pub message-lengths :
    numbers
    (of_data 1 1 (splice (laid 1 (header 81 85 68 ∷ [])) 0 (be_bytes 2 25))
    ∷ of_data 1 1 (splice (laid 1 (header 81 85 68 ∷ [])) 0 (be_bytes 2 27))
    ∷ even (header 81 85 68)
    ∷ [])
    ≡ 78 ∷ 78 ∷ 79 ∷ []
unfolding venue_number block_good size_good laid_from venue_from messages_good messages_placed message_good header_good pair_good participant_good time_good reference_good control_good quote_good sender_good items_good odd_good market_good finra_good own_good round_good message_placed quote_placed layout_of checksum_of field part be be_bytes splice sum member every all padded
message-lengths = refl

-- H1: unknown pairs, and those of 5.2 that have no place
pub pairs :
    numbers
    (even (with_bytes short 2 (81 ∷ 83 ∷ []))
    ∷ even (with_bytes short 2 (113 ∷ 80 ∷ []))
    ∷ even (header 65 83 78)
    ∷ even (header 67 66 78)
    ∷ even (header 84 81 78)
    ∷ even (header 65 80 83)
    ∷ even (header 65 87 83)
    ∷ even (header 81 65 78)
    ∷ even (header 81 84 68)
    ∷ even (header 84 83 78)
    ∷ [])
    ≡ 78 ∷ 78 ∷ 78 ∷ 78 ∷ 78 ∷ 79 ∷ 79 ∷ 79 ∷ 79 ∷ 79 ∷ []
unfolding venue_number block_good size_good laid_from venue_from messages_good messages_placed message_good header_good pair_good participant_good time_good reference_good control_good quote_good sender_good items_good odd_good market_good finra_good own_good round_good message_placed quote_placed layout_of checksum_of field part be be_bytes splice sum member every all padded
pairs = refl

-- H2: E, O, Q, R, a small letter and the bytes beside A and Z; U3: S; others pass
pub participants :
    numbers
    (even (with_bytes short 4 (69 ∷ []))
    ∷ even (with_bytes short 4 (79 ∷ []))
    ∷ even (with_bytes short 4 (81 ∷ []))
    ∷ even (with_bytes short 4 (82 ∷ []))
    ∷ even (with_bytes short 4 (110 ∷ []))
    ∷ even (with_bytes short 4 (64 ∷ []))
    ∷ even (with_bytes short 4 (91 ∷ []))
    ∷ even (with_bytes short 4 (83 ∷ []))
    ∷ even (with_bytes short 4 (65 ∷ []))
    ∷ even (with_bytes short 4 (90 ∷ []))
    ∷ even (with_bytes short 4 (80 ∷ []))
    ∷ [])
    ≡ 78 ∷ 78 ∷ 78 ∷ 78 ∷ 78 ∷ 78 ∷ 78 ∷ 79 ∷ 0 ∷ 0 ∷ 0 ∷ []
unfolding venue_number block_good size_good laid_from venue_from messages_good messages_placed message_good header_good pair_good participant_good time_good reference_good control_good quote_good sender_good items_good odd_good market_good finra_good own_good round_good message_placed quote_placed layout_of checksum_of field part be be_bytes splice sum member every all padded
participants = refl

-- H3: 1,000,000,000 nanoseconds and one less; H4: both 0, and either
pub times :
    numbers
    (even (with_bytes short 9 (be_bytes 4 1000000000))
    ∷ even (with_bytes short 9 (be_bytes 4 999999999))
    ∷ even (with_bytes short 5 (replicate 8 0))
    ∷ even (with_bytes short 5 (0 ∷ 0 ∷ 0 ∷ 0 ∷ 0 ∷ 0 ∷ 0 ∷ 1 ∷ []))
    ∷ even (with_bytes short 8 (88 ∷ 0 ∷ 0 ∷ 0 ∷ 0 ∷ []))
    ∷ [])
    ≡ 78 ∷ 0 ∷ 78 ∷ 0 ∷ 0 ∷ []
unfolding venue_number block_good size_good laid_from venue_from messages_good messages_placed message_good header_good pair_good participant_good time_good reference_good control_good quote_good sender_good items_good odd_good market_good finra_good own_good round_good message_placed quote_placed layout_of checksum_of field part be be_bytes splice sum member every all padded
times = refl

-- H6: each of four spaces; H7: a plain number, a byte in front, bytes 47, 48, 122 and 123, a space, 0
pub reserved :
    numbers
    (even (with_bytes short 14 (0 ∷ []))
    ∷ even (with_bytes short 17 (33 ∷ []))
    ∷ even (with_bytes short 18 (0 ∷ 0 ∷ 0 ∷ 0 ∷ 0 ∷ 0 ∷ 0 ∷ 7 ∷ []))
    ∷ even (with_bytes short 18 (0 ∷ 1 ∷ 48 ∷ 48 ∷ 48 ∷ 48 ∷ 48 ∷ 48 ∷ []))
    ∷ even (with_bytes short 18 (128 ∷ 0 ∷ 48 ∷ 48 ∷ 48 ∷ 48 ∷ 48 ∷ 48 ∷ []))
    ∷ even (with_bytes short 20 (48 ∷ 48 ∷ 48 ∷ 48 ∷ 48 ∷ 47 ∷ []))
    ∷ even (with_bytes short 20 (48 ∷ 57 ∷ 65 ∷ 97 ∷ 122 ∷ 48 ∷ []))
    ∷ even (with_bytes short 20 (123 ∷ 48 ∷ 48 ∷ 48 ∷ 48 ∷ 48 ∷ []))
    ∷ even (with_bytes short 20 (32 ∷ 48 ∷ 48 ∷ 48 ∷ 48 ∷ 48 ∷ []))
    ∷ [])
    ≡ 78 ∷ 78 ∷ 78 ∷ 78 ∷ 78 ∷ 78 ∷ 0 ∷ 78 ∷ 78 ∷ []
unfolding venue_number block_good size_good laid_from venue_from messages_good messages_placed message_good header_good pair_good participant_good time_good reference_good control_good quote_good sender_good items_good odd_good market_good finra_good own_good round_good message_placed quote_placed layout_of checksum_of field part be be_bytes splice sum member every all padded
reserved = refl

-- H5: two messages numbered 1 and 2, from 0, from 2, and both 1
pub identifiers :
    numbers
    (of_data 1 2 (laid 1 (short ∷ short ∷ []))
    ∷ of_data 1 2 (laid 0 (short ∷ short ∷ []))
    ∷ of_data 1 2 (laid 2 (short ∷ short ∷ []))
    ∷ of_data 1 2 (laid 1 (short ∷ []) ++ laid 1 (short ∷ []))
    ∷ [])
    ≡ 0 ∷ 78 ∷ 78 ∷ 78 ∷ []
unfolding venue_number block_good size_good laid_from venue_from messages_good messages_placed message_good header_good pair_good participant_good time_good reference_good control_good quote_good sender_good items_good odd_good market_good finra_good own_good round_good message_placed quote_placed layout_of checksum_of field part be be_bytes splice sum member every all padded
identifiers = refl

-- C1: line integrity alone, and behind a quote; C2: an inquiry under number 0 and 1; FINRA's and the processor's alone
pub control :
    numbers
    (even (header 67 84 78)
    ∷ of_data 1 2 (laid 1 (short ∷ header 67 84 78 ∷ []))
    ∷ of_data 0 1 (laid 1 (header 67 73 78 ∷ []))
    ∷ of_data 1 1 (laid 1 (header 67 73 78 ∷ []))
    ∷ even (header 67 79 68)
    ∷ even (header 67 53 78)
    ∷ even (header 67 90 83)
    ∷ [])
    ≡ 79 ∷ 78 ∷ 79 ∷ 78 ∷ 79 ∷ 79 ∷ 79 ∷ []
unfolding venue_number block_good size_good laid_from venue_from messages_good messages_placed message_good header_good pair_good participant_good time_good reference_good control_good quote_good sender_good items_good odd_good market_good finra_good own_good round_good message_placed quote_placed layout_of checksum_of field part be be_bytes splice sum member every all padded
control = refl

-- Q1: a count with no appendage, an appendage with no count, a byte more, a byte less
pub quote-lengths :
    numbers
    (even (with_bytes short 40 (1 ∷ []))
    ∷ even (with_bytes short 41 (1 ∷ []))
    ∷ odd (short ++ (3 ∷ 232 ∷ 1 ∷ []))
    ∷ odd (with_bytes short 40 (1 ∷ []) ++ (3 ∷ 232 ∷ 1 ∷ []))
    ∷ odd (with_bytes short 41 (1 ∷ []) ++ (3 ∷ 232 ∷ 1 ∷ []))
    ∷ odd (short ++ (0 ∷ []))
    ∷ even (long ++ (0 ∷ []))
    ∷ odd (header 81 80 78 ++ IBM 2)
    ∷ [])
    ≡ 78 ∷ 78 ∷ 78 ∷ 0 ∷ 0 ∷ 78 ∷ 78 ∷ 78 ∷ []
unfolding venue_number block_good size_good laid_from venue_from messages_good messages_placed message_good header_good pair_good participant_good time_good reference_good control_good quote_good sender_good items_good odd_good market_good finra_good own_good round_good message_placed quote_placed layout_of checksum_of field part be be_bytes splice sum member every all padded
quote-lengths = refl

-- Q2: Q P, Q R and Q M from FINRA; its Q K with an appendage; R8, R9: its Q K with no indicator, with A or B, with a time; U2: those that follow have no place
pub finra-quotes :
    numbers
    (even (with_bytes short 4 (68 ∷ []))
    ∷ even (with_bytes short_odds 4 (68 ∷ []))
    ∷ odd (with_bytes long_odds 4 (68 ∷ []))
    ∷ odd (with_bytes long 4 (68 ∷ []))
    ∷ odd (with_bytes (with_bytes long 4 (68 ∷ [])) 69 (65 ∷ []))
    ∷ odd (with_bytes (with_bytes long 4 (68 ∷ [])) 69 (66 ∷ []))
    ∷ odd (with_bytes (with_bytes long 4 (68 ∷ [])) 69 (67 ∷ []))
    ∷ odd (with_bytes (with_bytes long 4 (68 ∷ [])) 69 (65 ∷ be_bytes 8 999999999))
    ∷ odd (with_bytes (with_bytes long 4 (68 ∷ [])) 69 (65 ∷ be_bytes 8 1000000000))
    ∷ even (with_bytes (with_bytes (with_bytes long 4 (68 ∷ [])) 69 (65 ∷ [])) 79 (1 ∷ []) ++ replicate 9 1)
    ∷ [])
    ≡ 78 ∷ 78 ∷ 78 ∷ 78 ∷ 79 ∷ 79 ∷ 78 ∷ 79 ∷ 78 ∷ 78 ∷ []
unfolding venue_number block_good size_good laid_from venue_from messages_good messages_placed message_good header_good pair_good participant_good time_good reference_good control_good quote_good sender_good items_good odd_good market_good finra_good own_good round_good message_placed quote_placed layout_of checksum_of field part be be_bytes splice sum member every all padded
finra-quotes = refl

-- Q3: a space inside, in front, bytes 31 and 127; five bytes, all spaces and 01N pass
pub symbols :
    numbers
    (even (with_bytes short 26 (73 ∷ 32 ∷ 77 ∷ []))
    ∷ even (with_bytes short 26 (32 ∷ []))
    ∷ even (with_bytes short 29 (31 ∷ []))
    ∷ even (with_bytes short 30 (127 ∷ []))
    ∷ even (with_bytes short 26 (65 ∷ 66 ∷ 67 ∷ 68 ∷ 126 ∷ []))
    ∷ even (with_bytes short 26 (replicate 5 32))
    ∷ even (with_bytes short 26 (48 ∷ 49 ∷ 78 ∷ []))
    ∷ odd (with_bytes long 36 (33 ∷ []))
    ∷ odd (with_bytes long 26 (65 ∷ 66 ∷ 67 ∷ 68 ∷ 69 ∷ 70 ∷ 112 ∷ 65 ∷ 46 ∷ 67 ∷ 76 ∷ []))
    ∷ [])
    ≡ 78 ∷ 78 ∷ 78 ∷ 78 ∷ 0 ∷ 0 ∷ 0 ∷ 78 ∷ 0 ∷ []
unfolding venue_number block_good size_good laid_from venue_from messages_good messages_placed message_good header_good pair_good participant_good time_good reference_good control_good quote_good sender_good items_good odd_good market_good finra_good own_good round_good message_placed quote_placed layout_of checksum_of field part be be_bytes splice sum member every all padded
symbols = refl

-- Q4: each clear mark, and others
pub marks :
    numbers
    (even (with_bytes short 39 (66 ∷ []))
    ∷ even (with_bytes short 39 (83 ∷ []))
    ∷ even (with_bytes short 39 (88 ∷ []))
    ∷ even (with_bytes short 39 (63 ∷ []))
    ∷ even (with_bytes short 39 (0 ∷ []))
    ∷ odd (with_bytes long 78 (66 ∷ []))
    ∷ odd (with_bytes long 78 (65 ∷ []))
    ∷ even (with_bytes short_odds 31 (67 ∷ []))
    ∷ odd (with_bytes long_odds 37 (98 ∷ []))
    ∷ [])
    ≡ 0 ∷ 0 ∷ 0 ∷ 78 ∷ 78 ∷ 0 ∷ 78 ∷ 78 ∷ 78 ∷ []
unfolding venue_number block_good size_good laid_from venue_from messages_good messages_placed message_good header_good pair_good participant_good time_good reference_good control_good quote_good sender_good items_good odd_good market_good finra_good own_good round_good message_placed quote_placed layout_of checksum_of field part be be_bytes splice sum member every all padded
marks = refl

-- Q5: the highest long price and one more; a short one is never too high; Q6: an odd-lot message that asks for nothing, one that clears, one that quotes
pub odd-prices :
    numbers
    (odd (with_bytes long_odds 40 (be_bytes 8 92233720368547758))
    ∷ odd (with_bytes long_odds 40 (be_bytes 8 92233720368547759))
    ∷ even (with_bytes short_odds 34 (255 ∷ 255 ∷ []))
    ∷ even (header 81 77 78 ++ (IBM 8 ++ (32 ∷ 0 ∷ 0 ∷ [])))
    ∷ even (header 81 77 78 ++ (IBM 8 ++ (83 ∷ 0 ∷ 0 ∷ [])))
    ∷ odd (with_bytes long_odds 37 (32 ∷ []))
    ∷ [])
    ≡ 0 ∷ 78 ∷ 0 ∷ 78 ∷ 0 ∷ 0 ∷ []
unfolding venue_number block_good size_good laid_from venue_from messages_good messages_placed message_good header_good pair_good participant_good time_good reference_good control_good quote_good sender_good items_good odd_good market_good finra_good own_good round_good message_placed quote_placed layout_of checksum_of field part be be_bytes splice sum member every all padded
odd-prices = refl

-- R1: every code of 7.0; U4: L and 4 have no place; others are unknown
pub conditions :
    numbers
    (odd (with_bytes long 37 (65 ∷ []))
    ∷ odd (with_bytes long 37 (66 ∷ []))
    ∷ odd (with_bytes long 37 (67 ∷ []))
    ∷ odd (with_bytes long 37 (69 ∷ []))
    ∷ odd (with_bytes long 37 (70 ∷ []))
    ∷ odd (with_bytes long 37 (72 ∷ []))
    ∷ odd (with_bytes long 37 (78 ∷ []))
    ∷ odd (with_bytes long 37 (79 ∷ []))
    ∷ odd (with_bytes long 37 (82 ∷ []))
    ∷ odd (with_bytes long 37 (85 ∷ []))
    ∷ odd (with_bytes long 37 (87 ∷ []))
    ∷ odd (with_bytes long 37 (76 ∷ []))
    ∷ odd (with_bytes long 37 (52 ∷ []))
    ∷ odd (with_bytes long 37 (68 ∷ []))
    ∷ odd (with_bytes long 37 (53 ∷ []))
    ∷ odd (with_bytes long 37 (32 ∷ []))
    ∷ [])
    ≡ 0 ∷ 0 ∷ 0 ∷ 0 ∷ 0 ∷ 0 ∷ 0 ∷ 0 ∷ 0 ∷ 0 ∷ 0 ∷ 79 ∷ 79 ∷ 78 ∷ 78 ∷ 78 ∷ []
unfolding venue_number block_good size_good laid_from venue_from messages_good messages_placed message_good header_good pair_good participant_good time_good reference_good control_good quote_good sender_good items_good odd_good market_good finra_good own_good round_good message_placed quote_placed layout_of checksum_of field part be be_bytes splice sum member every all padded
conditions = refl

-- R2: the highest price and one more, bid and offer
pub round-prices :
    numbers
    (odd (with_bytes (with_bytes long 38 (be_bytes 8 92233720368547757)) 50 (be_bytes 8 92233720368547758))
    ∷ odd (with_bytes long 50 (be_bytes 8 92233720368547759))
    ∷ odd (with_bytes (with_bytes long 38 (be_bytes 8 92233720368547759)) 50 (replicate 8 0))
    ∷ odd (with_bytes (with_bytes long 38 (be_bytes 8 92233720368547758)) 50 (replicate 8 0))
    ∷ [])
    ≡ 0 ∷ 78 ∷ 78 ∷ 0 ∷ []
unfolding venue_number block_good size_good laid_from venue_from messages_good messages_placed message_good header_good pair_good participant_good time_good reference_good control_good quote_good sender_good items_good odd_good market_good finra_good own_good round_good message_placed quote_placed layout_of checksum_of field part be be_bytes splice sum member every all padded
round-prices = refl

-- R3: retail; R4: settlement; R5: market condition
pub codes :
    numbers
    (odd (with_bytes long 62 (65 ∷ []))
    ∷ odd (with_bytes long 62 (66 ∷ []))
    ∷ odd (with_bytes long 62 (67 ∷ []))
    ∷ odd (with_bytes long 62 (68 ∷ []))
    ∷ odd (with_bytes long 62 (0 ∷ []))
    ∷ odd (with_bytes long 63 (65 ∷ []))
    ∷ odd (with_bytes long 63 (66 ∷ []))
    ∷ odd (with_bytes long 63 (67 ∷ []))
    ∷ odd (with_bytes long 64 (67 ∷ []))
    ∷ [])
    ≡ 0 ∷ 0 ∷ 0 ∷ 78 ∷ 78 ∷ 0 ∷ 0 ∷ 78 ∷ 78 ∷ []
unfolding venue_number block_good size_good laid_from venue_from messages_good messages_placed message_good header_good pair_good participant_good time_good reference_good control_good quote_good sender_good items_good odd_good market_good finra_good own_good round_good message_placed quote_placed layout_of checksum_of field part be be_bytes splice sum member every all padded
codes = refl

-- R6: a short quote whose bid is not below its offer; with one price 0; a long one normal, crossed and locked, each with bid above, equal and below
pub markets :
    numbers
    (even (with_bytes short 31 (3 ∷ 234 ∷ []))
    ∷ even (with_bytes short 31 (3 ∷ 235 ∷ []))
    ∷ even (with_bytes short 31 (3 ∷ 233 ∷ []))
    ∷ even (with_bytes short 35 (0 ∷ 0 ∷ []))
    ∷ even (with_bytes short 31 (0 ∷ 0 ∷ []))
    ∷ odd (with_bytes (with_bytes long 64 (32 ∷ [])) 38 (be_bytes 8 227405000))
    ∷ odd (with_bytes (with_bytes long 64 (32 ∷ [])) 38 (be_bytes 8 227405001))
    ∷ odd (with_bytes (with_bytes long 64 (65 ∷ [])) 38 (be_bytes 8 227405001))
    ∷ odd (with_bytes (with_bytes long 64 (65 ∷ [])) 38 (be_bytes 8 227405000))
    ∷ odd (with_bytes (with_bytes long 64 (65 ∷ [])) 38 (be_bytes 8 227404999))
    ∷ odd (with_bytes (with_bytes long 64 (66 ∷ [])) 38 (be_bytes 8 227405000))
    ∷ odd (with_bytes (with_bytes long 64 (66 ∷ [])) 38 (be_bytes 8 227404999))
    ∷ odd (with_bytes (with_bytes long 64 (66 ∷ [])) 38 (be_bytes 8 227405001))
    ∷ odd (with_bytes (with_bytes long 64 (65 ∷ [])) 38 (be_bytes 8 0))
    ∷ odd (with_bytes (with_bytes long 64 (66 ∷ [])) 38 (be_bytes 8 0))
    ∷ [])
    ≡ 78 ∷ 78 ∷ 0 ∷ 0 ∷ 0 ∷ 78 ∷ 78 ∷ 0 ∷ 78 ∷ 78 ∷ 0 ∷ 78 ∷ 78 ∷ 0 ∷ 0 ∷ []
unfolding venue_number block_good size_good laid_from venue_from messages_good messages_placed message_good header_good pair_good participant_good time_good reference_good control_good quote_good sender_good items_good odd_good market_good finra_good own_good round_good message_placed quote_placed layout_of checksum_of field part be be_bytes splice sum member every all padded
markets = refl

-- R7: a maker ID with a space inside, and one that is formed; R8: an exchange's indicator; R9: an exchange's second time
pub unused :
    numbers
    (odd (with_bytes long 65 (65 ∷ 32 ∷ 66 ∷ []))
    ∷ odd (with_bytes long 65 (70 ∷ 78 ∷ 82 ∷ 65 ∷ []))
    ∷ odd (with_bytes long 68 (66 ∷ []))
    ∷ odd (with_bytes long 69 (65 ∷ []))
    ∷ odd (with_bytes long 77 (1 ∷ []))
    ∷ odd (with_bytes long 70 (1 ∷ []))
    ∷ [])
    ≡ 78 ∷ 0 ∷ 78 ∷ 78 ∷ 78 ∷ 78 ∷ []
unfolding venue_number block_good size_good laid_from venue_from messages_good messages_placed message_good header_good pair_good participant_good time_good reference_good control_good quote_good sender_good items_good odd_good market_good finra_good own_good round_good message_placed quote_placed layout_of checksum_of field part be be_bytes splice sum member every all padded
unused = refl

-- U5: Q P with 77 appendages is 984 bytes in our form, with 78 it is 996; Q R with 79 and 80; counts over 4 are held
pub too_long :
    numbers
    (odd (with_bytes short 40 (40 ∷ 37 ∷ []) ++ replicate 231 1)
    ∷ even (with_bytes short 40 (40 ∷ 38 ∷ []) ++ replicate 234 1)
    ∷ odd (with_bytes (header 81 82 78 ++ (IBM 2 ++ (83 ∷ 79 ∷ 0 ∷ []))) 0 [] ++ replicate 237 1)
    ∷ even (header 81 82 78 ++ (IBM 2 ++ (83 ∷ 0 ∷ 80 ∷ [])) ++ replicate 240 1)
    ∷ [])
    ≡ 0 ∷ 79 ∷ 0 ∷ 79 ∷ []
unfolding venue_number block_good size_good laid_from venue_from messages_good messages_placed message_good header_good pair_good participant_good time_good reference_good control_good quote_good sender_good items_good odd_good market_good finra_good own_good round_good message_placed quote_placed layout_of checksum_of field part be be_bytes splice sum member every all padded
too_long = refl

-- 79 waits for the 78 of the whole block: Q A, then a quote with a wrong mark; Q A, then a quote; a quote, then Q A
pub order :
    numbers
    (of_data 1 2 (laid 1 (header 81 65 78 ∷ with_bytes short 39 (63 ∷ []) ∷ []))
    ∷ of_data 1 2 (laid 1 (header 81 65 78 ∷ short ∷ []))
    ∷ of_data 1 2 (laid 1 (short ∷ header 81 65 78 ∷ []))
    ∷ [])
    ≡ 78 ∷ 79 ∷ 79 ∷ []
unfolding venue_number block_good size_good laid_from venue_from messages_good messages_placed message_good header_good pair_good participant_good time_good reference_good control_good quote_good sender_good items_good odd_good market_good finra_good own_good round_good message_placed quote_placed layout_of checksum_of field part be be_bytes splice sum member every all padded
order = refl

-- short and long, round and odd, of two participants in one block
pub mixed :
    numbers
    (of_data 7 4 (laid 1 (short ∷ with_bytes long 4 (80 ∷ []) ∷ short_odds ∷ long_odds ∷ []))
    ∷ [])
    ≡ 0 ∷ []
unfolding venue_number block_good size_good laid_from venue_from messages_good messages_placed message_good header_good pair_good participant_good time_good reference_good control_good quote_good sender_good items_good odd_good market_good finra_good own_good round_good message_placed quote_placed layout_of checksum_of field part be be_bytes splice sum member every all padded
mixed = refl

-- B1: 10 Q P, 15 Q R and a Q R with 8 appendages make a block of 998 bytes; 9 Q P and 18 Q R make one of 1,000
pub longest :
    numbers
    (of_data 1 26 (laid 1 (replicate 10 short ++ (replicate 15 (header 81 82 78 ++ (IBM 2 ++ (83 ∷ 0 ∷ 0 ∷ []))) ++ ((header 81 82 78 ++ (IBM 2 ++ (83 ∷ 8 ∷ 0 ∷ replicate 24 1))) ∷ []))))
    ∷ of_data 1 27 (laid 1 (replicate 9 short ++ replicate 18 (header 81 82 78 ++ (IBM 2 ++ (83 ∷ 0 ∷ 0 ∷ [])))))
    ∷ [])
    ≡ 0 ∷ 78 ∷ []
unfolding venue_number block_good size_good laid_from venue_from messages_good messages_placed message_good header_good pair_good participant_good time_good reference_good control_good quote_good sender_good items_good odd_good market_good finra_good own_good round_good message_placed quote_placed layout_of checksum_of field part be be_bytes splice sum member every all padded
longest = refl

-- where the next message starts: behind a whole message, else the block's end; any bytes
pub next-starts :
    (next_at (even short) 10 ≡ 52) × ((next_at (odd long) 10 ≡ 91) × ((next_at (odd long) 91 ≡ 92) × ((next_at (even short) 52 ≡ 52) × ((next_at [] 0 ≡ 0) × (next_at (5 ∷ []) 7 ≡ 1)))))
unfolding next_at field part be be_bytes splice checksum_of sum
next-starts = (refl, (refl, (refl, (refl, (refl, refl)))))
