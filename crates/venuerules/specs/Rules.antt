-- The rules of a message in the form of source document 000: what check 78 asks of it, and check 79 (document 02, T-11).
-- Numbers like 5.4 are sections of 000; H1, Q1, R1 and so on name the rules.
-- Assumes nothing.
use Rattle.std.specs.Prelude.{ℕ, ◌+◌, ◌*◌, Bool, true, false, not, ◌&&◌, ◌||◌, cond, List, [], ◌∷◌, ltb, leb, eqb, length, Option, Some, None}
use Rattle.field.specs.Field.{part, field}
use Rattle.field.specs.Ascii.{A, B, C, E, F, H, I, K, L, M, N, O, P, Q, R, S, T, U, W, X, Z, four, five, space}
use Rattle.lists.specs.Lists.{member, every, all, between, upper}
use Rattle.text.specs.Form.{is_space, padded, letter_good}
use Rattle.levels.specs.Levels.{item_length}
use Rattle.message.specs.Message.{round_lot_items, odd_lot_items, round_conditions}
use Rattle.block.specs.Block.{block_longest, offset_at}
use Rattle.ranking.specs.declared.Side.TheVariants.{Bid, Offer}
use Rattle.venueform.specs.declared.Form.{Form}
use Rattle.venueform.specs.Form.{category_in, type_in, participant_in, seconds_in, nanos_in, nanos_in_second, id_in, reserved_in, from_finra, long_round, layout_of, symbol_part, price_in, condition_in, market_in, retail_in, settlement_in, maker_in, indicator_in, second_time_in, second_nanos_in, mark_in, item_count, item_at, item_price}

-- ---- 5.0: the header

-- H1. 5.2's table: A P, A R, A W; C A, C C, C I, C N, C O, C R, C T, C Z, C 5; Q A, Q P, Q K, Q U, Q R, Q M, Q T; T S
unfoldable pub pair_good : ℕ → ℕ → Bool
pair_good category type =
    cond (eqb category A) (member (P ∷ R ∷ W ∷ []) type)
    (cond (eqb category C) (member (A ∷ C ∷ I ∷ N ∷ O ∷ R ∷ T ∷ Z ∷ five ∷ []) type)
    (cond (eqb category Q) (member (A ∷ P ∷ K ∷ U ∷ R ∷ M ∷ T ∷ []) type)
    (cond (eqb category T) (eqb type S) false)))

-- H2. 5.3's table: A to Z without E, O, Q and R
unfoldable pub participant_good : ℕ → Bool
participant_good l = upper l && not (member (E ∷ O ∷ Q ∷ R ∷ []) l)

-- H3. 5.4: "the nanosecond portion of the time". H4. 5.4: "Timestamp 1 must be populated"
unfoldable pub time_good : List ℕ → Bool
time_good m = ltb (nanos_in m) nanos_in_second && (ltb 0 (seconds_in m) || ltb 0 (nanos_in m))

-- H5. 5.6: "beginning with number one (1) .. should be incremented": message i, from 0, has i + 1
abbrev pub id_good : ℕ → List ℕ → Bool
id_good i m = eqb (id_in m) (i + 1)

-- H6. 5.7: "Space filled"
abbrev pub reserved_good : List ℕ → Bool
reserved_good m = every is_space (reserved_in m)

-- H7. 5.5: "Optionally set to Zero"; else "fill the upper-significant two bytes .. to binary 0s", and what does not "conform to the ASCII 'Regional
-- Reference Number' data format range requirements in the last six characters will be rejected": 001, 4.5.9, "the binary values 48 through 122"
unfoldable pub reference_good : List ℕ → Bool
reference_good m = eqb (field m 18 8) 0 || eqb (field m 18 2) 0 && every (between 48 122) (part m 20 6)

unfoldable pub header_good : ℕ → List ℕ → Bool
header_good i m =
    pair_good (category_in m) (type_in m)
    && (participant_good (participant_in m)
    && (time_good m
    && (id_good i m
    && (reserved_good m && reference_good m))))

-- C1. 4.4: "Category C – Control messages are each sent in their own individual block". C2. 4.7.3: blocks of C I "should have a Block Sequence Number
-- set to zero". Of a message in a block of `count` messages with that number
unfoldable pub control_good : ℕ → ℕ → List ℕ → Bool
control_good count sequence m =
    not (eqb (category_in m) C) || eqb count 1 && (not (eqb (type_in m) I) || eqb sequence 0)

-- ---- 6.3.2 to 6.3.4, 7.0: a quote

-- 7.0: "supports a maximum price of $92,233,720,368.547758"
abbrev pub price_most : ℕ
price_most = 92233720368547758

abbrev pub price_good : ℕ → Bool
price_good p = leb p price_most

-- Q1. 5.1, 6.3.2.1, 6.3.2.2, 6.3.3.1, 6.3.3.2, 6.3.4: the message ends behind its appendages
abbrev pub length_good : Form → List ℕ → Bool
length_good f m = eqb (length m) (item_at f (item_count f m))

-- Q2. 6.3.2.1: "Quote is not from FINRA ADF"; 6.3.2.2, 6.3.3.1, 6.3.3.2: "An odd lot quote from FINRA ADF is not supported via this message"
unfoldable pub sender_good : Form → List ℕ → Bool
sender_good f m = not (from_finra m) || f.round && (f.long && eqb (item_count f m) 0)

-- Q3. 7.0, Security Symbol: "Left justified, space-filled", "no embedded spaces"
abbrev pub symbol_formed : Form → List ℕ → Bool
symbol_formed f m = padded 33 126 (symbol_part f m)

-- Q4. 7.0, Clear Prior Odd Lot Quotes: space, B, S, X
abbrev pub mark_good : ℕ → Bool
mark_good c = member (space ∷ B ∷ S ∷ X ∷ []) c

-- Q5. 7.0, Odd Lot Quote Price
abbrev pub item_good : Form → List ℕ → ℕ → Bool
item_good f m i = price_good (item_price f m i)

unfoldable pub items_good : Form → List ℕ → Bool
items_good f m = all (item_good f m) 0 (item_count f m)

-- Q6. 6.3.3.1, 6.3.3.2: "may be reported without any optional quote appendages when previously reported odd lot quotes are being cleared"
unfoldable pub odd_good : Form → List ℕ → Bool
odd_good f m = ltb 0 (item_count f m) || not (eqb (mark_in f m) space)

-- R1. 7.0, Quote Condition: its thirteen codes
abbrev pub venue_conditions : List ℕ
venue_conditions = A ∷ B ∷ C ∷ E ∷ F ∷ H ∷ L ∷ N ∷ O ∷ R ∷ U ∷ W ∷ four ∷ []

-- R3. 7.0, Retail Interest Indicator. R4. Settlement Condition. R5. Market Condition
abbrev pub retail_codes : List ℕ
retail_codes = space ∷ A ∷ B ∷ C ∷ []

abbrev pub settlement_codes : List ℕ
settlement_codes = space ∷ A ∷ B ∷ []

abbrev pub market_codes : List ℕ
market_codes = space ∷ A ∷ B ∷ []

-- R6. 7.0, Market Condition: "In cases of a Normal Auction Market, the Round Lot Bid Price must be less than the Round Lot Offer Price", crossed (A)
-- "greater", locked (B) "equal". A price of 0 is none, and there is nothing to compare
unfoldable pub market_good : ℕ → ℕ → ℕ → Bool
market_good c bid offer = eqb bid 0 || (eqb offer 0 || cond (eqb c A) (ltb offer bid) (cond (eqb c B) (eqb bid offer) (ltb bid offer)))

-- R7. 7.0, FINRA Market Maker ID: "Left justified, space-filled"
abbrev pub maker_formed : List ℕ → Bool
maker_formed m = padded 33 126 (maker_in m)

-- R8. 7.0, FINRA BBO Indicator: a space "used by Participants other than FINRA ADF", else A or B. R9. 7.0, Timestamp 2: "If from an Exchange .. should
-- be set to zero", else a time
unfoldable pub finra_good : List ℕ → Bool
finra_good m =
    cond (from_finra m)
    (member (A ∷ B ∷ []) (indicator_in m) && ltb (second_nanos_in m) nanos_in_second)
    (eqb (indicator_in m) space && eqb (second_time_in m) 0)

-- the fields that only the long round-lot quote has
unfoldable pub own_good : List ℕ → Bool
own_good m =
    member venue_conditions (condition_in long_round m)
    && (member retail_codes (retail_in m)
    && (member settlement_codes (settlement_in m)
    && (member market_codes (market_in long_round m)
    && (maker_formed m && finra_good m))))

-- R1 to R9; R2. 7.0, Round Lot Bid Price and Round Lot Offer Price
unfoldable pub round_good : Form → List ℕ → Bool
round_good f m =
    price_good (price_in f Bid m)
    && (price_good (price_in f Offer m)
    && (market_good (market_in f m) (price_in f Bid m) (price_in f Offer m)
    && cond f.long (own_good m) true))

-- Q1 to Q6, R1 to R9
unfoldable pub quote_good : Form → List ℕ → Bool
quote_good f m =
    length_good f m
    && (sender_good f m
    && (symbol_formed f m
    && (mark_good (mark_in f m)
    && (items_good f m
    && cond f.round (round_good f m) (odd_good f m)))))

abbrev pub layout_good : List ℕ → Option Form → Bool
layout_good m (Some f) = quote_good f m
layout_good m None = true

-- 78, of message i of a block of `count` messages under that number
unfoldable pub message_good : ℕ → ℕ → ℕ → List ℕ → Bool
message_good count sequence i m = header_good i m && (control_good count sequence m && layout_good m (layout_of m))

-- ---- 79: "a type without a place here, a value that our field can't hold, or a message that in our form is too long for one block"

-- the message's length in our form: Q K or Q M, "plus 12 per item"
abbrev pub our_length : Form → List ℕ → ℕ
our_length f m = cond f.round round_lot_items odd_lot_items + item_length * item_count f m

-- "Q K takes all but L", and our table has no 4
abbrev pub condition_held : Form → List ℕ → Bool
condition_held f m = not f.round || member round_conditions (condition_in f m)

-- U2 FINRA's messages remain in our form; U3 S is no letter of ours; U4; U5 alone in a block of 1,000 bytes
unfoldable pub quote_placed : Form → List ℕ → Bool
quote_placed f m =
    letter_good (participant_in m) && (not (from_finra m) && (condition_held f m && leb (offset_at 1 + our_length f m) block_longest))

-- U1
abbrev pub placed_by : List ℕ → Option Form → Bool
placed_by m (Some f) = quote_placed f m
placed_by m None = false

unfoldable pub message_placed : List ℕ → Bool
message_placed m = placed_by m (layout_of m)
