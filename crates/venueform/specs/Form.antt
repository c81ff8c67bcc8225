-- A message in the form of source document 000: its header (5.0) and the four quotes that are read (6.3.2.1, 6.3.2.2, 6.3.3.1, 6.3.3.2).
-- Numbers like 5.4 are sections of 000. Every field is said once, of any form: short and long share it.
-- Assumes nothing.
use Rattle.std.specs.Prelude.{ℕ, ◌+◌, ◌*◌, ◌-◌, Bool, true, false, cond, List, ◌++◌, eqb, replicate, Option, Some, None}
use Rattle.field.specs.Field.{part, field}
use Rattle.field.specs.Ascii.{space, D, K, M, P, Q, R}
use Rattle.lists.specs.Lists.{at}
use Rattle.text.specs.Form.{symbol_length}
use Rattle.ranking.specs.declared.Side.{Side}
use Rattle.ranking.specs.declared.Side.TheVariants.{Bid, Offer}
use Rattle.venueform.specs.declared.Form.{Form}

-- ---- header (5.0), 26 bytes: message length 2, category, type, participant, timestamp 1 of 4 and 4, message ID, reserved 4, reference number 8

abbrev pub venue_header : ℕ
venue_header = 26

-- 5.1: "the total message length inclusive of the Message Header and Message Body"
abbrev pub length_in : List ℕ → ℕ
length_in m = field m 0 2

abbrev pub category_in : List ℕ → ℕ
category_in m = at m 2

abbrev pub type_in : List ℕ → ℕ
type_in m = at m 3

abbrev pub participant_in : List ℕ → ℕ
participant_in m = at m 4

-- 5.4: "The first integer contains the number of seconds .. The next integer contains the nanosecond portion of the time"
abbrev pub seconds_in : List ℕ → ℕ
seconds_in m = field m 5 4

abbrev pub nanos_in : List ℕ → ℕ
nanos_in m = field m 9 4

abbrev pub nanos_in_second : ℕ
nanos_in_second = 1000000000

-- 5.4: "representing the number of nanoseconds since Epoch"
abbrev pub time_in : List ℕ → ℕ
time_in m = seconds_in m * nanos_in_second + nanos_in m

abbrev pub id_in : List ℕ → ℕ
id_in m = at m 13

abbrev pub reserved_in : List ℕ → List ℕ
reserved_in m = part m 14 4

abbrev pub reference_in : List ℕ → List ℕ
reference_in m = part m 18 8

-- 5.3: "D FINRA Alternative Display Facility (ADF)"
abbrev pub from_finra : List ℕ → Bool
from_finra m = eqb (participant_in m) D

-- ---- the table of forms: round lot or odd lot, short or long

abbrev pub short_round : Form
short_round = record { round = true; long = false }

abbrev pub long_round : Form
long_round = record { round = true; long = true }

abbrev pub short_odd : Form
short_odd = record { round = false; long = false }

abbrev pub long_odd : Form
long_odd = record { round = false; long = true }

-- Q P, Q K, Q R, Q M; of other types the header alone is read
unfoldable pub layout_of : List ℕ → Option Form
layout_of m =
    cond (eqb (category_in m) Q)
    (cond (eqb (type_in m) P) (Some short_round)
    (cond (eqb (type_in m) K) (Some long_round)
    (cond (eqb (type_in m) R) (Some short_odd)
    (cond (eqb (type_in m) M) (Some long_odd) None))))
    None

-- a column of the table: what the short forms have, and the long ones
abbrev pub by_width : Form → ℕ → ℕ → ℕ
by_width f short long = cond f.long long short

-- bytes of a symbol, a price, a round-lot size
abbrev pub symbol_bytes : Form → ℕ
symbol_bytes f = by_width f 5 symbol_length

abbrev pub price_bytes : Form → ℕ
price_bytes f = by_width f 2 8

abbrev pub size_bytes : Form → ℕ
size_bytes f = by_width f 2 4

-- a side is a price and a size
abbrev pub side_bytes : Form → ℕ
side_bytes f = price_bytes f + size_bytes f

-- 4.6.1: "Prices represented by short fields have implied 2 decimal places", "long fields .. 6": the millionths in a price's last digit
abbrev pub scale_of : Form → ℕ
scale_of f = by_width f 10000 1

-- where the bid of a round-lot quote stands: behind the symbol, in the long form behind its condition
abbrev pub bid_at : Form → ℕ
bid_at f = by_width f 31 38

-- where the clear mark stands: behind both sides, in the long form behind 16 bytes more; of an odd-lot quote behind the symbol
abbrev pub clear_at : Form → ℕ
clear_at f = cond f.round (by_width f 39 78) (by_width f 31 37)

-- ---- fields, each of any form

-- the symbol as it stands, and filled up to our eleven bytes
abbrev pub symbol_part : Form → List ℕ → List ℕ
symbol_part f m = part m venue_header (symbol_bytes f)

abbrev pub symbol_in : Form → List ℕ → List ℕ
symbol_in f m = symbol_part f m ++ replicate (symbol_length - symbol_bytes f) space

-- a price at i, in millionths as ours are
abbrev pub price_at : Form → List ℕ → ℕ → ℕ
price_at f m i = field m i (price_bytes f) * scale_of f

abbrev pub side_at : Form → Side → ℕ
side_at f Bid = bid_at f
side_at f Offer = bid_at f + side_bytes f

abbrev pub price_in : Form → Side → List ℕ → ℕ
price_in f s m = price_at f m (side_at f s)

-- 7.0, Round Lot Bid Size and Round Lot Offer Size: "the number of shares"
abbrev pub shares_in : Form → Side → List ℕ → ℕ
shares_in f s m = field m (side_at f s + price_bytes f) (size_bytes f)

-- 6.3.2.1: the short quote's condition "is implied 'Regular' quote condition"
abbrev pub condition_in : Form → List ℕ → ℕ
condition_in f m = cond f.long (at m 37) R

-- 6.3.2.1: its market condition "is implied normal auction market"
abbrev pub market_in : Form → List ℕ → ℕ
market_in f m = cond f.long (at m 64) space

-- what only the long round-lot quote has
abbrev pub retail_in : List ℕ → ℕ
retail_in m = at m 62

abbrev pub settlement_in : List ℕ → ℕ
settlement_in m = at m 63

abbrev pub maker_in : List ℕ → List ℕ
maker_in m = part m 65 4

abbrev pub indicator_in : List ℕ → ℕ
indicator_in m = at m 69

-- Timestamp 2, and its "nanosecond portion"
abbrev pub second_time_in : List ℕ → ℕ
second_time_in m = field m 70 8

abbrev pub second_nanos_in : List ℕ → ℕ
second_nanos_in m = field m 74 4

abbrev pub mark_in : Form → List ℕ → ℕ
mark_in f m = at m (clear_at f)

-- the counts of appendages
abbrev pub count_in : Form → Side → List ℕ → ℕ
count_in f Bid m = at m (clear_at f + 1)
count_in f Offer m = at m (clear_at f + 2)

abbrev pub item_count : Form → List ℕ → ℕ
item_count f m = count_in f Bid m + count_in f Offer m

-- 6.3.4.1, 6.3.4.2: an appendage is a price and one byte of shares; the bids stand before the offers
abbrev pub item_bytes : Form → ℕ
item_bytes f = price_bytes f + 1

-- where appendage i starts; behind the last, the message ends
abbrev pub item_at : Form → ℕ → ℕ
item_at f i = clear_at f + 3 + item_bytes f * i

abbrev pub item_price : Form → List ℕ → ℕ → ℕ
item_price f m i = price_at f m (item_at f i)

-- 7.0, Odd Lot Quote Size: "represented in number of shares"
abbrev pub item_shares : Form → List ℕ → ℕ → ℕ
item_shares f m i = at m (item_at f i + price_bytes f)
