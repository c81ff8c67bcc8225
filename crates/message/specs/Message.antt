-- A message's bytes: its layout, what it says, and its code (document 01, "Messages" and numbers 40 to 49, 60 to 64; document 02, T-10: 76, 77).
-- Assumes nothing.
use Rattle.std.specs.Prelude.{ℕ, ◌+◌, ◌*◌, Bool, true, false, not, ◌&&◌, cond, List, [], ◌∷◌, ltb, leb, eqb, length, drop}
use Rattle.quote.specs.Quote.{empty_quote}
use Rattle.field.specs.Field.{part, field}
use Rattle.field.specs.Ascii.{A, B, C, D, E, F, H, I, K, L, M, N, O, Q, R, S, T, U, W, five, space}
use Rattle.lists.specs.Lists.{at, member, all}
use Rattle.quote.specs.declared.Level.{Level}
use Rattle.quote.specs.declared.Quote.{Quote}
use Rattle.levels.specs.Levels.{Standing, Odd, item_length, odd_in, odd_code}
use Rattle.text.specs.Form.{symbol_length, name_length, symbol_good, maker_good}
use Rattle.message.specs.declared.Kind.{Kind}
use Rattle.message.specs.declared.Kind.TheVariants as kind
use Rattle.message.specs.declared.OddPart.{OddPart}
use Rattle.message.specs.declared.Message.{Message}
use Rattle.message.specs.declared.Message.TheVariants as says

-- ---- layout

-- the bytes of a header, of C 5, of a round part, of Q U and of T S
abbrev pub header_length : ℕ
header_length = 20

abbrev pub test_length : ℕ
test_length = header_length + 95

abbrev pub round_length : ℕ
round_length = 56

abbrev pub maker_length : ℕ
maker_length = round_length + name_length

abbrev pub status_length : ℕ
status_length = 32

-- "Header: 0 category, 1 type, 2 letter, 3 zero, 4-11 timestamp, 12-19 reference number (not read)"
unfoldable pub control_kind : ℕ → Kind
control_kind t =
    cond (member (I ∷ T ∷ []) t) kind.Inquiry
    (cond (eqb t C) kind.Close
    (cond (eqb t O) kind.Open
    (cond (eqb t five) kind.Test kind.Unknown)))

-- document 02, T-05: "FINRA starts to send odd lots in type Q T, with the layout of Q M"
unfoldable pub quote_kind : ℕ → Kind
quote_kind t =
    cond (eqb t K) kind.RoundLot
    (cond (eqb t M) (kind.OddLot false)
    (cond (eqb t T) (kind.OddLot true)
    (cond (eqb t U) kind.Maker kind.Unknown)))

-- document 02, T-10: "Trading Status messages (category T type S ..)"
unfoldable pub status_kind : ℕ → Kind
status_kind t = cond (eqb t S) kind.Status kind.Unknown

-- C I, C T, C C, C O, C 5, Q K, Q M, Q T, Q U, T S
unfoldable pub kind_of : List ℕ → Kind
kind_of m =
    cond (eqb (at m 0) C) (control_kind (at m 1))
    (cond (eqb (at m 0) Q) (quote_kind (at m 1))
    (cond (eqb (at m 0) T) (status_kind (at m 1)) kind.Unknown))

unfoldable pub time_of : List ℕ → ℕ
time_of m = field m 4 8

-- "20-30 symbol": its bytes, and as one number
abbrev pub symbol_text : List ℕ → List ℕ
symbol_text m = part m header_length symbol_length

unfoldable pub symbol_of : List ℕ → ℕ
symbol_of m = field m header_length symbol_length

-- price 8 and size 4 from i on, with the message's time
unfoldable pub level_at : List ℕ → ℕ → Level
level_at m i = record { price = field m i 8; size = field m (i + 8) 4; time = time_of m }

-- "31 condition, 32-39 bid price, 40-43 bid size, 44-51 offer price, 52-55 offer size"
unfoldable pub quote_at : List ℕ → Quote
quote_at m = record { condition = field m 31 1; bid = level_at m 32; offer = level_at m 44 }

-- "56-59 maker": its bytes, and as one number
abbrev pub maker_text : List ℕ → List ℕ
maker_text m = part m round_length name_length

unfoldable pub maker_name : List ℕ → ℕ
maker_name m = field m round_length name_length

-- T-10: "31 status H for halted or T for trading"
abbrev pub status_of : List ℕ → ℕ
status_of m = at m 31

abbrev pub statuses : List ℕ
statuses = H ∷ T ∷ []

-- the clear mark at i, the counts behind it, the items from j on
unfoldable pub odd_at : List ℕ → ℕ → ℕ → OddPart
odd_at m i j = record { mark = at m i; bids = at m (i + 1); offers = at m (i + 2); time = time_of m; items = j }

abbrev pub round_lot_items : ℕ
round_lot_items = 60

abbrev pub odd_lot_items : ℕ
odd_lot_items = 36

-- Q K: "56 clear, 57 count of odd bids, 58 of odd offers, 59 zero, from 60 the bids then the offers"
abbrev pub round_lot_odd : List ℕ → OddPart
round_lot_odd m = odd_at m round_length round_lot_items

-- Q M and Q T: "31 clear, 32 and 33 the counts, 34-35 zero, items from 36"
abbrev pub odd_lot_odd : List ℕ → OddPart
odd_lot_odd m = odd_at m 31 odd_lot_items

-- the odd part with its items' bytes; in its message they stand behind the counts
abbrev pub odd_with : OddPart → List ℕ → Odd
odd_with o b = odd_in o.mark o.bids o.offers o.time b

abbrev pub odd_of : List ℕ → OddPart → Odd
odd_of m o = odd_with o (drop o.items m)

-- "plus 12 per item"
abbrev pub items_length : OddPart → ℕ
items_length o = item_length * (o.bids + o.offers)

abbrev pub odd_length : OddPart → ℕ
odd_length o = o.items + items_length o

-- ---- what needs no book

-- 47: "price 0 with a size on either side"
abbrev pub side_bad : Level → Bool
side_bad l = eqb l.price 0 && ltb 0 l.size

-- "Q K takes all but L", of A, B, C, E, F, H, L, N, O, R, U, W; "Q U takes R and L"
abbrev pub round_conditions : List ℕ
round_conditions = A ∷ B ∷ C ∷ E ∷ F ∷ H ∷ N ∷ O ∷ R ∷ U ∷ W ∷ []

abbrev pub maker_conditions : List ℕ
maker_conditions = L ∷ R ∷ []

-- 47, then what follows
unfoldable pub price_fault : Quote → ℕ → ℕ
price_fault q rest = cond (side_bad q.bid) 47 (cond (side_bad q.offer) 47 rest)

-- 46, 47, then what follows
unfoldable pub quote_fault : List ℕ → Quote → ℕ → ℕ
quote_fault table q rest = cond (member table q.condition) (price_fault q rest) 46

-- D is FINRA
abbrev pub is_d : ℕ → Bool
is_d l = eqb l D

abbrev pub header_zero : List ℕ → Bool
header_zero m = eqb (at m 3) 0

-- 42, 43
abbrev pub checked_form : Bool → Bool → Message → Message
checked_form length zeros next = cond length (cond zeros next (says.Refused 43)) (says.Refused 42)

-- 45 as far as the message tells
abbrev pub checked_symbol : List ℕ → Message → Message
checked_symbol m next = cond (symbol_good (symbol_text m)) next (says.Refused 45)

unfoldable pub read_inquiry : List ℕ → Message
read_inquiry m = checked_form (eqb (length m) header_length) (header_zero m) says.Idle

-- "95 more, hex 20 to 7E in order"
abbrev pub test_byte : List ℕ → ℕ → Bool
test_byte m i = eqb (at m (header_length + i)) (space + i)

unfoldable pub test_bytes : List ℕ → Bool
test_bytes m = all (test_byte m) 0 95

unfoldable pub read_test : List ℕ → Message
read_test m = checked_form (eqb (length m) test_length) (header_zero m && test_bytes m) says.Idle

-- 44: "C C, C O, Q U off D's line; Q K, Q M on it"
unfoldable pub read_finra : ℕ → ℕ → List ℕ → Message
read_finra condition letter m = checked_form (eqb (length m) header_length) (header_zero m) (cond (is_d letter) (says.Finra condition) (says.Refused 44))

unfoldable pub read_round_lot : ℕ → List ℕ → Message
read_round_lot letter m =
    checked_form (eqb (length m) (odd_length (round_lot_odd m))) (header_zero m && eqb (at m 59) 0)
    (cond (is_d letter) (says.Refused 44)
    (checked_symbol m (says.RoundLot (quote_fault round_conditions (quote_at m) 0) (quote_at m) (round_lot_odd m))))

-- T-05: "44 now also covers Q T off D's line, and on it Q T is judged as Q M is elsewhere", "Q M on D's line keeps 44"
abbrev pub misplaced : Bool → ℕ → Bool
misplaced finra letter = cond finra (not (is_d letter)) (is_d letter)

unfoldable pub read_odd_lot : Bool → ℕ → List ℕ → Message
read_odd_lot finra letter m =
    checked_form (eqb (length m) (odd_length (odd_lot_odd m))) (header_zero m && (eqb (at m 34) 0 && eqb (at m 35) 0))
    (cond (misplaced finra letter) (says.Refused 44) (checked_symbol m (says.OddLot (odd_lot_odd m))))

-- 46, 47, 48
unfoldable pub read_maker : ℕ → List ℕ → Message
read_maker letter m =
    checked_form (eqb (length m) maker_length) (header_zero m)
    (cond (is_d letter)
    (checked_symbol m (says.Maker (quote_fault maker_conditions (quote_at m) (cond (maker_good (maker_text m)) 0 48)) (maker_name m) (quote_at m)))
    (says.Refused 44))

-- T-10: "header, 20-30 symbol, 31 status .., 32 bytes in all"; on any line (44 does not name it)
unfoldable pub read_status : List ℕ → Message
read_status m = checked_form (eqb (length m) status_length) (header_zero m) (checked_symbol m (says.Status (status_of m)))

abbrev pub read_by : ℕ → List ℕ → Kind → Message
read_by letter m kind.Inquiry = read_inquiry m
read_by letter m kind.Close = read_finra L letter m
read_by letter m kind.Open = read_finra R letter m
read_by letter m kind.Test = read_test m
read_by letter m kind.RoundLot = read_round_lot letter m
read_by letter m (kind.OddLot finra) = read_odd_lot finra letter m
read_by letter m kind.Maker = read_maker letter m
read_by letter m kind.Status = read_status m
read_by letter m kind.Unknown = says.Refused 40

abbrev pub is_unknown : Kind → Bool
is_unknown kind.Inquiry = false
is_unknown kind.Close = false
is_unknown kind.Open = false
is_unknown kind.Test = false
is_unknown kind.RoundLot = false
is_unknown (kind.OddLot finra) = false
is_unknown kind.Maker = false
is_unknown kind.Status = false
is_unknown kind.Unknown = true

-- "40 unknown category and type. 41 letter not the line's", then by the type
unfoldable pub message_of : ℕ → List ℕ → Message
message_of letter m = cond (is_unknown (kind_of m)) (says.Refused 40) (cond (eqb (at m 2) letter) (read_by letter m (kind_of m)) (says.Refused 41))

-- ---- the code, with what stands of the symbol

-- what stands of the symbol that a message names: whether it is listed, its round lot, its primary letter, its makers (how many, and which), and
-- each letter's levels
pub record Known : Type 0 where
  pub listed : Bool
  pub lot : ℕ
  pub primary : ℕ
  pub count : ℕ
  pub stands : ℕ → Bool
  pub levels : ℕ → Standing

-- "49 new maker while sixteen stand"; document 02, T-03: "The empty quote now goes first, and, if the maker has no cell, is accepted"
unfoldable pub maker_code : Known → ℕ → Quote → ℕ
maker_code e name q = cond (empty_quote q) 0 (cond (e.stands name) 0 (cond (ltb e.count 16) 0 49))

-- T-10: "per message after 45, 76 line's letter not the primary, then 77 status"
unfoldable pub status_code : ℕ → ℕ → ℕ → ℕ
status_code primary letter status = cond (eqb primary letter) (cond (member statuses status) 0 77) 76

-- 45 not listed; then the faults that the message told; then 49 or the odd part, or 76 and 77
abbrev pub code_by : Known → ℕ → List ℕ → Message → ℕ
code_by e letter m (says.Refused code) = code
code_by e letter m says.Idle = 0
code_by e letter m (says.Finra condition) = 0
code_by e letter m (says.RoundLot fault q o) = cond e.listed (cond (eqb fault 0) (odd_code e.lot (e.levels letter) (odd_of m o)) fault) 45
code_by e letter m (says.OddLot o) = cond e.listed (odd_code e.lot (e.levels letter) (odd_of m o)) 45
code_by e letter m (says.Maker fault name q) = cond e.listed (cond (eqb fault 0) (maker_code e name q) fault) 45
code_by e letter m (says.Status status) = cond e.listed (status_code e.primary letter status) 45

-- document 01's code of a message on a line with that letter
unfoldable pub code_of : Known → ℕ → List ℕ → ℕ
code_of e letter m = code_by e letter m (message_of letter m)

-- ---- its parts: "Quote parts are round parts, odd parts and Q U"; FINRA Close and Open and, by T-10, a status beside them

pub data Part : Type 0 where
  -- symbol, letter, quote
  round_part : ℕ → ℕ → Quote → Part
  -- symbol, letter, odd part
  odd_part : ℕ → ℕ → Odd → Part
  -- symbol, maker, quote
  maker_part : ℕ → ℕ → Quote → Part
  -- condition
  finra_part : ℕ → Part
  -- symbol, status
  status_part : ℕ → ℕ → Part

abbrev pub round_part_of : List ℕ → Part
round_part_of m = round_part (symbol_of m) (at m 2) (quote_at m)

abbrev pub odd_part_of : List ℕ → OddPart → Part
odd_part_of m o = odd_part (symbol_of m) (at m 2) (odd_of m o)

abbrev pub maker_part_of : List ℕ → Part
maker_part_of m = maker_part (symbol_of m) (maker_name m) (quote_at m)

abbrev pub status_part_of : List ℕ → Part
status_part_of m = status_part (symbol_of m) (status_of m)

-- "Q K with 60 to 64" is partly accepted
abbrev pub partly_by : ℕ → Kind → Bool
partly_by c kind.Inquiry = false
partly_by c kind.Close = false
partly_by c kind.Open = false
partly_by c kind.Test = false
partly_by c kind.RoundLot = leb 60 c
partly_by c (kind.OddLot finra) = false
partly_by c kind.Maker = false
partly_by c kind.Status = false
partly_by c kind.Unknown = false

unfoldable pub partly_taken : ℕ → List ℕ → Bool
partly_taken c m = partly_by c (kind_of m)

-- all parts of an accepted message, the oldest first
abbrev pub whole_by : List ℕ → Kind → List Part
whole_by m kind.Inquiry = []
whole_by m kind.Close = finra_part L ∷ []
whole_by m kind.Open = finra_part R ∷ []
whole_by m kind.Test = []
whole_by m kind.RoundLot = round_part_of m ∷ odd_part_of m (round_lot_odd m) ∷ []
whole_by m (kind.OddLot finra) = odd_part_of m (odd_lot_odd m) ∷ []
whole_by m kind.Maker = maker_part_of m ∷ []
whole_by m kind.Status = status_part_of m ∷ []
whole_by m kind.Unknown = []

-- with code 0 the whole; of a Q K with 60 to 64 the round part; else nothing
unfoldable pub parts_of : ℕ → List ℕ → List Part
parts_of c m = cond (eqb c 0) (whole_by m (kind_of m)) (cond (partly_taken c m) (round_part_of m ∷ []) [])
