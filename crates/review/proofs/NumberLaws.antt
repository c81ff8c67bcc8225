-- Every number is one of document 01's, and every code; on any bytes.
-- Assumes nothing.
use Prim.Native.Nat.{ℕ}
use mathlib.Core.Path.{◌≡◌, refl}
use mathlib.Core.Bool.{Bool, true, false, ◌&&◌, cond}
use mathlib.Core.List.{List, [], ◌∷◌, ◌++◌}
use Rattle.std.specs.Prelude.{Option, None, Some, Result, Ok, Err}
use lib.Dec.{ltb, leb, eqb}
use lib.ListN.{length}
use Rattle.quote.specs.Quote.{empty_quote}
use Rattle.field.specs.Field.{be, field}
use Rattle.lists.specs.Lists.{at, member, all, is_some, sum}
use Rattle.allowance.specs.Allowance.{blocks_most, is_used_up, setting_number, share_count}
use Rattle.lists.proofs.Tables.{in-range}
use Rattle.quote.specs.declared.Quote.{Quote}
use Rattle.levels.specs.declared.Item.{Item}
use Rattle.levels.specs.Levels.{Standing, Odd, odd_on, items_bad, odd_bad, fifth, odd_code, clear_marks}
use Rattle.text.specs.Form.{symbol_good, maker_good, letter_good}
use Rattle.message.specs.declared.Message.{Message}
use Rattle.message.specs.Message.{quote_at, maker_name, round_lot_odd, odd_lot_odd, odd_of, side_bad, round_conditions, maker_conditions, price_fault, quote_fault, message_of, Known, maker_code, statuses, status_of, status_code, code_by, code_of, maker_text}
use Rattle.message.proofs.SpokenLaws.{Spoken, refused, idle, finra, round, odd, maker, status, spoken}
use Rattle.block.specs.Block.{count_in, sequence_in, checksum_of, length_good, table_good, control_among, checked, idle_block, answer_length}
use Rattle.block.specs.Sequence.{arrival_of}
use Rattle.numbers.specs.declared.Refusal.{Refusal}
use Rattle.numbers.specs.Numbers as numbers
use Rattle.numbers.specs.declared.Refusal.TheVariants as refusal
use Rattle.block.specs.declared.Arrival.{Arrival}
use Rattle.opening.specs.declared.Line.{Line}
use Rattle.opening.specs.Opening.{sound, Rest, rest_in, pages_in}
use Rattle.line.specs.Line.{arrival_number_of, line_number, checked_number_of, block_number, on_line}
use Rattle.calls.specs.Call.{Call, make, add, open_line, start_day, end_day, take, read, protected, convert_len, convert, snapshot_len, snapshot, try_order, set_allowance, tick, lots, side_marks, lots_good, number_of, make_good, is_make, number_on}
use Rattle.work.specs.Work.{Listed, is_listed, listed_of}
use Rattle.review.specs.Numbers.{numbers_of, codes}
use Rattle.entries.specs.Publication.{publication_length}
use Rattle.venue.specs.Venue.{venue_count, venue_sequence, block_good, venue_messages, messages_good, messages_placed, venue_number}
use Rattle.venuerun.specs.Run.{needed_of, convert_number}
use Rattle.sweep.specs.Sweep.{steps_length}
use Rattle.opening.specs.Layout.{line_count}
use Rattle.page.specs.Layout.{maker_count}

-- a number is in a table
pub data Among (table : List ℕ) : ℕ → Type 0 where
  among : {x : ℕ} → member table x ≡ true → Among table x

is_among : {table : List ℕ} {x : ℕ} → Among table x → member table x ≡ true
is_among (among a) = a

-- of two numbers in a table, either is
either : {table : List ℕ} {x y : ℕ} (t : Bool) → Among table x → Among table y → Among table (cond t x y)
either true a b = a
either false a b = b

-- ---- codes

in-codes : (k : ℕ) → member codes k ≡ true → Among codes k
in-codes k e = among e

items-known : (lot : ℕ) (is : List Item) → Among codes (items_bad lot is)
unfolding items_bad member
items-known lot [] = in-codes 0 refl
items-known lot (i ∷ is) = either (eqb i.price 0) (in-codes 62 refl) (either (leb lot i.shares) (in-codes 63 refl) (items-known lot is))

odd-known : (lot : ℕ) (v : Standing) (o : Odd) → Among codes (odd_code lot v o)
unfolding odd_code odd_bad member
odd-known lot v o = either (eqb (odd_bad lot o) 0) (fifth-known (odd_on o v)) bad
  where
    fifth-known : (w : Option Standing) → Among codes (fifth w)
    fifth-known None = in-codes 64 refl
    fifth-known (Some w) = in-codes 0 refl

    bad : Among codes (odd_bad lot o)
    bad =
        either (member clear_marks o.mark)
        (either (leb (length o.bids) 4 && leb (length o.offers) 4) (items-known lot (o.bids ++ o.offers)) (in-codes 61 refl)) (in-codes 60 refl)

fault-known : (table : List ℕ) (q : Quote) (rest : ℕ) → Among codes rest → Among codes (quote_fault table q rest)
unfolding quote_fault price_fault member
fault-known table q rest r =
    either (member table q.condition) (either (side_bad q.bid) (in-codes 47 refl) (either (side_bad q.offer) (in-codes 47 refl) r)) (in-codes 46 refl)

status-known : (primary letter x : ℕ) → Among codes (status_code primary letter x)
unfolding status_code member
status-known primary letter x = either (eqb primary letter) (either (member statuses x) (in-codes 0 refl) (in-codes 77 refl)) (in-codes 76 refl)

module _ (e : Known) (letter : ℕ) (m : List ℕ) where
  -- 45, then the fault, then what follows
  faulted : {f x : ℕ} → Among codes f → Among codes x → Among codes (cond e.listed (cond (eqb f 0) x f) 45)
  unfolding member
  faulted {f} a b = either e.listed (either (eqb f 0) b a) (in-codes 45 refl)

  room-known : (name : ℕ) (q : Quote) → Among codes (maker_code e name q)
  unfolding maker_code member
  room-known name q = either (empty_quote q) (in-codes 0 refl) (either (e.stands name) (in-codes 0 refl) (either (ltb e.count maker_count) (in-codes 0 refl) (in-codes 49 refl)))

  code-by : (x : Message) → Spoken letter m x → Among codes (code_by e letter m x)
  unfolding member all
  code-by x (refused c lo hi) = among (in-range codes 40 6 c refl lo hi)
  code-by x (idle w) = in-codes 0 refl
  code-by x (finra c d w) = in-codes 0 refl
  code-by x (round l k z) = faulted (fault-known round_conditions (quote_at m) 0 (in-codes 0 refl)) (odd-known e.lot (e.levels letter) (odd_of m (round_lot_odd m)))
  code-by x (odd l k z) = either e.listed (odd-known e.lot (e.levels letter) (odd_of m (odd_lot_odd m))) (in-codes 45 refl)
  code-by x (maker k z) =
      faulted (fault-known maker_conditions (quote_at m) _ (either (maker_good (maker_text m)) (in-codes 0 refl) (in-codes 48 refl))) (room-known (maker_name m) (quote_at m))
  code-by x (status k z) = either e.listed (status-known e.primary letter (status_of m)) (in-codes 45 refl)

  -- the code of a message is one of document 01's
  pub code-known : member codes (code_of e letter m) ≡ true
  unfolding code_of
  code-known = is_among (code-by (message_of letter m) (spoken letter m))

-- ---- numbers

module _ (i : ℕ) (b : List ℕ) (room : ℕ) where
  abbrev InTake : ℕ → Type 0
  InTake k = Among (numbers_of (take i b room)) k

  arrival-known : (used : Bool) (a : Option Arrival) → InTake (arrival_number_of used a)
  unfolding member
  arrival-known used (Some a) = either used (among refl) (either (eqb a.gap 0) (among refl) (among refl))
  arrival-known used None = among refl

  line_known : (r : Line) (day used : Bool) → InTake (line_number r day used b)
  unfolding line_number member
  line_known r day used = either (idle_block b) (among refl) (either day (arrival-known used (arrival_of (sequence_in b) r.expected (count_in b))) (among refl))

  -- 30 to 34, each where its check refuses
  check : (r : Line) (day used : Bool) (t : Bool) (x : Result ℕ Refusal) (k : Refusal) → InTake (numbers.number_of k) → InTake (checked_number_of r day used b x) → InTake (checked_number_of r day used b (cond t x (Err k)))
  check r day used true x k a c = c
  check r day used false x k a c = a

  block-known : (r : Line) (day used : Bool) → InTake (block_number r day used b)
  unfolding block_number checked member
  block-known r day used =
      check r day used (length_good b) _ refusal.BlockLength (among refl)
      (check r day used (eqb (at b 0) 1) _ refusal.Version (among refl)
      (check r day used (eqb (checksum_of b) (field b 8 2)) _ refusal.Checksum (among refl) (check r day used (table_good b) _ refusal.Offsets (among refl) (alone (control_among b)))))
    where
      alone : (t : Bool) → InTake (checked_number_of r day used b (cond t (Err refusal.ControlNotAlone) (Ok (count_in b))))
      alone true = among refl
      alone false = line_known r day used

  on-known : (day used : Bool) (o : Option Line) → InTake (on_line day used b o)
  unfolding member
  on-known day used None = among refl
  on-known day used (Some r) = block-known r day used

-- a venue's block
venue-among : (ns : List ℕ) (v : List ℕ) → Among ns 0 → Among ns 79 → Among ns 78 → Among ns (venue_number v)
unfolding venue_number
venue-among ns v x y z = either (block_good v && messages_good (venue_count v) (venue_sequence v) 0 (venue_messages v)) (either (messages_placed (venue_messages v)) x y) z

venue-known : (v : List ℕ) → Among (numbers_of (convert_len v)) (venue_number v)
unfolding member
venue-known v = venue-among (numbers_of (convert_len v)) v (among refl) (among refl) (among refl)

convert-known : (v : List ℕ) (room : ℕ) → Among (numbers_of (convert v room)) (convert_number v room)
unfolding member convert_number
convert-known v room =
    either (eqb (venue_number v) 0) (either (ltb room (needed_of v)) (among refl) (among refl)) (venue-among (numbers_of (convert v room)) v (among refl) (among refl) (among refl))

number-of : (r : Rest) (ls : List Listed) (c : Call) → Among (numbers_of c) (number_of r ls c)
unfolding number_of setting_number member
number-of r ls (make n) = either (eqb n r.n) (among refl) (among refl)
number-of r ls (add s k l) =
    either (symbol_good s)
    (either (member lots k)
    (either (letter_good l) (either (is_listed (be s) ls) (among refl) (either (ltb (length ls) r.n) (among refl) (among refl))) (among refl))
    (among refl))
    (among refl)
number-of r ls (open_line i l) = either (ltb i line_count && letter_good l) (either (is_some (r.lines i)) (among refl) (among refl)) (among refl)
number-of r ls start_day = either r.day (among refl) (among refl)
number-of r ls end_day = either r.day (among refl) (among refl)
number-of r ls (take i b room) = either (ltb room answer_length) (among refl) (on-known i b room r.day (is_used_up r.allowance i) (r.lines i))
number-of r ls (read s room) = either (ltb room publication_length) (among refl) (either (symbol_good s && is_listed (be s) ls) (among refl) (among refl))
number-of r ls (protected s m x) = either (symbol_good s && is_listed (be s) ls) (either (member side_marks m) (among refl) (among refl)) (among refl)
number-of r ls (convert_len v) = venue-known v
number-of r ls (convert v room) = convert-known v room
number-of r ls (snapshot_len s) = either (symbol_good s && is_listed (be s) ls) (among refl) (among refl)
number-of r ls (snapshot s room) = either (symbol_good s && is_listed (be s) ls) (among refl) (among refl)
number-of r ls (try_order s m w room) =
    either (symbol_good s && is_listed (be s) ls)
    (either (member side_marks m) (either (lots_good w) (either (ltb room steps_length) (among refl) (among refl)) (among refl)) (among refl))
    (among refl)
number-of r ls (set_allowance n ss) = either (leb 1 n && leb n blocks_most) (either (eqb (length ss) share_count && leb (sum ss) n) (among refl) (among refl)) (among refl)
number-of r ls tick = among refl

sounded : (b : List ℕ) (c : Call) → is_make c ≡ false → member (numbers_of c) 1 ≡ true → Among (numbers_of c) (number_on b c)
unfolding number_on
sounded b c m e = rw m (either (sound b) (number-of (rest_in b) (listed_of (pages_in b)) c) (among e))

known_of : (b : List ℕ) (c : Call) → Among (numbers_of c) (number_on b c)
unfolding number_on member
known_of b (make n) = either (make_good b n) (among refl) (among refl)
known_of b (add s k l) = sounded b (add s k l) refl refl
known_of b (open_line i l) = sounded b (open_line i l) refl refl
known_of b start_day = sounded b start_day refl refl
known_of b end_day = sounded b end_day refl refl
known_of b (take i x room) = sounded b (take i x room) refl refl
known_of b (read s room) = sounded b (read s room) refl refl
known_of b (protected s m x) = sounded b (protected s m x) refl refl
known_of b (convert_len v) = sounded b (convert_len v) refl refl
known_of b (convert v room) = sounded b (convert v room) refl refl
known_of b (snapshot_len s) = sounded b (snapshot_len s) refl refl
known_of b (snapshot s room) = sounded b (snapshot s room) refl refl
known_of b (try_order s m w room) = sounded b (try_order s m w room) refl refl
known_of b (set_allowance n ss) = sounded b (set_allowance n ss) refl refl
known_of b tick = sounded b tick refl refl

-- the number of a call is one of document 01's, on any bytes; 81 apart, which a snapshot tells with its answer
pub number-known : (b : List ℕ) (c : Call) → member (numbers_of c) (number_on b c) ≡ true
number-known b c = is_among (known_of b c)
