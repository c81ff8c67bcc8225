-- The calls: `call` gives the bytes after a call and its whole answer.
-- Assumes nothing.
use Rattle.std.specs.Prelude.{ℕ, ◌+◌, ◌-◌, Bool, true, false, ◌&&◌, cond, List, [], ◌∷◌, ltb, leb, eqb, length, Option, None, Some}
use Rattle.field.specs.Field.{be, splice, be_bytes}
use Rattle.field.specs.Ascii.{B, S}
use Rattle.lists.specs.Lists.{member, is_some}
use Rattle.block.specs.Block.{messages_of, answer_length, idle_block}
use Rattle.text.specs.Form.{symbol_good, letter_good}
use Rattle.ranking.specs.declared.Side.{Side}
use Rattle.ranking.specs.declared.Side.TheVariants.{Bid, Offer}
use Rattle.ranking.specs.declared.Candidate.{Candidate}
use Rattle.entries.specs.Entries.{candidates, trading_candidates}
use Rattle.page.specs.Page.{occupied}
use Rattle.quote.specs.declared.Quote.{Quote}
use Rattle.quote.specs.Quote.{no_quote}
use Rattle.snapshot.specs.Snapshot.{Snapshot, snapshot_of}
use Rattle.snapshot.specs.Feed.{feed_blocks, feed_bytes}
use Rattle.protection.specs.Protection.{protection}
use Rattle.protection.specs.declared.Protection.{Protection}
use Rattle.block.specs.Written.{joined}
use Rattle.venue.specs.Venue.{venue_number}
use Rattle.venuerun.specs.Run.{needed_of, convert_number, venue_run}
use Rattle.sweep.specs.Sweep.{Step, swept, filled, steps_bytes, steps_length}
use Rattle.update.specs.Parts.{Reading, blank_page, new_head, emptied}
use Rattle.opening.specs.declared.Line.{Line}
use Rattle.opening.specs.Opening.{Rest, symbols_of, count_of, sound, line_bytes, lines_in, rest_in, pages_in, hinted, reading_for, set_page, each_page, fresh_bytes, restart_lines, on_allowance}
use Rattle.told.specs.Told.{is_accepted, is_partly, is_rejected, quads, tally}
use Rattle.work.specs.Work.{Listed, is_listed, listed_of, messages_on, told_on}
use Rattle.told.specs.declared.Told.{Told}
use Rattle.entries.specs.Publication.{publication_length}
use Rattle.opening.specs.Layout.{allowance_at, book_length, line_at, count_at, day_at, line_count, symbols_most}
use Rattle.line.specs.Line.{on_line, done, gap_told, advanced, settled}
use Rattle.allowance.specs.Allowance.{is_used_up, setting_number, setting_bytes, ticked_bytes}

-- the raw arguments of each call
pub data Call : Type 0 where
  make : ℕ → Call
  -- the symbol's bytes, the round lot; T-10: the primary letter
  add : List ℕ → ℕ → ℕ → Call
  -- line, letter
  open_line : ℕ → ℕ → Call
  start_day : Call
  end_day : Call
  -- line, the block's bytes, the answer buffer's length
  take : ℕ → List ℕ → ℕ → Call
  -- the symbol's bytes, the publication buffer's length
  read : List ℕ → ℕ → Call
  -- T-06: the symbol's bytes, the side mark, the price
  protected : List ℕ → ℕ → ℕ → Call
  -- T-11: a venue's block; and with it the output's length
  convert_len : List ℕ → Call
  convert : List ℕ → ℕ → Call
  -- T-12: the symbol's bytes; and with them the output's length
  snapshot_len : List ℕ → Call
  snapshot : List ℕ → ℕ → Call
  -- T-13: the symbol's bytes, the side mark, the lots, the output's length
  try_order : List ℕ → ℕ → ℕ → ℕ → Call
  -- T-14: the blocks for each tick, the shares
  set_allowance : ℕ → List ℕ → Call
  tick : Call

-- ---- the number of a call, in checking order, from n, lines, day and the listed symbols

abbrev pub lots : List ℕ
lots = 1 ∷ 10 ∷ 25 ∷ 50 ∷ 100 ∷ []

-- 10: "symbol malformed or not listed"
abbrev pub is_known : List Listed → List ℕ → Bool
is_known ls s = symbol_good s && is_listed (be s) ls

-- 74: "side mark not B (bids) or S (offers)"
abbrev pub side_marks : List ℕ
side_marks = B ∷ S ∷ []

-- 82: "a number of round lots from 1 to 1,000,000"
abbrev pub lots_good : ℕ → Bool
lots_good w = leb 1 w && leb w 1000000

unfoldable pub number_of : Rest → List Listed → Call → ℕ
number_of r ls (make n) = cond (eqb n r.n) 0 2
-- T-10: "75 primary letter bad, after 6"
number_of r ls (add s k l) =
    cond (symbol_good s)
    (cond (member lots k)
    (cond (letter_good l)
    (cond (is_listed (be s) ls) 4
    (cond (ltb (length ls) r.n) 0 5))
    75) 6) 3
number_of r ls (open_line i l) = cond (ltb i line_count && letter_good l) (cond (is_some (r.lines i)) 8 0) 7
number_of r ls start_day = cond r.day 11 0
number_of r ls end_day = cond r.day 0 12
number_of r ls (take i b room) = cond (ltb room answer_length) 9 (on_line r.day (is_used_up r.allowance i) b (r.lines i))
number_of r ls (read s room) = cond (ltb room publication_length) 9 (cond (is_known ls s) 0 10)
number_of r ls (protected s m x) = cond (is_known ls s) (cond (member side_marks m) 0 74) 10
number_of r ls (convert_len v) = venue_number v
number_of r ls (convert v room) = convert_number v room
-- 81, which reads the symbol's quotes, is in the answer: `snapshot_told`
number_of r ls (snapshot_len s) = cond (is_known ls s) 0 10
number_of r ls (snapshot s room) = cond (is_known ls s) 0 10
number_of r ls (try_order s m w room) = cond (is_known ls s) (cond (member side_marks m) (cond (lots_good w) (cond (ltb room steps_length) 83 0) 82) 74) 10
number_of r ls (set_allowance n ss) = setting_number n ss
number_of r ls tick = 0

-- ---- answers

-- the report of a block; the bytes that are filled: the answer buffer's, the publication's and the output's; the two numbers of a query's report
pub record Answer : Type 0 where
  pub number : ℕ
  pub gap : ℕ
  pub expected : ℕ
  pub count : ℕ
  pub accepted : ℕ
  pub partly : ℕ
  pub rejected : ℕ
  pub answers : List ℕ
  pub publication : List ℕ
  -- T-06: 1 for yes or 0 for no, and how many letters were looked at; T-11: how many bytes the run has; T-12: how many blocks and bytes the snapshot has;
  -- T-13: how many steps, and the lots not found
  pub found : ℕ
  pub amount : ℕ
  -- T-11: the run; T-12: the snapshot; T-13: the steps
  pub output : List ℕ

-- "carries its number, and no or 0 for all else"
abbrev pub bare : ℕ → Answer
bare k = record { number = k; gap = 0; expected = 0; count = 0; accepted = 0; partly = 0; rejected = 0; answers = []; publication = []; found = 0; amount = 0; output = [] }

abbrev pub report : ℕ → ℕ → Line → List Told → Answer
report k gap r ts =
    record {
      number = k;
      gap = gap;
      expected = r.expected;
      count = r.count;
      accepted = tally is_accepted ts;
      partly = tally is_partly ts;
      rejected = tally is_rejected ts;
      answers = quads 0 ts;
      publication = [];
      found = 0;
      amount = 0;
      output = [];
    }

-- ---- a block's answer

-- "A taken block reports 0 or its 70, d, the new expected number and count"; "A refused block reports its number, d 0, no messages, and the line's
-- expected number and count as they stand, 0 and 0 after 1, 9 or 21"
abbrev pub line_answer : ℕ → List ℕ → List Told → Option Line → Answer
line_answer k b ts None = bare k
line_answer k b ts (Some r) = cond (done k) (report k (gap_told r b) (advanced r b) ts) (report k 0 r [])

abbrev pub published : ℕ → List ℕ → Answer
published k p =
    record { number = k; gap = 0; expected = 0; count = 0; accepted = 0; partly = 0; rejected = 0; answers = []; publication = cond (done k) p []; found = 0; amount = 0; output = [] }

-- ---- a query's answer

abbrev pub queried : ℕ → ℕ → ℕ → Answer
queried k found amount =
    record { number = k; gap = 0; expected = 0; count = 0; accepted = 0; partly = 0; rejected = 0; answers = []; publication = []; found = found; amount = amount; output = [] }

-- B asks of the bids, S of the offers
abbrev pub asked_side : ℕ → Side
asked_side m = cond (eqb m B) Bid Offer

abbrev pub protection_told : ℕ → Protection → Answer
protection_told k t = queried k (cond t.yes 1 0) t.looked

-- T-11: a run and its length
abbrev pub run_told : ℕ → ℕ → List ℕ → Answer
run_told k n run =
    record { number = k; gap = 0; expected = 0; count = 0; accepted = 0; partly = 0; rejected = 0; answers = []; publication = []; found = 0; amount = n; output = run }

-- ---- a snapshot's answer (T-12)

abbrev pub fed : ℕ → ℕ → ℕ → List ℕ → Answer
fed k blocks bytes output =
    record { number = k; gap = 0; expected = 0; count = 0; accepted = 0; partly = 0; rejected = 0; answers = []; publication = []; found = blocks; amount = bytes; output = output }

-- "A second call tells the number of blocks and bytes beforehand"
abbrev pub size_told : ℕ → Snapshot → Answer
size_told k x = fed k (length (feed_blocks x)) (length (feed_bytes x)) []

-- "81 output too short"
abbrev pub snapshot_told : ℕ → ℕ → Snapshot → Answer
snapshot_told k room x = cond (ltb room (length (feed_bytes x))) (bare 81) (fed k (length (feed_blocks x)) (length (feed_bytes x)) (feed_bytes x))

-- T-13: "B buys at offers, S sells at bids"
abbrev pub order_side : ℕ → Side
order_side m = cond (eqb m B) Offer Bid

-- "The result lists the steps .. with their number and the lots not found"; w: the lots wanted
abbrev pub steps_told : ℕ → ℕ → List Step → Answer
steps_told k w xs =
    record {
      number = k;
      gap = 0;
      expected = 0;
      count = 0;
      accepted = 0;
      partly = 0;
      rejected = 0;
      answers = [];
      publication = [];
      found = length xs;
      amount = w - filled xs;
      output = steps_bytes xs;
    }

abbrev pub letter_of : Option Line → ℕ
letter_of None = 0
letter_of (Some x) = x.letter

-- lot: the round lot of a symbol, 0 of one that is not listed; ts: what is told of a block's messages, from the line's letter; p: the entries of a symbol; cs: its national candidates of a side, by letter;
-- qs: its letters' latest quotes. Book and reviewer both answer through this
unfoldable pub answer_of : Rest → (ℕ → ℕ) → (ℕ → List (List ℕ) → List Told) → (ℕ → List ℕ) → (ℕ → Side → ℕ → Option Candidate) → (ℕ → ℕ → Quote) → ℕ → Call → Answer
answer_of r lot ts p cs qs k (make n) = bare k
answer_of r lot ts p cs qs k (add s n l) = bare k
answer_of r lot ts p cs qs k (open_line i l) = bare k
answer_of r lot ts p cs qs k start_day = bare k
answer_of r lot ts p cs qs k end_day = bare k
answer_of r lot ts p cs qs k (take i b room) = cond (eqb k 9) (bare k) (line_answer k b (ts (letter_of (r.lines i)) (messages_of b)) (r.lines i))
answer_of r lot ts p cs qs k (read s room) = published k (p (be s))
answer_of r lot ts p cs qs k (protected s m x) = cond (done k) (protection_told k (protection (asked_side m) x (cs (be s) (asked_side m)))) (bare k)
answer_of r lot ts p cs qs k (convert_len v) = cond (done k) (run_told k (needed_of v) []) (bare k)
answer_of r lot ts p cs qs k (convert v room) = cond (done k) (run_told k (needed_of v) (joined (venue_run lot v))) (bare k)
answer_of r lot ts p cs qs k (snapshot_len s) = cond (done k) (size_told k (snapshot_of s (p (be s)) (qs (be s)))) (bare k)
answer_of r lot ts p cs qs k (snapshot s room) = cond (done k) (snapshot_told k room (snapshot_of s (p (be s)) (qs (be s)))) (bare k)
answer_of r lot ts p cs qs k (try_order s m w room) = cond (done k) (steps_told k w (swept (order_side m) w (cs (be s) (order_side m)))) (bare k)
answer_of r lot ts p cs qs k (set_allowance n ss) = bare k
answer_of r lot ts p cs qs k tick = bare k

-- ---- the book's bytes

abbrev pub entries_in : Option Reading → List ℕ
entries_in None = []
entries_in (Some r) = r.entries

abbrev pub published_on : List ℕ → ℕ → List ℕ
published_on b s = entries_in (reading_for b s)

-- "a symbol not listed goes through with its size undivided": its lot is 0
abbrev pub lot_in : Option Reading → ℕ
lot_in None = 0
lot_in (Some r) = r.lot

abbrev pub lot_on : List ℕ → ℕ → ℕ
lot_on b s = lot_in (reading_for b s)

-- worked out from the page's quotes, whatever entries it keeps; none while it is halted
abbrev pub candidates_in : Option Reading → Side → ℕ → Option Candidate
candidates_in None = λ s l. None
candidates_in (Some r) = trading_candidates r.halted (candidates r.quotes (occupied r.cells))

abbrev pub candidates_on : List ℕ → ℕ → Side → ℕ → Option Candidate
candidates_on b s = candidates_in (reading_for b s)

-- the letters' quotes of a page, as they stand
abbrev pub quotes_for : Option Reading → ℕ → Quote
quotes_for None = λ l. no_quote
quotes_for (Some r) = r.quotes

abbrev pub quotes_on : List ℕ → ℕ → ℕ → Quote
quotes_on b s = quotes_for (reading_for b s)

-- the line's record after a block, and its charge
abbrev pub advance_on : ℕ → List ℕ → Option Line → List ℕ → List ℕ
advance_on i k None b = b
advance_on i k (Some r) b = settled i (advanced r k) (idle_block k) b

-- the bytes after a call that is done
unfoldable pub after_call : List ℕ → Call → List ℕ
after_call b (make n) = fresh_bytes n
-- its page, and the hint where that is
after_call b (add s k l) = hinted (be s) (count_of b) (set_page (splice b count_at (be_bytes 1 (count_of b + 1))) (count_of b) (blank_page (new_head s k l)))
after_call b (open_line i l) = splice b (line_at i) (line_bytes (record { letter = l; expected = 1; count = 0 }))
after_call b start_day = splice (restart_lines 0 line_count (each_page emptied 0 (symbols_of b) b)) day_at (1 ∷ [])
after_call b end_day = splice b day_at (0 ∷ [])
after_call b (take i k room) = advance_on i k (lines_in b i) (messages_on (letter_of (lines_in b i)) (messages_of k) b)
after_call b (read s room) = b
after_call b (protected s m x) = b
after_call b (convert_len v) = b
after_call b (convert v room) = b
-- "The book isn't changed"
after_call b (snapshot_len s) = b
after_call b (snapshot s room) = b
after_call b (try_order s m w room) = b
after_call b (set_allowance n ss) = splice b allowance_at (setting_bytes n ss)
after_call b tick = on_allowance ticked_bytes b

-- 2: "n not 1 to 64 or wrong length"
unfoldable pub make_good : List ℕ → ℕ → Bool
make_good b n = leb 1 n && (leb n symbols_most && eqb (length b) (book_length n))

-- 1: "every other call: the opening or length isn't a book's"
abbrev pub is_make : Call → Bool
is_make (make n) = true
is_make (add s k l) = false
is_make (open_line i l) = false
is_make start_day = false
is_make end_day = false
is_make (take i k room) = false
is_make (read s room) = false
is_make (protected s m x) = false
is_make (convert_len v) = false
is_make (convert v room) = false
is_make (snapshot_len s) = false
is_make (snapshot s room) = false
is_make (try_order s m w room) = false
is_make (set_allowance n ss) = false
is_make tick = false

abbrev pub made_number : List ℕ → Call → ℕ
made_number b (make n) = cond (make_good b n) 0 2
made_number b (add s k l) = 0
made_number b (open_line i l) = 0
made_number b start_day = 0
made_number b end_day = 0
made_number b (take i k room) = 0
made_number b (read s room) = 0
made_number b (protected s m x) = 0
made_number b (convert_len v) = 0
made_number b (convert v room) = 0
made_number b (snapshot_len s) = 0
made_number b (snapshot s room) = 0
made_number b (try_order s m w room) = 0
made_number b (set_allowance n ss) = 0
made_number b tick = 0

unfoldable pub number_on : List ℕ → Call → ℕ
number_on b c = cond (is_make c) (made_number b c) (cond (sound b) (number_of (rest_in b) (listed_of (pages_in b)) c) 1)

abbrev pub answer_on : List ℕ → Call → Answer
answer_on b c = cond (is_make c) (bare (number_on b c)) (cond (sound b) (answer_of (rest_in b) (lot_on b) (told_on b) (published_on b) (candidates_on b) (quotes_on b) (number_on b c) c) (bare 1))

pub record Outcome : Type 0 where
  pub bytes : List ℕ
  pub answer : Answer

-- a refused call changes no byte
unfoldable pub call : List ℕ → Call → Outcome
call b c = record { bytes = cond (done (number_on b c)) (after_call b c) b; answer = answer_on b c }

-- ---- a list of calls: each is lent the bytes as the last one left them

abbrev pub bytes_after : List ℕ → List Call → List ℕ
bytes_after b [] = b
bytes_after b (c ∷ cs) = bytes_after (call b c).bytes cs

abbrev pub answers : List ℕ → List Call → List Answer
answers b [] = []
answers b (c ∷ cs) = (call b c).answer ∷ answers (call b c).bytes cs
