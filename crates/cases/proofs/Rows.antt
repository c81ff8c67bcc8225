-- What the tables of cases are written with: blocks and messages byte by byte, and answers as lists of numbers.
-- Assumes nothing.
use Prim.Native.Nat.{ℕ, ◌+◌, ◌*◌, ◌%◌}
use mathlib.Core.Path.{◌≡◌}
use mathlib.Core.Bool.{◌&&◌, cond}
use mathlib.Core.List.{List, [], ◌∷◌, ◌++◌}
use lib.Dec.{eqb}
use lib.ListN.{length, replicate}
use Rattle.field.specs.Field.{be_bytes}
use Rattle.field.specs.Field as Field
use Rattle.lists.specs.Lists.{range}
use Rattle.lists.specs.Lists as Lists
use Rattle.allowance.specs.Allowance as Allowance
use Rattle.ranking.specs.Ranking as Ranking
use Rattle.quote.specs.Quote as Quote
use Rattle.levels.specs.Levels as Levels
use Rattle.entries.specs.Entries as Entries
use Rattle.entries.specs.Publication as Publication
use Rattle.protection.specs.Protection as Protection
use Rattle.sweep.specs.Sweep as Sweep
use Rattle.text.specs.Form as Form
use Rattle.message.specs.Message as Message
use Rattle.block.specs.Block as Block
use Rattle.block.specs.Sequence as Sequence
use Rattle.line.specs.Line as Line
use Rattle.calls.specs.Call as Call
use Rattle.snapshot.specs.Snapshot as Snapshot
use Rattle.snapshot.specs.Feed as Feed
use Rattle.told.specs.Told as Told
use Rattle.work.specs.Work as Work
use Rattle.calls.specs.Call.{Call, add, open_line, start_day, take, read, protected, snapshot_len, snapshot, try_order, Answer}
use Rattle.review.specs.Runs as Runs
use Rattle.review.specs.Reviewer as Reviewer
use Rattle.review.specs.Reviewer.{fresh_review, review_answers}

-- ---- messages

abbrev pub header : ℕ → ℕ → ℕ → ℕ → List ℕ
header category type letter time = category ∷ type ∷ letter ∷ 0 ∷ (be_bytes 8 time ++ be_bytes 8 0)

-- Q K and Q U to byte 55: condition, then price and size of the bid and of the offer
abbrev pub quoted : List ℕ → ℕ → ℕ → ℕ → ℕ → ℕ → List ℕ
quoted symbol condition bid bids offer offers = symbol ++ (condition ∷ (be_bytes 8 bid ++ (be_bytes 4 bids ++ (be_bytes 8 offer ++ be_bytes 4 offers))))

-- price and shares
abbrev pub item : ℕ → ℕ → List ℕ
item price shares = be_bytes 8 price ++ be_bytes 4 shares

-- clear mark, counts, zero bytes, items
abbrev pub odds : ℕ → ℕ → ℕ → List ℕ → List ℕ → List ℕ
odds mark bids offers zeros items = mark ∷ bids ∷ offers ∷ (zeros ++ items)

abbrev pub round_lot : ℕ → ℕ → List ℕ → List ℕ → List ℕ
round_lot letter time quote odd = header 81 75 letter time ++ (quote ++ odd)

abbrev pub odd_lot : ℕ → ℕ → List ℕ → List ℕ → List ℕ
odd_lot letter time symbol odd = header 81 77 letter time ++ (symbol ++ odd)

abbrev pub maker : ℕ → ℕ → List ℕ → List ℕ → List ℕ
maker letter time quote name = header 81 85 letter time ++ (quote ++ name)

abbrev pub control : ℕ → ℕ → List ℕ
control type letter = header 67 type letter 0

-- C T by N, 20 bytes
abbrev pub integrity : List ℕ
integrity = control 84 78

-- C 5 by N: 95 more bytes, hex 20 to 7E in order
abbrev pub test : List ℕ
test = control 53 78 ++ range 95 32

-- ---- blocks

abbrev pub offsets : ℕ → List (List ℕ) → List ℕ
offsets i [] = []
offsets i (m ∷ ms) = be_bytes 2 i ++ offsets (i + length m) ms

abbrev pub joined : List (List ℕ) → List ℕ
joined [] = []
joined (m ∷ ms) = m ++ joined ms

abbrev pub total : List ℕ → ℕ
total [] = 0
total (x ∷ xs) = x + total xs

-- version 1, c messages, a length, a sequence number, a checksum, then the rest
abbrev pub framed : ℕ → ℕ → ℕ → ℕ → List ℕ → List ℕ
framed c n sequence sum rest = 1 ∷ c ∷ (be_bytes 2 n ++ (be_bytes 4 sequence ++ (be_bytes 2 sum ++ rest)))

abbrev pub sealed : ℕ → ℕ → List ℕ → List ℕ
sealed c sequence rest = framed c (10 + length rest) sequence (total (framed c (10 + length rest) sequence 0 rest) % 65536) rest

abbrev pub block : ℕ → List (List ℕ) → List ℕ
block sequence ms = sealed (length ms) sequence (offsets (10 + 2 * length ms) ms ++ joined ms)

-- ---- answers: the report's seven numbers, then the bytes that are filled, then the two numbers of a query

-- left out where both are 0
abbrev pub pair : ℕ → ℕ → List ℕ
pair found amount = cond (eqb found 0 && eqb amount 0) [] (found ∷ amount ∷ [])

abbrev pub told : Answer → List ℕ
told a =
    a.number ∷ a.gap ∷ a.expected ∷ a.count ∷ a.accepted ∷ a.partly ∷ a.rejected
    ∷ (a.answers ++ (a.publication ++ (pair a.found a.amount ++ a.output)))

abbrev pub all_told : List Answer → List (List ℕ)
all_told [] = []
all_told (a ∷ rest) = told a ∷ all_told rest

-- a number, and 0 for all else
abbrev pub only : ℕ → List ℕ
only k = k ∷ replicate 6 0

-- a block that is refused: its number, the line's next expected number and count
abbrev pub refused : ℕ → ℕ → ℕ → List ℕ
refused k expected count = k ∷ 0 ∷ expected ∷ count ∷ 0 ∷ 0 ∷ 0 ∷ []

-- a block in order with one message: next expected number, count, then the message's code and flags
abbrev pub accepted : ℕ → ℕ → ℕ → List ℕ
accepted expected count flags = 0 ∷ 0 ∷ expected ∷ count ∷ 1 ∷ 0 ∷ 0 ∷ 0 ∷ 0 ∷ flags ∷ 0 ∷ []

abbrev pub partly : ℕ → ℕ → ℕ → ℕ → List ℕ
partly expected count code flags = 0 ∷ 0 ∷ expected ∷ count ∷ 0 ∷ 1 ∷ 0 ∷ 0 ∷ code ∷ flags ∷ 0 ∷ []

abbrev pub rejected : ℕ → ℕ → ℕ → List ℕ
rejected expected count code = 0 ∷ 0 ∷ expected ∷ count ∷ 0 ∷ 0 ∷ 1 ∷ 0 ∷ code ∷ 0 ∷ 0 ∷ []

-- two messages rejected with 40
abbrev pub two_rejected : ℕ → ℕ → List ℕ
two_rejected expected count = 0 ∷ 0 ∷ expected ∷ count ∷ 0 ∷ 0 ∷ 2 ∷ 0 ∷ 40 ∷ 0 ∷ 0 ∷ 1 ∷ 40 ∷ 0 ∷ 0 ∷ []

-- a gap: number 70, d, next expected number, count, one message rejected with 40
abbrev pub gap : ℕ → ℕ → ℕ → List ℕ
gap d expected count = 70 ∷ d ∷ expected ∷ count ∷ 0 ∷ 0 ∷ 1 ∷ 0 ∷ 40 ∷ 0 ∷ 0 ∷ []

-- a price is protected: the letters looked at; or it is not
abbrev pub yes : ℕ → List ℕ
yes looked = replicate 7 0 ++ (1 ∷ looked ∷ [])

abbrev pub no : List ℕ
no = replicate 7 0 ++ (0 ∷ 26 ∷ [])

-- a snapshot: its blocks and bytes, and what is written; one that is told alone has nothing written
abbrev pub sent : ℕ → ℕ → List ℕ → List ℕ
sent blocks bytes output = replicate 7 0 ++ (blocks ∷ bytes ∷ output)

-- an order that was tried: its steps, and the lots not found
abbrev pub step : ℕ → ℕ → ℕ → List ℕ
step letter price lots = letter ∷ (be_bytes 8 price ++ be_bytes 4 lots)

abbrev pub filled : List (List ℕ) → ℕ → List ℕ
filled steps unfilled = replicate 7 0 ++ (length steps ∷ unfilled ∷ joined steps)

-- ---- a publication: six entries of a name of 4 bytes, a price and a size

abbrev pub entry : ℕ → ℕ → ℕ → ℕ → ℕ → ℕ → List ℕ
entry a b c d price size = a ∷ b ∷ c ∷ d ∷ (be_bytes 8 price ++ be_bytes 4 size)

-- a letter and its condition, with no second best; ahead of the second best by P, S, T or L; an odd lot's letter alone
abbrev pub national : ℕ → ℕ → ℕ → ℕ → List ℕ
national letter condition price size = entry letter condition 32 32 price size

abbrev pub leading : ℕ → ℕ → ℕ → ℕ → ℕ → List ℕ
leading reason letter condition price size = entry letter condition reason 32 price size

abbrev pub odd : ℕ → ℕ → ℕ → List ℕ
odd letter price size = entry letter 32 32 32 price size

abbrev pub nothing : List ℕ
nothing = 32 ∷ 32 ∷ 32 ∷ 32 ∷ replicate 12 0

abbrev pub shown : List ℕ → List ℕ → List ℕ → List ℕ → List ℕ → List ℕ → List ℕ
shown nbid noffer fbid foffer obid ooffer = replicate 7 0 ++ (nbid ++ (noffer ++ (fbid ++ (foffer ++ (obid ++ ooffer)))))

abbrev pub none : List ℕ
none = shown nothing nothing nothing nothing nothing nothing

-- ---- a day

-- ZT and nine spaces
abbrev pub zt : List ℕ
zt = 90 ∷ 84 ∷ replicate 9 32

-- AB and nine spaces
abbrev pub ab : List ℕ
ab = 65 ∷ 66 ∷ replicate 9 32

-- a Q K of ZT by a letter at a time: a condition, bid and offer, an odd part
abbrev pub round_of : ℕ → ℕ → ℕ → ℕ → ℕ → ℕ → ℕ → List ℕ → List ℕ
round_of letter time condition bid bids offer offers odd = round_lot letter time (quoted zt condition bid bids offer offers) odd

abbrev pub no_odd : List ℕ
no_odd = odds 32 0 0 (0 ∷ []) []

-- bid 10.00 for so many lots, offer 10.02 for 2, condition R
abbrev pub plain : ℕ → ℕ → ℕ → List ℕ → List ℕ
plain letter time lots odd = round_of letter time 82 10000000 lots 10020000 2 odd

-- a Q M of ZT by a letter at a time, and by N at 8: clear mark, counts, items
abbrev pub levels_by : ℕ → ℕ → ℕ → ℕ → ℕ → List ℕ → List ℕ
levels_by letter time mark bids offers items = odd_lot letter time zt (odds mark bids offers (0 ∷ 0 ∷ []) items)

abbrev pub levels : ℕ → ℕ → ℕ → List ℕ → List ℕ
levels mark bids offers items = levels_by 78 8 mark bids offers items

-- a Q T of a symbol by a letter at a time, and of ZT: clear mark, counts, items
abbrev pub finra_lot : ℕ → ℕ → List ℕ → List ℕ → List ℕ
finra_lot letter time symbol odd = header 81 84 letter time ++ (symbol ++ odd)

abbrev pub finra_levels : ℕ → ℕ → ℕ → ℕ → ℕ → List ℕ → List ℕ
finra_levels letter time mark bids offers items = finra_lot letter time zt (odds mark bids offers (0 ∷ 0 ∷ []) items)

-- a T S of a symbol by a letter at a time; ZT halted and trading by N at 9
abbrev pub status_by : ℕ → ℕ → List ℕ → ℕ → List ℕ
status_by letter time symbol status = header 84 83 letter time ++ (symbol ++ (status ∷ []))

abbrev pub halt : List ℕ
halt = status_by 78 9 zt 72

abbrev pub trade : List ℕ
trade = status_by 78 9 zt 84

-- a Q U of ZT on D's line: time, condition, bid and offer, the name's first byte and three spaces
abbrev pub maker_of : ℕ → ℕ → ℕ → ℕ → ℕ → ℕ → ℕ → List ℕ
maker_of time c b bs o os name = maker 68 time (quoted zt c b bs o os) (name ∷ 32 ∷ 32 ∷ 32 ∷ [])

-- bid 10.00 for so many lots, offer 10.02 for 2, condition R
abbrev pub standing : ℕ → ℕ → ℕ → List ℕ
standing time lots name = maker_of time 82 10000000 lots 10020000 2 name

-- eight makers with the names from this one on
abbrev pub eight : ℕ → List (List ℕ)
eight k =
    standing 7 3 k ∷ standing 7 3 (k + 1) ∷ standing 7 3 (k + 2) ∷ standing 7 3 (k + 3)
    ∷ standing 7 3 (k + 4) ∷ standing 7 3 (k + 5) ∷ standing 7 3 (k + 6) ∷ standing 7 3 (k + 7) ∷ []

-- a block of eight accepted messages, of which only the first changed anything
abbrev pub eight_told : ℕ → ℕ → ℕ → List ℕ
eight_told expected count flags =
    0 ∷ 0 ∷ expected ∷ count ∷ 8 ∷ 0 ∷ 0 ∷ 0 ∷ 0 ∷ flags ∷ 0 ∷ 1 ∷ 0 ∷ 0 ∷ 0 ∷ 2 ∷ 0 ∷ 0 ∷ 0 ∷ 3 ∷ 0 ∷ 0 ∷ 0
    ∷ 4 ∷ 0 ∷ 0 ∷ 0 ∷ 5 ∷ 0 ∷ 0 ∷ 0 ∷ 6 ∷ 0 ∷ 0 ∷ 0 ∷ 7 ∷ 0 ∷ 0 ∷ 0 ∷ []

-- a message of an unknown type, code 40
abbrev pub unknown : List ℕ
unknown = header 81 63 78 0

-- ZT with a round lot of 100 and the primary letter N, line 5 for N, 6 for P, 7 for D, the day open
abbrev pub day : List Call → List Call
day cs = add zt 100 78 ∷ open_line 5 78 ∷ open_line 6 80 ∷ open_line 7 68 ∷ start_day ∷ cs

abbrev pub begun : List (List ℕ) → List (List ℕ)
begun rows = only 0 ∷ only 0 ∷ only 0 ∷ only 0 ∷ only 0 ∷ rows

-- a block on N's, P's or D's line, a sequence number, its messages
abbrev pub on_n : ℕ → List (List ℕ) → Call
on_n sequence ms = take 5 (block sequence ms) 180

abbrev pub on_p : ℕ → List (List ℕ) → Call
on_p sequence ms = take 6 (block sequence ms) 180

abbrev pub on_d : ℕ → List (List ℕ) → Call
on_d sequence ms = take 7 (block sequence ms) 180

abbrev pub look : Call
look = read zt 96

-- is this price of ZT protected, by the bids, by the offers?
abbrev pub bid_at : ℕ → Call
bid_at price = protected zt 66 price

abbrev pub offer_at : ℕ → Call
offer_at price = protected zt 83 price

-- ZT's snapshot into so many bytes
abbrev pub send : ℕ → Call
send room = snapshot zt room

abbrev pub measure : Call
measure = snapshot_len zt

-- so many lots of ZT to buy, to sell
abbrev pub buy : ℕ → Call
buy lots = try_order zt 66 lots 325

abbrev pub sell : ℕ → Call
sell lots = try_order zt 83 lots 325

-- ---- rows

-- a book of n symbols, the calls after its make, and what each is answered
pub record Row : Type 0 where
  pub n : ℕ
  pub calls : List Call
  pub answers : List (List ℕ)

-- calls on a day that is open, and what they are answered
abbrev pub in_day : List Call → List (List ℕ) → Row
in_day cs told = record { n = 1; calls = day cs; answers = begun told }

-- calls right after the make of a book of n symbols
abbrev pub from_make : ℕ → List Call → List (List ℕ) → Row
from_make n cs told = record { n = n; calls = cs; answers = told }

-- what the reviewer answers, worked out by the definitions named here
unfoldable pub answered : ℕ → List Call → List (List ℕ)
unfolding Allowance.spare_charged Allowance.is_used_up Allowance.charged Allowance.ticked Allowance.setting_number Field.be Field.be_bytes Field.part Field.field Lists.sum Lists.member Lists.every Lists.all Ranking.compared_by Ranking.lower Ranking.higher Ranking.by_price Ranking.compared Ranking.better Ranking.why_ahead Quote.admits Quote.counts Quote.empty_quote Quote.with_condition Quote.with_times Quote.candidate_of Levels.without Levels.insert Levels.item_on Levels.items_on Levels.clears Levels.cleared_by Levels.odd_on Levels.items_bad Levels.odd_bad Levels.odd_code Levels.item_at Levels.items_from Levels.odd_in Entries.letters Entries.maker_candidate Entries.finra_best Entries.as_d Entries.letter_candidate Entries.candidates Entries.national_best Entries.national_reason Entries.odd_candidate Entries.ranks Entries.letter_levels Entries.odd_best Entries.entries_by Entries.entries_of Entries.unless_halted Entries.trading_candidates Publication.no_entry Publication.publication Publication.change_flags Protection.first_yes Protection.protection Lists.first_from Sweep.without Sweep.play Sweep.swept Sweep.filled Sweep.step_bytes Sweep.steps_bytes Form.padded Form.symbol_good Form.maker_good Message.control_kind Message.quote_kind Message.status_kind Message.kind_of Message.time_of Message.symbol_of Message.level_at Message.quote_at Message.maker_name Message.odd_at Message.price_fault Message.quote_fault Message.read_inquiry Message.test_bytes Message.read_test Message.read_finra Message.read_round_lot Message.read_odd_lot Message.read_maker Message.read_status Message.message_of Message.maker_code Message.status_code Message.code_of Message.partly_taken Block.checksum_of Block.start_at Block.message_at Block.messages_from Block.messages_of Block.length_good Block.spaced Block.table_good Block.control_among Block.checked Block.idle_block Sequence.gap_of Sequence.next_of Sequence.arrival_of Work.is_listed Work.listed_with Line.line_number Line.block_number Call.number_of Snapshot.is_shown Snapshot.snapshot_of Feed.opened Feed.national_side Feed.consolidated Feed.priced_bytes Feed.participant Feed.finra_side Feed.finra_message Feed.feed_messages Feed.fitting Feed.grouped Feed.feed_front Feed.feed_with Feed.feed_checksum Feed.feed_block Feed.feed_from Feed.feed_blocks Feed.feed_bytes Line.done Told.quads Told.tally Line.gap_told Line.advanced Call.answer_of Work.flags_of Runs.latest_run Runs.first_time Reviewer.parts Reviewer.rounds_of Reviewer.quote_of Reviewer.maker_quotes Reviewer.condition_of Reviewer.maker_of Reviewer.names_of Reviewer.makers_of Reviewer.levels_of Reviewer.halted_of Reviewer.reviewed_by Reviewer.known_to Reviewer.rest_after Reviewer.symbols_after Reviewer.history_after Reviewer.review_call Reviewer.review_answer
answered n cs = all_told (review_answers (fresh_review n) cs)

-- every row is answered as it says
infixr 5 ◌▹◌
pub data Answered : List Row → Type 0 where
  end : Answered []
  ◌▹◌ : {r : Row} {rs : List Row} → answered r.n r.calls ≡ r.answers → Answered rs → Answered (r ∷ rs)
