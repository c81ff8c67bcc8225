-- T-11 on a list of calls: a venue's block is converted by the round lots of the symbols that are listed at that point. Whole answers, as in `Protected`.
-- Assumes nothing.
use Prim.Native.Nat.{ℕ}
use mathlib.Core.Path.{◌≡◌, refl}
use mathlib.Core.List.{List, [], ◌∷◌, ◌++◌}
use lib.ListN.{replicate}
use Rattle.field.specs.Field.{be, part, field, be_bytes}
use Rattle.lists.specs.Lists.{member, every, all, sum}
use Rattle.text.specs.Form.{padded, symbol_good}
use Rattle.block.specs.Block.{checksum_of}
use Rattle.block.specs.Sequence.{next_of}
use Rattle.block.specs.Written.{offsets, front, written}
use Rattle.venueform.specs.Form.{layout_of}
use Rattle.venuerules.specs.Rules.{pair_good, participant_good, time_good, reference_good, header_good, control_good, sender_good, items_good, odd_good, market_good, finra_good, own_good, round_good, quote_good, message_good, quote_placed, message_placed}
use Rattle.venue.specs.Venue.{size_good, laid_from, block_good, venue_from, messages_good, messages_placed, venue_number}
use Rattle.venuequote.specs.Quote.{divided, our_kind, our_header, our_side_at, our_round, our_marks, our_item_at, our_items, converted_as, converted, converted_length, symbol_named, converted_for}
use Rattle.venuerun.specs.Run.{pack_into, packed, run_from, run_of, fill_into, filled, needed_of, convert_number}
use Rattle.line.specs.Line.{done}
use Rattle.work.specs.Work.{is_listed, listed_with}
use Rattle.calls.specs.Call.{Call, make, add, convert_len, convert, number_of, answer_of}
use Rattle.review.specs.Reviewer.{fresh_review, rest_after, symbols_after, history_after, review_call, review_answer, review_answers}
use Rattle.cases.proofs.Rows.{all_told, only}

unfoldable pub converting : ℕ → List Call → List (List ℕ)
unfolding be part field be_bytes member every all sum padded symbol_good checksum_of next_of offsets front written layout_of pair_good participant_good time_good reference_good header_good control_good sender_good items_good odd_good market_good finra_good own_good round_good quote_good message_good quote_placed message_placed size_good laid_from block_good venue_from messages_good messages_placed venue_number divided our_kind our_header our_side_at our_round our_marks our_item_at our_items converted_as converted converted_length symbol_named converted_for pack_into packed run_from run_of fill_into filled needed_of convert_number done is_listed listed_with number_of answer_of rest_after symbols_after history_after review_call review_answer
converting n cs = all_told (review_answers (fresh_review n) cs)

abbrev ibm : List ℕ
ibm = 73 ∷ 66 ∷ 77 ∷ replicate 8 32

-- Q P by N: IBM, 10.00 for 300 and 10.02 for 200 shares
abbrev short : List ℕ
short =
    0 ∷ 0 ∷ 52 ∷ 0 ∷ 0 ∷ 0 ∷ 1 ∷ 1 ∷ 9 ∷ 29 ∷ 0 ∷ 42 ∷ 81 ∷ 80 ∷ 78 ∷ 106 ∷ 11 ∷ 20 ∷ 88 ∷ 57 ∷ 245 ∷ 174 ∷ 139 ∷ 1 ∷ 32 ∷ 32 ∷ 32 ∷ 32 ∷ 0 ∷ 0 ∷
    0 ∷ 0 ∷ 0 ∷ 0 ∷ 0 ∷ 0 ∷ 73 ∷ 66 ∷ 77 ∷ 32 ∷ 32 ∷ 3 ∷ 232 ∷ 1 ∷ 44 ∷ 3 ∷ 234 ∷ 0 ∷ 200 ∷ 32 ∷ 0 ∷ 0 ∷ []

-- a run of 72 bytes: number 0, its length, then the block with this checksum and these two sizes
abbrev run : List ℕ → List ℕ → List ℕ → List ℕ
run sum bid offer =
    replicate 8 0
    ++ (72 ∷ 1 ∷ 1 ∷ 0 ∷ 72 ∷ 0 ∷ 0 ∷ 0 ∷ 1 ∷ [])
    ++ sum
    ++ (0 ∷ 12 ∷ 81 ∷ 75 ∷ 78 ∷ 0 ∷ 24 ∷ 176 ∷ 172 ∷ 7 ∷ 124 ∷ 243 ∷ 30 ∷ 139 ∷ 0 ∷ 0 ∷ 0 ∷ 0 ∷ 0 ∷ 0 ∷ 0 ∷ 0 ∷ [])
    ++ ibm
    ++ (82 ∷ 0 ∷ 0 ∷ 0 ∷ 0 ∷ 0 ∷ 152 ∷ 150 ∷ 128 ∷ [])
    ++ bid
    ++ (0 ∷ 0 ∷ 0 ∷ 0 ∷ 0 ∷ 152 ∷ 228 ∷ 160 ∷ [])
    ++ offer
    ++ (32 ∷ 0 ∷ 0 ∷ 0 ∷ [])

-- 300 and 200 as they are, and in lots of 10
abbrev undivided : List ℕ
undivided = run (11 ∷ 221 ∷ []) (0 ∷ 0 ∷ 1 ∷ 44 ∷ []) (0 ∷ 0 ∷ 0 ∷ 200 ∷ [])

abbrev tens : List ℕ
tens = run (11 ∷ 26 ∷ []) (0 ∷ 0 ∷ 0 ∷ 30 ∷ []) (0 ∷ 0 ∷ 0 ∷ 20 ∷ [])

-- before the symbol is listed; listed, the length, one byte short, just enough; after a make with room behind
pub by-the-listed : converting 1 (convert short 72 ∷ add ibm 10 78 ∷ convert_len short ∷ convert short 71 ∷ convert short 72 ∷ make 1 ∷ convert short 100 ∷ [])
    ≡ undivided ∷ only 0 ∷ (replicate 8 0 ++ (72 ∷ [])) ∷ only 80 ∷ tens ∷ only 0 ∷ undivided ∷ []
unfolding converting
by-the-listed = refl
