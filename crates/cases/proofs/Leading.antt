-- What put the leader ahead (document 02, T-08), from calls to answers: the third byte of the national entries, and the flags that a change of it sets.
-- Assumes nothing.
use Prim.Native.Nat.{ℕ}
use mathlib.Core.Path.{refl}
use mathlib.Core.List.{List, [], ◌∷◌}
use Rattle.calls.specs.Call.{add, open_line, start_day, end_day, take, read}
use Rattle.cases.proofs.Rows.{quoted, odds, item, round_lot, maker, control, block, only, accepted, partly, rejected, entry, national, leading, odd, nothing, shown, none, zt, ab, round_of, no_odd, plain, maker_of, standing, on_n, on_p, on_d, look, Row, in_day, from_make, answered, Answered, end, ◌▹◌}

-- a bid alone, and an offer alone, under R
abbrev bid_by : ℕ → ℕ → ℕ → ℕ → List ℕ
bid_by letter time price lots = round_of letter time 82 price lots 0 0 no_odd

abbrev offer_by : ℕ → ℕ → ℕ → ℕ → List ℕ
offer_by letter time price lots = round_of letter time 82 0 0 price lots no_odd

-- N's bid of 10.00 for 3, or its offer, with this third byte
abbrev bid_leads : ℕ → List ℕ
bid_leads reason = shown (leading reason 78 82 10000000 3) nothing nothing nothing nothing nothing

abbrev offer_leads : ℕ → List ℕ
offer_leads reason = shown nothing (leading reason 78 82 10000000 3) nothing nothing nothing nothing

-- a maker's entry
abbrev by : ℕ → ℕ → ℕ → List ℕ
by name price size = entry name 32 32 32 price size

unfoldable pub table : List Row
table =
    -- N's bid is alone; P's comes closer, by price, size, time and letter, and falls back: each change of the third byte alone sets flag 1
    in_day
    (on_n 1 (bid_by 78 7 10000000 3 ∷ []) ∷ look ∷ on_p 1 (bid_by 80 6 9990000 9 ∷ []) ∷ look ∷ on_p 2 (bid_by 80 6 10000000 2 ∷ []) ∷ look ∷ on_p 3 (bid_by 80 8 10000000 3 ∷ []) ∷ look
    ∷ on_p 4 (bid_by 80 6 10000000 2 ∷ []) ∷ on_p 5 (bid_by 80 7 10000000 3 ∷ []) ∷ look ∷ on_p 6 (bid_by 80 6 9990000 9 ∷ []) ∷ look ∷ on_p 7 (bid_by 80 6 0 0 ∷ []) ∷ look ∷ [])
    (accepted 2 1 1 ∷ bid_leads 32 ∷ accepted 2 1 1 ∷ bid_leads 80 ∷ accepted 3 2 1 ∷ bid_leads 83 ∷ accepted 4 3 1 ∷ bid_leads 84
    ∷ accepted 5 4 1 ∷ accepted 6 5 1 ∷ bid_leads 76 ∷ accepted 7 6 1 ∷ bid_leads 80 ∷ accepted 8 7 1 ∷ bid_leads 32 ∷ [])
    -- the offers likewise: flag 2
    ∷ in_day
    (on_n 1 (offer_by 78 7 10000000 3 ∷ []) ∷ look ∷ on_p 1 (offer_by 80 6 10010000 9 ∷ []) ∷ look ∷ on_p 2 (offer_by 80 6 10000000 2 ∷ []) ∷ look ∷ on_p 3 (offer_by 80 8 10000000 3 ∷ []) ∷ look
    ∷ on_p 4 (offer_by 80 6 10000000 2 ∷ []) ∷ on_p 5 (offer_by 80 7 10000000 3 ∷ []) ∷ look ∷ on_p 6 (offer_by 80 6 10010000 9 ∷ []) ∷ look ∷ on_p 7 (offer_by 80 6 0 0 ∷ []) ∷ look ∷ [])
    (accepted 2 1 2 ∷ offer_leads 32 ∷ accepted 2 1 2 ∷ offer_leads 80 ∷ accepted 3 2 2 ∷ offer_leads 83 ∷ accepted 4 3 2 ∷ offer_leads 84
    ∷ accepted 5 4 2 ∷ accepted 6 5 2 ∷ offer_leads 76 ∷ accepted 7 6 2 ∷ offer_leads 80 ∷ accepted 8 7 2 ∷ offer_leads 32 ∷ [])
    -- a quote behind the leader that is decided by the same as before sets no flag: another price behind, another smaller size
    ∷ in_day
    (on_n 1 (bid_by 78 7 10000000 3 ∷ []) ∷ on_p 1 (bid_by 80 6 9990000 9 ∷ []) ∷ on_p 2 (bid_by 80 6 9980000 8 ∷ []) ∷ on_p 3 (bid_by 80 6 10000000 1 ∷ []) ∷ on_p 4 (bid_by 80 6 10000000 2 ∷ [])
    ∷ on_p 5 (bid_by 80 8 10000000 3 ∷ []) ∷ on_p 6 (bid_by 80 6 9970000 3 ∷ []) ∷ on_p 7 (bid_by 80 9 10000000 3 ∷ []) ∷ look ∷ [])
    (accepted 2 1 1 ∷ accepted 2 1 1 ∷ accepted 3 2 0 ∷ accepted 4 3 1 ∷ accepted 5 4 0
    ∷ accepted 6 5 1 ∷ accepted 7 6 1 ∷ accepted 8 7 1 ∷ bid_leads 84 ∷ [])
    -- each new leader by its comparison with the old one: price, size, time, letter
    ∷ in_day
    (on_n 1 (bid_by 78 7 9990000 9 ∷ []) ∷ on_p 1 (bid_by 80 7 10000000 1 ∷ []) ∷ look ∷ on_n 2 (bid_by 78 9 10000000 2 ∷ []) ∷ look ∷ on_p 2 (bid_by 80 8 10000000 2 ∷ []) ∷ look
    ∷ on_n 3 (bid_by 78 8 10000000 1 ∷ []) ∷ on_n 4 (bid_by 78 8 10000000 2 ∷ []) ∷ look ∷ [])
    (accepted 2 1 1 ∷ accepted 2 1 1 ∷ shown (leading 80 80 82 10000000 1) nothing nothing nothing nothing nothing
    ∷ accepted 3 2 1 ∷ shown (leading 83 78 82 10000000 2) nothing nothing nothing nothing nothing
    ∷ accepted 3 2 1 ∷ shown (leading 84 80 82 10000000 2) nothing nothing nothing nothing nothing
    ∷ accepted 4 3 1 ∷ accepted 5 4 1 ∷ shown (leading 76 78 82 10000000 2) nothing nothing nothing nothing nothing ∷ [])
    -- bid and offer by reasons of their own
    ∷ in_day
    (on_n 1 (plain 78 7 3 no_odd ∷ []) ∷ on_p 1 (round_of 80 8 82 9990000 9 10020000 2 no_odd ∷ []) ∷ look ∷ on_p 2 (round_of 80 8 82 10000000 2 10030000 9 no_odd ∷ []) ∷ look ∷ [])
    (accepted 2 1 3 ∷ accepted 2 1 3 ∷ shown (leading 80 78 82 10000000 3) (leading 84 78 82 10020000 2) nothing nothing nothing nothing
    ∷ accepted 3 2 3 ∷ shown (leading 83 78 82 10000000 3) (leading 80 78 82 10020000 2) nothing nothing nothing nothing ∷ [])
    -- a tie of three: A before N before P; without A, N before P; a third far behind is not the second
    ∷ in_day
    (open_line 8 65 ∷ on_p 1 (bid_by 80 7 10000000 3 ∷ []) ∷ on_n 1 (bid_by 78 7 10000000 3 ∷ []) ∷ take 8 (block 1 (bid_by 65 7 10000000 3 ∷ [])) 180 ∷ look
    ∷ on_p 2 (bid_by 80 7 9990000 9 ∷ []) ∷ look ∷ take 8 (block 2 (bid_by 65 7 9980000 3 ∷ [])) 180 ∷ look ∷ [])
    (only 0 ∷ accepted 2 1 1 ∷ accepted 2 1 1 ∷ accepted 2 1 1 ∷ shown (leading 76 65 82 10000000 3) nothing nothing nothing nothing nothing
    ∷ accepted 3 2 0 ∷ shown (leading 76 65 82 10000000 3) nothing nothing nothing nothing nothing ∷ accepted 3 2 1 ∷ bid_leads 80 ∷ [])
    -- a resent quote keeps its time, and so the T of the leader; the second's resent quote too (T-02)
    ∷ in_day
    (on_n 1 (bid_by 78 5 10000000 3 ∷ []) ∷ on_p 1 (bid_by 80 6 10000000 3 ∷ []) ∷ on_n 2 (bid_by 78 9 10000000 3 ∷ []) ∷ on_p 2 (bid_by 80 4 10000000 3 ∷ []) ∷ look ∷ [])
    (accepted 2 1 1 ∷ accepted 2 1 1 ∷ accepted 3 2 0 ∷ accepted 3 2 0 ∷ bid_leads 84 ∷ [])
    -- D against a letter, by its FINRA best: its second maker is no second; FINRA entries show no reason
    ∷ in_day
    (on_d 1 (standing 7 3 65 ∷ []) ∷ on_d 2 (standing 7 3 66 ∷ []) ∷ look ∷ on_n 1 (plain 78 8 3 no_odd ∷ []) ∷ look ∷ on_d 3 (maker_of 7 82 10000000 4 10020000 1 65 ∷ []) ∷ look ∷ [])
    (accepted 2 1 15 ∷ accepted 3 2 0 ∷ shown (national 68 82 10000000 3) (national 68 82 10020000 2) (by 65 10000000 3) (by 65 10020000 2) nothing nothing
    ∷ accepted 2 1 3 ∷ shown (leading 84 68 82 10000000 3) (leading 84 68 82 10020000 2) (by 65 10000000 3) (by 65 10020000 2) nothing nothing
    ∷ accepted 4 3 13 ∷ shown (leading 83 68 82 10000000 4) (leading 84 68 82 10020000 2) (by 65 10000000 4) (by 66 10020000 2) nothing nothing ∷ [])
    -- FINRA Close takes D out of the race in every symbol, FINRA Open brings it back: N has no second, then one
    ∷ from_make 2
    (add zt 100 78 ∷ add ab 100 78 ∷ open_line 5 78 ∷ open_line 7 68 ∷ start_day ∷ on_n 1 (bid_by 78 7 10000000 3 ∷ []) ∷ on_n 2 (round_lot 78 7 (quoted ab 82 0 0 10020000 2) no_odd ∷ [])
    ∷ on_d 1 (maker_of 8 82 10000000 3 0 0 65 ∷ []) ∷ on_d 2 (maker 68 8 (quoted ab 82 0 0 10030000 9) (65 ∷ 32 ∷ 32 ∷ 32 ∷ []) ∷ []) ∷ look ∷ read ab 96
    ∷ on_d 3 (control 67 68 ∷ []) ∷ look ∷ read ab 96 ∷ on_d 4 (control 79 68 ∷ []) ∷ look ∷ read ab 96 ∷ [])
    (only 0 ∷ only 0 ∷ only 0 ∷ only 0 ∷ only 0 ∷ accepted 2 1 1 ∷ accepted 3 2 2
    ∷ accepted 2 1 5 ∷ accepted 3 2 10 ∷ shown (leading 84 78 82 10000000 3) nothing (by 65 10000000 3) nothing nothing nothing ∷ shown nothing (leading 80 78 82 10020000 2) nothing (by 65 10030000 9) nothing nothing
    ∷ accepted 4 3 15 ∷ bid_leads 32 ∷ shown nothing (national 78 82 10020000 2) nothing nothing nothing nothing
    ∷ accepted 5 4 15 ∷ shown (leading 84 78 82 10000000 3) nothing (by 65 10000000 3) nothing nothing nothing ∷ shown nothing (leading 80 78 82 10020000 2) nothing (by 65 10030000 9) nothing nothing ∷ [])
    -- one closing quote takes its letter out of the race and hides its odd lots (T-07); a partly accepted one is in the race, a rejected one is not
    ∷ in_day
    (on_n 1 (bid_by 78 7 10000000 3 ∷ []) ∷ on_p 1 (round_of 80 8 82 10000000 3 0 0 (odds 32 1 0 (0 ∷ []) (item 10010000 5)) ∷ []) ∷ look ∷ on_p 2 (round_of 80 9 67 10000000 3 0 0 no_odd ∷ []) ∷ look
    ∷ on_p 3 (round_of 80 9 76 10000000 3 0 0 no_odd ∷ []) ∷ on_p 4 (round_of 80 9 82 9990000 1 0 0 (odds 65 0 0 (0 ∷ []) []) ∷ []) ∷ look ∷ [])
    (accepted 2 1 1 ∷ accepted 2 1 17 ∷ shown (leading 84 78 82 10000000 3) nothing nothing nothing (odd 80 10010000 5) nothing ∷ accepted 3 2 17 ∷ bid_leads 32
    ∷ rejected 4 3 46 ∷ partly 5 4 60 17 ∷ shown (leading 80 78 82 10000000 3) nothing nothing nothing (odd 80 10010000 5) nothing ∷ [])
    -- End of Day keeps it, Start of Day makes every entry none
    ∷ in_day
    (on_n 1 (bid_by 78 7 10000000 3 ∷ []) ∷ on_p 1 (bid_by 80 8 10000000 3 ∷ []) ∷ end_day ∷ look ∷ start_day ∷ look ∷ on_n 1 (bid_by 78 7 10000000 3 ∷ []) ∷ look ∷ [])
    (accepted 2 1 1 ∷ accepted 2 1 1 ∷ only 0 ∷ bid_leads 84 ∷ only 0 ∷ none ∷ accepted 2 1 1 ∷ bid_leads 32 ∷ [])
    ∷ []

-- one for each row, in order
pub cases : Answered table
unfolding table answered
cases =
    refl  -- bids, closer and back
    ▹ refl  -- offers
    ▹ refl  -- no change
    ▹ refl  -- new leaders
    ▹ refl  -- both sides
    ▹ refl  -- a tie of three
    ▹ refl  -- resent
    ▹ refl  -- D
    ▹ refl  -- FINRA Close and Open
    ▹ refl  -- a closing quote
    ▹ refl  -- End and Start of Day
    ▹ end
