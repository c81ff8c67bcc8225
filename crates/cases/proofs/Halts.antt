-- T-10's sentences (document 02): trading halts, and where they meet T-02, T-05, T-06, T-07, T-08 and FINRA Close. Like `Shared`, rows of whole answers.
-- Assumes nothing.
use Prim.Native.Nat.{ℕ}
use mathlib.Core.Path.{refl}
use mathlib.Core.List.{List, [], ◌∷◌, ◌++◌}
use lib.ListN.{replicate, set}
use Rattle.calls.specs.Call.{make, add, open_line, start_day, end_day, take, read, protected}
use Rattle.cases.proofs.Rows.{header, quoted, odds, item, round_lot, maker, control, block, only, refused, accepted, partly, rejected, yes, no, entry, national, leading, odd, nothing, shown, none, zt, ab, round_of, no_odd, plain, levels_by, finra_levels, status_by, halt, trade, maker_of, standing, eight, eight_told, on_n, on_p, on_d, look, bid_at, offer_at, Row, in_day, from_make, answered, Answered, end, ◌▹◌}

-- N's plain quote of ZT, and the same of AB
abbrev plainly : List ℕ
plainly = shown (national 78 82 10000000 3) (national 78 82 10020000 2) nothing nothing nothing nothing

-- with this third byte, what put it ahead of the second
abbrev ahead : ℕ → List ℕ
ahead reason = shown (leading reason 78 82 10000000 3) (leading reason 78 82 10020000 2) nothing nothing nothing nothing

-- a bid at 10.01 for 5 shares and an offer at 10.015 for 6
abbrev two : List ℕ
two = item 10010000 5 ++ item 10015000 6

abbrev of_ab : List ℕ
of_ab = round_lot 78 7 (quoted ab 82 10000000 3 10020000 2) no_odd

abbrev finra : ℕ → ℕ → ℕ → List ℕ
finra name price size = entry name 32 32 32 price size

abbrev four_bids : List ℕ
four_bids = item 10010000 1 ++ (item 10011000 2 ++ (item 10012000 3 ++ item 10013000 4))

unfoldable pub table : List Row
table =
    -- "header, 20-30 symbol, 31 status H for halted or T for trading, 32 bytes in all": 42, 43, 45 of a symbol that is not listed or malformed, before 76;
    -- "76 line's letter not the primary, then 77 status"; 41 before 42; another type of category T is 40. None of these halts
    in_day
    (on_n 1 (plain 78 7 3 no_odd ∷ []) ∷ on_n 2 ((halt ++ (0 ∷ [])) ∷ []) ∷ on_n 3 ((header 84 83 78 9 ++ zt) ∷ []) ∷ on_n 4 (set halt 3 1 ∷ []) ∷ on_n 5 (set (status_by 78 9 zt 104) 20 89 ∷ [])
    ∷ on_n 6 (set halt 20 33 ∷ []) ∷ on_p 1 (set (status_by 80 9 zt 104) 20 89 ∷ []) ∷ on_p 2 (status_by 80 9 zt 104 ∷ []) ∷ on_p 3 (status_by 80 9 zt 72 ∷ []) ∷ on_n 7 (status_by 78 9 zt 104 ∷ [])
    ∷ on_n 8 (status_by 78 9 zt 0 ∷ []) ∷ on_n 9 ((status_by 80 9 zt 72 ++ (0 ∷ [])) ∷ []) ∷ on_n 10 (set halt 1 84 ∷ []) ∷ on_n 11 (set halt 0 83 ∷ []) ∷ look ∷ [])
    (accepted 2 1 3 ∷ rejected 3 2 42 ∷ rejected 4 3 42 ∷ rejected 5 4 43 ∷ rejected 6 5 45
    ∷ rejected 7 6 45 ∷ rejected 2 1 45 ∷ rejected 3 2 76 ∷ rejected 4 3 76 ∷ rejected 8 7 77
    ∷ rejected 9 8 77 ∷ rejected 10 9 41 ∷ rejected 11 10 40 ∷ rejected 12 11 40 ∷ plainly ∷ [])
    -- "75 primary letter bad": not A to Z, or S; D may be primary
    ∷ from_make 5
    (add zt 100 64 ∷ add zt 100 91 ∷ add zt 100 83 ∷ add zt 100 110 ∷ add zt 100 0 ∷ add zt 100 65 ∷ add ab 10 90 ∷ add (67 ∷ replicate 10 32) 1 68 ∷ add (68 ∷ replicate 10 32) 1 84 ∷ add (69 ∷ replicate 10 32) 1 82 ∷ [])
    (only 75 ∷ only 75 ∷ only 75 ∷ only 75 ∷ only 75 ∷ only 0 ∷ only 0 ∷ only 0 ∷ only 0 ∷ only 0 ∷ [])
    -- a T S on D's line is no 44: D is primary here, and N is not
    ∷ from_make 1
    (add zt 100 68 ∷ open_line 5 78 ∷ open_line 7 68 ∷ start_day ∷ on_n 1 (plain 78 7 3 no_odd ∷ []) ∷ on_n 2 (halt ∷ []) ∷ on_d 1 (status_by 68 9 zt 72 ∷ []) ∷ look ∷ on_d 2 (status_by 68 9 zt 84 ∷ []) ∷ look ∷ [])
    (only 0 ∷ only 0 ∷ only 0 ∷ only 0 ∷ accepted 2 1 3 ∷ rejected 3 2 76 ∷ accepted 2 1 3 ∷ none ∷ accepted 3 2 3 ∷ plainly ∷ [])
    -- each symbol goes by its own primary letter, and a status alters that symbol only
    ∷ from_make 2
    (add zt 100 78 ∷ add ab 10 80 ∷ open_line 5 78 ∷ open_line 6 80 ∷ start_day ∷ on_n 1 (plain 78 7 3 no_odd ∷ []) ∷ on_n 2 (of_ab ∷ []) ∷ on_n 3 (status_by 78 9 ab 72 ∷ []) ∷ on_p 1 (status_by 80 9 zt 72 ∷ [])
    ∷ on_p 2 (status_by 80 9 ab 72 ∷ []) ∷ look ∷ read ab 96 ∷ on_n 4 (halt ∷ []) ∷ on_p 3 (status_by 80 9 ab 84 ∷ []) ∷ look ∷ read ab 96 ∷ [])
    (only 0 ∷ only 0 ∷ only 0 ∷ only 0 ∷ only 0 ∷ accepted 2 1 3 ∷ accepted 3 2 3 ∷ rejected 4 3 76 ∷ rejected 2 1 76
    ∷ accepted 3 2 3 ∷ plainly ∷ none ∷ accepted 5 4 3 ∷ accepted 4 3 3 ∷ none ∷ plainly ∷ [])
    -- any line of the primary letter
    ∷ in_day
    (open_line 8 78 ∷ on_n 1 (plain 78 7 3 no_odd ∷ []) ∷ take 8 (block 1 (halt ∷ [])) 180 ∷ look ∷ on_n 2 (trade ∷ []) ∷ look ∷ [])
    (only 0 ∷ accepted 2 1 3 ∷ accepted 2 1 3 ∷ none ∷ accepted 3 2 3 ∷ plainly ∷ [])
    -- among quotes: a quote behind a halt in its own block has flags 0, and shows when trading returns; it moves the line, and needs an open day
    ∷ in_day
    (on_n 1 (plain 78 7 3 no_odd ∷ halt ∷ plain 78 8 4 no_odd ∷ trade ∷ plain 78 9 5 no_odd ∷ []) ∷ look ∷ end_day ∷ on_n 6 (halt ∷ []) ∷ [])
    ((0 ∷ 0 ∷ 6 ∷ 5 ∷ 5 ∷ 0 ∷ 0 ∷ 0 ∷ 0 ∷ 3 ∷ 0 ∷ 1 ∷ 0 ∷ 3 ∷ 0 ∷ 2 ∷ 0 ∷ 0 ∷ 0 ∷ 3 ∷ 0 ∷ 3 ∷ 0 ∷ 4 ∷ 0 ∷ 1 ∷ 0 ∷ [])
    ∷ shown (national 78 82 10000000 5) (national 78 82 10020000 2) nothing nothing nothing nothing ∷ only 0 ∷ refused 20 6 5 ∷ [])
    -- one that changes nothing is accepted with flags 0; the last accepted one counts by its place, not by its time
    ∷ in_day
    (on_n 1 (trade ∷ []) ∷ on_n 2 (halt ∷ []) ∷ on_n 3 (halt ∷ []) ∷ on_n 4 (plain 78 7 3 no_odd ∷ []) ∷ on_n 5 (status_by 78 8 zt 84 ∷ []) ∷ look ∷ on_n 6 (status_by 78 7 zt 72 ∷ []) ∷ look
    ∷ on_n 7 (status_by 78 6 zt 84 ∷ []) ∷ on_n 8 (status_by 78 6 zt 84 ∷ []) ∷ look ∷ [])
    (accepted 2 1 0 ∷ accepted 3 2 0 ∷ accepted 4 3 0 ∷ accepted 5 4 0 ∷ accepted 6 5 3 ∷ plainly ∷ accepted 7 6 3 ∷ none
    ∷ accepted 8 7 3 ∷ accepted 9 8 0 ∷ plainly ∷ [])
    -- "While a symbol is halted all six entries are worked out as none"; "trading brings the entries back"
    ∷ in_day
    (on_n 1 (plain 78 6 3 no_odd ∷ []) ∷ on_d 1 (maker_of 7 82 9990000 1 10030000 4 65 ∷ []) ∷ on_p 1 (levels_by 80 8 32 1 1 (item 10010000 5 ++ item 10015000 6) ∷ []) ∷ on_n 2 (halt ∷ []) ∷ look ∷ on_n 3 (trade ∷ []) ∷ look ∷ [])
    (accepted 2 1 3 ∷ accepted 2 1 15 ∷ accepted 2 1 48 ∷ accepted 3 2 63 ∷ none ∷ accepted 4 3 63
    ∷ shown (leading 80 78 82 10000000 3) (leading 80 78 82 10020000 2) (finra 65 9990000 1) (finra 65 10030000 4) (odd 80 10010000 5) (odd 80 10015000 6) ∷ [])
    -- "but quotes go on being stored", "from what then stands": every check as ever, 46 and 64; flags 0
    ∷ in_day
    (on_n 1 (halt ∷ []) ∷ on_n 2 (plain 78 7 3 (odds 32 4 0 (0 ∷ []) four_bids) ∷ []) ∷ on_n 3 (plain 78 7 4 (odds 32 1 0 (0 ∷ []) (item 10014000 1)) ∷ []) ∷ on_n 4 (levels_by 78 8 32 1 0 (item 10014000 1) ∷ [])
    ∷ on_n 5 (round_of 78 7 76 0 1 0 1 no_odd ∷ []) ∷ look ∷ on_n 6 (trade ∷ []) ∷ look ∷ [])
    (accepted 2 1 0 ∷ accepted 3 2 0 ∷ partly 4 3 64 0 ∷ rejected 5 4 64
    ∷ rejected 6 5 46 ∷ none ∷ accepted 7 6 19 ∷ shown (national 78 82 10000000 4) (national 78 82 10020000 2) nothing nothing (odd 78 10013000 4) nothing ∷ [])
    -- makers too: 49, and a freed cell
    ∷ in_day
    (on_n 1 (halt ∷ []) ∷ on_d 1 (eight 65) ∷ on_d 9 (eight 73) ∷ on_d 17 (standing 7 3 81 ∷ []) ∷ on_d 18 (maker_of 7 82 0 0 0 0 65 ∷ []) ∷ on_d 19 (standing 6 3 81 ∷ []) ∷ on_n 2 (trade ∷ []) ∷ look ∷ [])
    (accepted 2 1 0 ∷ eight_told 9 8 0 ∷ eight_told 17 16 0 ∷ rejected 18 17 49 ∷ accepted 19 18 0 ∷ accepted 20 19 0 ∷ accepted 3 2 15
    ∷ shown (national 68 82 10000000 3) (national 68 82 10020000 2) (finra 81 10000000 3) (finra 81 10020000 2) nothing nothing ∷ [])
    -- FINRA Close and Open while ZT is halted and AB is not: they report AB's changes, and ZT's show when it trades
    ∷ from_make 2
    (add zt 100 78 ∷ add ab 10 78 ∷ open_line 5 78 ∷ open_line 7 68 ∷ start_day ∷ on_d 1 (maker_of 7 82 10000000 3 0 0 65 ∷ []) ∷ on_d 2 (maker 68 7 (quoted ab 82 0 0 10020000 2) (66 ∷ 32 ∷ 32 ∷ 32 ∷ []) ∷ [])
    ∷ on_n 1 (halt ∷ []) ∷ look ∷ read ab 96 ∷ on_d 3 (control 67 68 ∷ []) ∷ on_n 2 (trade ∷ []) ∷ look ∷ read ab 96 ∷ on_n 3 (halt ∷ []) ∷ on_d 4 (control 79 68 ∷ []) ∷ look ∷ read ab 96 ∷ on_n 4 (trade ∷ []) ∷ look ∷ [])
    (only 0 ∷ only 0 ∷ only 0 ∷ only 0 ∷ only 0 ∷ accepted 2 1 5 ∷ accepted 3 2 10
    ∷ accepted 2 1 5 ∷ none ∷ shown nothing (national 68 82 10020000 2) nothing (finra 66 10020000 2) nothing nothing ∷ accepted 4 3 10 ∷ accepted 3 2 0 ∷ none ∷ none ∷ accepted 4 3 0
    ∷ accepted 5 4 10 ∷ none ∷ shown nothing (national 68 82 10020000 2) nothing (finra 66 10020000 2) nothing nothing ∷ accepted 5 4 5 ∷ shown (national 68 82 10000000 3) nothing (finra 65 10000000 3) nothing nothing nothing ∷ [])
    -- T-02's run through a halt: N's bid resent keeps its time 5 and leads P's of 6; risen to 4 lots at 9 and back to 3 it has 9, and P leads
    ∷ in_day
    (on_n 1 (plain 78 5 3 no_odd ∷ []) ∷ on_p 1 (plain 80 6 3 no_odd ∷ []) ∷ on_n 2 (halt ∷ []) ∷ on_n 3 (plain 78 9 3 no_odd ∷ []) ∷ on_n 4 (trade ∷ []) ∷ look
    ∷ on_n 5 (halt ∷ []) ∷ on_n 6 (plain 78 9 4 no_odd ∷ []) ∷ on_n 7 (plain 78 10 3 no_odd ∷ []) ∷ on_n 8 (trade ∷ []) ∷ look ∷ [])
    (accepted 2 1 3 ∷ accepted 2 1 3 ∷ accepted 3 2 3 ∷ accepted 4 3 0 ∷ accepted 5 4 3 ∷ ahead 84
    ∷ accepted 6 5 3 ∷ accepted 7 6 0 ∷ accepted 8 7 0 ∷ accepted 9 8 3 ∷ shown (leading 84 80 82 10000000 3) (leading 84 78 82 10020000 2) nothing nothing nothing nothing ∷ [])
    -- what put the leader ahead (T-08) is none's spaces while halted, and then by the quotes that stand: P's second comes and goes in the halt
    ∷ in_day
    (on_n 1 (plain 78 7 3 no_odd ∷ []) ∷ on_n 2 (halt ∷ []) ∷ on_p 1 (plain 80 8 3 no_odd ∷ []) ∷ look ∷ on_n 3 (trade ∷ []) ∷ look ∷ on_n 4 (halt ∷ []) ∷ on_p 2 (round_of 80 9 82 0 0 0 0 no_odd ∷ []) ∷ on_n 5 (trade ∷ []) ∷ look ∷ [])
    (accepted 2 1 3 ∷ accepted 3 2 3 ∷ accepted 2 1 0 ∷ none ∷ accepted 4 3 3 ∷ ahead 84 ∷ accepted 5 4 3 ∷ accepted 3 2 0 ∷ accepted 6 5 3 ∷ plainly ∷ [])
    -- odd entries come back by the round quotes that then stand (T-07): a closing one in the halt hides them, R shows them again
    ∷ in_day
    (on_n 1 (plain 78 7 3 (odds 32 1 1 (0 ∷ []) two) ∷ []) ∷ on_n 2 (halt ∷ []) ∷ on_n 3 (round_of 78 8 67 10000000 3 10020000 2 no_odd ∷ []) ∷ on_n 4 (trade ∷ []) ∷ look
    ∷ on_n 5 (halt ∷ []) ∷ on_n 6 (plain 78 9 3 no_odd ∷ []) ∷ on_n 7 (trade ∷ []) ∷ look ∷ [])
    (accepted 2 1 51 ∷ accepted 3 2 51 ∷ accepted 4 3 0 ∷ accepted 5 4 0 ∷ none
    ∷ accepted 6 5 0 ∷ accepted 7 6 0 ∷ accepted 8 7 51 ∷ shown (national 78 82 10000000 3) (national 78 82 10020000 2) nothing nothing (odd 78 10010000 5) (odd 78 10015000 6) ∷ [])
    -- D's levels (T-05) likewise by its FINRA best: a maker quotes in the halt, FINRA Close comes in the next
    ∷ in_day
    (on_n 1 (halt ∷ []) ∷ on_d 1 (finra_levels 68 8 32 1 1 two ∷ []) ∷ on_d 2 (standing 7 3 65 ∷ []) ∷ look ∷ on_n 2 (trade ∷ []) ∷ look ∷ on_n 3 (halt ∷ []) ∷ on_d 3 (control 67 68 ∷ []) ∷ on_n 4 (trade ∷ []) ∷ look ∷ [])
    (accepted 2 1 0 ∷ accepted 2 1 0 ∷ accepted 3 2 0 ∷ none ∷ accepted 3 2 63
    ∷ shown (national 68 82 10000000 3) (national 68 82 10020000 2) (finra 65 10000000 3) (finra 65 10020000 2) (odd 68 10010000 5) (odd 68 10015000 6)
    ∷ accepted 4 3 63 ∷ accepted 4 3 0 ∷ accepted 5 4 0 ∷ none ∷ [])
    -- End of Day keeps a halt; "Start of Day ends every halt"; make forgets it with the symbols
    ∷ in_day
    (on_n 1 (plain 78 7 3 no_odd ∷ []) ∷ on_n 2 (halt ∷ []) ∷ end_day ∷ look ∷ bid_at 0 ∷ start_day ∷ look ∷ on_n 1 (plain 78 7 3 no_odd ∷ []) ∷ look
    ∷ on_n 2 (halt ∷ []) ∷ make 1 ∷ add zt 100 78 ∷ open_line 5 78 ∷ start_day ∷ on_n 1 (plain 78 7 3 no_odd ∷ []) ∷ look ∷ [])
    (accepted 2 1 3 ∷ accepted 3 2 3 ∷ only 0 ∷ none ∷ no ∷ only 0 ∷ none ∷ accepted 2 1 3 ∷ plainly
    ∷ accepted 3 2 3 ∷ only 0 ∷ only 0 ∷ only 0 ∷ only 0 ∷ accepted 2 1 3 ∷ plainly ∷ [])
    -- "and it starts as trading": a symbol that is added while another is halted
    ∷ from_make 2
    (add zt 100 78 ∷ open_line 5 78 ∷ start_day ∷ on_n 1 (halt ∷ []) ∷ add ab 10 78 ∷ on_n 2 (of_ab ∷ []) ∷ read ab 96 ∷ look ∷ [])
    (only 0 ∷ only 0 ∷ only 0 ∷ accepted 2 1 0 ∷ only 0 ∷ accepted 3 2 3 ∷ plainly ∷ none ∷ [])
    -- "T-06 says no with 26", behind 10 and 74
    ∷ in_day
    (on_n 1 (plain 78 7 3 no_odd ∷ []) ∷ bid_at 10000000 ∷ on_n 2 (halt ∷ []) ∷ bid_at 10000000 ∷ bid_at 0 ∷ offer_at 10020000 ∷ protected ab 66 0 ∷ protected zt 65 0 ∷ on_n 3 (trade ∷ []) ∷ bid_at 10000000 ∷ offer_at 10020000 ∷ [])
    (accepted 2 1 3 ∷ yes 14 ∷ accepted 3 2 3 ∷ no ∷ no ∷ no ∷ only 10 ∷ only 74 ∷ accepted 4 3 3 ∷ yes 14 ∷ yes 14 ∷ [])
    ∷ []

-- one for each row, in order
pub cases : Answered table
unfolding table answered
cases =
    refl  -- codes
    ▹ refl  -- 75
    ▹ refl  -- D is primary
    ▹ refl  -- its own primary letter
    ▹ refl  -- any line of it
    ▹ refl  -- among quotes
    ▹ refl  -- the last accepted one
    ▹ refl  -- six entries
    ▹ refl  -- quotes are stored
    ▹ refl  -- makers are stored
    ▹ refl  -- FINRA Close and Open
    ▹ refl  -- T-02's run
    ▹ refl  -- T-08's byte
    ▹ refl  -- T-07's closing quote
    ▹ refl  -- D's levels
    ▹ refl  -- days
    ▹ refl  -- added later
    ▹ refl  -- T-06
    ▹ end
