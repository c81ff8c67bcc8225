-- Rules that the book and the reviewer share, so that the theorem cannot see a mistake in them: conditions, makers, levels, best entries, days.
-- Each row has whole answers: every number of a report, every answer byte, all 96 bytes of a read.
-- Assumes nothing.
use Prim.Native.Nat.{ℕ}
use mathlib.Core.Path.{refl}
use mathlib.Core.List.{List, [], ◌∷◌, ◌++◌}
use Rattle.calls.specs.Call.{make, add, open_line, start_day, end_day, take, read}
use Rattle.cases.proofs.Rows.{quoted, odds, item, maker, control, block, only, refused, accepted, partly, rejected, entry, national, leading, odd, nothing, shown, none, zt, ab, round_of, no_odd, plain, levels_by, maker_of, standing, eight, eight_told, on_n, on_p, on_d, look, Row, in_day, from_make, answered, Answered, end, ◌▹◌}

-- ---- conditions: a Q K by N with this condition, its flags, the national bid and offer

abbrev bid : ℕ → List ℕ
bid c = national 78 c 10000000 3

abbrev offer : ℕ → List ℕ
offer c = national 78 c 10020000 2

abbrev condition : ℕ → ℕ → List ℕ → List ℕ → Row
condition c flags b o =
    in_day
    (on_n 1 (round_of 78 7 c 10000000 3 10020000 2 no_odd ∷ []) ∷ look ∷ [])
    (accepted 2 1 flags ∷ shown b o nothing nothing nothing nothing ∷ [])

-- ---- makers

abbrev finra : ℕ → ℕ → ℕ → List ℕ
finra name price size = entry name 32 32 32 price size

-- ---- levels

-- N's plain quote, and these odd entries
abbrev besides : List ℕ → List ℕ → List ℕ
besides b o = shown (bid 82) (offer 82) nothing nothing b o

abbrev four_bids : List ℕ
four_bids = item 10010000 1 ++ (item 10011000 2 ++ (item 10012000 3 ++ item 10013000 4))

unfoldable pub table : List Row
table =
    -- A, B, H, O, R, W admit both sides, E the offer, F the bid, C, N, U neither
    condition 65 3 (bid 65) (offer 65) ∷ condition 66 3 (bid 66) (offer 66) ∷ condition 72 3 (bid 72) (offer 72)
    ∷ condition 79 3 (bid 79) (offer 79) ∷ condition 82 3 (bid 82) (offer 82) ∷ condition 87 3 (bid 87) (offer 87)
    ∷ condition 69 2 nothing (offer 69) ∷ condition 70 1 (bid 70) nothing
    ∷ condition 67 0 nothing nothing ∷ condition 78 0 nothing nothing ∷ condition 85 0 nothing nothing
    -- Q U takes R and L, and L admits neither side
    ∷ in_day
    (on_d 1 (standing 7 3 65 ∷ []) ∷ look ∷ on_d 2 (maker_of 7 76 10000000 3 10020000 2 65 ∷ []) ∷ look ∷ [])
    (accepted 2 1 15 ∷ shown (national 68 82 10000000 3) (national 68 82 10020000 2) (finra 65 10000000 3) (finra 65 10020000 2) nothing nothing
    ∷ accepted 3 2 15 ∷ none ∷ [])
    -- six entries present, and six that are none, byte by byte
    ∷ in_day
    (look ∷ on_n 1 (plain 78 6 3 no_odd ∷ []) ∷ on_d 1 (maker 68 7 (quoted zt 82 9990000 1 10030000 4) (65 ∷ 66 ∷ 67 ∷ 68 ∷ []) ∷ [])
    ∷ on_p 1 (levels_by 80 8 32 1 1 (item 10010000 5 ++ item 10015000 6) ∷ []) ∷ look ∷ [])
    ((0 ∷ 0 ∷ 0 ∷ 0 ∷ 0 ∷ 0 ∷ 0
    ∷ 32 ∷ 32 ∷ 32 ∷ 32 ∷ 0 ∷ 0 ∷ 0 ∷ 0 ∷ 0 ∷ 0 ∷ 0 ∷ 0 ∷ 0 ∷ 0 ∷ 0 ∷ 0 ∷ 32 ∷ 32 ∷ 32 ∷ 32 ∷ 0 ∷ 0 ∷ 0 ∷ 0 ∷ 0 ∷ 0 ∷ 0 ∷ 0 ∷ 0 ∷ 0 ∷ 0 ∷ 0
    ∷ 32 ∷ 32 ∷ 32 ∷ 32 ∷ 0 ∷ 0 ∷ 0 ∷ 0 ∷ 0 ∷ 0 ∷ 0 ∷ 0 ∷ 0 ∷ 0 ∷ 0 ∷ 0 ∷ 32 ∷ 32 ∷ 32 ∷ 32 ∷ 0 ∷ 0 ∷ 0 ∷ 0 ∷ 0 ∷ 0 ∷ 0 ∷ 0 ∷ 0 ∷ 0 ∷ 0 ∷ 0
    ∷ 32 ∷ 32 ∷ 32 ∷ 32 ∷ 0 ∷ 0 ∷ 0 ∷ 0 ∷ 0 ∷ 0 ∷ 0 ∷ 0 ∷ 0 ∷ 0 ∷ 0 ∷ 0 ∷ 32 ∷ 32 ∷ 32 ∷ 32 ∷ 0 ∷ 0 ∷ 0 ∷ 0 ∷ 0 ∷ 0 ∷ 0 ∷ 0 ∷ 0 ∷ 0 ∷ 0 ∷ 0 ∷ [])
    ∷ accepted 2 1 3 ∷ accepted 2 1 15 ∷ accepted 2 1 48
    ∷ (0 ∷ 0 ∷ 0 ∷ 0 ∷ 0 ∷ 0 ∷ 0
    ∷ 78 ∷ 82 ∷ 80 ∷ 32 ∷ 0 ∷ 0 ∷ 0 ∷ 0 ∷ 0 ∷ 152 ∷ 150 ∷ 128 ∷ 0 ∷ 0 ∷ 0 ∷ 3 ∷ 78 ∷ 82 ∷ 80 ∷ 32 ∷ 0 ∷ 0 ∷ 0 ∷ 0 ∷ 0 ∷ 152 ∷ 228 ∷ 160 ∷ 0 ∷ 0 ∷ 0 ∷ 2
    ∷ 65 ∷ 66 ∷ 67 ∷ 68 ∷ 0 ∷ 0 ∷ 0 ∷ 0 ∷ 0 ∷ 152 ∷ 111 ∷ 112 ∷ 0 ∷ 0 ∷ 0 ∷ 1 ∷ 65 ∷ 66 ∷ 67 ∷ 68 ∷ 0 ∷ 0 ∷ 0 ∷ 0 ∷ 0 ∷ 153 ∷ 11 ∷ 176 ∷ 0 ∷ 0 ∷ 0 ∷ 4
    ∷ 80 ∷ 32 ∷ 32 ∷ 32 ∷ 0 ∷ 0 ∷ 0 ∷ 0 ∷ 0 ∷ 152 ∷ 189 ∷ 144 ∷ 0 ∷ 0 ∷ 0 ∷ 5 ∷ 80 ∷ 32 ∷ 32 ∷ 32 ∷ 0 ∷ 0 ∷ 0 ∷ 0 ∷ 0 ∷ 152 ∷ 209 ∷ 24 ∷ 0 ∷ 0 ∷ 0 ∷ 6 ∷ [])
    ∷ [])
    -- D stands with its maker's time: behind N at 7, before it at 5, and at 6 by its letter; A is before D
    ∷ in_day
    (open_line 8 65 ∷ on_n 1 (plain 78 6 3 no_odd ∷ []) ∷ on_d 1 (standing 7 3 65 ∷ []) ∷ look ∷ on_d 2 (standing 5 3 66 ∷ []) ∷ look
    ∷ on_d 3 (maker_of 7 82 0 0 0 0 66 ∷ []) ∷ on_d 4 (standing 6 3 67 ∷ []) ∷ take 8 (block 1 (plain 65 6 3 no_odd ∷ [])) 180 ∷ look ∷ [])
    (only 0 ∷ accepted 2 1 3 ∷ accepted 2 1 15 ∷ shown (leading 84 78 82 10000000 3) (leading 84 78 82 10020000 2) (finra 65 10000000 3) (finra 65 10020000 2) nothing nothing
    ∷ accepted 3 2 15 ∷ shown (leading 84 68 82 10000000 3) (leading 84 68 82 10020000 2) (finra 66 10000000 3) (finra 66 10020000 2) nothing nothing
    ∷ accepted 4 3 15 ∷ accepted 5 4 15 ∷ accepted 2 1 3 ∷ shown (leading 76 65 82 10000000 3) (leading 76 65 82 10020000 2) (finra 67 10000000 3) (finra 67 10020000 2) nothing nothing ∷ [])
    -- makers: lower name, earlier time, larger size, better price; each side by itself
    ∷ in_day
    (on_d 1 (standing 7 3 67 ∷ []) ∷ on_d 2 (standing 7 3 66 ∷ []) ∷ on_d 3 (standing 6 3 68 ∷ []) ∷ on_d 4 (standing 8 4 69 ∷ []) ∷ look
    ∷ on_d 5 (maker_of 9 82 10010000 1 10010000 1 70 ∷ []) ∷ look ∷ [])
    (accepted 2 1 15 ∷ accepted 3 2 12 ∷ accepted 4 3 12 ∷ accepted 5 4 5
    ∷ shown (national 68 82 10000000 4) (national 68 82 10020000 2) (finra 69 10000000 4) (finra 68 10020000 2) nothing nothing
    ∷ accepted 6 5 15 ∷ shown (national 68 82 10010000 1) (national 68 82 10010000 1) (finra 70 10010000 1) (finra 70 10010000 1) nothing nothing ∷ [])
    -- sixteen makers fit, another is 49; its empty quote is accepted, R or L, and it stays unknown (T-03); a price with size 0 is 49, a malformed name 48;
    -- an indication keeps its cell, 0 and 0 frees it, and a freed cell is used again
    ∷ in_day
    (on_d 1 (eight 65) ∷ on_d 9 (eight 73) ∷ on_d 17 (standing 7 3 81 ∷ []) ∷ on_d 18 (maker_of 7 82 0 0 0 0 81 ∷ []) ∷ on_d 19 (maker_of 7 76 0 0 0 0 81 ∷ [])
    ∷ on_d 20 (maker_of 7 82 5000000 0 0 0 81 ∷ []) ∷ on_d 21 (maker_of 7 82 0 0 0 0 97 ∷ []) ∷ on_d 22 (maker_of 7 82 5000000 0 0 0 66 ∷ [])
    ∷ on_d 23 (standing 7 3 81 ∷ []) ∷ on_d 24 (maker_of 7 76 0 0 0 0 66 ∷ []) ∷ on_d 25 (standing 6 3 81 ∷ []) ∷ on_d 26 (standing 7 3 66 ∷ []) ∷ look ∷ [])
    (eight_told 9 8 15 ∷ eight_told 17 16 0 ∷ rejected 18 17 49 ∷ accepted 19 18 0 ∷ accepted 20 19 0 ∷ rejected 21 20 49 ∷ rejected 22 21 48 ∷ accepted 23 22 0
    ∷ rejected 24 23 49 ∷ accepted 25 24 0 ∷ accepted 26 25 12 ∷ rejected 27 26 49 ∷ shown (national 68 82 10000000 3) (national 68 82 10020000 2) (finra 81 10000000 3) (finra 81 10020000 2) nothing nothing ∷ [])
    -- FINRA Close and Open in every symbol, and the flags of any; a later Q U has its own condition again
    ∷ from_make 2
    (add zt 100 78 ∷ add ab 10 78 ∷ open_line 7 68 ∷ start_day ∷ on_d 1 (maker_of 7 82 10000000 3 0 0 65 ∷ [])
    ∷ on_d 2 (maker 68 7 (quoted ab 82 0 0 10020000 2) (66 ∷ 32 ∷ 32 ∷ 32 ∷ []) ∷ []) ∷ on_d 3 (control 67 68 ∷ []) ∷ look ∷ read ab 96
    ∷ on_d 4 (control 79 68 ∷ []) ∷ look ∷ read ab 96 ∷ on_d 5 (control 67 68 ∷ []) ∷ on_d 6 (maker_of 7 82 10000000 3 0 0 65 ∷ []) ∷ look ∷ read ab 96 ∷ [])
    (only 0 ∷ only 0 ∷ only 0 ∷ only 0 ∷ accepted 2 1 5 ∷ accepted 3 2 10 ∷ accepted 4 3 15 ∷ none ∷ none
    ∷ accepted 5 4 15 ∷ shown (national 68 82 10000000 3) nothing (finra 65 10000000 3) nothing nothing nothing
    ∷ shown nothing (national 68 82 10020000 2) nothing (finra 66 10020000 2) nothing nothing
    ∷ accepted 6 5 15 ∷ accepted 7 6 5 ∷ shown (national 68 82 10000000 3) nothing (finra 65 10000000 3) nothing nothing nothing ∷ none ∷ [])
    -- clear marks B, S and X, alone and before an item
    ∷ in_day
    (on_n 1 (plain 78 7 3 (odds 32 1 1 (0 ∷ []) (item 10010000 5 ++ item 10015000 6)) ∷ []) ∷ look ∷ on_n 2 (levels_by 78 8 66 0 0 [] ∷ []) ∷ look
    ∷ on_n 3 (levels_by 78 8 32 1 0 (item 10010000 5) ∷ []) ∷ on_n 4 (levels_by 78 8 83 0 0 [] ∷ []) ∷ look ∷ on_n 5 (levels_by 78 8 32 0 1 (item 10015000 6) ∷ [])
    ∷ on_n 6 (levels_by 78 8 88 0 0 [] ∷ []) ∷ look ∷ on_n 7 (levels_by 78 8 88 1 1 (item 10010000 5 ++ item 10015000 6) ∷ []) ∷ look ∷ [])
    (accepted 2 1 51 ∷ besides (odd 78 10010000 5) (odd 78 10015000 6) ∷ accepted 3 2 16 ∷ besides nothing (odd 78 10015000 6)
    ∷ accepted 4 3 16 ∷ accepted 5 4 32 ∷ besides (odd 78 10010000 5) nothing ∷ accepted 6 5 32
    ∷ accepted 7 6 48 ∷ besides nothing nothing ∷ accepted 8 7 48 ∷ besides (odd 78 10010000 5) (odd 78 10015000 6) ∷ [])
    -- a 64 under the other side's clear does nothing on either side; under its own side's clear the item finds room
    ∷ in_day
    (on_n 1 (plain 78 7 3 (odds 32 4 1 (0 ∷ []) (four_bids ++ item 10015000 6)) ∷ []) ∷ on_n 2 (plain 78 7 3 (odds 83 1 0 (0 ∷ []) (item 10014000 1)) ∷ []) ∷ look
    ∷ on_n 3 (levels_by 78 8 83 1 0 (item 10014000 1) ∷ []) ∷ look ∷ on_n 4 (levels_by 78 8 66 1 0 (item 10014000 1) ∷ []) ∷ look ∷ [])
    (accepted 2 1 51 ∷ partly 3 2 64 0 ∷ besides (odd 78 10013000 4) (odd 78 10015000 6) ∷ rejected 4 3 64 ∷ besides (odd 78 10013000 4) (odd 78 10015000 6)
    ∷ accepted 5 4 16 ∷ besides (odd 78 10014000 1) (odd 78 10015000 6) ∷ [])
    -- zero shares of a known and of an unknown price; a known price is replaced; a removal before makes room, one behind does not
    ∷ in_day
    (on_n 1 (plain 78 7 3 (odds 32 4 0 (0 ∷ []) four_bids) ∷ []) ∷ on_n 2 (levels_by 78 8 32 1 0 (item 10013000 0) ∷ []) ∷ look ∷ on_n 3 (levels_by 78 8 32 1 0 (item 10013000 0) ∷ [])
    ∷ on_n 4 (levels_by 78 8 32 1 0 (item 10012000 9) ∷ []) ∷ look ∷ on_n 5 (levels_by 78 8 32 1 0 (item 10013000 4) ∷ [])
    ∷ on_n 6 (levels_by 78 8 32 2 0 (item 10014000 1 ++ item 10010000 0) ∷ []) ∷ on_n 7 (levels_by 78 8 32 2 0 (item 10010000 0 ++ item 10014000 1) ∷ []) ∷ look ∷ [])
    (accepted 2 1 19 ∷ accepted 3 2 16 ∷ besides (odd 78 10012000 3) nothing ∷ accepted 4 3 0
    ∷ accepted 5 4 16 ∷ besides (odd 78 10012000 9) nothing ∷ accepted 6 5 16 ∷ rejected 7 6 64 ∷ accepted 8 7 16 ∷ besides (odd 78 10014000 1) nothing ∷ [])
    -- odd best: any level where no national stands; larger shares, earlier time (a replaced level has the new one), lower letter, better price; then priced beyond the national
    ∷ in_day
    (on_n 1 (levels_by 78 8 32 1 0 (item 9000000 5) ∷ []) ∷ on_p 1 (levels_by 80 9 32 1 0 (item 9000000 6) ∷ []) ∷ look ∷ on_n 2 (levels_by 78 8 32 1 0 (item 9000000 6) ∷ []) ∷ look
    ∷ on_n 3 (levels_by 78 10 32 1 0 (item 9000000 6) ∷ []) ∷ look ∷ on_n 4 (levels_by 78 9 32 1 0 (item 9000000 6) ∷ []) ∷ look
    ∷ on_n 5 (levels_by 78 9 32 1 1 (item 9010000 1 ++ item 9050000 1) ∷ []) ∷ on_p 2 (levels_by 80 9 32 0 1 (item 9040000 1) ∷ []) ∷ look
    ∷ on_p 3 (round_of 80 9 82 9010000 1 9040000 1 no_odd ∷ []) ∷ look ∷ on_p 4 (round_of 80 9 82 9009999 1 9040001 1 no_odd ∷ []) ∷ look ∷ [])
    (accepted 2 1 16 ∷ accepted 2 1 16 ∷ shown nothing nothing nothing nothing (odd 80 9000000 6) nothing
    ∷ accepted 3 2 16 ∷ shown nothing nothing nothing nothing (odd 78 9000000 6) nothing ∷ accepted 4 3 16 ∷ shown nothing nothing nothing nothing (odd 80 9000000 6) nothing
    ∷ accepted 5 4 16 ∷ shown nothing nothing nothing nothing (odd 78 9000000 6) nothing ∷ accepted 6 5 48 ∷ accepted 3 2 32
    ∷ shown nothing nothing nothing nothing (odd 78 9010000 1) (odd 80 9040000 1)
    ∷ accepted 4 3 51 ∷ shown (national 80 82 9010000 1) (national 80 82 9040000 1) nothing nothing nothing nothing
    ∷ accepted 5 4 51 ∷ shown (national 80 82 9009999 1) (national 80 82 9040001 1) nothing nothing (odd 78 9010000 1) (odd 80 9040000 1) ∷ [])
    -- the messages of a block one after another: accepted, partly accepted and rejected
    ∷ in_day
    (on_n 1 (plain 78 7 3 (odds 32 4 0 (0 ∷ []) four_bids) ∷ plain 78 7 4 (odds 32 1 0 (0 ∷ []) (item 10014000 1)) ∷ levels_by 78 8 32 1 0 (item 10014000 1)
    ∷ levels_by 78 8 32 1 0 (item 10013000 0) ∷ levels_by 78 8 32 1 0 (item 10014000 1) ∷ plain 80 7 3 no_odd ∷ []) ∷ look ∷ [])
    ((0 ∷ 0 ∷ 7 ∷ 6 ∷ 3 ∷ 1 ∷ 2 ∷ 0 ∷ 0 ∷ 19 ∷ 0 ∷ 1 ∷ 64 ∷ 1 ∷ 0 ∷ 2 ∷ 64 ∷ 0 ∷ 0 ∷ 3 ∷ 0 ∷ 16 ∷ 0 ∷ 4 ∷ 0 ∷ 16 ∷ 0 ∷ 5 ∷ 41 ∷ 0 ∷ 0 ∷ [])
    ∷ shown (national 78 82 10000000 4) (offer 82) nothing nothing (odd 78 10014000 1) nothing ∷ [])
    -- End of Day keeps the quotes; Start of Day empties quotes, makers and levels and sets every line's next expected number to 1 and its count to 0
    ∷ in_day
    (on_n 1 (plain 78 7 3 (odds 32 4 0 (0 ∷ []) four_bids) ∷ []) ∷ on_d 1 (standing 8 3 65 ∷ []) ∷ end_day ∷ look ∷ on_n 2 (plain 78 7 3 no_odd ∷ []) ∷ start_day ∷ look
    ∷ on_n 1 (levels_by 78 8 32 1 0 (item 10014000 1) ∷ []) ∷ look ∷ on_d 1 (control 79 68 ∷ []) ∷ look ∷ [])
    (accepted 2 1 19 ∷ accepted 2 1 15 ∷ only 0 ∷ shown (leading 84 78 82 10000000 3) (leading 84 78 82 10020000 2) (finra 65 10000000 3) (finra 65 10020000 2) (odd 78 10013000 4) nothing ∷ refused 20 2 1 ∷ only 0 ∷ none
    ∷ accepted 2 1 16 ∷ shown nothing nothing nothing nothing (odd 78 10014000 1) nothing ∷ accepted 2 1 0 ∷ shown nothing nothing nothing nothing (odd 78 10014000 1) nothing ∷ [])
    -- make again: another n is 2 and changes nothing, the same n leaves no symbols, no lines and a closed day
    ∷ in_day
    (on_n 1 (plain 78 7 3 no_odd ∷ []) ∷ make 2 ∷ look ∷ make 1 ∷ look ∷ on_n 2 (plain 78 7 3 no_odd ∷ []) ∷ end_day ∷ add zt 100 78 ∷ look ∷ [])
    (accepted 2 1 3 ∷ only 2 ∷ besides nothing nothing ∷ only 0 ∷ only 10 ∷ only 21 ∷ only 12 ∷ only 0 ∷ none ∷ [])
    ∷ []

-- one for each row, in order
pub cases : Answered table
unfolding table answered
cases =
    refl  -- A
    ▹ refl ▹ refl ▹ refl ▹ refl ▹ refl  -- B, H, O, R, W
    ▹ refl ▹ refl  -- E, F
    ▹ refl ▹ refl ▹ refl  -- C, N, U
    ▹ refl  -- Q U's conditions
    ▹ refl  -- six entries
    ▹ refl  -- D
    ▹ refl  -- makers
    ▹ refl  -- sixteen
    ▹ refl  -- Close and Open
    ▹ refl  -- clear marks
    ▹ refl  -- 64 and the other side
    ▹ refl  -- zero shares
    ▹ refl  -- odd best
    ▹ refl  -- a block
    ▹ refl  -- days
    ▹ refl  -- make again
    ▹ end
