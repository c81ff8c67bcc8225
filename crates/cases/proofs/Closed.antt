-- Odd lots of a closed venue (document 02, T-07), by computing: which levels rank after which quotes, and the flags that tell it.
-- Assumes nothing.
use Prim.Native.Nat.{ℕ}
use mathlib.Core.Path.{refl}
use mathlib.Core.List.{List, [], ◌∷◌, ◌++◌}
use Rattle.calls.specs.Call.{add, open_line, start_day, end_day, take, read}
use Rattle.cases.proofs.Rows.{quoted, odds, item, round_lot, odd_lot, maker, control, block, only, accepted, partly, rejected, entry, national, leading, odd, nothing, shown, none, zt, ab, round_of, no_odd, plain, levels_by, finra_lot, finra_levels, maker_of, standing, on_n, on_p, on_d, look, Row, in_day, from_make, answered, Answered, end, ◌▹◌}

-- an odd bid at 10.01 for 5 and an odd offer at 10.015 for 6; the same of P, further from the market
abbrev two : List ℕ
two = item 10010000 5 ++ item 10015000 6

abbrev further : List ℕ
further = item 10005000 1 ++ item 10018000 1

abbrev bid : List ℕ
bid = odd 78 10010000 5

abbrev offer : List ℕ
offer = odd 78 10015000 6

-- no national entry, no FINRA entry, and these odd entries
abbrev alone : List ℕ → List ℕ → List ℕ
alone b o = shown nothing nothing nothing nothing b o

-- N's plain quote under R, and these odd entries
abbrev besides : List ℕ → List ℕ → List ℕ
besides b o = shown (national 78 82 10000000 3) (national 78 82 10020000 2) nothing nothing b o

-- N's levels stand without a quote; then a quote of N's, 0 and 0, under this condition
abbrev condition : ℕ → ℕ → List ℕ → List ℕ → Row
condition c flags b o =
    in_day
    (on_n 1 (levels_by 78 8 32 1 1 two ∷ []) ∷ look ∷ on_n 2 (round_of 78 9 c 0 0 0 0 no_odd ∷ []) ∷ look ∷ [])
    (accepted 2 1 48 ∷ alone bid offer ∷ accepted 3 2 flags ∷ alone b o ∷ [])

-- the same two of letter D, in ZT and in AB
abbrev finra : List ℕ
finra = finra_levels 68 8 32 1 1 two

abbrev finra_ab : List ℕ
finra_ab = finra_lot 68 8 ab (odds 32 1 1 (0 ∷ 0 ∷ []) two)

abbrev d_bid : List ℕ
d_bid = odd 68 10010000 5

abbrev d_offer : List ℕ
d_offer = odd 68 10015000 6

-- a quote of a maker in AB: bid and offer
abbrev maker_ab : ℕ → ℕ → ℕ → ℕ → List ℕ
maker_ab b bs o os = maker 68 7 (quoted ab 82 b bs o os) (65 ∷ 32 ∷ 32 ∷ 32 ∷ [])

-- a maker's entry
abbrev by : ℕ → ℕ → ℕ → List ℕ
by name price size = entry name 32 32 32 price size

-- D leads with this maker's bid of 10.00 for 3 and offer of 10.02 for 2, and these odd entries
abbrev led : ℕ → List ℕ → List ℕ → List ℕ
led name b o = shown (national 68 82 10000000 3) (national 68 82 10020000 2) (by name 10000000 3) (by name 10020000 2) b o

-- N leads with 10.00 for 3 and 10.02 for 2, a FINRA bid or a FINRA offer behind it by price; an odd lot of that side
abbrev behind_bid : List ℕ → List ℕ → List ℕ
behind_bid fb b = shown (leading 80 78 82 10000000 3) (national 78 82 10020000 2) fb nothing b nothing

abbrev behind_offer : List ℕ → List ℕ → List ℕ
behind_offer fo o = shown (national 78 82 10000000 3) (leading 80 78 82 10020000 2) nothing fo nothing o

-- N's plain quote under a condition, with an odd part
abbrev under : ℕ → List ℕ → List ℕ
under c o = round_of 78 9 c 10000000 3 10020000 2 o

unfoldable pub table : List Row
table =
    -- A, B, H, O, R, W admit both sides, whatever price and size the quote shows; E hides the odd bids, F the odd offers, C, N and U both
    condition 65 0 bid offer ∷ condition 66 0 bid offer ∷ condition 72 0 bid offer
    ∷ condition 79 0 bid offer ∷ condition 82 0 bid offer ∷ condition 87 0 bid offer
    ∷ condition 69 16 nothing offer ∷ condition 70 32 bid nothing
    ∷ condition 67 48 nothing nothing ∷ condition 78 48 nothing nothing ∷ condition 85 48 nothing nothing
    -- an indication under R admits; under U the same prices hide
    ∷ in_day
    (on_n 1 (levels_by 78 8 32 1 1 two ∷ []) ∷ on_n 2 (round_of 78 9 82 9000000 0 11000000 0 no_odd ∷ []) ∷ look ∷ on_n 3 (round_of 78 9 85 9000000 0 11000000 0 no_odd ∷ []) ∷ look ∷ [])
    (accepted 2 1 48 ∷ accepted 3 2 0 ∷ alone bid offer ∷ accepted 4 3 48 ∷ alone nothing nothing ∷ [])
    -- a closing quote takes its letter out of the race and hides its levels, so that P's lead; the next quote brings them back
    ∷ in_day
    (on_n 1 (under 82 (odds 32 1 1 (0 ∷ []) two) ∷ []) ∷ on_p 1 (levels_by 80 8 32 1 1 further ∷ []) ∷ look ∷ on_n 2 (under 67 no_odd ∷ []) ∷ look ∷ on_n 3 (under 82 no_odd ∷ []) ∷ look ∷ [])
    (accepted 2 1 51 ∷ accepted 2 1 0 ∷ besides bid offer ∷ accepted 3 2 51 ∷ alone (odd 80 10005000 1) (odd 80 10018000 1) ∷ accepted 4 3 51 ∷ besides bid offer ∷ [])
    -- the items in the same Q K go by its own condition: hidden under C, the offer alone under E, both under A
    ∷ in_day
    (on_n 1 (under 82 no_odd ∷ []) ∷ on_n 2 (under 67 (odds 32 1 1 (0 ∷ []) two) ∷ []) ∷ look
    ∷ on_n 3 (under 69 (odds 88 1 1 (0 ∷ []) (item 10011000 7 ++ item 10014000 8)) ∷ []) ∷ look ∷ on_n 4 (under 65 (odds 88 1 1 (0 ∷ []) two) ∷ []) ∷ look ∷ [])
    (accepted 2 1 3 ∷ accepted 3 2 3 ∷ alone nothing nothing ∷ accepted 4 3 34 ∷ shown nothing (national 78 69 10020000 2) nothing nothing nothing (odd 78 10014000 8)
    ∷ accepted 5 4 51 ∷ shown (national 78 65 10000000 3) (national 78 65 10020000 2) nothing nothing bid offer ∷ [])
    -- items on a closed venue are stored, replaced, removed and cleared by the old rules, and seen when it opens
    ∷ in_day
    (on_n 1 (under 67 no_odd ∷ []) ∷ on_n 2 (levels_by 78 8 32 2 1 (item 10012000 1 ++ (item 10010000 1 ++ item 10015000 1)) ∷ [])
    ∷ on_n 3 (levels_by 78 8 32 2 0 (item 10012000 0 ++ item 10010000 5) ∷ []) ∷ on_n 4 (levels_by 78 8 83 0 1 (item 10015000 6) ∷ []) ∷ look ∷ on_n 5 (under 82 no_odd ∷ []) ∷ look ∷ [])
    (accepted 2 1 0 ∷ accepted 3 2 0 ∷ accepted 4 3 0 ∷ accepted 5 4 0 ∷ alone nothing nothing ∷ accepted 6 5 51 ∷ besides bid offer ∷ [])
    -- 64 while hidden: four levels stand though none ranks; a partly accepted Q K is the latest round quote
    ∷ in_day
    (on_n 1 (under 67 (odds 32 4 0 (0 ∷ []) (item 10006000 1 ++ (item 10007000 1 ++ (item 10008000 1 ++ item 10010000 5)))) ∷ []) ∷ on_n 2 (levels_by 78 8 32 1 0 (item 10011000 1) ∷ [])
    ∷ on_n 3 (under 82 (odds 32 1 0 (0 ∷ []) (item 10011000 1)) ∷ []) ∷ look ∷ on_n 4 (under 78 (odds 32 1 0 (0 ∷ []) (item 10011000 1)) ∷ []) ∷ look ∷ [])
    (accepted 2 1 0 ∷ rejected 3 2 64 ∷ partly 4 3 64 19 ∷ besides bid nothing ∷ partly 5 4 64 19 ∷ alone nothing nothing ∷ [])
    -- a rejected quote hides nothing: 46, 47, 41
    ∷ in_day
    (on_n 1 (levels_by 78 8 32 1 1 two ∷ []) ∷ on_n 2 (round_of 78 9 76 0 0 0 0 no_odd ∷ []) ∷ on_n 3 (round_of 78 9 67 0 1 0 0 no_odd ∷ []) ∷ on_p 1 (round_of 78 9 67 0 0 0 0 no_odd ∷ []) ∷ look ∷ [])
    (accepted 2 1 48 ∷ rejected 3 2 46 ∷ rejected 4 3 47 ∷ rejected 2 1 41 ∷ alone bid offer ∷ [])
    -- each letter by its own quote: P's closing quote hides none of N's
    ∷ in_day
    (on_n 1 (levels_by 78 8 32 1 1 two ∷ []) ∷ on_p 1 (levels_by 80 8 32 1 1 further ∷ []) ∷ on_p 2 (round_of 80 9 67 0 0 0 0 no_odd ∷ []) ∷ look ∷ on_n 2 (round_of 78 9 67 0 0 0 0 no_odd ∷ []) ∷ look ∷ [])
    (accepted 2 1 48 ∷ accepted 2 1 0 ∷ accepted 3 2 0 ∷ alone bid offer ∷ accepted 3 2 48 ∷ alone nothing nothing ∷ [])
    -- each symbol by itself
    ∷ from_make 2
    (add zt 100 78 ∷ add ab 100 78 ∷ open_line 5 78 ∷ start_day ∷ on_n 1 (levels_by 78 8 32 1 1 two ∷ []) ∷ on_n 2 (odd_lot 78 8 ab (odds 32 1 1 (0 ∷ 0 ∷ []) two) ∷ [])
    ∷ on_n 3 (round_lot 78 9 (quoted ab 67 0 0 0 0) no_odd ∷ []) ∷ look ∷ read ab 96 ∷ [])
    (only 0 ∷ only 0 ∷ only 0 ∷ only 0 ∷ accepted 2 1 48 ∷ accepted 3 2 48 ∷ accepted 4 3 48 ∷ alone bid offer ∷ alone nothing nothing ∷ [])
    -- the latest quote by its place, not by its time; on another line of the letter too
    ∷ in_day
    (open_line 8 78 ∷ on_n 1 (levels_by 78 8 32 1 1 two ∷ []) ∷ on_n 2 (round_of 78 9 82 0 0 0 0 no_odd ∷ []) ∷ take 8 (block 1 (round_of 78 5 67 0 0 0 0 no_odd ∷ [])) 180 ∷ look ∷ [])
    (only 0 ∷ accepted 2 1 48 ∷ accepted 3 2 0 ∷ accepted 2 1 48 ∷ alone nothing nothing ∷ [])
    -- End of Day keeps the closing quote; Start of Day forgets it, and the levels of a letter without a round quote rank
    ∷ in_day
    (on_n 1 (under 67 (odds 32 1 1 (0 ∷ []) two) ∷ []) ∷ end_day ∷ look ∷ start_day ∷ on_n 1 (levels_by 78 8 32 1 1 two ∷ []) ∷ look ∷ [])
    (accepted 2 1 0 ∷ only 0 ∷ alone nothing nothing ∷ only 0 ∷ accepted 2 1 48 ∷ alone bid offer ∷ [])
    -- D's makers and FINRA Close hide no other letter's levels
    ∷ in_day
    (on_n 1 (levels_by 78 8 32 1 1 two ∷ []) ∷ on_d 1 (standing 7 3 65 ∷ []) ∷ on_d 2 (control 67 68 ∷ []) ∷ look ∷ [])
    (accepted 2 1 48 ∷ accepted 2 1 15 ∷ accepted 3 2 15 ∷ alone bid offer ∷ [])
    -- D's levels with no maker are stored and do not rank; they do with the Q U that gives the FINRA best that side: both, the bid alone, the offer alone
    ∷ in_day
    (on_d 1 (finra ∷ []) ∷ look ∷ on_d 2 (standing 7 3 65 ∷ []) ∷ look ∷ on_d 3 (maker_of 7 82 10000000 3 0 0 65 ∷ []) ∷ look ∷ on_d 4 (maker_of 7 82 0 0 10020000 2 65 ∷ []) ∷ look ∷ [])
    (accepted 2 1 0 ∷ none ∷ accepted 3 2 63 ∷ led 65 d_bid d_offer ∷ accepted 4 3 42 ∷ shown (national 68 82 10000000 3) nothing (by 65 10000000 3) nothing d_bid nothing
    ∷ accepted 5 4 63 ∷ shown nothing (national 68 82 10020000 2) nothing (by 65 10020000 2) nothing d_offer ∷ [])
    ∷ in_day
    (on_d 1 (finra ∷ []) ∷ on_d 2 (maker_of 7 82 10000000 3 0 0 65 ∷ []) ∷ on_d 3 (standing 7 3 65 ∷ []) ∷ [])
    (accepted 2 1 0 ∷ accepted 3 2 21 ∷ accepted 4 3 42 ∷ [])
    -- an empty Q U hides them while no other maker has that side
    ∷ in_day
    (on_d 1 (standing 7 3 65 ∷ []) ∷ on_d 2 (finra ∷ []) ∷ on_d 3 (maker_of 7 82 9990000 1 0 0 66 ∷ []) ∷ on_d 4 (maker_of 7 82 0 0 0 0 65 ∷ []) ∷ look ∷ on_d 5 (maker_of 7 82 0 0 0 0 66 ∷ []) ∷ look ∷ [])
    (accepted 2 1 15 ∷ accepted 3 2 48 ∷ accepted 4 3 0 ∷ accepted 5 4 47 ∷ shown (national 68 82 9990000 1) nothing (by 66 9990000 1) nothing d_bid nothing ∷ accepted 6 5 21 ∷ none ∷ [])
    -- an indication does not show them, nor a maker under L until FINRA Open
    ∷ in_day
    (on_d 1 (finra ∷ []) ∷ on_d 2 (maker_of 7 82 10000000 0 10020000 0 65 ∷ []) ∷ on_d 3 (maker_of 7 76 10000000 3 10020000 2 66 ∷ []) ∷ look ∷ on_d 4 (control 79 68 ∷ []) ∷ look ∷ [])
    (accepted 2 1 0 ∷ accepted 3 2 0 ∷ accepted 4 3 0 ∷ none ∷ accepted 5 4 63 ∷ led 66 d_bid d_offer ∷ [])
    -- another letter's national best does not show them; a FINRA bid behind it does
    ∷ in_day
    (on_d 1 (finra ∷ []) ∷ on_n 1 (plain 78 7 3 no_odd ∷ []) ∷ look ∷ on_d 2 (maker_of 7 82 9000000 1 0 0 65 ∷ []) ∷ look ∷ on_d 3 (control 67 68 ∷ []) ∷ look ∷ [])
    (accepted 2 1 0 ∷ accepted 2 1 3 ∷ besides nothing nothing ∷ accepted 3 2 21 ∷ behind_bid (by 65 9000000 1) d_bid ∷ accepted 4 3 21 ∷ besides nothing nothing ∷ [])
    -- FINRA Close and Open in several symbols: the odd bid of ZT, where a maker bids, and the odd offer of AB, where one offers; before it, AB's alone
    ∷ from_make 2
    (add zt 100 78 ∷ add ab 100 78 ∷ open_line 5 78 ∷ open_line 7 68 ∷ start_day ∷ on_n 1 (plain 78 7 3 no_odd ∷ []) ∷ on_n 2 (round_lot 78 7 (quoted ab 82 10000000 3 10020000 2) no_odd ∷ [])
    ∷ on_d 1 (finra ∷ []) ∷ on_d 2 (finra_ab ∷ []) ∷ on_d 3 (maker_ab 0 0 10030000 1 ∷ []) ∷ on_d 4 (control 67 68 ∷ []) ∷ on_d 5 (control 79 68 ∷ []) ∷ look ∷ read ab 96
    ∷ on_d 6 (maker_of 7 82 9990000 1 0 0 65 ∷ []) ∷ on_d 7 (control 67 68 ∷ []) ∷ look ∷ read ab 96 ∷ on_d 8 (control 79 68 ∷ []) ∷ look ∷ read ab 96 ∷ [])
    (only 0 ∷ only 0 ∷ only 0 ∷ only 0 ∷ only 0 ∷ accepted 2 1 3 ∷ accepted 3 2 3
    ∷ accepted 2 1 0 ∷ accepted 3 2 0 ∷ accepted 4 3 42 ∷ accepted 5 4 42 ∷ accepted 6 5 42 ∷ besides nothing nothing ∷ behind_offer (by 65 10030000 1) d_offer
    ∷ accepted 7 6 21 ∷ accepted 8 7 63 ∷ besides nothing nothing ∷ besides nothing nothing
    ∷ accepted 9 8 63 ∷ behind_bid (by 65 9990000 1) d_bid ∷ behind_offer (by 65 10030000 1) d_offer ∷ [])
    -- 64 while D's are hidden; they are removed, replaced and cleared by the old rules
    ∷ in_day
    (on_d 1 (finra_levels 68 8 32 4 1 (item 10006000 1 ++ (item 10007000 1 ++ (item 10008000 1 ++ (item 10010000 1 ++ item 10014000 1)))) ∷ []) ∷ on_d 2 (finra_levels 68 8 32 1 0 (item 10011000 1) ∷ [])
    ∷ on_d 3 (finra_levels 68 8 83 2 1 (item 10008000 0 ++ (item 10010000 5 ++ item 10015000 6)) ∷ []) ∷ look ∷ on_d 4 (standing 7 3 65 ∷ []) ∷ look ∷ [])
    (accepted 2 1 0 ∷ rejected 3 2 64 ∷ accepted 4 3 0 ∷ none ∷ accepted 5 4 63 ∷ led 65 d_bid d_offer ∷ [])
    -- beside N's levels, which D's lead by shares: N's are the best while D's do not rank
    ∷ in_day
    (on_n 1 (levels_by 78 8 32 1 1 two ∷ []) ∷ on_d 1 (finra_levels 68 8 32 1 1 (item 10010000 7 ++ item 10015000 7) ∷ []) ∷ look ∷ on_d 2 (standing 7 3 65 ∷ []) ∷ look ∷ on_d 3 (control 67 68 ∷ []) ∷ look ∷ [])
    (accepted 2 1 48 ∷ accepted 2 1 0 ∷ alone bid offer ∷ accepted 3 2 63 ∷ led 65 (odd 68 10010000 7) (odd 68 10015000 7) ∷ accepted 4 3 63 ∷ alone bid offer ∷ [])
    -- End of Day keeps makers and levels; Start of Day empties both: D's new levels do not rank until a maker quotes
    ∷ in_day
    (on_d 1 (standing 7 3 65 ∷ []) ∷ on_d 2 (finra ∷ []) ∷ end_day ∷ look ∷ start_day ∷ on_d 1 (finra ∷ []) ∷ look ∷ on_d 2 (standing 7 3 65 ∷ []) ∷ look ∷ [])
    (accepted 2 1 15 ∷ accepted 3 2 48 ∷ only 0 ∷ led 65 d_bid d_offer ∷ only 0 ∷ accepted 2 1 0 ∷ none ∷ accepted 3 2 63 ∷ led 65 d_bid d_offer ∷ [])
    ∷ []

-- one for each row, in order
pub cases : Answered table
unfolding table answered
cases =
    refl  -- A
    ▹ refl ▹ refl ▹ refl ▹ refl ▹ refl  -- B, H, O, R, W
    ▹ refl ▹ refl  -- E, F
    ▹ refl ▹ refl ▹ refl  -- C, N, U
    ▹ refl  -- an indication
    ▹ refl  -- closed and back
    ▹ refl  -- items in the same Q K
    ▹ refl  -- items while closed
    ▹ refl  -- 64 while hidden
    ▹ refl  -- rejected quotes
    ▹ refl  -- letters apart
    ▹ refl  -- symbols apart
    ▹ refl  -- the latest quote
    ▹ refl  -- days
    ▹ refl  -- D's makers and other letters
    ▹ refl ▹ refl  -- D's levels by the sides of its FINRA best
    ▹ refl  -- an empty Q U
    ▹ refl  -- an indication, a maker under L
    ▹ refl  -- another letter's national best
    ▹ refl  -- FINRA Close and Open
    ▹ refl  -- 64 while D's are hidden
    ▹ refl  -- beside N's
    ▹ refl  -- D's days
    ▹ end
