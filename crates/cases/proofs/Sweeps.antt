-- T-13, "Trying an order", sentence by sentence. Like `Shared`, rows of whole answers.
-- Assumes nothing.
use Prim.Native.Nat.{ℕ}
use mathlib.Core.Path.{refl}
use mathlib.Core.List.{List, [], ◌∷◌, ◌++◌}
use Rattle.calls.specs.Call.{Call, add, open_line, start_day, end_day, take, try_order}
use Rattle.cases.proofs.Rows.{quoted, item, round_lot, control, block, only, accepted, step, filled, zt, ab, round_of, no_odd, plain, levels, halt, trade, maker_of, on_n, on_p, on_d, buy, sell, Row, in_day, from_make, answered, Answered, end, ◌▹◌}

-- a line opened for a letter, and its first quote of ZT under R: time, bid and offer
abbrev quoting : ℕ → ℕ → ℕ → ℕ → ℕ → ℕ → ℕ → List Call → List Call
quoting line letter time b bs o os rest = open_line line letter ∷ take line (block 1 (round_of letter time 82 b bs o os no_odd ∷ [])) 180 ∷ rest

-- N's quote with this condition, then a lot to sell and one to buy
abbrev under : ℕ → ℕ → List Call → List Call
under sequence condition rest = on_n sequence (round_of 78 7 condition 10000000 3 10020000 2 no_odd ∷ []) ∷ sell 1 ∷ buy 1 ∷ rest

unfoldable pub table : List Row
table =
    -- "B buys at offers, S sells at bids"; as many lots as are wanted and shown; with no candidate no step, and all lots not found
    in_day
    (sell 1 ∷ buy 1000000 ∷ on_n 1 (plain 78 7 3 no_odd ∷ []) ∷ sell 1 ∷ sell 3 ∷ sell 4 ∷ buy 1 ∷ buy 2 ∷ buy 3 ∷ buy 1000000 ∷ [])
    (filled [] 1 ∷ filled [] 1000000 ∷ accepted 2 1 3 ∷ filled (step 78 10000000 1 ∷ []) 0 ∷ filled (step 78 10000000 3 ∷ []) 0 ∷ filled (step 78 10000000 3 ∷ []) 1
    ∷ filled (step 78 10020000 1 ∷ []) 0 ∷ filled (step 78 10020000 2 ∷ []) 0 ∷ filled (step 78 10020000 2 ∷ []) 1 ∷ filled (step 78 10020000 2 ∷ []) 999998 ∷ [])
    -- "in national order": price, larger size, earlier time, letter; "until none are wanted"
    ∷ in_day
    (on_n 1 (plain 78 7 3 no_odd ∷ []) ∷ on_p 1 (round_of 80 9 82 10000000 5 10020000 2 no_odd ∷ [])
    ∷ quoting 8 65 6 10000000 3 10020000 2 (quoting 9 66 7 10000000 3 10020000 2 (quoting 10 90 99 10010000 1 10010000 1
    (sell 1 ∷ sell 2 ∷ sell 7 ∷ sell 15 ∷ sell 16 ∷ buy 1 ∷ buy 4 ∷ buy 9 ∷ buy 10 ∷ []))))
    (accepted 2 1 3 ∷ accepted 2 1 3 ∷ only 0 ∷ accepted 2 1 2 ∷ only 0 ∷ accepted 2 1 0 ∷ only 0 ∷ accepted 2 1 3
    ∷ filled (step 90 10010000 1 ∷ []) 0
    ∷ filled (step 90 10010000 1 ∷ step 80 10000000 1 ∷ []) 0
    ∷ filled (step 90 10010000 1 ∷ step 80 10000000 5 ∷ step 65 10000000 1 ∷ []) 0
    ∷ filled (step 90 10010000 1 ∷ step 80 10000000 5 ∷ step 65 10000000 3 ∷ step 66 10000000 3 ∷ step 78 10000000 3 ∷ []) 0
    ∷ filled (step 90 10010000 1 ∷ step 80 10000000 5 ∷ step 65 10000000 3 ∷ step 66 10000000 3 ∷ step 78 10000000 3 ∷ []) 1
    ∷ filled (step 90 10010000 1 ∷ []) 0
    ∷ filled (step 90 10010000 1 ∷ step 65 10020000 2 ∷ step 66 10020000 1 ∷ []) 0
    ∷ filled (step 90 10010000 1 ∷ step 65 10020000 2 ∷ step 66 10020000 2 ∷ step 78 10020000 2 ∷ step 80 10020000 2 ∷ []) 0
    ∷ filled (step 90 10010000 1 ∷ step 65 10020000 2 ∷ step 66 10020000 2 ∷ step 78 10020000 2 ∷ step 80 10020000 2 ∷ []) 1 ∷ [])
    -- a resent quote keeps its place (T-02)
    ∷ in_day
    (on_n 1 (plain 78 7 3 no_odd ∷ []) ∷ on_p 1 (plain 80 8 3 no_odd ∷ []) ∷ on_n 2 (plain 78 9 3 no_odd ∷ []) ∷ sell 4 ∷ on_n 3 (plain 78 10 4 no_odd ∷ []) ∷ on_n 4 (plain 78 11 3 no_odd ∷ []) ∷ sell 4 ∷ [])
    (accepted 2 1 3 ∷ accepted 2 1 3 ∷ accepted 3 2 0 ∷ filled (step 78 10000000 3 ∷ step 80 10000000 1 ∷ []) 0
    ∷ accepted 4 3 1 ∷ accepted 5 4 1 ∷ filled (step 80 10000000 3 ∷ step 78 10000000 1 ∷ []) 0 ∷ [])
    -- "D stands with its FINRA best only": the size of that maker; under L none
    ∷ in_day
    (on_d 1 (maker_of 7 82 10000000 2 10020000 5 65 ∷ maker_of 7 82 10000000 3 10020000 1 66 ∷ maker_of 7 82 9990000 9 0 0 67 ∷ []) ∷ sell 10 ∷ buy 10
    ∷ on_n 1 (plain 78 7 3 no_odd ∷ []) ∷ sell 10 ∷ on_d 4 (control 67 68 ∷ []) ∷ sell 10 ∷ buy 1 ∷ [])
    ((0 ∷ 0 ∷ 4 ∷ 3 ∷ 3 ∷ 0 ∷ 0 ∷ 0 ∷ 0 ∷ 15 ∷ 0 ∷ 1 ∷ 0 ∷ 5 ∷ 0 ∷ 2 ∷ 0 ∷ 0 ∷ 0 ∷ []) ∷ filled (step 68 10000000 3 ∷ []) 7 ∷ filled (step 68 10020000 5 ∷ []) 5
    ∷ accepted 2 1 3 ∷ filled (step 68 10000000 3 ∷ step 78 10000000 3 ∷ []) 4 ∷ accepted 5 4 15 ∷ filled (step 78 10000000 3 ∷ []) 7 ∷ filled (step 78 10020000 1 ∷ []) 0 ∷ [])
    -- a side that does not count is no candidate: C, E, F, an indication
    ∷ in_day
    (under 1 67 (under 2 69 (under 3 70 (on_n 4 (round_of 78 7 82 10000000 0 10020000 0 no_odd ∷ []) ∷ sell 1 ∷ buy 1 ∷ []))))
    (accepted 2 1 0 ∷ filled [] 1 ∷ filled [] 1 ∷ accepted 3 2 2 ∷ filled [] 1 ∷ filled (step 78 10020000 1 ∷ []) 0
    ∷ accepted 4 3 3 ∷ filled (step 78 10000000 1 ∷ []) 0 ∷ filled [] 1 ∷ accepted 5 4 1 ∷ filled [] 1 ∷ filled [] 1 ∷ [])
    -- odd lots are none either
    ∷ in_day
    (on_n 1 (levels 32 1 1 (item 10000000 5 ++ item 10020000 5) ∷ []) ∷ sell 1 ∷ buy 1 ∷ [])
    (accepted 2 1 48 ∷ filled [] 1 ∷ filled [] 1 ∷ [])
    -- the largest sizes: nothing is summed past the order
    ∷ in_day
    (on_n 1 (round_of 78 7 82 18446744073709551615 4294967295 1 4294967295 no_odd ∷ []) ∷ on_p 1 (round_of 80 8 82 18446744073709551615 4294967295 1 4294967295 no_odd ∷ []) ∷ sell 1000000 ∷ buy 1000000 ∷ [])
    (accepted 2 1 3 ∷ accepted 2 1 3 ∷ filled (step 78 18446744073709551615 1000000 ∷ []) 0 ∷ filled (step 78 1 1000000 ∷ []) 0 ∷ [])
    -- each symbol by itself; no day need be open: before Start, after End; Start empties the quotes
    ∷ from_make 2
    (add zt 100 78 ∷ add ab 10 78 ∷ open_line 5 78 ∷ sell 1 ∷ start_day ∷ on_n 1 (plain 78 7 3 no_odd ∷ []) ∷ try_order ab 83 1 325
    ∷ on_n 2 (round_lot 78 7 (quoted ab 82 5000000 1 0 0) no_odd ∷ []) ∷ try_order ab 83 2 325 ∷ sell 1 ∷ end_day ∷ sell 1 ∷ buy 1 ∷ start_day ∷ sell 1 ∷ [])
    (only 0 ∷ only 0 ∷ only 0 ∷ filled [] 1 ∷ only 0 ∷ accepted 2 1 3 ∷ filled [] 1
    ∷ accepted 3 2 1 ∷ filled (step 78 5000000 1 ∷ []) 1 ∷ filled (step 78 10000000 1 ∷ []) 0
    ∷ only 0 ∷ filled (step 78 10000000 1 ∷ []) 0 ∷ filled (step 78 10020000 1 ∷ []) 0 ∷ only 0 ∷ filled [] 1 ∷ [])
    -- T-10, "A halted symbol fills nothing": no steps, all lots not found, behind 82 and 83 as ever; quotes go on being stored, and trading brings them back
    ∷ in_day
    (on_n 1 (plain 78 7 3 no_odd ∷ []) ∷ sell 1 ∷ on_n 2 (halt ∷ []) ∷ sell 1 ∷ buy 1000000 ∷ sell 0 ∷ try_order zt 66 1 324 ∷ on_n 3 (plain 78 8 4 no_odd ∷ []) ∷ sell 4 ∷ on_n 4 (trade ∷ []) ∷ sell 5 ∷ buy 2 ∷ [])
    (accepted 2 1 3 ∷ filled (step 78 10000000 1 ∷ []) 0 ∷ accepted 3 2 3 ∷ filled [] 1 ∷ filled [] 1000000 ∷ only 82 ∷ only 83 ∷ accepted 4 3 0 ∷ filled [] 4
    ∷ accepted 5 4 3 ∷ filled (step 78 10000000 4 ∷ []) 1 ∷ filled (step 78 10020000 2 ∷ []) 0 ∷ [])
    -- 10, then 74, then 82, then 83; a refusal carries no step and 0
    ∷ from_make 1
    (try_order [] 0 0 0 ∷ sell 1 ∷ add zt 100 78 ∷ try_order (90 ∷ 84 ∷ []) 88 0 0 ∷ try_order ab 83 1 325 ∷ try_order zt 0 0 0 ∷ try_order zt 65 1 325 ∷ try_order zt 67 1 325 ∷ try_order zt 82 1 325
    ∷ try_order zt 84 1 325 ∷ try_order zt 98 1 325 ∷ try_order zt 115 1 325 ∷ try_order zt 66 0 0 ∷ buy 0 ∷ buy 1000001 ∷ sell 1000001 ∷ sell 4294967297 ∷ try_order zt 83 1000001 0
    ∷ try_order zt 66 1 0 ∷ try_order zt 66 1 13 ∷ try_order zt 83 1000000 324 ∷ buy 1 ∷ try_order zt 83 1000000 326 ∷ [])
    (only 10 ∷ only 10 ∷ only 0 ∷ only 10 ∷ only 10 ∷ only 74 ∷ only 74 ∷ only 74 ∷ only 74
    ∷ only 74 ∷ only 74 ∷ only 74 ∷ only 82 ∷ only 82 ∷ only 82 ∷ only 82 ∷ only 82 ∷ only 82
    ∷ only 83 ∷ only 83 ∷ only 83 ∷ filled [] 1 ∷ filled [] 1000000 ∷ [])
    ∷ []

-- one for each row, in order
pub cases : Answered table
unfolding table answered
cases =
    refl  -- one letter
    ▹ refl  -- national order
    ▹ refl  -- a resent quote
    ▹ refl  -- D
    ▹ refl  -- what does not count
    ▹ refl  -- odd lots
    ▹ refl  -- the largest sizes
    ▹ refl  -- symbols and days
    ▹ refl  -- halted
    ▹ refl  -- 10, 74, 82, 83
    ▹ end
