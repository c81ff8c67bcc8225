-- T-05's sentences (document 02): FINRA's odd lots, type Q T on D's line. Like `Shared`, rows of whole answers.
-- Assumes nothing.
use Prim.Native.Nat.{ℕ}
use mathlib.Core.Path.{refl}
use mathlib.Core.List.{List, [], ◌∷◌, ◌++◌}
use lib.ListN.{replicate, set}
use Rattle.calls.specs.Call.{add, open_line, start_day, end_day, take, read}
use Rattle.cases.proofs.Rows.{quoted, odds, item, maker, control, block, only, accepted, rejected, entry, national, odd, nothing, shown, none, zt, ab, no_odd, plain, levels_by, finra_lot, finra_levels, maker_of, on_n, on_d, look, Row, in_day, from_make, answered, Answered, end, ◌▹◌}

-- a Q T by D at 8
abbrev finra : ℕ → ℕ → ℕ → List ℕ → List ℕ
finra mark bids offers items = finra_levels 68 8 mark bids offers items

abbrev four_bids : List ℕ
four_bids = item 9000000 1 ++ (item 9001000 2 ++ (item 9002000 3 ++ item 9003000 4))

-- maker A bids 8.00 for a lot and offers at 9.10 for a lot, so that D's levels rank (T-07); its entries, and these odd entries
abbrev far : List ℕ
far = maker_of 7 82 8000000 1 9100000 1 65

abbrev besides : List ℕ → List ℕ → List ℕ
besides bid offer = shown (national 68 82 8000000 1) (national 68 82 9100000 1) (entry 65 32 32 32 8000000 1) (entry 65 32 32 32 9100000 1) bid offer

-- A's bid alone, and this odd bid
abbrev bidding : ℕ → ℕ → List ℕ → List ℕ
bidding price lots bid = shown (national 68 82 price lots) nothing (entry 65 32 32 32 price lots) nothing bid nothing

unfoldable pub table : List Row
table =
    -- "FINRA starts to send odd lots in type Q T, with the layout of Q M, on D's line. They stand as levels of letter D."
    in_day
    (on_d 1 (far ∷ []) ∷ on_d 2 (finra 32 1 1 (item 9000000 5 ++ item 9050000 6) ∷ []) ∷ look ∷ [])
    (accepted 2 1 15 ∷ accepted 3 2 48 ∷ besides (odd 68 9000000 5) (odd 68 9050000 6) ∷ [])
    -- "44 now also covers Q T off D's line": behind 41, 42 and 43, before 45 and 60. "Q M on D's line keeps 44", and so does Q K
    ∷ in_day
    (on_n 1 (finra_levels 78 8 32 1 0 (item 9000000 5) ∷ []) ∷ on_n 2 (finra 32 1 0 (item 9000000 5) ∷ []) ∷ on_n 3 (finra_levels 78 8 32 2 0 (item 9000000 5) ∷ [])
    ∷ on_n 4 (set (finra_levels 78 8 32 1 0 (item 9000000 5)) 35 1 ∷ []) ∷ on_n 5 (set (finra_levels 78 8 65 0 0 []) 20 89 ∷ [])
    ∷ on_d 1 (levels_by 68 8 32 1 0 (item 9000000 5) ∷ []) ∷ on_d 2 (plain 68 7 3 no_odd ∷ []) ∷ look ∷ [])
    (rejected 2 1 44 ∷ rejected 3 2 41 ∷ rejected 4 3 42
    ∷ rejected 5 4 43 ∷ rejected 6 5 44
    ∷ rejected 2 1 44 ∷ rejected 3 2 44 ∷ none ∷ [])
    -- "on it Q T is judged as Q M is elsewhere": 42, 43 of bytes 3, 34 and 35, 45 of a symbol that is not listed or malformed, before 60
    ∷ in_day
    (on_d 1 ((finra 32 0 0 [] ++ (0 ∷ [])) ∷ []) ∷ on_d 2 (finra 32 0 1 [] ∷ []) ∷ on_d 3 (set (finra 32 0 0 []) 3 1 ∷ []) ∷ on_d 4 (set (finra 32 0 0 []) 34 1 ∷ [])
    ∷ on_d 5 (set (finra 32 0 0 []) 35 1 ∷ []) ∷ on_d 6 (set (finra 65 0 0 []) 20 89 ∷ []) ∷ on_d 7 (set (finra 65 0 0 []) 20 33 ∷ []) ∷ on_d 8 (finra 32 0 0 [] ∷ []) ∷ [])
    (rejected 2 1 42 ∷ rejected 3 2 42 ∷ rejected 4 3 43 ∷ rejected 5 4 43
    ∷ rejected 6 5 43 ∷ rejected 7 6 45 ∷ rejected 8 7 45 ∷ accepted 9 8 0 ∷ [])
    -- 60 to 64 reject it, never in part: the four bids and the offer stand, whatever it clears
    ∷ in_day
    (on_d 1 (far ∷ []) ∷ on_d 2 (finra 32 4 1 (four_bids ++ item 9050000 6) ∷ []) ∷ on_d 3 (finra 65 0 0 [] ∷ []) ∷ on_d 4 (finra 66 5 0 (replicate 60 0) ∷ []) ∷ on_d 5 (finra 88 1 0 (item 0 1) ∷ [])
    ∷ on_d 6 (finra 88 0 1 (item 7 100) ∷ []) ∷ on_d 7 (finra 83 1 0 (item 9004000 1) ∷ []) ∷ look ∷ on_d 8 (finra 32 2 0 (item 9000000 0 ++ item 9004000 1) ∷ []) ∷ look ∷ on_d 9 (finra 88 0 0 [] ∷ []) ∷ look ∷ [])
    (accepted 2 1 15 ∷ accepted 3 2 48 ∷ rejected 4 3 60 ∷ rejected 5 4 61 ∷ rejected 6 5 62
    ∷ rejected 7 6 63 ∷ rejected 8 7 64 ∷ besides (odd 68 9003000 4) (odd 68 9050000 6) ∷ accepted 9 8 16 ∷ besides (odd 68 9004000 1) (odd 68 9050000 6) ∷ accepted 10 9 48 ∷ besides nothing nothing ∷ [])
    -- ranked with letter D among the others: a tie goes to D before N; then by time, shares and price
    ∷ in_day
    (on_d 1 (far ∷ []) ∷ on_n 1 (levels_by 78 8 32 1 0 (item 9000000 5) ∷ []) ∷ on_d 2 (finra 32 1 0 (item 9000000 5) ∷ []) ∷ look ∷ on_n 2 (levels_by 78 7 32 1 0 (item 9000000 5) ∷ []) ∷ look
    ∷ on_d 3 (finra 32 1 0 (item 9000000 6) ∷ []) ∷ look ∷ on_n 3 (levels_by 78 9 32 1 0 (item 9000001 1) ∷ []) ∷ look ∷ [])
    (accepted 2 1 15 ∷ accepted 2 1 16 ∷ accepted 3 2 16 ∷ besides (odd 68 9000000 5) nothing ∷ accepted 3 2 16 ∷ besides (odd 78 9000000 5) nothing
    ∷ accepted 4 3 16 ∷ besides (odd 68 9000000 6) nothing ∷ accepted 4 3 16 ∷ besides (odd 78 9000001 1) nothing ∷ [])
    -- judged against the national price, which may be D's own FINRA best; Close, Open and an empty Q U leave the level
    ∷ in_day
    (on_d 1 (finra 32 1 0 (item 10000000 5) ∷ []) ∷ on_d 2 (maker_of 7 82 10000000 3 0 0 65 ∷ []) ∷ look ∷ on_d 3 (maker_of 7 82 9990000 3 0 0 65 ∷ []) ∷ look
    ∷ on_d 4 (control 67 68 ∷ []) ∷ on_d 5 (control 79 68 ∷ []) ∷ look ∷ on_d 6 (maker_of 7 82 0 0 0 0 65 ∷ []) ∷ on_d 7 (maker_of 7 82 9980000 3 0 0 65 ∷ []) ∷ look ∷ [])
    (accepted 2 1 0 ∷ accepted 3 2 5 ∷ bidding 10000000 3 nothing ∷ accepted 4 3 21 ∷ bidding 9990000 3 (odd 68 10000000 5)
    ∷ accepted 5 4 21 ∷ accepted 6 5 21 ∷ bidding 9990000 3 (odd 68 10000000 5) ∷ accepted 7 6 21 ∷ accepted 8 7 21 ∷ bidding 9980000 3 (odd 68 10000000 5) ∷ [])
    -- End of Day keeps them, Start of Day empties them
    ∷ in_day
    (on_d 1 (far ∷ []) ∷ on_d 2 (finra 32 4 0 four_bids ∷ []) ∷ end_day ∷ look ∷ start_day ∷ on_d 1 (far ∷ []) ∷ look ∷ on_d 2 (finra 32 1 0 (item 9004000 5) ∷ []) ∷ look ∷ [])
    (accepted 2 1 15 ∷ accepted 3 2 16 ∷ only 0 ∷ besides (odd 68 9003000 4) nothing ∷ only 0 ∷ accepted 2 1 15 ∷ besides nothing nothing ∷ accepted 3 2 16 ∷ besides (odd 68 9004000 5) nothing ∷ [])
    -- it names its symbol, and goes by that symbol's round lot; every line of letter D is D's line
    ∷ from_make 2
    (add zt 100 78 ∷ add ab 10 78 ∷ open_line 7 68 ∷ open_line 8 68 ∷ start_day ∷ on_d 1 (finra_lot 68 8 ab (odds 32 1 0 (0 ∷ 0 ∷ []) (item 7 10)) ∷ [])
    ∷ on_d 2 (maker 68 7 (quoted ab 82 5 1 0 0) (65 ∷ 32 ∷ 32 ∷ 32 ∷ []) ∷ []) ∷ on_d 3 (finra_lot 68 8 ab (odds 32 1 0 (0 ∷ 0 ∷ []) (item 7 9)) ∷ []) ∷ look ∷ read ab 96
    ∷ on_d 4 (far ∷ []) ∷ take 8 (block 1 (finra 32 4 0 four_bids ∷ [])) 180 ∷ on_d 5 (finra 32 1 0 (item 9004000 1) ∷ []) ∷ [])
    (only 0 ∷ only 0 ∷ only 0 ∷ only 0 ∷ only 0 ∷ rejected 2 1 63
    ∷ accepted 3 2 5 ∷ accepted 4 3 16 ∷ none ∷ bidding 5 1 (odd 68 7 9)
    ∷ accepted 5 4 15 ∷ accepted 2 1 16 ∷ rejected 6 5 64 ∷ [])
    ∷ []

-- one for each row, in order
pub cases : Answered table
unfolding table answered
cases =
    refl  -- levels of letter D
    ▹ refl  -- 44
    ▹ refl  -- 42, 43, 45
    ▹ refl  -- 60 to 64
    ▹ refl  -- ranked
    ▹ refl  -- the national price
    ▹ refl  -- days
    ▹ refl  -- symbols and lines
    ▹ end
