-- T-06, "Is this price protected?", sentence by sentence. Like `Shared`, rows of whole answers.
-- Assumes nothing.
use Prim.Native.Nat.{ℕ}
use mathlib.Core.Path.{refl}
use mathlib.Core.List.{List, [], ◌∷◌, ◌++◌}
use lib.ListN.{replicate}
use Rattle.calls.specs.Call.{Call, add, open_line, start_day, end_day, take, protected}
use Rattle.cases.proofs.Rows.{quoted, item, round_lot, control, block, only, accepted, yes, no, zt, ab, round_of, no_odd, plain, levels, maker_of, standing, on_n, on_p, on_d, bid_at, offer_at, Row, in_day, from_make, answered, Answered, end, ◌▹◌}

-- a line opened for a letter, and its first quote of ZT: 10.00 for 3, 10.02 for 2
abbrev quoting : ℕ → ℕ → List Call → List Call
quoting line letter rest = open_line line letter ∷ take line (block 1 (plain letter 7 3 no_odd ∷ [])) 180 ∷ rest

-- N's quote with this condition, then ten dollars and two cents asked of both sides
abbrev under : ℕ → ℕ → List Call → List Call
under sequence condition rest = on_n sequence (round_of 78 7 condition 10000000 3 10020000 2 no_odd ∷ []) ∷ bid_at 10000000 ∷ offer_at 10020000 ∷ rest

unfoldable pub table : List Row
table =
    -- a bid at or above the price, an offer at or below it
    in_day
    (bid_at 1 ∷ offer_at 18446744073709551615 ∷ on_n 1 (plain 78 7 3 no_odd ∷ []) ∷ bid_at 9999999 ∷ bid_at 10000000 ∷ bid_at 10000001 ∷ offer_at 10019999 ∷ offer_at 10020000 ∷ offer_at 10020001
    ∷ bid_at 18446744073709551615 ∷ offer_at 18446744073709551615 ∷ [])
    (no ∷ no ∷ accepted 2 1 3 ∷ yes 14 ∷ yes 14 ∷ no ∷ no ∷ yes 14 ∷ yes 14 ∷ no ∷ yes 14 ∷ [])
    -- the first letter from A that answers yes, not the leader
    ∷ in_day
    (quoting 8 65 (on_n 1 (round_of 78 7 82 10010000 9 10010000 9 no_odd ∷ []) ∷ on_p 1 (round_of 80 7 82 10015000 9 10005000 9 no_odd ∷ [])
    ∷ bid_at 10000000 ∷ bid_at 10000001 ∷ bid_at 10010001 ∷ bid_at 10015001 ∷ offer_at 10020000 ∷ offer_at 10019999 ∷ offer_at 10009999 ∷ offer_at 10004999 ∷ []))
    (only 0 ∷ accepted 2 1 3 ∷ accepted 2 1 3 ∷ accepted 2 1 3
    ∷ yes 1 ∷ yes 14 ∷ yes 16 ∷ no ∷ yes 1 ∷ yes 14 ∷ yes 16 ∷ no ∷ [])
    -- positions among A to Z: S is counted, and Z and no carry the same 26
    ∷ in_day
    (quoting 10 90 (bid_at 10000000 ∷ bid_at 10000001 ∷ quoting 11 84 (bid_at 10000000 ∷ quoting 12 82 (offer_at 10020000 ∷ quoting 13 69 (bid_at 10000000
    ∷ on_d 1 (standing 7 3 65 ∷ []) ∷ bid_at 10000000 ∷ offer_at 10020000 ∷ quoting 14 67 (offer_at 10020000 ∷ quoting 15 66 (bid_at 10000000 ∷ [])))))))
    (only 0 ∷ accepted 2 1 3 ∷ yes 26 ∷ no ∷ only 0 ∷ accepted 2 1 3 ∷ yes 20 ∷ only 0 ∷ accepted 2 1 3 ∷ yes 18 ∷ only 0 ∷ accepted 2 1 3 ∷ yes 5
    ∷ accepted 2 1 15 ∷ yes 4 ∷ yes 4 ∷ only 0 ∷ accepted 2 1 3 ∷ yes 3 ∷ only 0 ∷ accepted 2 1 3 ∷ yes 2 ∷ [])
    -- D with its FINRA best: an indication and L are none, FINRA Close and Open, a freed maker
    ∷ in_day
    (on_d 1 (maker_of 7 82 10000000 1 0 0 65 ∷ maker_of 7 82 10010000 1 0 0 66 ∷ maker_of 7 82 10020000 0 10030000 1 67 ∷ maker_of 7 76 10030000 1 10010000 1 68 ∷ [])
    ∷ bid_at 10000000 ∷ bid_at 10010000 ∷ bid_at 10010001 ∷ offer_at 10029999 ∷ offer_at 10030000
    ∷ on_d 5 (control 67 68 ∷ []) ∷ bid_at 0 ∷ offer_at 10030000 ∷ on_d 6 (control 79 68 ∷ []) ∷ bid_at 10030000 ∷ offer_at 10010000
    ∷ on_d 7 (maker_of 7 82 0 0 0 0 68 ∷ []) ∷ bid_at 10010001 ∷ bid_at 10010000 ∷ [])
    ((0 ∷ 0 ∷ 5 ∷ 4 ∷ 4 ∷ 0 ∷ 0 ∷ 0 ∷ 0 ∷ 5 ∷ 0 ∷ 1 ∷ 0 ∷ 5 ∷ 0 ∷ 2 ∷ 0 ∷ 10 ∷ 0 ∷ 3 ∷ 0 ∷ 0 ∷ 0 ∷ []) ∷ yes 4 ∷ yes 4 ∷ no ∷ no ∷ yes 4
    ∷ accepted 6 5 15 ∷ no ∷ no ∷ accepted 7 6 15 ∷ yes 4 ∷ yes 4 ∷ accepted 8 7 15 ∷ no ∷ yes 4 ∷ [])
    -- a price of 0 is a price: at the first bid that counts; no offer is at or below it
    ∷ in_day
    (bid_at 0 ∷ offer_at 0 ∷ on_n 1 (round_of 78 7 82 10000000 0 0 0 no_odd ∷ []) ∷ bid_at 0 ∷ on_p 1 (round_of 80 7 82 1 1 1 1 no_odd ∷ []) ∷ bid_at 0 ∷ offer_at 0 ∷ offer_at 1 ∷ [])
    (no ∷ no ∷ accepted 2 1 0 ∷ no ∷ accepted 2 1 3 ∷ yes 16 ∷ no ∷ yes 16 ∷ [])
    -- a side that does not count is no candidate: C, E, F, an indication; odd lots are none either
    ∷ in_day
    (on_n 1 (levels 32 1 1 (item 10000000 5 ++ item 10020000 5) ∷ []) ∷ bid_at 1 ∷ offer_at 10020000
    ∷ under 2 67 (under 3 69 (under 4 70 (on_n 5 (round_of 78 7 82 10000000 0 10020000 0 no_odd ∷ []) ∷ bid_at 10000000 ∷ offer_at 10020000 ∷ []))))
    (accepted 2 1 48 ∷ no ∷ no ∷ accepted 3 2 48 ∷ no ∷ no ∷ accepted 4 3 2 ∷ no ∷ yes 14 ∷ accepted 5 4 3 ∷ yes 14 ∷ no ∷ accepted 6 5 49 ∷ no ∷ no ∷ [])
    -- a quote that is replaced answers no more
    ∷ in_day
    (on_n 1 (plain 78 7 3 no_odd ∷ []) ∷ bid_at 10000000 ∷ on_n 2 (round_of 78 8 82 9990000 3 0 0 no_odd ∷ []) ∷ bid_at 10000000 ∷ bid_at 9990000 ∷ offer_at 10020000 ∷ [])
    (accepted 2 1 3 ∷ yes 14 ∷ accepted 3 2 3 ∷ no ∷ yes 14 ∷ no ∷ [])
    -- each symbol by itself; no day need be open: before Start, after End; Start empties the quotes
    ∷ from_make 2
    (add zt 100 78 ∷ add ab 10 78 ∷ open_line 5 78 ∷ bid_at 0 ∷ start_day ∷ on_n 1 (plain 78 7 3 no_odd ∷ []) ∷ protected ab 66 0 ∷ protected ab 83 10020000
    ∷ on_n 2 (round_lot 78 7 (quoted ab 82 5000000 1 0 0) no_odd ∷ []) ∷ protected ab 66 5000001 ∷ bid_at 5000001
    ∷ end_day ∷ bid_at 10000000 ∷ offer_at 10020000 ∷ start_day ∷ bid_at 0 ∷ offer_at 18446744073709551615 ∷ [])
    (only 0 ∷ only 0 ∷ only 0 ∷ no ∷ only 0 ∷ accepted 2 1 3 ∷ no ∷ no
    ∷ accepted 3 2 1 ∷ no ∷ yes 14
    ∷ only 0 ∷ yes 14 ∷ yes 14 ∷ only 0 ∷ no ∷ no ∷ [])
    -- 10, then 74: B is 66 and S is 83; a refusal carries no and 0
    ∷ from_make 1
    (protected [] 0 0 ∷ bid_at 0 ∷ protected zt 0 0 ∷ add zt 100 78 ∷ protected [] 66 0 ∷ protected (90 ∷ 84 ∷ []) 88 0 ∷ protected (122 ∷ 116 ∷ replicate 9 32) 66 0 ∷ protected ab 83 0
    ∷ protected (90 ∷ 84 ∷ replicate 10 32) 66 0 ∷ protected zt 0 0 ∷ protected zt 32 0 ∷ protected zt 65 0 ∷ protected zt 67 0 ∷ protected zt 82 0 ∷ protected zt 84 0 ∷ protected zt 88 0
    ∷ protected zt 98 0 ∷ protected zt 115 0 ∷ protected zt 255 0 ∷ bid_at 0 ∷ offer_at 0 ∷ [])
    (only 10 ∷ only 10 ∷ only 10 ∷ only 0 ∷ only 10 ∷ only 10 ∷ only 10 ∷ only 10
    ∷ only 10 ∷ only 74 ∷ only 74 ∷ only 74 ∷ only 74 ∷ only 74 ∷ only 74 ∷ only 74
    ∷ only 74 ∷ only 74 ∷ only 74 ∷ no ∷ no ∷ [])
    ∷ []

-- one for each row, in order
pub cases : Answered table
unfolding table answered
cases =
    refl  -- at the price
    ▹ refl  -- the first letter
    ▹ refl  -- positions
    ▹ refl  -- D
    ▹ refl  -- a price of 0
    ▹ refl  -- what does not count
    ▹ refl  -- a replaced quote
    ▹ refl  -- symbols and days
    ▹ refl  -- 10 and 74
    ▹ end
