-- Bounds and orders that `Cases`, `Shared` and `Checks` leave open: the last value that passes and the first that does not, which of two checks goes
-- first, every byte of a field. Rows of whole answers; each refuses a wrong definition that those tables let pass.
-- Assumes nothing.
use Prim.Native.Nat.{ℕ, zero, suc, ◌+◌}
use mathlib.Core.Path.{refl}
use mathlib.Core.List.{List, [], ◌∷◌, ◌++◌}
use lib.ListN.{replicate, set}
use Rattle.calls.specs.Call.{add, open_line, start_day, end_day, take, read}
use Rattle.cases.proofs.Rows.{quoted, odds, item, odd_lot, maker, control, integrity, test, framed, sealed, only, refused, accepted, partly, rejected, gap, national, leading, nothing, shown, none, zt, ab, round_of, no_odd, plain, levels, maker_of, eight, eight_told, unknown, on_n, on_p, on_d, look, Row, in_day, from_make, answered, Answered, end, ◌▹◌}

-- k messages from i on, each rejected with 40
abbrev coded : ℕ → ℕ → List ℕ
coded i zero = []
coded i (suc k) = i ∷ 40 ∷ 0 ∷ 0 ∷ coded (i + 1) k

-- maker A's bid of 10.00 for 3 in a symbol
abbrev bid_in : List ℕ → List ℕ
bid_in symbol = maker 68 7 (quoted symbol 82 10000000 3 0 0) (65 ∷ 32 ∷ 32 ∷ 32 ∷ [])

unfoldable pub table : List Row
table =
    -- a Q K with 60 is partly accepted
    in_day
    (on_n 1 (plain 78 7 3 (odds 65 0 0 (0 ∷ []) []) ∷ []) ∷ look ∷ [])
    (partly 2 1 60 3 ∷ shown (national 78 82 10000000 3) (national 78 82 10020000 2) nothing nothing nothing nothing ∷ [])
    -- 20 before 35, and d 0 of a gap that is refused; C T and C I skip 35 too
    ∷ in_day
    (on_n 1 (unknown ∷ []) ∷ on_n 1 (integrity ∷ []) ∷ on_n 0 (control 73 78 ∷ []) ∷ end_day ∷ on_n 1 (unknown ∷ []) ∷ on_n 9 (unknown ∷ []) ∷ [])
    (rejected 2 1 40 ∷ accepted 2 1 0 ∷ accepted 2 1 0 ∷ only 0 ∷ refused 20 2 1 ∷ refused 20 2 1 ∷ [])
    -- a condition alone sets its flags, and so does the last byte of a maker's name
    ∷ in_day
    (on_n 1 (plain 78 7 3 no_odd ∷ []) ∷ on_n 2 (round_of 78 7 65 10000000 3 10020000 2 no_odd ∷ []) ∷ [])
    (accepted 2 1 3 ∷ accepted 3 2 3 ∷ [])
    ∷ in_day
    (on_d 1 (maker 68 7 (quoted zt 82 10000000 3 0 0) (65 ∷ 66 ∷ 67 ∷ 69 ∷ []) ∷ []) ∷ on_d 2 (maker 68 7 (quoted zt 82 10000000 3 0 0) (65 ∷ 66 ∷ 67 ∷ 68 ∷ []) ∷ []) ∷ [])
    (accepted 2 1 5 ∷ accepted 3 2 4 ∷ [])
    -- odd lots at the national prices that D leads with
    ∷ in_day
    (on_d 1 (maker_of 7 82 10000000 3 10020000 2 65 ∷ []) ∷ on_n 1 (levels 32 1 1 (item 10000000 5 ++ item 10020000 5) ∷ []) ∷ [])
    (accepted 2 1 15 ∷ accepted 2 1 0 ∷ [])
    -- 32 before 33 before 34
    ∷ in_day
    (take 5 (framed 1 33 1 0 (0 ∷ 13 ∷ 0 ∷ integrity)) 180 ∷ take 5 (sealed 2 1 (0 ∷ 14 ∷ 0 ∷ 33 ∷ (67 ∷ replicate 39 0))) 180 ∷ [])
    (refused 32 1 0 ∷ refused 33 1 0 ∷ [])
    -- 45 messages
    ∷ in_day
    (on_n 1 (replicate 45 unknown) ∷ [])
    ((0 ∷ 0 ∷ 46 ∷ 45 ∷ 0 ∷ 0 ∷ 45 ∷ coded 0 45) ∷ [])
    -- 46 and 48 before 49; an empty quote of an unknown maker is accepted while there is room
    ∷ in_day
    (on_d 1 (maker_of 7 82 0 0 0 0 90 ∷ []) ∷ on_d 2 (eight 65) ∷ on_d 10 (eight 73) ∷ on_d 18 (maker_of 7 65 1 1 2 1 81 ∷ []) ∷ on_d 19 (maker_of 7 82 1 1 2 1 97 ∷ []) ∷ [])
    (accepted 2 1 0 ∷ eight_told 10 9 15 ∷ eight_told 18 17 0 ∷ rejected 19 18 46 ∷ rejected 20 19 48 ∷ [])
    -- 45 of a symbol that is not listed before 46
    ∷ in_day
    (on_n 1 (set (round_of 78 7 76 0 1 0 1 no_odd) 20 89 ∷ []) ∷ [])
    (rejected 2 1 45 ∷ [])
    -- a byte too many in each type
    ∷ in_day
    (on_n 1 ((levels 32 0 0 [] ++ (0 ∷ [])) ∷ []) ∷ on_n 2 ((plain 78 7 3 no_odd ++ (0 ∷ [])) ∷ []) ∷ on_d 1 ((maker_of 7 82 1 1 2 1 65 ++ (0 ∷ [])) ∷ [])
    ∷ on_n 3 ((integrity ++ (0 ∷ [])) ∷ []) ∷ on_n 3 ((test ++ (127 ∷ [])) ∷ []) ∷ [])
    (rejected 2 1 42 ∷ rejected 3 2 42 ∷ rejected 2 1 42 ∷ rejected 3 2 42 ∷ rejected 3 2 42 ∷ [])
    -- byte 3 in each type, and the first test byte
    ∷ in_day
    (on_n 1 (set (levels 32 0 0 []) 3 1 ∷ []) ∷ on_d 1 (set (maker_of 7 82 1 1 2 1 65) 3 1 ∷ []) ∷ on_n 2 (set integrity 3 1 ∷ []) ∷ on_n 2 (set test 3 1 ∷ []) ∷ on_n 2 (set test 20 33 ∷ []) ∷ [])
    (rejected 2 1 43 ∷ rejected 2 1 43 ∷ rejected 2 1 43 ∷ rejected 2 1 43 ∷ rejected 2 1 43 ∷ [])
    -- all eight bytes of a time and of a price, all four of a size
    ∷ in_day
    (on_n 1 (plain 78 4294967297 3 no_odd ∷ []) ∷ on_p 1 (plain 80 2 3 no_odd ∷ []) ∷ on_n 2 (round_of 78 7 82 4294967297 65537 4294967298 65538 no_odd ∷ []) ∷ look ∷ [])
    (accepted 2 1 3 ∷ accepted 2 1 3 ∷ accepted 3 2 3 ∷ shown (leading 80 78 82 4294967297 65537) (leading 80 80 82 10020000 2) nothing nothing nothing nothing ∷ [])
    -- no other lot, no other condition; symbols and lines may come on an open day; a maker may be named S
    ∷ from_make 2
    (start_day ∷ add zt 5 78 ∷ add zt 100 78 ∷ open_line 5 78 ∷ open_line 5 78 ∷ open_line 7 68 ∷ on_n 1 (round_of 78 7 68 1 1 2 1 no_odd ∷ []) ∷ on_d 1 (maker_of 7 69 1 1 2 1 65 ∷ [])
    ∷ on_d 2 (maker_of 7 82 1 1 2 1 83 ∷ []) ∷ [])
    (only 0 ∷ only 6 ∷ only 0 ∷ only 0 ∷ only 8 ∷ only 0 ∷ rejected 2 1 46 ∷ rejected 2 1 46
    ∷ accepted 3 2 15 ∷ [])
    -- one flag in two symbols is one flag
    ∷ from_make 2
    (add zt 100 78 ∷ add ab 10 78 ∷ open_line 7 68 ∷ start_day ∷ on_d 1 (bid_in zt ∷ []) ∷ on_d 2 (bid_in ab ∷ []) ∷ on_d 3 (control 67 68 ∷ []) ∷ [])
    (only 0 ∷ only 0 ∷ only 0 ∷ only 0 ∷ accepted 2 1 5 ∷ accepted 3 2 5 ∷ accepted 4 3 5 ∷ [])
    -- a gap of 1
    ∷ in_day
    (on_n 2 (unknown ∷ []) ∷ [])
    (gap 1 3 1 ∷ [])
    -- four odd offers stand, a fifth does not
    ∷ in_day
    (on_n 1 (levels 32 0 4 (item 10 1 ++ (item 11 1 ++ (item 12 1 ++ item 13 1))) ∷ []) ∷ on_n 2 (levels 32 0 1 (item 14 1) ∷ []) ∷ on_n 3 (levels 32 0 1 (item 13 2) ∷ []) ∷ [])
    (accepted 2 1 32 ∷ rejected 3 2 64 ∷ accepted 4 3 0 ∷ [])
    -- two symbols keep apart, each with its round lot; an empty Q K withdraws the quote; FINRA Open opens a maker's own L
    ∷ from_make 2
    (add zt 100 78 ∷ add ab 10 78 ∷ open_line 5 78 ∷ open_line 7 68 ∷ start_day ∷ on_n 1 (plain 78 7 3 (odds 32 1 0 (0 ∷ []) (item 10010000 9)) ∷ []) ∷ read ab 96
    ∷ on_n 2 (odd_lot 78 8 ab (odds 32 1 0 (0 ∷ 0 ∷ []) (item 7 10)) ∷ []) ∷ on_n 3 (round_of 78 7 82 0 0 0 0 no_odd ∷ []) ∷ on_d 1 (maker_of 7 76 5 1 0 0 65 ∷ []) ∷ on_d 2 (control 79 68 ∷ []) ∷ [])
    (only 0 ∷ only 0 ∷ only 0 ∷ only 0 ∷ only 0 ∷ accepted 2 1 19 ∷ none
    ∷ rejected 3 2 63 ∷ accepted 4 3 3 ∷ accepted 2 1 0 ∷ accepted 3 2 5 ∷ [])
    ∷ []

-- one for each row, in order
pub cases : Answered table
unfolding table answered
cases =
    refl  -- 60
    ▹ refl  -- 20 and 35
    ▹ refl ▹ refl  -- flags of names
    ▹ refl  -- D's national prices
    ▹ refl  -- 32, 33, 34
    ▹ refl  -- 45 messages
    ▹ refl  -- 46, 48, 49
    ▹ refl  -- 45 and 46
    ▹ refl  -- a byte too many
    ▹ refl  -- byte 3
    ▹ refl  -- all bytes of a field
    ▹ refl  -- lots and conditions
    ▹ refl  -- one flag
    ▹ refl  -- a gap of 1
    ▹ refl  -- four offers
    ▹ refl  -- two symbols
    ▹ end
