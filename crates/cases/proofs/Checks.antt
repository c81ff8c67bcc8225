-- Numbers and codes in their checking order: operator, line and participant. Like `Shared`, rows of whole answers.
-- Assumes nothing.
use Prim.Native.Nat.{ℕ}
use mathlib.Core.Path.{refl}
use mathlib.Core.List.{List, [], ◌∷◌, ◌++◌}
use lib.ListN.{replicate, set}
use Rattle.field.specs.Field.{be_bytes}
use Rattle.calls.specs.Call.{make, add, open_line, start_day, end_day, take, read}
use Rattle.cases.proofs.Rows.{header, quoted, odds, item, maker, control, integrity, test, framed, sealed, block, only, refused, accepted, partly, rejected, two_rejected, nothing, shown, none, zt, round_of, no_odd, plain, levels, unknown, on_n, on_p, on_d, look, Row, in_day, from_make, answered, Answered, end, ◌▹◌}

-- this many bytes, then spaces to eleven
abbrev symbol : List ℕ → ℕ → List ℕ
symbol bytes spaces = bytes ++ replicate spaces 32

-- a Q U of ZT by a letter: condition, bid and offer, name
abbrev maker_by : ℕ → ℕ → ℕ → ℕ → ℕ → ℕ → List ℕ → List ℕ
maker_by letter c b bs o os name = maker letter 7 (quoted zt c b bs o os) name

abbrev named : List ℕ → List ℕ
named name = maker_by 68 82 1 1 2 1 name

unfoldable pub table : List Row
table =
    -- add: 3, 6, 75, 4, 5 in this order
    from_make 1
    (add (symbol [] 11) 7 83 ∷ add zt 7 83 ∷ add zt 100 83 ∷ add zt 100 78 ∷ add zt 7 83 ∷ add zt 100 83 ∷ add zt 100 78 ∷ add (symbol (65 ∷ []) 10) 7 83
    ∷ add (symbol (65 ∷ []) 10) 1 83 ∷ add (symbol (65 ∷ []) 10) 1 78 ∷ [])
    (only 3 ∷ only 6 ∷ only 75 ∷ only 0 ∷ only 6 ∷ only 75 ∷ only 4 ∷ only 6
    ∷ only 75 ∷ only 5 ∷ [])
    -- round lots 1, 10, 25, 50, 100; symbols of one to eleven bytes, A to Z first, then 33 to 126
    ∷ from_make 5
    (add (symbol (65 ∷ []) 10) 1 78 ∷ add (symbol (90 ∷ replicate 10 126) 0) 10 78 ∷ add (symbol (83 ∷ 33 ∷ 97 ∷ []) 8) 25 78 ∷ add (symbol (68 ∷ []) 10) 50 78 ∷ add zt 0 78 ∷ add zt 2 78 ∷ add zt 99 78
    ∷ add zt 101 78 ∷ add zt 356 78 ∷ add (symbol (64 ∷ []) 10) 1 78 ∷ add (symbol (91 ∷ []) 10) 1 78 ∷ add (symbol (97 ∷ []) 10) 1 78 ∷ add (symbol (66 ∷ 32 ∷ 66 ∷ []) 8) 1 78 ∷ add (symbol (66 ∷ 127 ∷ []) 9) 1 78
    ∷ add (symbol (66 ∷ 31 ∷ []) 9) 1 78 ∷ add (symbol (66 ∷ []) 9) 1 78 ∷ add (symbol (66 ∷ []) 11) 1 78 ∷ add [] 1 78 ∷ add zt 100 78 ∷ [])
    (only 0 ∷ only 0 ∷ only 0 ∷ only 0 ∷ only 6 ∷ only 6 ∷ only 6
    ∷ only 6 ∷ only 6 ∷ only 3 ∷ only 3 ∷ only 3 ∷ only 3 ∷ only 3
    ∷ only 3 ∷ only 3 ∷ only 3 ∷ only 3 ∷ only 0 ∷ [])
    -- open: 7 then 8; days: 11 and 12; read: 9 then 10; make: 2
    ∷ from_make 1
    (open_line 64 78 ∷ open_line 5 83 ∷ open_line 5 64 ∷ open_line 5 91 ∷ open_line 5 78 ∷ open_line 5 80 ∷ open_line 5 83 ∷ open_line 63 90 ∷ open_line 0 65 ∷ open_line 6 78
    ∷ end_day ∷ start_day ∷ start_day ∷ end_day ∷ end_day ∷ read [] 95 ∷ read [] 96 ∷ read zt 96 ∷ add zt 1 78 ∷ read zt 95 ∷ read zt 96 ∷ read zt 1000 ∷ make 0 ∷ make 65 ∷ make 2 ∷ [])
    (only 7 ∷ only 7 ∷ only 7 ∷ only 7 ∷ only 0 ∷ only 8 ∷ only 7 ∷ only 0 ∷ only 0 ∷ only 0
    ∷ only 12 ∷ only 0 ∷ only 11 ∷ only 0 ∷ only 12 ∷ only 9 ∷ only 10 ∷ only 10 ∷ only 0 ∷ only 9 ∷ none ∷ none ∷ only 2 ∷ only 2 ∷ only 2 ∷ [])
    -- blocks on a closed day: 9, 21, 30 to 34, 20; C I, C T and C 5 skip 20 and move nothing, C C and an unknown C type do not skip
    ∷ from_make 1
    (on_n 1 (integrity ∷ []) ∷ open_line 5 78 ∷ take 64 [] 179 ∷ take 5 [] 179 ∷ take 64 [] 180 ∷ take 5 [] 180 ∷ take 5 (block 1 (replicate 19 0 ∷ [])) 180
    ∷ take 5 (set (block 1 (integrity ∷ [])) 3 33) 180 ∷ take 5 (set (block 1 (integrity ∷ [])) 0 2) 180 ∷ take 5 (set (block 1 (integrity ∷ [])) 31 1) 180
    ∷ take 5 (sealed 0 1 (0 ∷ 10 ∷ integrity)) 180 ∷ take 5 (sealed 46 1 (0 ∷ 102 ∷ replicate 110 0)) 180 ∷ take 5 (sealed 1 1 (0 ∷ 13 ∷ 0 ∷ integrity)) 180
    ∷ on_n 1 (integrity ∷ integrity ∷ []) ∷ on_n 1 (plain 78 7 3 no_odd ∷ []) ∷ on_n 1 (control 67 78 ∷ []) ∷ on_n 1 (control 63 78 ∷ [])
    ∷ on_n 99 (integrity ∷ []) ∷ on_n 99 (control 73 78 ∷ []) ∷ on_n 99 (test ∷ []) ∷ on_n 99 (set test 114 0 ∷ []) ∷ on_n 99 (control 84 80 ∷ []) ∷ [])
    (only 21 ∷ only 0 ∷ only 9 ∷ only 9 ∷ only 21 ∷ refused 30 1 0 ∷ refused 30 1 0
    ∷ refused 30 1 0 ∷ refused 31 1 0 ∷ refused 32 1 0
    ∷ refused 33 1 0 ∷ refused 33 1 0 ∷ refused 33 1 0
    ∷ refused 34 1 0 ∷ refused 20 1 0 ∷ refused 20 1 0 ∷ refused 20 1 0
    ∷ accepted 1 0 0 ∷ accepted 1 0 0 ∷ accepted 1 0 0 ∷ rejected 1 0 43 ∷ rejected 1 0 41 ∷ [])
    -- blocks of 1,000 bytes, their sum past 65,535, and of 1,001; messages of 20 bytes and of 19
    ∷ in_day
    (take 5 (framed 1 1000 1 54796 (0 ∷ 12 ∷ 81 ∷ 75 ∷ 78 ∷ 0 ∷ replicate 984 255)) 180 ∷ take 5 (sealed 1 2 (0 ∷ 12 ∷ 81 ∷ 75 ∷ 78 ∷ 0 ∷ replicate 985 255)) 180
    ∷ on_n 2 (unknown ∷ unknown ∷ []) ∷ on_n 4 (unknown ∷ (unknown ++ (0 ∷ [])) ∷ []) ∷ take 5 (sealed 2 6 (0 ∷ 14 ∷ 0 ∷ 33 ∷ (81 ∷ replicate 39 0))) 180
    ∷ take 5 (sealed 2 6 (0 ∷ 14 ∷ 0 ∷ 35 ∷ (81 ∷ replicate 39 0))) 180 ∷ take 5 (sealed 2 6 (0 ∷ 14 ∷ 0 ∷ 13 ∷ (81 ∷ replicate 60 0))) 180 ∷ [])
    (rejected 2 1 42 ∷ refused 30 2 1 ∷ two_rejected 4 3 ∷ two_rejected 6 5 ∷ refused 33 6 5 ∷ refused 33 6 5 ∷ refused 33 6 5 ∷ [])
    -- an unknown C type alone is taken with 40 and moves the line; among others any C type is 34, in front or behind
    ∷ in_day
    (on_n 1 (control 63 78 ∷ []) ∷ on_n 2 (control 63 78 ∷ unknown ∷ []) ∷ on_n 2 (unknown ∷ control 63 78 ∷ []) ∷ on_n 2 (unknown ∷ integrity ∷ []) ∷ on_n 7 (integrity ∷ []) ∷ on_n 2 (unknown ∷ []) ∷ [])
    (rejected 2 1 40 ∷ refused 34 2 1 ∷ refused 34 2 1 ∷ refused 34 2 1 ∷ accepted 2 1 0 ∷ rejected 3 2 40 ∷ [])
    -- sequence numbers: before the expected one 35, behind it a gap; each line has its own
    ∷ in_day
    (on_n 0 (unknown ∷ []) ∷ on_n 1 (unknown ∷ []) ∷ on_n 1 (unknown ∷ []) ∷ on_n 4 (unknown ∷ []) ∷ on_p 1 (header 81 63 80 0 ∷ []) ∷ [])
    (refused 35 1 0 ∷ rejected 2 1 40 ∷ refused 35 2 1 ∷ (70 ∷ 2 ∷ 5 ∷ 2 ∷ 0 ∷ 0 ∷ 1 ∷ 0 ∷ 40 ∷ 0 ∷ 0 ∷ []) ∷ rejected 2 1 40 ∷ [])
    -- 41 to 45, each before the next
    ∷ in_day
    (on_n 1 (set (plain 80 7 3 no_odd) 1 76 ∷ []) ∷ on_n 2 (plain 80 7 3 (0 ∷ []) ∷ []) ∷ on_n 3 (control 67 68 ∷ []) ∷ on_n 4 (plain 78 7 3 (32 ∷ 1 ∷ 0 ∷ 0 ∷ []) ∷ [])
    ∷ on_n 5 (set (plain 78 7 3 no_odd) 3 1 ∷ []) ∷ on_n 6 (set (plain 78 7 3 no_odd) 59 1 ∷ []) ∷ on_n 7 (set (levels 32 0 0 []) 34 1 ∷ []) ∷ on_n 8 (set (levels 32 0 0 []) 35 1 ∷ [])
    ∷ on_n 9 (set (control 67 78) 3 1 ∷ []) ∷ on_n 10 (control 67 78 ∷ []) ∷ on_n 11 (control 79 78 ∷ []) ∷ on_n 12 (maker_by 78 82 1 1 2 1 (65 ∷ 32 ∷ 32 ∷ 32 ∷ []) ∷ []) ∷ on_n 13 ((control 67 78 ++ (0 ∷ [])) ∷ [])
    ∷ on_n 14 (set (plain 78 7 3 no_odd) 20 89 ∷ []) ∷ on_n 15 (set (round_of 78 7 76 0 1 0 1 no_odd) 20 33 ∷ []) ∷ on_n 16 (set (levels 65 0 0 []) 20 89 ∷ []) ∷ [])
    (rejected 2 1 40 ∷ rejected 3 2 41 ∷ rejected 4 3 41 ∷ rejected 5 4 42
    ∷ rejected 6 5 43 ∷ rejected 7 6 43 ∷ rejected 8 7 43 ∷ rejected 9 8 43
    ∷ rejected 10 9 43 ∷ rejected 11 10 44 ∷ rejected 12 11 44 ∷ rejected 13 12 44 ∷ rejected 14 13 42
    ∷ rejected 15 14 45 ∷ rejected 16 15 45 ∷ rejected 17 16 45 ∷ [])
    -- on D's line: Q K and Q M are 44, before their symbol is looked at; 45 to 48 of a Q U, each before the next
    ∷ in_day
    (on_d 1 (set (plain 68 7 3 no_odd) 20 33 ∷ []) ∷ on_d 2 (set (levels 32 0 0 []) 2 68 ∷ []) ∷ on_d 3 (set (named (97 ∷ 32 ∷ 32 ∷ 32 ∷ [])) 20 89 ∷ []) ∷ on_d 4 (maker_by 68 65 0 1 0 1 (97 ∷ 32 ∷ 32 ∷ 32 ∷ []) ∷ [])
    ∷ on_d 5 (maker_by 68 82 0 1 2 1 (97 ∷ 32 ∷ 32 ∷ 32 ∷ []) ∷ []) ∷ on_d 6 (maker_by 68 82 1 1 0 1 (97 ∷ 32 ∷ 32 ∷ 32 ∷ []) ∷ []) ∷ on_d 7 (named (97 ∷ 32 ∷ 32 ∷ 32 ∷ []) ∷ []) ∷ on_d 8 (named (32 ∷ 32 ∷ 32 ∷ 32 ∷ []) ∷ [])
    ∷ on_d 9 (named (65 ∷ 32 ∷ 65 ∷ 32 ∷ []) ∷ []) ∷ on_d 10 (named (65 ∷ 65 ∷ 91 ∷ 32 ∷ []) ∷ []) ∷ on_d 11 (named (65 ∷ 83 ∷ 90 ∷ 68 ∷ []) ∷ []) ∷ [])
    (rejected 2 1 44 ∷ rejected 3 2 44 ∷ rejected 4 3 45 ∷ rejected 5 4 46
    ∷ rejected 6 5 47 ∷ rejected 7 6 47 ∷ rejected 8 7 48 ∷ rejected 9 8 48 ∷ rejected 10 9 48 ∷ rejected 11 10 48 ∷ accepted 12 11 15 ∷ [])
    -- 46, then 47 on either side, then the odd part; 0 and 0, and a price with size 0, are no fault
    ∷ in_day
    (on_n 1 (round_of 78 7 76 0 1 0 1 no_odd ∷ []) ∷ on_n 2 (round_of 78 7 71 1 1 2 1 no_odd ∷ []) ∷ on_n 3 (round_of 78 7 0 1 1 2 1 no_odd ∷ []) ∷ on_n 4 (round_of 78 7 67 0 1 2 1 (odds 65 0 0 (0 ∷ []) []) ∷ [])
    ∷ on_n 5 (round_of 78 7 82 1 1 0 1 no_odd ∷ []) ∷ on_n 6 (round_of 78 7 82 0 0 0 0 no_odd ∷ []) ∷ on_n 7 (round_of 78 7 82 1 0 2 0 no_odd ∷ []) ∷ look ∷ [])
    (rejected 2 1 46 ∷ rejected 3 2 46 ∷ rejected 4 3 46 ∷ rejected 5 4 47 ∷ rejected 6 5 47 ∷ accepted 7 6 0 ∷ accepted 8 7 0 ∷ none ∷ [])
    -- 60, 61 for bids and for offers, then 62 and 63 item by item: whichever stands first
    ∷ in_day
    (on_n 1 (levels 65 5 0 (replicate 60 0) ∷ []) ∷ on_n 2 (levels 0 0 0 [] ∷ []) ∷ on_n 3 (levels 32 5 0 (replicate 60 0) ∷ []) ∷ on_n 4 (levels 32 0 5 (replicate 60 0) ∷ [])
    ∷ on_n 5 (levels 32 2 0 (item 0 1 ++ item 7 100) ∷ []) ∷ on_n 6 (levels 32 2 0 (item 7 100 ++ item 0 1) ∷ []) ∷ on_n 7 (levels 32 1 1 (item 0 1 ++ item 7 100) ∷ []) ∷ on_n 8 (levels 32 1 1 (item 7 100 ++ item 0 1) ∷ [])
    ∷ on_n 9 (levels 32 1 0 (item 0 0) ∷ []) ∷ on_n 10 (plain 78 7 3 (odds 66 1 0 (0 ∷ []) (item 0 100)) ∷ []) ∷ on_n 11 (levels 88 0 1 (item 7 4294967295) ∷ []) ∷ look ∷ [])
    (rejected 2 1 60 ∷ rejected 3 2 60 ∷ rejected 4 3 61 ∷ rejected 5 4 61
    ∷ rejected 6 5 62 ∷ rejected 7 6 63 ∷ rejected 8 7 62 ∷ rejected 9 8 63
    ∷ rejected 10 9 62 ∷ partly 11 10 62 3 ∷ rejected 12 11 63 ∷ shown (78 ∷ 82 ∷ 32 ∷ 32 ∷ (be_bytes 8 10000000 ++ be_bytes 4 3)) (78 ∷ 82 ∷ 32 ∷ 32 ∷ (be_bytes 8 10020000 ++ be_bytes 4 2)) nothing nothing nothing nothing ∷ [])
    -- 62 and 63 of a later item go before 64 of an earlier one; with a round lot of 1 only zero shares pass
    ∷ from_make 1
    (add zt 1 78 ∷ open_line 5 78 ∷ start_day ∷ on_n 1 (levels 32 1 0 (item 7 1) ∷ []) ∷ on_n 2 (levels 32 1 0 (item 7 0) ∷ []) ∷ [])
    (only 0 ∷ only 0 ∷ only 0 ∷ rejected 2 1 63 ∷ accepted 3 2 0 ∷ [])
    ∷ in_day
    (on_n 1 (levels 32 4 0 (item 1 1 ++ (item 2 1 ++ (item 3 1 ++ item 4 1))) ∷ []) ∷ on_n 2 (levels 32 2 0 (item 5 1 ++ item 0 1) ∷ []) ∷ on_n 3 (levels 32 1 1 (item 5 1 ++ item 5 100) ∷ []) ∷ on_n 4 (levels 32 1 1 (item 5 1 ++ item 5 99) ∷ []) ∷ [])
    (accepted 2 1 16 ∷ rejected 3 2 62 ∷ rejected 4 3 63 ∷ rejected 5 4 64 ∷ [])
    ∷ []

-- one for each row, in order
pub cases : Answered table
unfolding table answered
cases =
    refl  -- add
    ▹ refl  -- lots and symbols
    ▹ refl  -- open, days, read, make
    ▹ refl  -- blocks on a closed day
    ▹ refl  -- lengths
    ▹ refl  -- control messages
    ▹ refl  -- sequence numbers
    ▹ refl  -- 41 to 45
    ▹ refl  -- on D's line
    ▹ refl  -- 46 and 47
    ▹ refl  -- 60 to 63
    ▹ refl  -- a round lot of 1
    ▹ refl  -- 62 and 63 before 64
    ▹ end
