-- Document 01's cases P1 to P13, by computing.
-- Assumes nothing.
use Prim.Native.Nat.{ℕ, ◌+◌}
use mathlib.Core.Path.{refl}
use mathlib.Core.List.{List, [], ◌∷◌, ◌++◌}
use lib.ListN.{replicate}
use Rattle.calls.specs.Call.{Call, take}
use Rattle.cases.proofs.Rows.{odds, item, odd_lot, refused, accepted, partly, rejected, gap, national, leading, odd, nothing, shown, zt, round_of, no_odd, plain, unknown, on_n, on_p, look, Row, in_day, answered, Answered, end, ◌▹◌}

-- odd bids under a clear mark
abbrev bids : ℕ → ℕ → List ℕ → List ℕ
bids mark k items = odds mark k 0 (0 ∷ []) items

abbrev four_bids : List ℕ
four_bids = item 10010000 1 ++ (item 10011000 2 ++ (item 10012000 3 ++ item 10013000 4))

-- a Q M by N with one odd bid; zero shares remove a level
abbrev one_bid : ℕ → ℕ → List ℕ
one_bid price shares = odd_lot 78 8 zt (odds 32 1 0 (0 ∷ 0 ∷ []) (item price shares))

-- each of the four bids removed in turn, and the best of those that are left
abbrev one_by_one : ℕ → List Call
one_by_one s =
    on_n s (one_bid 10013000 0 ∷ []) ∷ look ∷ on_n (s + 1) (one_bid 10012000 0 ∷ []) ∷ look
    ∷ on_n (s + 2) (one_bid 10011000 0 ∷ []) ∷ look ∷ on_n (s + 3) (one_bid 10010000 0 ∷ []) ∷ look ∷ []

-- the national entries by letters and lots with condition R, and an odd bid
abbrev best : ℕ → ℕ → ℕ → List ℕ → List ℕ
best b lots o ob = shown (national b 82 10000000 lots) (national o 82 10020000 2) nothing nothing ob nothing

-- the same with what put each ahead, and no odd lot
abbrev ahead : ℕ → ℕ → ℕ → ℕ → ℕ → List ℕ
ahead b bid_by lots o offer_by = shown (leading bid_by b 82 10000000 lots) (leading offer_by o 82 10020000 2) nothing nothing nothing nothing

abbrev four_shown : ℕ → ℕ → List (List ℕ)
four_shown s lots =
    accepted (s + 1) s 16 ∷ best 78 lots 78 (odd 78 10012000 3) ∷ accepted (s + 2) (s + 1) 16 ∷ best 78 lots 78 (odd 78 10011000 2)
    ∷ accepted (s + 3) (s + 2) 16 ∷ best 78 lots 78 (odd 78 10010000 1) ∷ accepted (s + 4) (s + 3) 16 ∷ best 78 lots 78 nothing ∷ []

unfoldable pub table : List Row
table =
    -- P1 bids 10.00, N 3 lots, P 5: P. The smaller size has the earlier time
    in_day
    (on_n 1 (plain 78 6 3 no_odd ∷ []) ∷ on_p 1 (plain 80 7 5 no_odd ∷ []) ∷ look ∷ [])
    (accepted 2 1 3 ∷ accepted 2 1 3 ∷ ahead 80 83 5 78 84 ∷ [])
    -- P2 equal lots, N time 7, P 6: P
    ∷ in_day
    (on_n 1 (plain 78 7 3 no_odd ∷ []) ∷ on_p 1 (plain 80 6 3 no_odd ∷ []) ∷ look ∷ [])
    (accepted 2 1 3 ∷ accepted 2 1 3 ∷ ahead 80 84 3 80 84 ∷ [])
    -- P3 all equal: N
    ∷ in_day
    (on_p 1 (plain 80 7 3 no_odd ∷ []) ∷ on_n 1 (plain 78 7 3 no_odd ∷ []) ∷ look ∷ [])
    (accepted 2 1 3 ∷ accepted 2 1 3 ∷ ahead 78 76 3 78 76 ∷ [])
    -- P4 E: only the offer counts
    ∷ in_day
    (on_n 1 (round_of 78 7 69 10000000 3 10020000 2 no_odd ∷ []) ∷ look ∷ [])
    (accepted 2 1 2 ∷ shown nothing (national 78 69 10020000 2) nothing nothing nothing nothing ∷ [])
    -- P5 price 5.00, size 0: code 0, doesn't count
    ∷ in_day
    (on_n 1 (round_of 78 7 82 5000000 0 10020000 2 no_odd ∷ []) ∷ look ∷ [])
    (accepted 2 1 2 ∷ shown nothing (national 78 82 10020000 2) nothing nothing nothing nothing ∷ [])
    -- P6 price 0, size 1: 47
    ∷ in_day
    (on_n 1 (round_of 78 7 82 0 1 10020000 2 no_odd ∷ []) ∷ look ∷ [])
    (rejected 2 1 47 ∷ shown nothing nothing nothing nothing nothing nothing ∷ [])
    -- P7 round lot 100: 99 shares in, 100 gives 63. The level of 99 is the only one that stands
    ∷ in_day
    (on_n 1 (plain 78 7 3 (bids 32 1 (item 10010000 99)) ∷ []) ∷ on_n 2 (plain 78 7 3 (bids 32 1 (item 10011000 100)) ∷ []) ∷ look
    ∷ on_n 3 (one_bid 10010000 0 ∷ []) ∷ look ∷ [])
    (accepted 2 1 19 ∷ partly 3 2 63 0 ∷ best 78 3 78 (odd 78 10010000 99) ∷ accepted 4 3 16 ∷ best 78 3 78 nothing ∷ [])
    -- P8 clear B with five bids: 61, the old four stand: a new price gives 64, and each of the four is shown
    ∷ in_day
    (on_n 1 (plain 78 7 3 (bids 32 4 four_bids) ∷ []) ∷ on_n 2 (plain 78 7 3 (bids 66 5 (item 10014000 1 ++ four_bids)) ∷ []) ∷ look
    ∷ on_n 3 (one_bid 10014000 1 ∷ []) ∷ one_by_one 4)
    (accepted 2 1 19 ∷ partly 3 2 61 0 ∷ best 78 3 78 (odd 78 10013000 4) ∷ rejected 4 3 64 ∷ four_shown 4 3)
    -- P9 four bids stand, one new price: 64, round part in, and each of the four is shown
    ∷ in_day
    (on_n 1 (plain 78 7 3 (bids 32 4 four_bids) ∷ []) ∷ on_n 2 (plain 78 7 4 (bids 32 1 (item 10014000 1)) ∷ []) ∷ look ∷ one_by_one 3)
    (accepted 2 1 19 ∷ partly 3 2 64 1 ∷ best 78 4 78 (odd 78 10013000 4) ∷ four_shown 3 4)
    -- P10 expected 4,294,967,295, c 2: next 1
    ∷ in_day
    (on_n 2147483648 (unknown ∷ []) ∷ on_n 4294967294 (unknown ∷ []) ∷ on_n 4294967295 (unknown ∷ unknown ∷ []) ∷ [])
    (gap 2147483647 2147483649 1 ∷ gap 2147483645 4294967295 2 ∷ (0 ∷ 0 ∷ 1 ∷ 4 ∷ 0 ∷ 0 ∷ 2 ∷ 0 ∷ 40 ∷ 0 ∷ 0 ∷ 1 ∷ 40 ∷ 0 ∷ 0 ∷ []) ∷ [])
    -- P11 expected 0: 2,147,483,648 gives 35, 2,147,483,647 is a gap
    ∷ in_day
    (on_n 2147483648 (unknown ∷ []) ∷ on_n 4294967295 (unknown ∷ []) ∷ on_n 2147483648 (unknown ∷ []) ∷ on_n 2147483647 (unknown ∷ []) ∷ [])
    (gap 2147483647 2147483649 1 ∷ gap 2147483646 0 2 ∷ refused 35 0 2 ∷ gap 2147483647 2147483648 3 ∷ [])
    -- P12 odd bid at the national bid unpublished
    ∷ in_day
    (on_n 1 (plain 78 7 3 (bids 32 1 (item 10000000 9)) ∷ []) ∷ look ∷ [])
    (accepted 2 1 3 ∷ best 78 3 78 nothing ∷ [])
    -- P13 C T block by N, sequence 1, other fields 0: checksum 276, and no other
    ∷ in_day
    (take 5 (1 ∷ 1 ∷ 0 ∷ 32 ∷ 0 ∷ 0 ∷ 0 ∷ 1 ∷ 1 ∷ 20 ∷ 0 ∷ 12 ∷ 67 ∷ 84 ∷ 78 ∷ replicate 17 0) 180
    ∷ take 5 (1 ∷ 1 ∷ 0 ∷ 32 ∷ 0 ∷ 0 ∷ 0 ∷ 1 ∷ 1 ∷ 21 ∷ 0 ∷ 12 ∷ 67 ∷ 84 ∷ 78 ∷ replicate 17 0) 180 ∷ [])
    (accepted 1 0 0 ∷ refused 32 1 0 ∷ [])
    ∷ []

-- one for each row, in order
pub cases : Answered table
unfolding table answered
cases =
    refl  -- P1
    ▹ refl  -- P2
    ▹ refl  -- P3
    ▹ refl  -- P4
    ▹ refl  -- P5
    ▹ refl  -- P6
    ▹ refl  -- P7
    ▹ refl  -- P8
    ▹ refl  -- P9
    ▹ refl  -- P10
    ▹ refl  -- P11
    ▹ refl  -- P12
    ▹ refl  -- P13
    ▹ end
