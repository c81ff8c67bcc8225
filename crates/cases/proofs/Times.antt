-- Resent quotes keep their place (document 02, T-02), by computing. A time is seen by who leads: of equal price and size, the earlier one.
-- Assumes nothing.
use Prim.Native.Nat.{ℕ, ◌+◌}
use mathlib.Core.Path.{◌≡◌, refl}
use mathlib.Core.List.{List, [], ◌∷◌}
use lib.ListN.{length}
use Rattle.ranking.specs.declared.Side.TheVariants.{Bid, Offer}
use Rattle.quote.specs.declared.Quote.{Quote}
use Rattle.calls.specs.Call.{open_line, start_day, end_day, take}
use Rattle.review.specs.Runs.{latest_run, first_time, run_time}
use Rattle.cases.proofs.Rows.{control, block, odds, only, accepted, partly, rejected, entry, national, leading, nothing, shown, round_of, no_odd, plain, maker_of, on_n, on_p, on_d, look, Row, in_day, answered, Answered, end, ◌▹◌}

-- ---- runs

-- bid 10.00 for so many lots at a time, offer 10.02 for 2
abbrev sized : ℕ → ℕ → Quote
sized lots time = record { condition = 82; bid = record { price = 10000000; size = lots; time = time }; offer = record { price = 10020000; size = 2; time = time } }

-- the newest first
pub record Runs : Type 0 where
  -- sizes 5, 3, 4 begin anew at 4; the offer's run goes on
  pub from_next : (run_time (sized 4 9 ∷ sized 3 8 ∷ sized 5 7 ∷ []) Bid ≡ 9) × (run_time (sized 4 9 ∷ sized 3 8 ∷ sized 5 7 ∷ []) Offer ≡ 7)
  -- an indication is a quote in the run: 5 then 0 goes on, 0 then 5 rises
  pub indication : (run_time (sized 0 9 ∷ sized 5 7 ∷ []) Bid ≡ 7) × (run_time (sized 5 9 ∷ sized 0 8 ∷ sized 5 7 ∷ []) Bid ≡ 9)
  -- the first quote's time, not the earliest
  pub not-earliest : run_time (sized 5 3 ∷ sized 5 9 ∷ []) Bid ≡ 9
  -- the latest run, not a longer one before it
  pub latest-run : run_time (sized 2 9 ∷ sized 6 8 ∷ sized 4 7 ∷ sized 4 6 ∷ sized 5 5 ∷ []) Bid ≡ 8

pub runs : Runs
unfolding latest_run first_time
runs = record { from_next = (refl, refl); indication = (refl, refl); not-earliest = refl; latest-run = refl }

-- ---- calls

-- a block of accepted messages: next expected number, count, the flags of each
abbrev quads : ℕ → List ℕ → List ℕ
quads i [] = []
quads i (f ∷ fs) = i ∷ 0 ∷ f ∷ 0 ∷ quads (i + 1) fs

abbrev taken : ℕ → ℕ → List ℕ → List ℕ
taken expected count flags = 0 ∷ 0 ∷ expected ∷ count ∷ length flags ∷ 0 ∷ 0 ∷ quads 0 flags

-- a bid at 10.00 by a letter, no offer
abbrev bid_by : ℕ → ℕ → ℕ → ℕ → List ℕ
bid_by letter time condition lots = round_of letter time condition 10000000 lots 0 0 no_odd

abbrev by_n : ℕ → ℕ → List ℕ
by_n time lots = bid_by 78 time 82 lots

-- the bid of a letter that is ahead by time
abbrev leads : ℕ → ℕ → List ℕ
leads letter lots = shown (leading 84 letter 82 10000000 lots) nothing nothing nothing nothing nothing

-- three quotes of N and their flags, then P's of the last size at time 20: who leads by time, which changes the bid's entry
abbrev race : List ℕ → List ℕ → List ℕ → ℕ → List ℕ → ℕ → Row
race a b c lots flags leader =
    in_day
    (on_n 1 (a ∷ b ∷ c ∷ []) ∷ on_p 1 (bid_by 80 20 82 lots ∷ []) ∷ look ∷ [])
    (taken 4 3 flags ∷ accepted 2 1 1 ∷ leads leader lots ∷ [])

-- a maker's bid at 10.00
abbrev maker_bid : ℕ → ℕ → ℕ → List ℕ
maker_bid time lots name = maker_of time 82 10000000 lots 0 0 name

-- D with the FINRA bid of a maker
abbrev finra : ℕ → ℕ → List ℕ
finra name lots = shown (national 68 82 10000000 lots) nothing (entry name 32 32 32 10000000 lots) nothing nothing nothing

-- B at 10 and E at 20, B freed, then a maker at 30
abbrev returned : ℕ → Row
returned name =
    in_day
    (on_d 1 (maker_bid 10 3 66 ∷ maker_bid 20 3 69 ∷ maker_of 21 82 0 0 0 0 66 ∷ maker_bid 30 3 name ∷ []) ∷ look ∷ [])
    (taken 5 4 (5 ∷ 0 ∷ 4 ∷ 0 ∷ []) ∷ finra 69 3 ∷ [])

unfoldable pub table : List Row
table =
    -- the same and smaller sizes keep the first time
    race (by_n 10 5) (by_n 30 5) (by_n 31 5) 5 (1 ∷ 0 ∷ 0 ∷ []) 78
    ∷ race (by_n 10 5) (by_n 30 4) (by_n 31 3) 3 (1 ∷ 1 ∷ 1 ∷ []) 78
    -- a larger size takes its own: 3, 3, 4, and 5, 3, 4
    ∷ race (by_n 10 3) (by_n 11 3) (by_n 30 4) 4 (1 ∷ 0 ∷ 1 ∷ []) 80
    ∷ race (by_n 10 5) (by_n 11 3) (by_n 30 4) 4 (1 ∷ 1 ∷ 1 ∷ []) 80
    -- an indication between: 5, 0, 5 begins anew
    ∷ race (by_n 10 5) (by_n 11 0) (by_n 30 5) 5 (1 ∷ 1 ∷ 1 ∷ []) 80
    ∷ race (by_n 30 5) (by_n 11 0) (by_n 10 5) 5 (1 ∷ 1 ∷ 1 ∷ []) 78
    -- a condition between, and one under which the run began
    ∷ race (by_n 10 5) (bid_by 78 11 67 5) (by_n 30 5) 5 (1 ∷ 1 ∷ 1 ∷ []) 78
    ∷ race (bid_by 78 10 67 5) (by_n 30 5) (by_n 31 5) 5 (0 ∷ 1 ∷ 0 ∷ []) 78
    -- another price between
    ∷ race (by_n 10 5) (round_of 78 11 82 9990000 5 0 0 no_odd) (by_n 30 5) 5 (1 ∷ 1 ∷ 1 ∷ []) 80
    -- times that go back: the first quote's, not the earliest
    ∷ race (by_n 30 5) (by_n 11 5) (by_n 10 5) 5 (1 ∷ 0 ∷ 0 ∷ []) 80
    -- the leader of both sides stays for its resent quote, and is ahead by time as before: no flags
    ∷ in_day
    (on_n 1 (plain 78 5 3 no_odd ∷ []) ∷ on_p 1 (plain 80 6 3 no_odd ∷ []) ∷ on_n 2 (plain 78 7 3 no_odd ∷ []) ∷ look ∷ [])
    (accepted 2 1 3 ∷ accepted 2 1 3 ∷ accepted 3 2 0 ∷ shown (leading 84 78 82 10000000 3) (leading 84 78 82 10020000 2) nothing nothing nothing nothing ∷ [])
    -- a time for each side: N's bid is of 10, its offer of 30
    ∷ in_day
    (on_n 1 (plain 78 10 3 no_odd ∷ round_of 78 30 82 10000000 3 10020000 3 no_odd ∷ []) ∷ on_p 1 (round_of 80 20 82 10000000 3 10020000 3 no_odd ∷ []) ∷ look ∷ [])
    (taken 3 2 (3 ∷ 2 ∷ []) ∷ accepted 2 1 3 ∷ shown (leading 84 78 82 10000000 3) (leading 84 80 82 10020000 3) nothing nothing nothing nothing ∷ [])
    -- and the other way: its bid is of 30, its offer of 10
    ∷ in_day
    (on_n 1 (plain 78 10 3 no_odd ∷ plain 78 30 4 no_odd ∷ []) ∷ on_p 1 (plain 80 20 4 no_odd ∷ []) ∷ look ∷ [])
    (taken 3 2 (3 ∷ 1 ∷ []) ∷ accepted 2 1 3 ∷ shown (leading 84 80 82 10000000 4) (leading 84 78 82 10020000 2) nothing nothing nothing nothing ∷ [])
    -- the round part of a partly accepted Q K is in the run, a rejected one is not
    ∷ in_day
    (on_n 1 (by_n 10 5 ∷ []) ∷ on_n 2 (round_of 78 31 82 10000000 6 0 0 (odds 66 0 0 (1 ∷ []) []) ∷ []) ∷ on_n 3 (round_of 78 31 82 10000000 6 0 0 (odds 67 0 0 (0 ∷ []) []) ∷ [])
    ∷ on_n 4 (by_n 9 6 ∷ []) ∷ on_p 1 (bid_by 80 20 82 6 ∷ []) ∷ look ∷ [])
    (accepted 2 1 1 ∷ rejected 3 2 43 ∷ partly 4 3 60 1 ∷ accepted 5 4 0 ∷ accepted 2 1 1 ∷ leads 80 6 ∷ [])
    -- one run for a letter over two lines
    ∷ in_day
    (open_line 8 78 ∷ on_n 1 (by_n 10 5 ∷ []) ∷ take 8 (block 1 (by_n 30 5 ∷ [])) 180 ∷ on_p 1 (bid_by 80 20 82 5 ∷ []) ∷ look ∷ [])
    (only 0 ∷ accepted 2 1 1 ∷ accepted 2 1 0 ∷ accepted 2 1 1 ∷ leads 78 5 ∷ [])
    -- Start of Day forgets
    ∷ in_day
    (on_n 1 (by_n 10 5 ∷ []) ∷ end_day ∷ start_day ∷ on_n 1 (by_n 30 5 ∷ []) ∷ on_p 1 (bid_by 80 20 82 5 ∷ []) ∷ look ∷ [])
    (accepted 2 1 1 ∷ only 0 ∷ only 0 ∷ accepted 2 1 1 ∷ accepted 2 1 1 ∷ leads 80 5 ∷ [])
    -- makers likewise: the same, smaller, larger
    ∷ in_day
    (on_d 1 (maker_bid 10 5 66 ∷ maker_bid 20 3 69 ∷ maker_bid 30 5 66 ∷ maker_bid 31 3 66 ∷ []) ∷ look ∷ on_d 5 (maker_bid 32 4 66 ∷ maker_bid 21 4 69 ∷ []) ∷ look ∷ [])
    (taken 5 4 (5 ∷ 0 ∷ 0 ∷ 5 ∷ []) ∷ finra 66 3 ∷ taken 7 6 (5 ∷ 4 ∷ []) ∷ finra 69 4 ∷ [])
    -- FINRA Close and Open between
    ∷ in_day
    (on_d 1 (maker_bid 10 3 66 ∷ maker_bid 20 3 65 ∷ []) ∷ on_d 3 (control 67 68 ∷ []) ∷ on_d 4 (maker_bid 30 3 66 ∷ []) ∷ on_d 5 (control 79 68 ∷ []) ∷ look ∷ [])
    (taken 3 2 (5 ∷ 0 ∷ []) ∷ accepted 4 3 5 ∷ accepted 5 4 5 ∷ accepted 6 5 0 ∷ finra 66 3 ∷ [])
    -- a freed maker that returns, and another maker in its cell
    ∷ returned 66 ∷ returned 67
    -- D has the time of that side of its FINRA best: the bid of 10, the offer of 30
    ∷ in_day
    (on_d 1 (maker_of 10 82 10000000 3 10020000 2 65 ∷ maker_of 30 82 10000000 3 10020000 3 65 ∷ []) ∷ on_p 1 (round_of 80 20 82 10000000 3 10020000 3 no_odd ∷ []) ∷ look ∷ [])
    (taken 3 2 (15 ∷ 10 ∷ []) ∷ accepted 2 1 3
    ∷ shown (leading 84 68 82 10000000 3) (leading 84 80 82 10020000 3) (entry 65 32 32 32 10000000 3) (entry 65 32 32 32 10020000 3) nothing nothing ∷ [])
    ∷ []

-- one for each row, in order
pub cases : Answered table
unfolding table answered
cases =
    refl  -- the same size
    ▹ refl  -- smaller
    ▹ refl  -- larger
    ▹ refl  -- 5, 3, 4
    ▹ refl  -- 5, 0, 5
    ▹ refl  -- 5, 0, 5 with times that go back
    ▹ refl  -- a condition between
    ▹ refl  -- a condition first
    ▹ refl  -- another price
    ▹ refl  -- times that go back
    ▹ refl  -- the leader stays
    ▹ refl  -- the offer's time alone
    ▹ refl  -- the bid's time alone
    ▹ refl  -- partly accepted
    ▹ refl  -- two lines
    ▹ refl  -- Start of Day
    ▹ refl  -- makers
    ▹ refl  -- FINRA Close and Open
    ▹ refl  -- a maker returns
    ▹ refl  -- another in its cell
    ▹ refl  -- D
    ▹ end
