-- One allowance for all lines (T-14): rows for its sentences. Each row has whole answers.
-- Assumes nothing.
use Prim.Native.Nat.{ℕ, ◌+◌}
use mathlib.Core.Path.{refl}
use mathlib.Core.List.{List, [], ◌∷◌, ◌++◌}
use lib.ListN.{replicate}
use Rattle.calls.specs.Call.{Call, make, open_line, start_day, end_day, take, set_allowance, tick}
use Rattle.cases.proofs.Rows.{control, block, only, refused, accepted, rejected, two_rejected, gap, national, nothing, shown, no_odd, plain, halt, unknown, on_n, on_p, on_d, look, Row, in_day, from_make, answered, Answered, end, ◌▹◌}

-- shares of N's, P's and D's lines, 5, 6 and 7
abbrev shares : ℕ → ℕ → ℕ → List ℕ
shares a b c = replicate 5 0 ++ (a ∷ b ∷ c ∷ replicate 56 0)

abbrev no_shares : List ℕ
no_shares = replicate 64 0

-- a block of one message, which is rejected with 40, on N's, P's and D's line
abbrev of_n : ℕ → Call
of_n sequence = on_n sequence (unknown ∷ [])

abbrev of_p : ℕ → Call
of_p sequence = on_p sequence (unknown ∷ [])

abbrev of_d : ℕ → Call
of_d sequence = on_d sequence (unknown ∷ [])

-- it is taken in order, the k-th of its line; or refused, k being taken before it
abbrev taken : ℕ → List ℕ
taken k = rejected (k + 1) k 40

abbrev used_up : ℕ → List ℕ
used_up k = refused 86 (k + 1) k

unfoldable pub table : List Row
table =
    -- 84: B is 0 or above 255, neither cut to a byte, and before 85; 85: not 64 shares, or their sum, not cut to a byte, is above B
    from_make 1
    (set_allowance 0 no_shares ∷ set_allowance 256 no_shares ∷ set_allowance 261 no_shares ∷ set_allowance 0 [] ∷ set_allowance 255 no_shares ∷ set_allowance 1 no_shares
    ∷ set_allowance 5 (replicate 63 0) ∷ set_allowance 5 (replicate 65 0) ∷ set_allowance 5 [] ∷ set_allowance 3 (shares 2 1 1) ∷ set_allowance 4 (shares 2 1 1) ∷ set_allowance 255 (replicate 64 4) ∷ [])
    (only 84 ∷ only 84 ∷ only 84 ∷ only 84 ∷ only 0 ∷ only 0 ∷ only 85 ∷ only 85 ∷ only 85 ∷ only 85 ∷ only 0 ∷ only 85 ∷ [])
    -- without one, a tick answers 0 and changes nothing
    ∷ in_day (tick ∷ of_n 1 ∷ tick ∷ of_n 2 ∷ of_n 3 ∷ []) (only 0 ∷ taken 1 ∷ only 0 ∷ taken 2 ∷ taken 3 ∷ [])
    -- share 1 each and a spare of 2: N has its share and the spare, P its share, whatever N sent; the tick gives all back, and the refused block is in order
    ∷ in_day
    (set_allowance 4 (shares 1 1 0) ∷ of_n 1 ∷ of_n 2 ∷ of_n 3 ∷ of_n 4 ∷ of_p 1 ∷ of_p 2 ∷ of_d 1 ∷ tick ∷ of_n 4 ∷ of_p 2 ∷ of_d 1 ∷ [])
    (only 0 ∷ taken 1 ∷ taken 2 ∷ taken 3 ∷ used_up 3 ∷ taken 1 ∷ used_up 1 ∷ used_up 0 ∷ only 0 ∷ taken 4 ∷ taken 2 ∷ taken 1 ∷ [])
    -- to its line's share first: N's first block leaves the spare to P
    ∷ in_day (set_allowance 2 (shares 1 0 0) ∷ of_n 1 ∷ of_p 1 ∷ of_p 2 ∷ of_n 2 ∷ []) (only 0 ∷ taken 1 ∷ taken 1 ∷ used_up 1 ∷ used_up 1 ∷ [])
    -- a sum of B leaves no spare; unused blocks are not carried over
    ∷ in_day (set_allowance 2 (shares 1 1 0) ∷ of_n 1 ∷ of_n 2 ∷ tick ∷ tick ∷ of_n 2 ∷ of_n 3 ∷ []) (only 0 ∷ taken 1 ∷ used_up 1 ∷ only 0 ∷ only 0 ∷ taken 2 ∷ used_up 2 ∷ [])
    -- 86 after 35: a duplicate is 35 though nothing is left, and is not charged, nor are other refused blocks
    ∷ in_day
    (set_allowance 2 no_shares ∷ of_n 1 ∷ of_n 1 ∷ of_n 1 ∷ take 5 (block 2 (unknown ∷ [])) 179 ∷ take 9 (block 2 (unknown ∷ [])) 180 ∷ of_n 2 ∷ of_n 3 ∷ of_n 1 ∷ end_day ∷ of_n 3 ∷ [])
    (only 0 ∷ taken 1 ∷ refused 35 2 1 ∷ refused 35 2 1 ∷ only 9 ∷ only 21 ∷ taken 2 ∷ used_up 2 ∷ refused 35 3 2 ∷ only 0 ∷ refused 20 3 2 ∷ [])
    -- a block refused with 86 is not charged, and reports no gap; a gap is charged
    ∷ in_day (set_allowance 1 no_shares ∷ of_n 1 ∷ of_n 5 ∷ of_p 1 ∷ tick ∷ of_n 5 ∷ of_n 6 ∷ []) (only 0 ∷ taken 1 ∷ used_up 1 ∷ used_up 0 ∷ only 0 ∷ gap 3 6 2 ∷ refused 86 6 2 ∷ [])
    -- C I and C T are free, also rejected, and skip 86; C C is charged
    ∷ in_day
    (set_allowance 1 no_shares ∷ on_n 1 (control 84 78 ∷ []) ∷ on_n 9 (control 73 78 ∷ []) ∷ of_n 1 ∷ on_n 1 (control 84 78 ∷ []) ∷ on_n 7 (control 73 80 ∷ []) ∷ of_n 2
    ∷ tick ∷ on_d 1 (control 67 68 ∷ []) ∷ on_d 2 (control 79 68 ∷ []) ∷ [])
    (only 0 ∷ accepted 1 0 0 ∷ accepted 1 0 0 ∷ taken 1 ∷ accepted 2 1 0 ∷ rejected 2 1 41 ∷ used_up 1 ∷ only 0 ∷ accepted 2 1 0 ∷ used_up 1 ∷ [])
    -- Start of Day keeps the allowance and its charges; the tick starts the next
    ∷ in_day
    (set_allowance 1 no_shares ∷ of_n 1 ∷ end_day ∷ start_day ∷ of_n 1 ∷ tick ∷ of_n 1 ∷ of_n 2 ∷ [])
    (only 0 ∷ taken 1 ∷ only 0 ∷ only 0 ∷ used_up 0 ∷ only 0 ∷ taken 1 ∷ used_up 1 ∷ [])
    -- a setting starts a tick and replaces shares and B; a refused one does neither
    ∷ in_day
    (set_allowance 1 no_shares ∷ of_n 1 ∷ set_allowance 0 no_shares ∷ of_n 2 ∷ set_allowance 1 (shares 1 1 0) ∷ of_n 2 ∷ set_allowance 1 (shares 0 1 0) ∷ of_n 2 ∷ of_p 1 ∷ set_allowance 1 (shares 0 1 0) ∷ of_p 2 ∷ of_p 3 ∷ [])
    (only 0 ∷ taken 1 ∷ only 84 ∷ used_up 1 ∷ only 85 ∷ used_up 1 ∷ only 0 ∷ used_up 1 ∷ taken 1 ∷ only 0 ∷ taken 2 ∷ used_up 2 ∷ [])
    -- a refused make keeps it, and a made book has none
    ∷ in_day
    (set_allowance 1 no_shares ∷ of_n 1 ∷ make 2 ∷ of_n 2 ∷ make 1 ∷ open_line 5 78 ∷ start_day ∷ of_n 1 ∷ of_n 2 ∷ tick ∷ [])
    (only 0 ∷ taken 1 ∷ only 2 ∷ used_up 1 ∷ only 0 ∷ only 0 ∷ only 0 ∷ taken 1 ∷ taken 2 ∷ only 0 ∷ [])
    -- shares belong to line numbers, open or not: a line opened in the tick has its whole share; a block is one charge, whatever it holds
    ∷ in_day
    (set_allowance 3 (replicate 8 0 ++ (2 ∷ replicate 55 0)) ∷ on_n 1 (unknown ∷ unknown ∷ []) ∷ of_n 3 ∷ open_line 8 65 ∷ take 8 (block 1 (unknown ∷ [])) 180 ∷ take 8 (block 2 (unknown ∷ [])) 180
    ∷ take 8 (block 3 (unknown ∷ [])) 180 ∷ [])
    (only 0 ∷ two_rejected 3 2 ∷ used_up 2 ∷ only 0 ∷ taken 1 ∷ taken 2 ∷ used_up 2 ∷ [])
    -- the history leaves refused blocks out: a status refused with 86 halts nothing
    ∷ in_day
    (on_n 1 (plain 78 7 3 no_odd ∷ []) ∷ set_allowance 1 no_shares ∷ of_n 2 ∷ on_n 3 (halt ∷ []) ∷ look ∷ [])
    (accepted 2 1 3 ∷ only 0 ∷ rejected 3 2 40 ∷ refused 86 3 2 ∷ shown (national 78 82 10000000 3) (national 78 82 10020000 2) nothing nothing nothing nothing ∷ [])
    ∷ []

-- one for each row, in order
pub cases : Answered table
unfolding table answered
cases =
    refl  -- 84, 85
    ▹ refl  -- none set
    ▹ refl  -- share and spare
    ▹ refl  -- share first
    ▹ refl  -- no spare
    ▹ refl  -- 35
    ▹ refl  -- 86 and gaps
    ▹ refl  -- free
    ▹ refl  -- Start of Day
    ▹ refl  -- settings
    ▹ refl  -- make
    ▹ refl  -- lines
    ▹ refl  -- history
    ▹ end
