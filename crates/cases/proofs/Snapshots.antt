-- T-12, "Snapshot feed", sentence by sentence. Like `Shared`, rows of whole answers: blocks, bytes and every byte that is written. Messages and headers are
-- written out in the rows of crate `snapshot`, which also has the snapshots with 13, 14 and 24 letters.
-- Assumes nothing.
use Prim.Native.Nat.{ℕ}
use mathlib.Core.Path.{refl}
use mathlib.Core.List.{List, [], ◌∷◌, ◌++◌}
use lib.ListN.{replicate}
use Rattle.snapshot.proofs.Words.{header, any_c, any_p, any_f, blank_c, blank_f, ten, ten02}
use Rattle.calls.specs.Call.{Call, add, open_line, start_day, end_day, take, snapshot_len, snapshot}
use Rattle.cases.proofs.Rows.{item, control, only, accepted, sent, zt, ab, round_of, no_odd, plain, levels, standing, halt, trade, on_n, on_p, on_d, send, measure, Row, in_day, from_make, answered, Answered, end, ◌▹◌}

-- a symbol without quotes: R C and R F, "even with no maker"
abbrev empty_feed : List ℕ
empty_feed = header 0 194 1 2 4 10 254 ++ any_c blank_c blank_c ++ any_f blank_f blank_f

-- N R 10.00 for 3, 10.02 for 2
abbrev one_feed : List ℕ
one_feed = header 1 0 1 3 4 22 138 ++ any_c (78 ∷ 82 ∷ ten) (78 ∷ 82 ∷ ten02) ++ any_p 78 82 ten ten02 ++ any_f blank_f blank_f

unfoldable pub table : List Row
table =
    -- 10, then 81: one byte short, exactly enough, more; a refusal carries 0 and 0; before Start of Day
    from_make 1
    (measure ∷ send 0 ∷ snapshot_len [] ∷ add zt 100 78 ∷ snapshot_len ab ∷ snapshot ab 0 ∷ snapshot_len (90 ∷ 84 ∷ []) ∷ snapshot (90 ∷ 84 ∷ replicate 10 32) 1706
    ∷ measure ∷ send 0 ∷ send 193 ∷ send 194 ∷ send 1706 ∷ [])
    (only 10 ∷ only 10 ∷ only 10 ∷ only 0 ∷ only 10 ∷ only 10 ∷ only 10 ∷ only 10
    ∷ sent 1 194 [] ∷ only 81 ∷ only 81 ∷ sent 1 194 empty_feed ∷ sent 1 194 empty_feed ∷ [])
    -- one letter; its odd lots have no place; End of Day keeps it, Start of Day empties it
    ∷ in_day
    (on_n 1 (plain 78 7 3 no_odd ∷ []) ∷ measure ∷ send 256 ∷ send 255 ∷ on_n 2 (levels 32 1 0 (item 10010000 5) ∷ []) ∷ send 256 ∷ end_day ∷ send 256 ∷ start_day ∷ send 194 ∷ [])
    (accepted 2 1 3 ∷ sent 1 256 [] ∷ sent 1 256 one_feed ∷ only 81 ∷ accepted 3 2 16 ∷ sent 1 256 one_feed ∷ only 0 ∷ sent 1 256 one_feed ∷ only 0 ∷ sent 1 194 empty_feed ∷ [])
    -- while it is halted the entries are none, and the letter's quote is sent as it is stored
    ∷ in_day
    (on_n 1 (plain 78 7 3 no_odd ∷ []) ∷ on_n 2 (halt ∷ []) ∷ send 256 ∷ on_n 3 (trade ∷ []) ∷ send 256 ∷ [])
    (accepted 2 1 3 ∷ accepted 3 2 3 ∷ sent 1 256 (header 1 0 1 3 4 17 251 ++ any_c blank_c blank_c ++ any_p 78 82 ten ten02 ++ any_f blank_f blank_f) ∷ accepted 4 3 3 ∷ sent 1 256 one_feed ∷ [])
    -- a quote that does not count, and one with 0 and 0 on both sides, has its message
    ∷ in_day
    (on_n 1 (round_of 78 7 67 10000000 3 10020000 2 no_odd ∷ []) ∷ on_p 1 (round_of 80 7 82 0 0 0 0 no_odd ∷ []) ∷ measure ∷ send 318 ∷ [])
    (accepted 2 1 0 ∷ accepted 2 1 0 ∷ sent 1 318 []
    ∷ sent 1 318 (header 1 62 1 4 4 22 27 ++ any_c blank_c blank_c ++ any_p 78 67 ten ten02 ++ any_p 80 82 (replicate 12 0) (replicate 12 0) ++ any_f blank_f blank_f) ∷ [])
    -- D leads: its letter and R in R C, its maker in R F, no message of its own
    ∷ in_day
    (on_d 1 (standing 7 3 65 ∷ []) ∷ measure ∷ send 194 ∷ [])
    (accepted 2 1 15 ∷ sent 1 194 [] ∷ sent 1 194 (header 0 194 1 2 4 19 138 ++ any_c (68 ∷ 82 ∷ ten) (68 ∷ 82 ∷ ten02) ++ any_f (ten ++ (65 ∷ 32 ∷ 32 ∷ 32 ∷ [])) (ten02 ++ (65 ∷ 32 ∷ 32 ∷ 32 ∷ []))) ∷ [])
    ∷ []

-- one for each row, in order
pub cases : Answered table
unfolding table answered
cases =
    refl  -- 10 and 81
    ▹ refl  -- one letter
    ▹ refl  -- halted
    ▹ refl  -- what does not count
    ▹ refl  -- D leads
    ▹ end
