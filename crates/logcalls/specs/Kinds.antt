-- The calls in a log's records (docs/LOG.md): for each kind its numbers, big-endian, then the bytes that it was lent, to the end of the arguments.
-- A length of a lent buffer has 8 bytes; the other numbers are as wide as in the C interface.
-- Assumes nothing.
use Rattle.std.specs.Prelude.{ℕ, Bool, cond, List, eqb, leb, length, drop, Option, None, Some}
use Rattle.field.specs.Field.{field}
use Rattle.calls.specs.Call.{Call, make, add, open_line, start_day, end_day, take, read, protected, convert_len, convert, snapshot_len, snapshot, try_order, set_allowance, tick}

-- the numbers and nothing more
abbrev pub exactly : ℕ → List ℕ → Call → Option Call
exactly w a c = cond (eqb (length a) w) (Some c) None

-- the numbers, then any bytes
abbrev pub at_least : ℕ → List ℕ → Call → Option Call
at_least w a c = cond (leb w (length a)) (Some c) None

unfoldable pub call_of : ℕ → List ℕ → Option Call
call_of k a =
    cond (eqb k 1) (exactly 4 a (make (field a 0 4)))
    (cond (eqb k 2) (at_least 5 a (add (drop 5 a) (field a 0 4) (field a 4 1)))
    (cond (eqb k 3) (exactly 5 a (open_line (field a 0 4) (field a 4 1)))
    (cond (eqb k 4) (exactly 0 a start_day)
    (cond (eqb k 5) (exactly 0 a end_day)
    (cond (eqb k 6) (at_least 12 a (take (field a 0 4) (drop 12 a) (field a 4 8)))
    (cond (eqb k 7) (at_least 8 a (read (drop 8 a) (field a 0 8)))
    (cond (eqb k 8) (at_least 9 a (protected (drop 9 a) (field a 0 1) (field a 1 8)))
    (cond (eqb k 9) (Some (convert_len a))
    (cond (eqb k 10) (at_least 8 a (convert (drop 8 a) (field a 0 8)))
    (cond (eqb k 11) (Some (snapshot_len a))
    (cond (eqb k 12) (at_least 8 a (snapshot (drop 8 a) (field a 0 8)))
    (cond (eqb k 13) (at_least 13 a (try_order (drop 13 a) (field a 0 1) (field a 1 4) (field a 5 8)))
    (cond (eqb k 14) (at_least 4 a (set_allowance (field a 0 4) (drop 4 a)))
    (cond (eqb k 15) (exactly 0 a tick)
    None))))))))))))))
