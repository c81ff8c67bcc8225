-- A block on its line: its number, and the line after it (document 01, "Block" and the line's numbers).
-- Assumes nothing.
use Rattle.std.specs.Prelude.{ℕ, Bool, true, cond, List, eqb, Option, None, Some, Result, Ok, Err}
use Rattle.block.specs.Block.{count_in, sequence_in, checked, idle_block}
use Rattle.block.specs.Sequence.{arrival_of}
use Rattle.numbers.specs.declared.Refusal.{Refusal}
use Rattle.numbers.specs.Numbers.{number_of}
use Rattle.block.specs.declared.Arrival.{Arrival}
use Rattle.opening.specs.declared.Line.{Line}
use Rattle.field.specs.Field.{splice}
use Rattle.allowance.specs.Allowance.{charged_to}
use Rattle.opening.specs.Opening.{line_after, line_bytes, on_allowance}
use Rattle.opening.specs.Layout.{line_at}

-- ---- a block's number

-- 20, 35, 86; else 0 or 70: after checks 30 to 34, on an open line; used: share and spare are used (T-14)
abbrev pub arrival_number_of : Bool → Option Arrival → ℕ
arrival_number_of used (Some a) = cond used 86 (cond (eqb a.gap 0) 0 70)
arrival_number_of used None = 35

-- "Blocks of C I, C T and C 5 are free and skip 86"
unfoldable pub line_number : Line → Bool → Bool → List ℕ → ℕ
line_number r day used b = cond (idle_block b) 0 (cond day (arrival_number_of used (arrival_of (sequence_in b) r.expected (count_in b))) 20)

abbrev pub checked_number_of : Line → Bool → Bool → List ℕ → Result ℕ Refusal → ℕ
checked_number_of r day used b (Ok c) = line_number r day used b
checked_number_of r day used b (Err k) = number_of k

unfoldable pub block_number : Line → Bool → Bool → List ℕ → ℕ
block_number r day used b = checked_number_of r day used b (checked b)

-- 21, then the block
abbrev pub on_line : Bool → Bool → List ℕ → Option Line → ℕ
on_line day used b None = 21
on_line day used b (Some r) = block_number r day used b

-- 0 and 70: the call is done
unfoldable pub done : ℕ → Bool
done k = cond (eqb k 0) true (eqb k 70)

-- ---- the line after a taken block

abbrev pub gap_by : Option Arrival → ℕ
gap_by (Some a) = a.gap
gap_by None = 0

abbrev pub next_by : ℕ → Option Arrival → ℕ
next_by expected (Some a) = a.next
next_by expected None = expected

-- d of a taken block: "Blocks whose message is C I, C T or C 5 .. report d as 0"
unfoldable pub gap_told : Line → List ℕ → ℕ
gap_told r b = cond (idle_block b) 0 (gap_by (arrival_of (sequence_in b) r.expected (count_in b)))

-- the same of a block's bytes: "Blocks whose message is C I, C T or C 5 .. move neither"
unfoldable pub advanced : Line → List ℕ → Line
advanced r b = cond (idle_block b) r (line_after r (next_by r.expected (arrival_of (sequence_in b) r.expected (count_in b))) (count_in b))

-- the book with the line's record after a taken block, and the block charged to the line unless it is free
unfoldable pub settled : ℕ → Line → Bool → List ℕ → List ℕ
settled i x free b = cond free (splice b (line_at i) (line_bytes x)) (on_allowance (charged_to i) (splice b (line_at i) (line_bytes x)))
