-- What the checks of a block call give, as the code has it.
-- Assumes nothing.
use Rattle.std.specs.Prelude.{ℕ, Bool, cond, List, ltb, Option, None, Some, Result, Ok, Err}
use Rattle.numbers.specs.Numbers.{number_of}
use Rattle.block.specs.Block.{count_in, answer_length, idle_block}
use Rattle.allowance.specs.Allowance.{is_used_up}
use Rattle.opening.specs.declared.Line.{Line}
use Rattle.opening.specs.Opening.{sound, lines_in, rest_in}
use Rattle.line.specs.declared.Taken.{Taken}
use Rattle.line.specs.declared.Stopped.{Stopped}
use Rattle.line.specs.Line.{done, block_number, gap_told, advanced}

-- refused before a line is known (1, 9, 21); refused, with the line as it stands; or taken: its number, 0 or 70, the gap, the count of messages,
-- the line's record after it, and whether it is free
pub data Gate : Type 0 where
  bare : ℕ → Gate
  refused : ℕ → Line → Gate
  taken : ℕ → ℕ → ℕ → Line → Bool → Gate

-- what the checks give: a block with number n on a line with that record
abbrev pub gate_by : Line → ℕ → List ℕ → Gate
gate_by r n k = cond (done n) (taken n (gap_told r k) (count_in k) (advanced r k) (idle_block k)) (refused n r)

abbrev pub gate_on : Bool → Bool → List ℕ → Option Line → Gate
gate_on day used k None = bare 21
gate_on day used k (Some r) = gate_by r (block_number r day used k) k

-- 1, 9, 21, then the block's
unfoldable pub gate_of : List ℕ → ℕ → List ℕ → ℕ → Gate
gate_of b i k room = cond (sound b) (cond (ltb room answer_length) (bare 9) (gate_on (rest_in b).day (is_used_up (rest_in b).allowance i) k (lines_in b i))) (bare 1)

-- what the code answers, in the documents' numbers
abbrev pub stopped_told : ℕ → Option Line → Gate
stopped_told n None = bare n
stopped_told n (Some r) = refused n r

abbrev pub gate_told : Result Taken Stopped → Gate
gate_told (Ok t) = taken t.number t.gap t.count t.next t.free
gate_told (Err s) = stopped_told (number_of s.refusal) s.line
