-- What a step looks for, letter after letter: the best candidate behind the last one used. For the contracts of the code.
-- Assumes nothing.
use Rattle.std.specs.Prelude.{ℕ, ◌+◌, ◌*◌, ◌-◌, Bool, true, cond, List, eqb, length, Option, None, Some}
use Rattle.field.specs.Field.{splice}
use Rattle.lists.specs.Lists.{bind_option}
use Rattle.ranking.specs.declared.Side.{Side}
use Rattle.ranking.specs.declared.Candidate.{Candidate}
use Rattle.ranking.specs.code.Choice.{by_rank}
use Rattle.protection.specs.Protection.{page_candidates}
use Rattle.sweep.specs.Sweep.{Step, filled, steps_bytes, step_length, swept}

-- whether x stands behind the last one used; behind none, which has price 0, stands every one
unfoldable pub follows : Side → Candidate → Candidate → Bool
follows s last x = cond (eqb last.price 0) true (by_rank s last x).ahead

abbrev pub if_next : Side → Candidate → Candidate → Option Candidate
if_next s last x = cond (follows s last x) (Some x) None

-- a letter's candidate, if it does
unfoldable pub next_at : List ℕ → Side → Candidate → ℕ → Option Candidate
next_at p s last l = bind_option (page_candidates p s l) (if_next s last)

-- how many steps, the lots not found, the output
pub record SweptOut : Type 0 where
  pub steps : ℕ
  pub unfilled : ℕ
  pub out : List ℕ

-- with w lots wanted, i steps done and these to come
unfoldable pub swept_from : ℕ → ℕ → List ℕ → List Step → SweptOut
swept_from w i out xs = record { steps = i + length xs; unfilled = w - filled xs; out = splice out (i * step_length) (steps_bytes xs) }

-- an order's result
unfoldable pub swept_out : Side → ℕ → (ℕ → Option Candidate) → List ℕ → SweptOut
swept_out s w c out = record { steps = length (swept s w c); unfilled = w - filled (swept s w c); out = splice out 0 (steps_bytes (swept s w c)) }
