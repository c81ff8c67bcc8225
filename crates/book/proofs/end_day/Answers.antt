use mathlib.Core.Path.{refl, ◌∙◌}
use native.Mathlib.Omega.{arith}
use Rattle.numbers.proofs.RefusalLaws.{passed_up}
use Rattle.opening.proofs.ReadLaws.{opening-room}
use Rattle.book.proofs.CallLaws.{turned_down, carried-out, day-passed, end-judged, end_after}
use Rattle.book.proofs.end_day.Goals as goal

-- `book::end_day` meets its contract.

pub returns-in_err-judge_day : goal.returns-in_err-judge_day
returns-in_err-judge_day c =
    rw (passed_up c.from_residual.result _ c.from_residual.ensures.1) (turned_down _ _ refl _ (c.in_err-judge_day.ensures ∙ end-judged _))

pub put8-requires : goal.put8-requires
put8-requires c = omega (arith, opening-room _ (day-passed _ _ _ c.in_ok-judge_day.ensures))

pub returns : goal.returns
returns c = carried-out _ _ refl _ (c.in_ok-judge_day.ensures ∙ end-judged _) (end_after _ _ c.put8.ensures)
