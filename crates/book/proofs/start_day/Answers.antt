use mathlib.Core.Path.{refl, ◌∙◌}
use native.Mathlib.Omega.{arith}
use Rattle.numbers.proofs.RefusalLaws.{passed_up}
use Rattle.opening.proofs.ReadLaws.{opening-room, pages-room}
use Rattle.book.proofs.CallLaws.{turned_down, carried-out, day-passed, start-judged, start-after}
use Rattle.book.proofs.start_day.Goals as goal

-- `book::start_day` meets its contract.

pub returns-in_err-judge_day : goal.returns-in_err-judge_day
returns-in_err-judge_day c =
    rw (passed_up c.from_residual.result _ c.from_residual.ensures.1) (turned_down _ _ refl _ (c.in_err-judge_day.ensures ∙ start-judged _))

pub get8-n-requires : goal.get8-n-requires
get8-n-requires c = omega (arith, opening-room _ (day-passed _ _ _ c.in_ok-judge_day.ensures))

pub empty_pages-requires : goal.empty_pages-requires
empty_pages-requires c = pages-room _ _ (day-passed _ _ _ c.in_ok-judge_day.ensures) c.get8-n.ensures

pub restart_lines-requires : goal.restart_lines-requires
restart_lines-requires c = omega (arith, opening-room _ (day-passed _ _ _ c.in_ok-judge_day.ensures))

pub put8-requires : goal.put8-requires
put8-requires c = omega (arith, opening-room _ (day-passed _ _ _ c.in_ok-judge_day.ensures))

pub returns : goal.returns
returns c =
    carried-out _ _ refl _ (c.in_ok-judge_day.ensures ∙ start-judged _)
    (start-after _ _ _ _ _ c.get8-n.ensures c.empty_pages.ensures c.restart_lines.ensures c.put8.ensures)
