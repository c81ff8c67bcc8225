use mathlib.Core.Path.{refl}
use Rattle.numbers.proofs.RefusalLaws.{passed_up}
use Rattle.book.proofs.CallLaws.{turned_down, carried-out, open-passed, open_after}
use Rattle.book.proofs.open_line.Goals as goal

pub returns-in_err-judge_line : goal.returns-in_err-judge_line
returns-in_err-judge_line c =
    rw (passed_up c.from_residual.result _ c.from_residual.ensures.1) (turned_down _ _ refl _ c.in_err-judge_line.ensures)

pub put_line-requires : goal.put_line-requires
put_line-requires c = open-passed _ _ _ c.in_ok-judge_line.ensures

pub returns : goal.returns
returns c = carried-out _ _ refl _ c.in_ok-judge_line.ensures (open_after _ _ _ _ c.put_line.ensures)
