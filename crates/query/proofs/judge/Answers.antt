use Rattle.numbers.proofs.RefusalLaws.{passed_up}
use Rattle.query.proofs.AskedLaws.{asked-unknown, asked-unmarked, asked-marked}
use Rattle.query.proofs.judge.Goals as goal

-- `query::judge` meets its contract.

pub returns-in_err-page : goal.returns-in_err-page
returns-in_err-page c =
    rw (passed_up c.from_residual.result _ c.from_residual.ensures.1) (asked-unknown _ _ _ _ c.in_err-page.ensures)

pub returns-in_err-side : goal.returns-in_err-side
returns-in_err-side c =
    rw (passed_up c.from_residual-in_err-side.result _ c.from_residual-in_err-side.ensures.1)
    (asked-unmarked _ _ _ _ c.in_ok-page.ensures _ c.marked.ensures _ c.in_err-side.ensures.value)

pub returns : goal.returns
returns c = asked-marked _ _ _ _ c.in_ok-page.ensures _ c.marked.ensures _ c.in_ok-side.ensures.value
