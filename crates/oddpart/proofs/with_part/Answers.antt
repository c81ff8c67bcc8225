use mathlib.Core.Path.{ap, ◌∙◌}
use Rattle.std.specs.Prelude.{Err}
use Rattle.std.proofs.lemmas.Result.{err_from_is_err_and}
use borrow.Author.Rules.{rules}
use Rattle.oddpart.proofs.PartLaws.{items-start, items-rejected, items-again, items-end, part-is}
use Rattle.oddpart.proofs.with_part.Goals as goal

pub loop-i-init : goal.loop-i-init
loop-i-init c = (search rules, items-start _ _ _ _ _ _)

pub returns-in_err-next : goal.returns-in_err-next
returns-in_err-next c =
    let e = err_from_is_err_and c.from_residual.result c.from_residual.ensures.1 in
    e.1 ∙ ap Err e.2
    ∙ items-rejected _ _ _ _ _ _ _ _ c.loop-i-test.true c.loop-i.invariant.1 _ c.get.ensures _ c.with_item.ensures _ c.in_err-next.was
    ∙ part-is _ _ _ _ _ _ c.start-next.ensures

pub loop-i-preserved : goal.loop-i-preserved
loop-i-preserved c =
    (search rules, items-again _ _ _ _ _ _ _ _ c.loop-i-test.true c.loop-i.invariant.1 _ c.get.ensures _ c.with_item.ensures _ c.in_ok-next.was)

pub returns : goal.returns
returns c = items-end _ _ _ _ _ _ _ _ c.loop-i-test.false c.loop-i.invariant.1 ∙ part-is _ _ _ _ _ _ c.start-next.ensures
