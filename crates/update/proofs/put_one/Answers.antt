use mathlib.Core.Path.{ap, ◌∙◌}
use Rattle.std.specs.Prelude.{Err}
use Rattle.std.proofs.lemmas.Result.{err_from_is_err_and}
use Rattle.update.proofs.OddLaws.{one-rejected, one_written}
use Rattle.update.proofs.put_one.Goals as goal

pub returns-in_err-levels : goal.returns-in_err-levels
returns-in_err-levels c =
    let e = err_from_is_err_and c.from_residual.result c.from_residual.ensures.1 in
    rw (e.1 ∙ ap Err e.2) (one-rejected _ _ _ _ _ c.with_part.ensures _ c.in_err-levels.was)

pub returns : goal.returns
returns c = one_written _ _ _ _ _ c.with_part.ensures _ _ c.in_ok-levels.was c.put_side.ensures
