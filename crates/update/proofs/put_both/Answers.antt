use mathlib.Core.Path.{ap, ◌∙◌}
use Rattle.std.specs.Prelude.{Err}
use Rattle.std.proofs.lemmas.Result.{err_from_is_err_and}
use Rattle.update.proofs.OddLaws.{bids-rejected, offers-rejected, both-written}
use Rattle.update.proofs.put_both.Goals as goal

pub returns-in_err-bids : goal.returns-in_err-bids
returns-in_err-bids c =
    let e = err_from_is_err_and c.from_residual.result c.from_residual.ensures.1 in
    rw (e.1 ∙ ap Err e.2) (bids-rejected _ _ _ _ _ c.with_part.ensures _ c.in_err-bids.was)

pub returns-in_err-offers : goal.returns-in_err-offers
returns-in_err-offers c =
    let e = err_from_is_err_and c.from_residual-in_err-offers.result c.from_residual-in_err-offers.ensures.1 in
    rw (e.1 ∙ ap Err e.2) (offers-rejected _ _ _ _ _ c.with_part.ensures _ c.in_ok-bids.was _ c.with_part-2.ensures _ c.in_err-offers.was)

pub returns : goal.returns
returns c =
    both-written _ _ _ _ _ c.with_part.ensures _ c.in_ok-bids.was _ c.with_part-2.ensures _ _ _ c.in_ok-offers.was c.put_side.ensures c.put_side-2.ensures
