use mathlib.Core.Path.{refl, ap, ◌∙◌}
use Rattle.ranking.specs.code.Choice.{choose}
use Rattle.page.specs.Layout.{maker_count}
use Rattle.sweep.proofs.NextLaws.{best-again, best-end, finra-found}
use borrow.Author.Rules.{rules}
use Rattle.sweep.proofs.finra_best.Goals as goal

-- `sweep::finra_best` meets its contract.

pub loop-k-init : goal.loop-k-init
loop-k-init c = (search rules, refl)

pub loop-k-preserved : goal.loop-k-preserved
loop-k-preserved c =
    (search rules, best-again _ _ maker_count _ _ _ _ c.loop-k-test.true c.loop-k.invariant.1 (c.choose-best.ensures ∙ ap (choose _ _) c.maker_candidate.ensures))

pub returns : goal.returns
returns c =
    finra-found _ (λ i. (c.shared_slice_known-1.given i).fits) _ _ (best-end _ _ maker_count _ _ _ c.loop-k-test.false c.loop-k.invariant.1)
