use mathlib.Core.Path.{sym, ap, ◌∙◌}
use mathlib.Core.Bool.{not}
use Rattle.lists.proofs.Searches.{first-start, first_found, first-again, first-end}
use Rattle.makers.specs.Makers.{free_place}
use borrow.Author.Rules.{rules}
use Rattle.page.specs.Layout.{maker_count}
use Rattle.makers.proofs.free_place.Goals as goal

pub loop-k-init : goal.loop-k-init
unfolding free_place
loop-k-init c = (search rules, first-start _ maker_count)

pub returns-then-not-is_standing : goal.returns-then-not-is_standing
returns-then-not-is_standing c =
    first_found _ maker_count _ _ c.loop-k-test.true c.loop-k.invariant.1 (ap not (sym c.is_standing.ensures ∙ c.if-not-is_standing.true))

pub loop-k-preserved : goal.loop-k-preserved
loop-k-preserved c =
    (search rules, first-again _ maker_count _ _ c.loop-k-test.true c.loop-k.invariant.1 (ap not (sym c.is_standing.ensures ∙ c.if-not-is_standing.false)))

pub returns : goal.returns
returns c = first-end _ maker_count _ _ c.loop-k-test.false c.loop-k.invariant.1
