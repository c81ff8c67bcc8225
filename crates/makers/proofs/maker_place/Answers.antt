use mathlib.Core.Path.{sym, ◌∙◌}
use Rattle.lists.proofs.Searches.{first-start, first_found, first-again, first-end}
use Rattle.makers.specs.Makers.{maker_place}
use borrow.Author.Rules.{rules}
use Rattle.page.specs.Layout.{maker_count}
use Rattle.makers.proofs.maker_place.Goals as goal

pub loop-k-init : goal.loop-k-init
unfolding maker_place
loop-k-init c = (search rules, first-start _ maker_count)

pub returns-then-is_named : goal.returns-then-is_named
returns-then-is_named c = first_found _ maker_count _ _ c.loop-k-test.true c.loop-k.invariant.1 (sym c.is_named.ensures ∙ c.if-is_named.true)

pub loop-k-preserved : goal.loop-k-preserved
loop-k-preserved c = (search rules, first-again _ maker_count _ _ c.loop-k-test.true c.loop-k.invariant.1 (sym c.is_named.ensures ∙ c.if-is_named.false))

pub returns : goal.returns
returns c = first-end _ maker_count _ _ c.loop-k-test.false c.loop-k.invariant.1
