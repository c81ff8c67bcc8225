use mathlib.Core.Path.{refl, sym, ◌∙◌}
use native.Mathlib.Omega.{arith}
use Rattle.lists.proofs.Searches.{first_found, first-again, first-end}
use Rattle.protection.proofs.StepLaws.{search-found, search-none}
use borrow.Author.Rules.{rules}
use Rattle.protection.proofs.search.Goals as goal

-- `protection::search` meets its contract.

pub loop-letter-init : goal.loop-letter-init
loop-letter-init c = (search rules, search rules, refl)

pub returns-then-letter_yes : goal.returns-then-letter_yes
returns-then-letter_yes c =
    search-found _ _ _ _ (first_found _ _ _ _ (omega (arith, c.loop-letter-test.true)) c.loop-letter.invariant.2 (sym c.letter_yes.ensures ∙ c.if-letter_yes.true))

pub loop-letter-preserved : goal.loop-letter-preserved
loop-letter-preserved c =
    (search rules, search rules, first-again _ _ _ _ (omega (arith, c.loop-letter-test.true)) c.loop-letter.invariant.2 (sym c.letter_yes.ensures ∙ c.if-letter_yes.false))

pub returns : goal.returns
returns c = search-none _ _ _ (first-end _ _ _ _ (omega (arith, c.loop-letter-test.false)) c.loop-letter.invariant.2)
