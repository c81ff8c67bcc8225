use Rattle.std.proofs.Common.{◌∙◌, rules, eqb}
use Rattle.std.proofs.lemmas.Iterator.{YieldsList-from_slice}
use Rattle.std.proofs.lemmas.Iterator.Search.{any_from_yields_List}
use borrow.Author.Tests.{tests}
use Rattle.quote.specs.declared.Level.{Level}
use Rattle.levels.proofs.CellLaws.{holds-any}
use Rattle.levels.proofs.Levels.holds.Goals as goal

pub returns : goal.returns
returns c =
    any_from_yields_List (λ (y : Level). eqb y.price c.args.price) _ _ _ c.any.ensures.ran (YieldsList-from_slice c.args.self.cells (cc)) (λ x b q k. search (rules, tests))
    ∙ holds-any c.args.price c.args.self.cells
