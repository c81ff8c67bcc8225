use Rattle.std.proofs.Common.{rules}
use Rattle.std.proofs.lemmas.Iterator.{YieldsList-from_range}
use Rattle.std.proofs.lemmas.Iterator.Search.{any_from_yields_List}
use borrow.Author.Tests.{tests}
use Rattle.page.specs.Layout.{maker_count}
use Rattle.protection.specs.code.Search.{maker_yes}
use Rattle.protection.proofs.StepLaws.{d-any}
use Rattle.protection.proofs.d_yes.Goals as goal

-- `protection::d_yes` meets its contract.

pub returns : goal.returns
returns c =
    d-any _ _ _ (λ i. (c.shared_slice_known-1.given i).fits) _
    (any_from_yields_List (maker_yes c.args.page.now c.args.side c.args.price) _ _ _ c.any.ensures.ran (YieldsList-from_range 0 maker_count maker_count (cc) (cc)) (λ x b q k. search (rules, tests)))
