use Rattle.std.proofs.Common.{max, rules, arith, tests, ◌∙◌}
use Rattle.std.proofs.iter.Yields.{fronts}
use Rattle.std.proofs.lemmas.Iterator.{YieldsList-from_slice, YieldsList-from_zip, YieldsList-from_map}
use Rattle.std.proofs.lemmas.Iterator.Adapters.{fits_from_length, at_most_from_Zip, at_most_from_yields_List}
use Rattle.std.proofs.lemmas.Iterator.Consumers.{sum_from_yields_List}
use Rattle.allowance.proofs.ByteLaws.{larger-sum}
use Rattle.allowance.proofs.kept.Goals as goal

pub sum-requires-clause-fits : goal.sum-requires-clause-fits
sum-requires-clause-fits c = fits_from_length _ _ 64 _ (at_most_from_Zip fronts (at_most_from_yields_List (YieldsList-from_slice c.args.shares.now cc) (omega arith))) c.map.ensures.closure (omega arith) (λ x r q k. search (rules, tests))

pub returns : goal.returns
returns c =
    sum_from_yields_List c.map.result _ c.sum.ensures.ran (YieldsList-from_map _ (λ p. max p.0 p.1) (YieldsList-from_zip (YieldsList-from_slice c.args.shares.now cc) (YieldsList-from_slice c.args.charges.now cc)) c.map.ensures.closure (λ x r q k. search (rules, tests)))
    ∙ larger-sum c.args.shares.now c.args.charges.now (omega arith)
