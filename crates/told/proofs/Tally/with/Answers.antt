use Rattle.std.proofs.Common.{◌∙◌}
use Rattle.lists.proofs.Tests.{from_bool-cond}
use Rattle.told.specs.Told.{is_accepted, is_partly}
use Rattle.told.specs.code.Steps.{tally_with}
use Rattle.told.proofs.Tally.with.Goals as goal

pub returns : goal.returns
unfolding tally_with
returns c = rw (c.from.ensures ∙ from_bool-cond (is_accepted c.args.told), c.from-2.ensures ∙ from_bool-cond (is_partly c.args.told), c.from-3.ensures ∙ from_bool-cond c.is_rejected.result, c.is_rejected.ensures)
