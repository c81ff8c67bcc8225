use Rattle.std.proofs.Common.{◌∙◌}
use Rattle.field.specs.Field.{part}
use Rattle.allowance.proofs.ByteLaws.{spare-told}
use Rattle.allowance.proofs.is_spare_used.Goals as goal

pub returns : goal.returns
unfolding part
returns c = spare-told c.args.bytes.now _ _ (c.from.ensures ∙ c.requires.1) c.kept.ensures
