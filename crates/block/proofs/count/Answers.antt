use Rattle.std.proofs.Common.{◌∙◌}
use Rattle.field.proofs.Laws.{field-one}
use Rattle.block.proofs.count.Goals as goal

pub returns : goal.returns
returns c = c.get8.ensures ∙ field-one _ 1 c.requires
