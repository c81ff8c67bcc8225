use mathlib.Core.Path.{sym}
use Rattle.field.proofs.Laws.{field-one}
use Rattle.field.proofs.get8.Goals as goal

pub returns : goal.returns
returns c = sym (field-one _ _ c.requires)
