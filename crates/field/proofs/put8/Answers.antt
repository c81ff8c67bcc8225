use mathlib.Core.Path.{sym, ap, ◌∙◌}
use native.Mathlib.Omega.{arith}
use Rattle.field.specs.Field.{splice}
use Rattle.field.proofs.Laws.{splice-one, be_bytes-one}
use Rattle.field.proofs.put8.Goals as goal

pub returns : goal.returns
returns c = splice-one _ _ _ (omega arith) ∙ ap (splice c.args.s.now c.args.at) (sym (be_bytes-one c.args.v c.ranges.v.fits))
