use Rattle.std.proofs.Common.{◌∙◌}
use Rattle.field.specs.Field.{part}
use Rattle.allowance.specs.Allowance.{charged_to}
use Rattle.opening.proofs.AllowanceLaws.{lent-allowance, length-allowance}
use Rattle.opening.proofs.charge.Goals as goal

pub returns : goal.returns
unfolding part
returns c =
    lent-allowance c.args.book.now (charged_to c.args.line) _ c.requires.0 (c.charge.auto.bytes ∙ length-allowance c.args.book.now c.requires.0) c.charge.ensures
