use mathlib.Core.Path.{ap, ◌∙◌}
use Rattle.field.specs.Field.{splice}
use Rattle.calls.specs.Call.{bare}
use Rattle.logcalls.specs.Answers.{answer_bytes}
use Rattle.logcalls.proofs.put_told.Goals as goal

pub returns-in-Ok : goal.returns-in-Ok
returns-in-Ok c = rw c.in-Ok.is c.put_bare.ensures

pub returns-in-Err : goal.returns-in-Err
returns-in-Err c =
    rw c.in-Err.is (c.put_bare-in-Err.ensures ∙ ap (λ n. splice c.args.output.now 0 (answer_bytes (bare n))) c.number.ensures)
