use mathlib.Core.Path.{refl}
use lib.ListN.{drop}
use Rattle.field.specs.Field.{field}
use Rattle.calls.specs.Call.{end_day}
use Rattle.logcalls.proofs.RanLaws.{wrong-length, right-length, ran-bare}
use Rattle.logchanges.proofs.end_day.Goals as goal

pub returns-then-args-ne0 : goal.returns-then-args-ne0
returns-then-args-ne0 c =
    let a = c.args.args.now in
    wrong-length _ _ 0 a (end_day) c.if-args-ne0.true

pub returns : goal.returns
returns c =
    let a = c.args.args.now in
    right-length _ _ 0 a (end_day) _ c.if-args-ne0.false (ran-bare _ _ (end_day) _ _ _ _ c.end_day-told.ensures refl c.put_told.ensures)
