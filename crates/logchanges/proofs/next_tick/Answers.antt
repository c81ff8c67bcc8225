use mathlib.Core.Path.{refl}
use lib.ListN.{drop}
use Rattle.field.specs.Field.{field}
use Rattle.calls.specs.Call.{tick}
use Rattle.logcalls.proofs.RanLaws.{wrong-length, right-length, ran-bare}
use Rattle.logchanges.proofs.next_tick.Goals as goal

pub returns-then-args-ne0 : goal.returns-then-args-ne0
returns-then-args-ne0 c =
    let a = c.args.args.now in
    wrong-length _ _ 0 a (tick) c.if-args-ne0.true

pub returns : goal.returns
returns c =
    let a = c.args.args.now in
    right-length _ _ 0 a (tick) _ c.if-args-ne0.false (ran-bare _ _ (tick) _ _ _ _ c.next_tick-told.ensures refl c.put_told.ensures)
