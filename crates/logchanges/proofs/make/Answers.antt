use mathlib.Core.Path.{refl}
use lib.ListN.{drop}
use Rattle.field.specs.Field.{field}
use Rattle.calls.specs.Call.{make}
use Rattle.logcalls.proofs.RanLaws.{wrong-length, right-length, ran-bare}
use Rattle.logchanges.proofs.make.Goals as goal

pub returns-then-args-ne4 : goal.returns-then-args-ne4
returns-then-args-ne4 c =
    let a = c.args.args.now in
    wrong-length _ _ 4 a (make (field a 0 4)) c.if-args-ne4.true

pub returns : goal.returns
returns c =
    let a = c.args.args.now in
    right-length _ _ 4 a (make (field a 0 4)) _ c.if-args-ne4.false (ran-bare _ _ (make (field a 0 4)) _ _ _ _ c.make-told.ensures (λ i. make (c.get32-n.ensures i)) c.put_told.ensures)
