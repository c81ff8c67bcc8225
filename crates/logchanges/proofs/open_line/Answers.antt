use mathlib.Core.Path.{refl}
use lib.ListN.{drop}
use Rattle.field.specs.Field.{field}
use Rattle.calls.specs.Call.{open_line}
use Rattle.logcalls.proofs.RanLaws.{wrong-length, right-length, ran-bare}
use Rattle.logchanges.proofs.open_line.Goals as goal

pub returns-then-args-ne5 : goal.returns-then-args-ne5
returns-then-args-ne5 c =
    let a = c.args.args.now in
    wrong-length _ _ 5 a (open_line (field a 0 4) (field a 4 1)) c.if-args-ne5.true

pub returns : goal.returns
returns c =
    let a = c.args.args.now in
    right-length _ _ 5 a (open_line (field a 0 4) (field a 4 1)) _ c.if-args-ne5.false (ran-bare _ _ (open_line (field a 0 4) (field a 4 1)) _ _ _ _ c.open_line-told.ensures (λ i. open_line (c.get32-line.ensures i) (c.get8-letter.ensures i)) c.put_told.ensures)
