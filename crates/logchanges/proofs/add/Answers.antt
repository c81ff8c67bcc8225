use mathlib.Core.Path.{refl}
use lib.ListN.{drop}
use Rattle.field.specs.Field.{field}
use Rattle.calls.specs.Call.{add}
use Rattle.logcalls.proofs.RanLaws.{too_short, long-enough, rest-is, ran-bare}
use Rattle.logchanges.proofs.add.Goals as goal

pub returns-then-args-lt5 : goal.returns-then-args-lt5
returns-then-args-lt5 c =
    let a = c.args.args.now in
    too_short _ _ 5 a (add (drop 5 a) (field a 0 4) (field a 4 1)) c.if-args-lt5.true

pub returns : goal.returns
returns c =
    let a = c.args.args.now in
    long-enough _ _ 5 a (add (drop 5 a) (field a 0 4) (field a 4 1)) _ c.if-args-lt5.false (ran-bare _ _ (add (drop 5 a) (field a 0 4) (field a 4 1)) _ _ _ _ c.add_symbol-told.ensures (λ i. add (rest-is 5 a i) (c.get32-lot.ensures i) (c.get8-primary.ensures i)) c.put_told.ensures)
