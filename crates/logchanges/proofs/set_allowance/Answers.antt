use mathlib.Core.Path.{refl}
use lib.ListN.{drop}
use Rattle.field.specs.Field.{field}
use Rattle.calls.specs.Call.{set_allowance}
use Rattle.logcalls.proofs.RanLaws.{too_short, long-enough, rest-is, ran-bare}
use Rattle.logchanges.proofs.set_allowance.Goals as goal

pub returns-then-args-lt4 : goal.returns-then-args-lt4
returns-then-args-lt4 c =
    let a = c.args.args.now in
    too_short _ _ 4 a (set_allowance (field a 0 4) (drop 4 a)) c.if-args-lt4.true

pub returns : goal.returns
returns c =
    let a = c.args.args.now in
    long-enough _ _ 4 a (set_allowance (field a 0 4) (drop 4 a)) _ c.if-args-lt4.false (ran-bare _ _ (set_allowance (field a 0 4) (drop 4 a)) _ _ _ _ c.set_allowance-told.ensures (λ i. set_allowance (c.get32-blocks.ensures i) (rest-is 4 a i)) c.put_told.ensures)
