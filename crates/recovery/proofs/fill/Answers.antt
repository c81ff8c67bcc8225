use native.Mathlib.Omega.{arith}
use Rattle.recovery.proofs.FedLaws.{fill-short, fill_done}
use Rattle.recovery.proofs.fill.Goals as goal

-- `recovery::fill` meets its contract.

pub returns-then-output-size : goal.returns-then-output-size
returns-then-output-size c =
    fill-short c.args.symbol.now c.args.page.now c.args.output.now c.requires _ _ _ c.count-k.ensures.0 c.of-size.ensures.0 c.of-size.ensures.1 c.if-output-size.true

pub write-requires : goal.write-requires
write-requires c =
    (c.requires, (c.count-k.ensures.0, (c.count-k.ensures.1, omega (arith, c.of-size.ensures.1, c.if-output-size.false))))

pub returns : goal.returns
returns c =
    fill_done c.args.symbol.now c.args.page.now c.args.output.now c.requires _ _ _ c.count-k.ensures.0 c.of-size.ensures.0 c.of-size.ensures.1 _ c.if-output-size.false c.write.ensures
