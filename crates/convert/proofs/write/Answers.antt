use native.Mathlib.Omega.{arith}
use Rattle.convert.proofs.OutLaws.{run-by-lots}
use Rattle.convert.proofs.write.Goals as goal

pub put_lots-requires : goal.put_lots-requires
put_lots-requires c =
    (omega arith, (c.requires.0, c.requires.1.0))

pub write_run-requires : goal.write_run-requires
write_run-requires c =
    (c.requires.1.0, c.requires.1.1)

pub returns : goal.returns
returns c =
    run-by-lots _ _ _ _ _ c.put_lots.ensures c.write_run.ensures
