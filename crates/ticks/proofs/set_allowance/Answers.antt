use mathlib.Core.Path.{refl}
use native.Mathlib.Omega.{arith}
use Rattle.numbers.proofs.RefusalLaws.{passed_up}
use Rattle.ticks.proofs.TickLaws.{ready, setting-refused, setting-done}
use Rattle.ticks.proofs.set_allowance.Goals as goal

pub returns-in_err-judge_setting : goal.returns-in_err-judge_setting
returns-in_err-judge_setting c =
    rw (passed_up c.from_residual.result _ c.from_residual.ensures.1) (setting-refused _ _ _ _ c.in_err-judge_setting.ensures)

pub overflow_cast-blocks : goal.overflow_cast-blocks
overflow_cast-blocks c =
    omega (arith, (ready _ _ _ c.in_ok-judge_setting.ensures).most)

pub put8-requires : goal.put8-requires
put8-requires c =
    omega (arith, (ready _ _ _ c.in_ok-judge_setting.ensures).room)

pub copy-requires : goal.copy-requires
copy-requires c =
    let z = ready _ _ _ c.in_ok-judge_setting.ensures in omega (arith, z.room, z.whole, c.put8.auto.s)

pub clear-requires : goal.clear-requires
clear-requires c =
    (omega arith, omega (arith, (ready _ _ _ c.in_ok-judge_setting.ensures).room, c.put8.auto.s, c.copy.auto.output))

pub returns : goal.returns
returns c =
    setting-done _ _ _ _ _ _ _ c.in_ok-judge_setting.ensures (ready _ _ _ c.in_ok-judge_setting.ensures).whole refl c.put8.ensures c.copy.ensures c.clear.ensures
