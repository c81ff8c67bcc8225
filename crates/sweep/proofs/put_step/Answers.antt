use Rattle.sweep.proofs.LoopLaws.{put_three}
use Rattle.sweep.proofs.put_step.Goals as goal

-- `sweep::put_step` meets its contract.

pub returns : goal.returns
returns c = rw (← put_three) (cc)
