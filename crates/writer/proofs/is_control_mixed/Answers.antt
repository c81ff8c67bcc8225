use Rattle.writer.proofs.NumberLaws.{mixed-few, mixed-any}
use Rattle.writer.proofs.is_control_mixed.Goals as goal

-- `writer::is_control_mixed` meets its contract.

pub returns-then-lengths-lt2 : goal.returns-then-lengths-lt2
returns-then-lengths-lt2 c = mixed-few _ _ c.if-lengths-lt2.true

pub returns : goal.returns
returns c = mixed-any _ _ c.if-lengths-lt2.false _ c.is_any_control.ensures
