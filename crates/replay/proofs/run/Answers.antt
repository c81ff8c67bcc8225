use Rattle.logcalls.specs.Kinds.{call_of}
use Rattle.logcalls.proofs.KindLaws.{kind-is}
use Rattle.replay.proofs.run.Goals as goal

pub returns-in-Ok-Make : goal.returns-in-Ok-Make
unfolding call_of
returns-in-Ok-Make c = rw (kind-is _ _ _ c.in-Ok-Make.field-0-is c.in-Ok-Make.ensures) c.make.ensures

pub returns-in-Ok-AddSymbol : goal.returns-in-Ok-AddSymbol
unfolding call_of
returns-in-Ok-AddSymbol c = rw (kind-is _ _ _ c.in-Ok-AddSymbol.field-0-is c.in-Ok-AddSymbol.ensures) c.add.ensures

pub returns-in-Ok-OpenLine : goal.returns-in-Ok-OpenLine
unfolding call_of
returns-in-Ok-OpenLine c = rw (kind-is _ _ _ c.in-Ok-OpenLine.field-0-is c.in-Ok-OpenLine.ensures) c.open_line.ensures

pub returns-in-Ok-StartDay : goal.returns-in-Ok-StartDay
unfolding call_of
returns-in-Ok-StartDay c = rw (kind-is _ _ _ c.in-Ok-StartDay.field-0-is c.in-Ok-StartDay.ensures) c.start_day.ensures

pub returns-in-Ok-EndDay : goal.returns-in-Ok-EndDay
unfolding call_of
returns-in-Ok-EndDay c = rw (kind-is _ _ _ c.in-Ok-EndDay.field-0-is c.in-Ok-EndDay.ensures) c.end_day.ensures

pub returns-in-Ok-TakeBlock : goal.returns-in-Ok-TakeBlock
unfolding call_of
returns-in-Ok-TakeBlock c = rw (kind-is _ _ _ c.in-Ok-TakeBlock.field-0-is c.in-Ok-TakeBlock.ensures) c.take_block.ensures

pub returns-in-Ok-Read : goal.returns-in-Ok-Read
unfolding call_of
returns-in-Ok-Read c = rw (kind-is _ _ _ c.in-Ok-Read.field-0-is c.in-Ok-Read.ensures) c.read.ensures

pub returns-in-Ok-IsProtected : goal.returns-in-Ok-IsProtected
unfolding call_of
returns-in-Ok-IsProtected c = rw (kind-is _ _ _ c.in-Ok-IsProtected.field-0-is c.in-Ok-IsProtected.ensures) c.is_protected.ensures

pub returns-in-Ok-ConvertLen : goal.returns-in-Ok-ConvertLen
unfolding call_of
returns-in-Ok-ConvertLen c = rw (kind-is _ _ _ c.in-Ok-ConvertLen.field-0-is c.in-Ok-ConvertLen.ensures) c.convert_len.ensures

pub returns-in-Ok-Convert : goal.returns-in-Ok-Convert
unfolding call_of
returns-in-Ok-Convert c = rw (kind-is _ _ _ c.in-Ok-Convert.field-0-is c.in-Ok-Convert.ensures) c.convert.ensures

pub returns-in-Ok-SnapshotLen : goal.returns-in-Ok-SnapshotLen
unfolding call_of
returns-in-Ok-SnapshotLen c = rw (kind-is _ _ _ c.in-Ok-SnapshotLen.field-0-is c.in-Ok-SnapshotLen.ensures) c.snapshot_len.ensures

pub returns-in-Ok-Snapshot : goal.returns-in-Ok-Snapshot
unfolding call_of
returns-in-Ok-Snapshot c = rw (kind-is _ _ _ c.in-Ok-Snapshot.field-0-is c.in-Ok-Snapshot.ensures) c.snapshot.ensures

pub returns-in-Ok-TryOrder : goal.returns-in-Ok-TryOrder
unfolding call_of
returns-in-Ok-TryOrder c = rw (kind-is _ _ _ c.in-Ok-TryOrder.field-0-is c.in-Ok-TryOrder.ensures) c.try_order.ensures

pub returns-in-Ok-SetAllowance : goal.returns-in-Ok-SetAllowance
unfolding call_of
returns-in-Ok-SetAllowance c = rw (kind-is _ _ _ c.in-Ok-SetAllowance.field-0-is c.in-Ok-SetAllowance.ensures) c.set_allowance.ensures

pub returns-in-Ok-NextTick : goal.returns-in-Ok-NextTick
unfolding call_of
returns-in-Ok-NextTick c = rw (kind-is _ _ _ c.in-Ok-NextTick.field-0-is c.in-Ok-NextTick.ensures) c.next_tick.ensures
