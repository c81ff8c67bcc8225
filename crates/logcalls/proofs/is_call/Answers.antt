use mathlib.Core.Path.{refl}
use lib.Dec.{eqb, leb}
use lib.ListN.{length, drop}
use Rattle.field.specs.Field.{field}
use Rattle.calls.specs.Call.{make, add, open_line, start_day, end_day, take, read, protected, convert, snapshot, try_order, set_allowance, tick}
use Rattle.logcalls.specs.Kinds.{call_of}
use Rattle.logcalls.proofs.KindLaws.{kind-is, some-if}
use Rattle.logcalls.proofs.is_call.Goals as goal

pub returns-in-Ok-Make : goal.returns-in-Ok-Make
unfolding call_of
returns-in-Ok-Make c = let a = c.args.args.now in rw (kind-is _ _ _ c.in-Ok-Make.field-0-is c.in-Ok-Make.ensures) (some-if (eqb (length a) 4) (make (field a 0 4)))

pub returns-in-Ok-AddSymbol : goal.returns-in-Ok-AddSymbol
unfolding call_of
returns-in-Ok-AddSymbol c = let a = c.args.args.now in rw (kind-is _ _ _ c.in-Ok-AddSymbol.field-0-is c.in-Ok-AddSymbol.ensures) (some-if (leb 5 (length a)) (add (drop 5 a) (field a 0 4) (field a 4 1)))

pub returns-in-Ok-OpenLine : goal.returns-in-Ok-OpenLine
unfolding call_of
returns-in-Ok-OpenLine c = let a = c.args.args.now in rw (kind-is _ _ _ c.in-Ok-OpenLine.field-0-is c.in-Ok-OpenLine.ensures) (some-if (eqb (length a) 5) (open_line (field a 0 4) (field a 4 1)))

pub returns-in-Ok-StartDay : goal.returns-in-Ok-StartDay
unfolding call_of
returns-in-Ok-StartDay c = let a = c.args.args.now in rw (kind-is _ _ _ c.in-Ok-StartDay.field-0-is c.in-Ok-StartDay.ensures) (some-if (eqb (length a) 0) (start_day))

pub returns-in-Ok-EndDay : goal.returns-in-Ok-EndDay
unfolding call_of
returns-in-Ok-EndDay c = let a = c.args.args.now in rw (kind-is _ _ _ c.in-Ok-EndDay.field-0-is c.in-Ok-EndDay.ensures) (some-if (eqb (length a) 0) (end_day))

pub returns-in-Ok-TakeBlock : goal.returns-in-Ok-TakeBlock
unfolding call_of
returns-in-Ok-TakeBlock c = let a = c.args.args.now in rw (kind-is _ _ _ c.in-Ok-TakeBlock.field-0-is c.in-Ok-TakeBlock.ensures) (some-if (leb 12 (length a)) (take (field a 0 4) (drop 12 a) (field a 4 8)))

pub returns-in-Ok-Read : goal.returns-in-Ok-Read
unfolding call_of
returns-in-Ok-Read c = let a = c.args.args.now in rw (kind-is _ _ _ c.in-Ok-Read.field-0-is c.in-Ok-Read.ensures) (some-if (leb 8 (length a)) (read (drop 8 a) (field a 0 8)))

pub returns-in-Ok-IsProtected : goal.returns-in-Ok-IsProtected
unfolding call_of
returns-in-Ok-IsProtected c = let a = c.args.args.now in rw (kind-is _ _ _ c.in-Ok-IsProtected.field-0-is c.in-Ok-IsProtected.ensures) (some-if (leb 9 (length a)) (protected (drop 9 a) (field a 0 1) (field a 1 8)))

pub returns-in-Ok-ConvertLen : goal.returns-in-Ok-ConvertLen
unfolding call_of
returns-in-Ok-ConvertLen c = rw (kind-is _ _ _ c.in-Ok-ConvertLen.field-0-is c.in-Ok-ConvertLen.ensures)

pub returns-in-Ok-Convert : goal.returns-in-Ok-Convert
unfolding call_of
returns-in-Ok-Convert c = let a = c.args.args.now in rw (kind-is _ _ _ c.in-Ok-Convert.field-0-is c.in-Ok-Convert.ensures) (some-if (leb 8 (length a)) (convert (drop 8 a) (field a 0 8)))

pub returns-in-Ok-SnapshotLen : goal.returns-in-Ok-SnapshotLen
unfolding call_of
returns-in-Ok-SnapshotLen c = rw (kind-is _ _ _ c.in-Ok-SnapshotLen.field-0-is c.in-Ok-SnapshotLen.ensures)

pub returns-in-Ok-Snapshot : goal.returns-in-Ok-Snapshot
unfolding call_of
returns-in-Ok-Snapshot c = let a = c.args.args.now in rw (kind-is _ _ _ c.in-Ok-Snapshot.field-0-is c.in-Ok-Snapshot.ensures) (some-if (leb 8 (length a)) (snapshot (drop 8 a) (field a 0 8)))

pub returns-in-Ok-TryOrder : goal.returns-in-Ok-TryOrder
unfolding call_of
returns-in-Ok-TryOrder c = let a = c.args.args.now in rw (kind-is _ _ _ c.in-Ok-TryOrder.field-0-is c.in-Ok-TryOrder.ensures) (some-if (leb 13 (length a)) (try_order (drop 13 a) (field a 0 1) (field a 1 4) (field a 5 8)))

pub returns-in-Ok-SetAllowance : goal.returns-in-Ok-SetAllowance
unfolding call_of
returns-in-Ok-SetAllowance c = let a = c.args.args.now in rw (kind-is _ _ _ c.in-Ok-SetAllowance.field-0-is c.in-Ok-SetAllowance.ensures) (some-if (leb 4 (length a)) (set_allowance (field a 0 4) (drop 4 a)))

pub returns-in-Ok-NextTick : goal.returns-in-Ok-NextTick
unfolding call_of
returns-in-Ok-NextTick c = rw (kind-is _ _ _ c.in-Ok-NextTick.field-0-is c.in-Ok-NextTick.ensures) (some-if (eqb (length c.args.args.now) 0) tick)
