use Rattle.query.proofs.OrderLaws.{lots-none, lots-over, room-short, room-enough}
use Rattle.query.proofs.measure.Goals as goal

-- `query::measure` meets its contract.

pub returns-then-lots-eq0 : goal.returns-then-lots-eq0
returns-then-lots-eq0 c = lots-none _ _ c.if-lots-eq0.true

pub returns-then-lots-gt1000000 : goal.returns-then-lots-gt1000000
returns-then-lots-gt1000000 c = lots-over _ _ c.if-lots-eq0.false c.if-lots-gt1000000.true

pub returns-then-room-lt-LEN : goal.returns-then-room-lt-LEN
returns-then-room-lt-LEN c = room-short _ _ c.if-lots-eq0.false c.if-lots-gt1000000.false c.if-room-lt-LEN.true

pub returns : goal.returns
returns c = room-enough _ _ c.if-lots-eq0.false c.if-lots-gt1000000.false c.if-room-lt-LEN.false
