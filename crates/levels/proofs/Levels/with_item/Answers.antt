use Rattle.levels.proofs.CellLaws.{item-zero, item-known, item-added, item-full}
use Rattle.levels.proofs.Levels.with_item.Goals as goal

pub returns-then-item-eq0 : goal.returns-then-item-eq0
returns-then-item-eq0 c = item-zero _ _ _ _ _ c.if-item-eq0.true c.without.ensures

pub returns-then-holds : goal.returns-then-holds
returns-then-holds c = item-known _ _ _ _ _ _ c.if-item-eq0.false c.holds.ensures c.if-holds.true c.replace.ensures

pub returns-then-put-eq0 : goal.returns-then-put-eq0
returns-then-put-eq0 c =
    item-added _ _ _ _ _ _ c.if-item-eq0.false c.holds.ensures _ c.if-holds.false c.insert-put.ensures.0 c.insert-put.ensures.1 c.if-put-eq0.true

pub returns : goal.returns
returns c =
    item-full _ _ _ _ _ _ c.if-item-eq0.false c.holds.ensures _ c.if-holds.false c.insert-put.ensures.0 c.insert-put.ensures.1 c.if-put-eq0.false
