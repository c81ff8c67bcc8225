use native.Mathlib.Omega.{arith}
use borrow.Author.Rules.{rules}
use Rattle.oddpart.proofs.PartLaws.{judge-start, judge-price, judge-shares, judge-again, judge-end}
use Rattle.oddpart.proofs.judge_items.Goals as goal

pub loop-i-init : goal.loop-i-init
loop-i-init c = (search rules, judge-start _ _ _ 0)

pub returns-then-item-eq0 : goal.returns-then-item-eq0
returns-then-item-eq0 c = judge-price _ _ _ _ _ c.loop-i-test.true c.loop-i.invariant.1 _ c.get-item.ensures c.if-item-eq0.true

pub returns-then-lot-item : goal.returns-then-lot-item
returns-then-lot-item c =
    judge-shares _ _ _ _ _ c.loop-i-test.true c.loop-i.invariant.1 _ c.get-item.ensures c.if-item-eq0.false (omega arith)

pub loop-i-preserved : goal.loop-i-preserved
loop-i-preserved c =
    (search rules, judge-again _ _ _ _ _ c.loop-i-test.true c.loop-i.invariant.1 _ c.get-item.ensures c.if-item-eq0.false (omega arith))

pub returns : goal.returns
returns c = judge-end _ _ _ _ _ c.loop-i-test.false c.loop-i.invariant.1
