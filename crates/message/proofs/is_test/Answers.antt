use borrow.Author.Tests.{eq-eqb, ne_eqb}
use Rattle.lists.proofs.Searches.{all_start, all-fails, all-again, all_end}
use Rattle.message.specs.Message.{test_bytes}
use borrow.Author.Rules.{rules}
use Rattle.message.proofs.is_test.Goals as goal

pub loop-i-init : goal.loop-i-init
loop-i-init c = (search rules, all_start _ _)

pub returns-then-from-i : goal.returns-then-from-i
unfolding test_bytes
returns-then-from-i c = all-fails _ 95 _ _ c.loop-i-test.true c.loop-i.invariant.1 (rw (← c.from.ensures) (ne_eqb _ _ c.if-from-i.true))

pub loop-i-preserved : goal.loop-i-preserved
loop-i-preserved c = (search rules, all-again _ 95 _ _ c.loop-i-test.true c.loop-i.invariant.1 (rw (← c.from.ensures) (eq-eqb _ _ c.if-from-i.false)))

pub returns : goal.returns
unfolding test_bytes
returns c = all_end _ 95 _ _ c.loop-i-test.false c.loop-i.invariant.1
