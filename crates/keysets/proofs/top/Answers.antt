use Prim.Native.Nat.{◌-◌}
use borrow.Author.Rules.{rules}
use Rattle.keysets.specs.Sets.{key_at}
use Rattle.keysets.proofs.KeyLaws.{none-start, none-step, none_end}
use Rattle.keysets.proofs.top.Goals as goal

pub loop-i-init : goal.loop-i-init
loop-i-init c = (search rules, none-start _ _)

pub loop-i-preserved : goal.loop-i-preserved
unfolding key_at
loop-i-preserved c = (search rules, none-step _ _ _ _ _ c.loop-i.invariant.1 c.low32.ensures c.higher-m.ensures)

pub returns : goal.returns
returns c = none_end _ _ _ _ c.loop-i-test.false c.loop-i.invariant.1
