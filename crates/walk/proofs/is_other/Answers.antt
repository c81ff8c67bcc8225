use borrow.Author.Rules.{rules}
use Prim.Native.Nat.{◌+◌}
use mathlib.Core.Path.{refl}
use Rattle.field.specs.Ascii.{Z}
use Rattle.walk.proofs.KeyLaws.{other-found, other-again, other-end}
use Rattle.walk.proofs.is_other.Goals as goal

-- `walk::is_other` meets its contract.

pub loop-letter-init : goal.loop-letter-init
loop-letter-init c = (search rules, search rules, refl)

pub returns-then-is_another : goal.returns-then-is_another
returns-then-is_another c = other-found _ _ _ _ (Z + 1) _ _ _ c.loop-letter-test.true c.loop-letter.invariant.2 c.is_another.ensures c.if-is_another.true

pub loop-letter-preserved : goal.loop-letter-preserved
loop-letter-preserved c = (search rules, search rules, other-again _ _ _ _ (Z + 1) _ _ _ c.loop-letter-test.true c.loop-letter.invariant.2 c.is_another.ensures c.if-is_another.false)

pub returns : goal.returns
returns c = other-end _ _ _ _ (Z + 1) _ _ c.loop-letter-test.false c.loop-letter.invariant.2
