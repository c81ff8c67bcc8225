use Rattle.std.proofs.Common.{ℕ, ap, arith}
use native.Mathlib.Nat.{add-zero}
use Rattle.field.specs.Field.{splice}
use Rattle.writer.proofs.LoopLaws.{copy-again, copy-end}
use Rattle.writer.proofs.copy.Goals as goal

-- `writer::copy` meets its contract.

pub loop-i-init : goal.loop-i-init
loop-i-init c = ap (λ (k : ℕ). splice c.args.output.now k c.args.messages.now) (add-zero c.args.at)

pub loop-i-preserved : goal.loop-i-preserved
loop-i-preserved c = copy-again _ _ _ _ _ c.loop-i-test.true (omega arith) c.loop-i.invariant

pub returns : goal.returns
returns c = copy-end _ _ _ _ _ c.loop-i-test.false (omega arith) c.loop-i.invariant
