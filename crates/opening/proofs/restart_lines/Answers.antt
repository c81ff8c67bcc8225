use Rattle.std.proofs.Common.{refl, ◌∙◌, rules}
use native.Mathlib.Nat.{sub-zero}
use Rattle.opening.proofs.WriteLaws.{restart-again, restart-end}
use Rattle.opening.proofs.restart_lines.Goals as goal

pub loop-i-init : goal.loop-i-init
loop-i-init c = (search rules, (refl, simp sub-zero))

pub loop-i-preserved : goal.loop-i-preserved
loop-i-preserved c =
    (search rules, (c.restart_line.auto.book ∙ c.loop-i.invariant.1.0, restart-again _ _ _ _ c.loop-i-test.true c.loop-i.invariant.1.1 c.restart_line.ensures))

pub returns : goal.returns
returns c = restart-end _ _ _ c.loop-i-test.false c.loop-i.invariant.1.1
