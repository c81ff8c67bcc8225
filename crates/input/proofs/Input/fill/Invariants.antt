use Rattle.std.proofs.Common.{◌-◌, ◌≡◌}
use Rattle.input.proofs.Input.fill.Given as goal

abbrev pub invariant-loop-self : goal.invariant-loop-self
invariant-loop-self l = l.self.from ≡ l.fn.self.from

abbrev pub decreases-loop-self : goal.decreases-loop-self
decreases-loop-self l = l.n - l.self.to
