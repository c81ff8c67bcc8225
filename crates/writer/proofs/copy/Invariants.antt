use Rattle.std.proofs.Common.{◌≡◌, ◌+◌, drop}
use Rattle.field.specs.Field.{splice}
use Rattle.writer.proofs.copy.Given as goal

abbrev pub invariant-loop-i : goal.invariant-loop-i
invariant-loop-i l = splice l.output (l.at + l.i) (drop l.i l.messages) ≡ splice l.initial.output l.at l.messages
