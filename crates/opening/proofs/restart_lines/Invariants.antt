use Rattle.std.proofs.Common.{◌≡◌, ◌-◌, ◌≤◌, length}
use Rattle.opening.specs.Opening.{restart_lines}
use Rattle.opening.specs.Layout.{line_count}
use Rattle.opening.proofs.restart_lines.Given as goal

abbrev pub invariant-loop-i : goal.invariant-loop-i
invariant-loop-i l = (l.i ≤ line_count) × ((length l.book ≡ length l.initial.book) × (restart_lines l.i (line_count - l.i) l.book ≡ restart_lines 0 line_count l.initial.book))
