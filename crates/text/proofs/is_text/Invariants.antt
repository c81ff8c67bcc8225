use Prim.Native.Nat.{◌*◌, ◌≤◌}
use mathlib.Core.Path.{◌≡◌}
use Rattle.text.specs.Form.{padded}
use Rattle.text.proofs.FormLaws.{no_fault}
use Rattle.text.proofs.is_text.Given as goal

abbrev pub invariant-loop-i : goal.invariant-loop-i
invariant-loop-i l = (l.i ≤ 10) × ((l.faults ≤ 3 * l.i) × (no_fault l.s l.faults l.i ≡ padded 33 126 l.s))
