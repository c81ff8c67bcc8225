use Prim.Native.Nat.{◌*◌}
use mathlib.Core.Path.{◌≡◌}
use lib.ListN.{drop}
use Rattle.field.specs.Field.{splice}
use Rattle.logcalls.specs.Answers.{words_bytes}
use Rattle.logcalls.proofs.put_words.Given as goal

abbrev pub invariant-loop-i : goal.invariant-loop-i
invariant-loop-i l = splice l.output (8 * l.i) (words_bytes (drop l.i l.word-items)) ≡ splice l.initial.output 0 (words_bytes l.word-items)
