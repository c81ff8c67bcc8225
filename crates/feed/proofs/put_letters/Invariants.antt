use Prim.Native.Nat.{◌≤◌, ◌+◌, ◌*◌}
use mathlib.Core.Path.{◌≡◌}
use lib.ListN.{length}
use Rattle.field.specs.Field.{splice}
use Rattle.block.specs.Written.{joined}
use Rattle.snapshot.specs.Feed.{participant_length}
use Rattle.feed.specs.code.Blocks.{shown_in, of_p}
use Rattle.feed.proofs.put_letters.Given as goal

abbrev pub invariant-loop-letter : goal.invariant-loop-letter
invariant-loop-letter l =
    (l.from ≤ l.letter) × ((l.letter ≤ l.to) × ((length l.output ≡ length l.initial.output) × ((l.end + participant_length * length (shown_in l.page l.letter l.to) ≤ length l.initial.output)
    × (splice l.output l.end (joined (of_p l.symbol (shown_in l.page l.letter l.to))) ≡ splice l.initial.output l.at (joined (of_p l.symbol (shown_in l.page l.from l.to)))))))
