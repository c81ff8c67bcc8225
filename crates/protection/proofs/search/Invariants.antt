use Prim.Native.Nat.{◌≤◌, ◌+◌, ◌-◌}
use mathlib.Core.Path.{◌≡◌}
use Rattle.field.specs.Ascii.{A, Z}
use Rattle.lists.specs.Lists.{first_from}
use Rattle.page.specs.Layout.{letter_count}
use Rattle.protection.specs.code.Search.{letter_yes}
use Rattle.protection.proofs.search.Given as goal

abbrev pub invariant-loop-letter : goal.invariant-loop-letter
invariant-loop-letter l =
    (A ≤ l.letter) × (l.letter ≤ Z + 1) × (first_from (letter_yes l.page l.side l.price) l.letter (Z + 1 - l.letter) ≡ first_from (letter_yes l.page l.side l.price) A letter_count)
