-- The machine's byte order and the other: the code of this crate reads and writes in its own, and swaps.
-- Assumes nothing.
use Rattle.std.specs.Prelude.{ℕ}
use Rattle.field.specs.Field.{be}
use Rattle.field.specs.Low.{le_bytes}

-- a number of w bytes with its bytes in the other order
unfoldable pub swapped : ℕ → ℕ → ℕ
swapped w v = be (le_bytes w v)
