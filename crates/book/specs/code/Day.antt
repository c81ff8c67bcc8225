-- The checks of Start and End of Day as the code has them. Said by `Call.antt`.
-- Assumes nothing.
use Rattle.std.specs.Prelude.{ℕ, cond, List, eqb}
use Rattle.field.specs.Field.{field}
use Rattle.opening.specs.Opening.{sound}
use Rattle.opening.specs.Layout.{day_at}

-- ---- Start and End of Day

-- 1, then the number of a day that is not as asked: open (1) or not (0)
unfoldable pub day_number : List ℕ → ℕ → ℕ → ℕ
day_number b day number = cond (sound b) (cond (eqb (field b day_at 1) day) 0 number) 1
