-- A page without its later letters (document 02, T-04): "a page on which the later letters, D with its makers, hold nothing".
-- Assumes nothing.
use Rattle.std.specs.Prelude.{ℕ, ◌+◌, ◌*◌, ◌-◌, cond, List, ltb, replicate}
use Rattle.field.specs.Field.{splice}
use Rattle.field.specs.Ascii.{D, Z}
use Rattle.page.specs.Layout.{slot_length, cell_length, maker_count, slot_at, cell_at}

-- nothing in the slots of the letters behind l, up to Z
unfoldable pub none_behind : ℕ → List ℕ → List ℕ
none_behind l p = splice p (slot_at (l + 1)) (replicate ((Z - l) * slot_length) 0)

-- nothing in the sixteen maker cells
unfoldable pub no_makers : List ℕ → List ℕ
no_makers p = splice p (cell_at 0) (replicate (maker_count * cell_length) 0)

-- the page cut behind letter l: D has its makers if it is not behind l
unfoldable pub cut : ℕ → List ℕ → List ℕ
cut l p = cond (ltb l D) (no_makers (none_behind l p)) (none_behind l p)
