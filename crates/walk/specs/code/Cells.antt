-- The makers' cells as the loop over them reads them: the best one so far is kept by its cell.
-- Assumes nothing.
use Rattle.std.specs.Prelude.{ℕ, ◌+◌, ◌<◌, ◌≡◌, Bool, cond, List, eqb}
use Rattle.field.specs.Field.{field}
use Rattle.field.specs.Low.{low}
use Rattle.field.specs.Ascii.{R}
use Rattle.text.specs.Form.{name_length}
use Rattle.ranking.specs.declared.Side.{Side}
use Rattle.ranking.specs.declared.Candidate.{Candidate}
use Rattle.ranking.specs.Held.{no_candidate}
use Rattle.ranking.specs.code.Choice.{rank_of, by_rest}
use Rattle.page.specs.Layout.{maker_count, cell_at, in_quote}
use Rattle.walk.specs.declared.BestCell.{BestCell}

-- cell k with this price and size; only R counts
unfoldable pub in_cell : List ℕ → Side → ℕ → ℕ → ℕ → Candidate
in_cell p s k v z = record { name = field p (cell_at k) 4; price = v; size = z; time = low p (cell_at k + name_length + in_quote s + 12) 8; condition = R }

-- cell k
unfoldable pub cell_as : List ℕ → Side → ℕ → Candidate
cell_as p s k = in_cell p s k (low p (cell_at k + name_length + in_quote s) 8) (low p (cell_at k + name_length + in_quote s + 8) 4)

-- the best so far: a rank of a rank is the price again, and size 0 is none
unfoldable pub best_cell : List ℕ → Side → BestCell → Candidate
best_cell p s b = cond (eqb b.size 0) no_candidate (in_cell p s b.cell (rank_of s b.rank) b.size)

-- it has a cell, and none has no rank
abbrev pub Kept : BestCell → Type 0
Kept b = (b.cell < maker_count) × (b.size ≡ 0 → b.rank ≡ 0)

-- whether cell k with this size goes before the best so far of the same price
unfoldable pub goes_before : List ℕ → Side → ℕ → ℕ → BestCell → Bool
goes_before p s k z b = (by_rest (in_cell p s k (rank_of s b.rank) z) (in_cell p s b.cell (rank_of s b.rank) b.size)).ahead
