-- An odd part as the code takes it: the sides that it touches, and one side on its four cells.
-- `proofs/ItemsLaws.antt` shows that on the cells of levels one side is what `Levels.antt` says of levels.
-- Assumes nothing.
use Rattle.std.specs.Prelude.{ℕ, Bool, not, ◌||◌, List, [], ◌∷◌, eqb, Result, Ok, Err}
use Rattle.ranking.specs.declared.Side.{Side}
use Rattle.quote.specs.declared.Level.{Level}
use Rattle.levels.specs.declared.Levels.{Levels}
use Rattle.levels.specs.declared.Item.{Item}
use Rattle.levels.specs.declared.Rejected.{Rejected}
use Rattle.levels.specs.Levels.{clears, cleared_by}
use Rattle.levels.specs.code.Cells.{cells_of, with_item}

-- what follows a pass; a rejection stays
abbrev pub on_pass : Result Levels Rejected → (Levels → Result Levels Rejected) → Result Levels Rejected
on_pass (Ok l) f = f l
on_pass (Err r) f = Err r

-- whether a part with n items of a side touches it
abbrev pub touched_by : ℕ → Side → ℕ → Bool
touched_by mark s n = clears mark s || not (eqb n 0)

-- the cells that a side's items meet: those of its levels after the clear mark
unfoldable pub start_of : ℕ → Side → List Level → Levels
start_of mark s ls = record { cells = cells_of (cleared_by mark s ls) }

-- the items in order, up to the first that is rejected
unfoldable pub with_items : Side → ℕ → List Item → Levels → Result Levels Rejected
with_items s t [] l = Ok l
with_items s t (i ∷ is) l = on_pass (with_item s t i l) (with_items s t is)

-- the clear mark, then the items
unfoldable pub with_part : Side → ℕ → ℕ → List Item → List Level → Result Levels Rejected
with_part s mark t is ls = with_items s t is (start_of mark s ls)
