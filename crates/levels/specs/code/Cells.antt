-- The odd-lot levels of one side as the code keeps them: four cells, best first, then empty ones (price 0), and what an item does to them,
-- whatever stands in the cells. `proofs/ReadingLaws.antt` shows that on the cells of levels this is what `Levels.antt` says of levels.
-- Assumes nothing.
use Rattle.std.specs.Prelude.{ℕ, zero, suc, Bool, true, false, cond, List, [], ◌∷◌, ◌++◌, eqb, Result, Ok, Err}
use Rattle.ranking.specs.declared.Side.{Side}
use Rattle.ranking.specs.Ranking.{ahead}
use Rattle.quote.specs.declared.Level.{Level}
use Rattle.quote.specs.Quote.{no_level, level_bytes}
use Rattle.levels.specs.declared.Levels.{Levels}
use Rattle.levels.specs.declared.Item.{Item}
use Rattle.levels.specs.declared.Pair.{Pair}
use Rattle.levels.specs.declared.Rejected.{Rejected}
use Rattle.numbers.specs.declared.Rejection.TheVariants.{FifthLevel}
use Rattle.levels.specs.Levels.{empty_cell}

-- ---- levels as cells

-- k cells: the levels, then none
unfoldable pub padded_cells : ℕ → List Level → List Level
padded_cells zero ls = []
padded_cells (suc k) [] = no_level ∷ padded_cells k []
padded_cells (suc k) (x ∷ xs) = x ∷ padded_cells k xs

abbrev pub cells_of : List Level → List Level
cells_of ls = padded_cells 4 ls

-- the bytes of cells, end to end
unfoldable pub joined_levels : List Level → List ℕ
joined_levels [] = []
joined_levels (x ∷ xs) = level_bytes x ++ joined_levels xs

-- the first price goes before the second; price 0 is none and goes last
unfoldable pub leads : Side → ℕ → ℕ → Bool
leads s p q = cond (eqb p 0) false (cond (eqb q 0) true (ahead s p q))

-- a cell as a level: none if it is empty; the same behind another, behind which it must rank
unfoldable pub standing : Level → Level
standing x = cond (empty_cell x) no_level x

unfoldable pub standing_behind : Side → Level → Level → Level
standing_behind s y x = cond (leads s y.price x.price) (standing x) no_level

-- ---- one item

-- of two levels, the one that goes first, then the other
unfoldable pub ordered_of : Side → Level → Level → Pair
ordered_of s x y = cond (leads s x.price y.price) (record { first = x; second = y }) (record { first = y; second = x })

-- the cells with x put in at its rank, and what falls out behind the last
unfoldable pub kept_of : Side → Level → List Level → List Level
kept_of s x [] = []
kept_of s x (y ∷ ys) = (ordered_of s x y).first ∷ kept_of s (ordered_of s x y).second ys

unfoldable pub over_of : Side → Level → List Level → Level
over_of s x [] = x
over_of s x (y ∷ ys) = over_of s (ordered_of s x y).second ys

abbrev pub head_or : List Level → Level
head_or [] = no_level
head_or (y ∷ ys) = y

-- the cells without that of a price: those behind it move up
unfoldable pub without_of : Bool → ℕ → List Level → List Level
without_of gone p [] = []
without_of gone p (y ∷ ys) = cond (cond gone true (eqb y.price p)) (head_or ys) y ∷ without_of (cond gone true (eqb y.price p)) p ys

-- whether a level of price p stands
unfoldable pub holds_of : ℕ → List Level → Bool
holds_of p [] = false
holds_of p (y ∷ ys) = cond (eqb y.price p) true (holds_of p ys)

-- x in place of the level of its price
unfoldable pub replaced_of : Level → List Level → List Level
replaced_of x [] = []
replaced_of x (y ∷ ys) = cond (eqb y.price x.price) x y ∷ replaced_of x ys

abbrev pub passed : List Level → Result Levels Rejected
passed ls = Ok (record { cells = ls })

abbrev pub level_of : ℕ → Item → Level
level_of t i = record { price = i.price; size = i.shares; time = t }

-- "Zero shares remove the level of that price, if any; a known price is replaced; another is added", or rejected where a level falls out
unfoldable pub with_item : Side → ℕ → Item → Levels → Result Levels Rejected
with_item s t i l =
    cond (eqb i.shares 0) (passed (without_of false i.price l.cells))
    (cond (holds_of i.price l.cells) (passed (replaced_of (level_of t i) l.cells))
    (cond (eqb (over_of s (level_of t i) l.cells).price 0) (passed (kept_of s (level_of t i) l.cells))
    (Err (record { by = FifthLevel; levels = l }))))
