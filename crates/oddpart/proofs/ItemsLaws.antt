-- On the cells of levels, a side of a part does what `Levels.antt` says of levels: the clear mark, then the items in order.
-- Assumes nothing.
use Prim.Native.Nat.{ℕ, ◌≤◌}
use mathlib.Core.Path.{◌≡◌, refl}
use mathlib.Core.Bool.{false}
use mathlib.Core.List.{List, [], ◌∷◌}
use Rattle.std.specs.Prelude.{Option, None, Some, Result, Err}
use native.Mathlib.Omega.{arith}
use lib.Dec.{eqb}
use lib.ListN.{length}
use Rattle.lists.specs.Lists.{bind_option}
use Rattle.ranking.specs.declared.Side.{Side}
use Rattle.quote.specs.declared.Level.{Level}
use Rattle.levels.specs.declared.Item.{Item}
use Rattle.levels.specs.declared.Levels.{Levels}
use Rattle.levels.specs.declared.Rejected.{Rejected}
use Rattle.numbers.specs.declared.Rejection.TheVariants.{FifthLevel}
use Rattle.levels.specs.Levels.{item_on, items_on, cleared_by}
use Rattle.levels.specs.code.Cells.{cells_of, passed}
use Rattle.levels.proofs.LevelLaws.{Ranked, item-short, item-ranked, cleared-elim}
use Rattle.levels.proofs.ReadingLaws.{side_answer, item-cells}
use Rattle.oddpart.specs.code.Part.{on_pass, start_of, with_items, with_part}

-- every item has a price
abbrev pub Priced : List Item → Type 0
Priced [] = Unit {0}
Priced (i ∷ is) = (eqb i.price 0 ≡ false) × Priced is

-- what a side gives: the cells of its levels, or 64
abbrev pub Gives : Result Levels Rejected → Option (List Level) → Type 0
Gives c None = (l : Levels) × (c ≡ Err (record { by = FifthLevel; levels = l }))
Gives c (Some ms) = c ≡ passed (cells_of ms)

module _ (s : Side) (t : ℕ) where
  items-cells : (is : List Item) (ls : List Level) → Priced is → length ls ≤ 4 → Ranked s ls → Gives (with_items s t is (record { cells = cells_of ls })) (items_on s t is ls)
  unfolding with_items items_on
  items-cells [] ls p h r = refl
  items-cells (i ∷ is) ls p h r = rw (item-cells s t i ls p.0 h r) (go (item_on s t i ls) refl (λ ms. items-cells is ms p.1))
    where
      go : (o : Option (List Level)) → item_on s t i ls ≡ o
          → ((ms : List Level) → length ms ≤ 4 → Ranked s ms → Gives (with_items s t is (record { cells = cells_of ms })) (items_on s t is ms))
          → Gives (on_pass (side_answer (record { cells = cells_of ls }) o) (with_items s t is)) (bind_option o (items_on s t is))
      go None x down = (record { cells = cells_of ls }, refl)
      go (Some ms) x down = down ms (item-short s t i ls ms x h) (item-ranked s t i ls ms x p.0 r)

  pub part-cells : (mark : ℕ) (is : List Item) (ls : List Level) → Priced is → length ls ≤ 4 → Ranked s ls → Gives (with_part s mark t is ls) (items_on s t is (cleared_by mark s ls))
  unfolding with_part start_of
  part-cells mark is ls p h r =
      items-cells is (cleared_by mark s ls) p (cleared-elim (λ m. length m ≤ 4) mark s ls (omega arith) h) (cleared-elim (Ranked s) mark s ls tt r)
