-- A part leaves a side that it does not touch.
-- Assumes nothing.
use mathlib.Core.Path.{◌≡◌, refl}
use mathlib.Core.Bool.{Bool, true, false, ◌||◌, cond}
use mathlib.Core.List.{List, [], ◌∷◌}
use Rattle.std.specs.Prelude.{Option, None, Some}
use Rattle.lists.specs.Lists.{or_else, bind_option, map_option}
use Rattle.lists.proofs.Tests.{clash}
use Rattle.ranking.specs.declared.Side.{Side}
use Rattle.ranking.specs.declared.Side.TheVariants.{Bid, Offer}
use Rattle.quote.specs.declared.Level.{Level}
use Rattle.levels.specs.declared.Item.{Item}
use Rattle.levels.specs.Levels.{Standing, side_levels, Odd, items_on, clears, cleared_by, side_items, named, touches, odd_on}

-- the side's items on what the clear mark leaves
abbrev pub side_run : Side → Odd → Standing → Option (List Level)
side_run s o v = items_on s o.time (side_items s o) (cleared_by o.mark s (side_levels s v))

-- both sides' levels after the part, or none
abbrev pub both_run : Option (List Level) → Option (List Level) → Option Standing
both_run x y = bind_option x (λ b. map_option (λ a. record { bids = b; offers = a }) y)

pub odd-runs : (o : Odd) (v : Standing) → odd_on o v ≡ both_run (side_run Bid o v) (side_run Offer o v)
unfolding odd_on
odd-runs o v = refl

-- an untouched side keeps its levels
pub still : (s : Side) (o : Odd) (v : Standing) → touches o s ≡ false → side_run s o v ≡ Some (side_levels s v)
unfolding touches cleared_by items_on
still s o v = go (clears o.mark s) (side_items s o)
  where
    go : (c : Bool) (is : List Item) → c || named is ≡ false → items_on s o.time is (cond c [] (side_levels s v)) ≡ Some (side_levels s v)
    go true is e = clash e
    go false [] e = refl
    go false (i ∷ is) e = clash e

pub odd-untouched : (o : Odd) (v : Standing) (s : Side) → touches o s ≡ false → side_levels s (or_else (odd_on o v) v) ≡ side_levels s v
odd-untouched o v Bid e = rw (odd-runs o v, still Bid o v e) (go (side_run Offer o v))
  where
    go : (y : Option (List Level)) → (or_else (both_run (Some v.bids) y) v).bids ≡ v.bids
    go None = refl
    go (Some a) = refl
odd-untouched o v Offer e = rw (odd-runs o v, still Offer o v e) (go (side_run Bid o v))
  where
    go : (x : Option (List Level)) → (or_else (both_run x (Some v.offers)) v).offers ≡ v.offers
    go None = refl
    go (Some b) = refl
