-- What the checks of an odd part say.
-- Assumes nothing.
use Prim.Native.Nat.{ℕ}
use mathlib.Core.Path.{◌≡◌, refl}
use mathlib.Core.Bool.{Bool, true, false, ◌&&◌, cond}
use mathlib.Core.List.{List, [], ◌∷◌, ◌++◌}
use native.Mathlib.Omega.{arith}
use lib.Dec.{eqb, leb}
use lib.ListN.{length}
use Rattle.lists.specs.Lists.{member}
use Rattle.levels.specs.declared.Item.{Item}
use Rattle.levels.specs.Levels.{Odd, items_bad, odd_bad, clear_marks}
use Rattle.oddpart.proofs.ItemsLaws.{Priced}

-- no 62: every item has a price
items-priced : (lot : ℕ) (is : List Item) → items_bad lot is ≡ 0 → Priced is
unfolding items_bad
items-priced lot [] e = tt
items-priced lot (x ∷ xs) e = go (eqb x.price 0) refl (leb lot x.shares) e (items-priced lot xs)
  where
    go : (t : Bool) → eqb x.price 0 ≡ t → (u : Bool) → cond t 62 (cond u 63 (items_bad lot xs)) ≡ 0 → (items_bad lot xs ≡ 0 → Priced xs) → Priced (x ∷ xs)
    go true z u e d = absurd (omega arith)
    go false z true e d = absurd (omega arith)
    go false z false e d = (z, d e)

priced-both : (xs ys : List Item) → Priced (xs ++ ys) → Priced xs × Priced ys
priced-both [] ys p = (tt, p)
priced-both (x ∷ xs) ys p = let q : Priced xs × Priced ys = priced-both xs ys p.1 in ((p.0, q.0), q.1)

pub odd-priced : (lot : ℕ) (o : Odd) → odd_bad lot o ≡ 0 → Priced o.bids × Priced o.offers
unfolding odd_bad
odd-priced lot o e = go (member clear_marks o.mark) (leb (length o.bids) 4 && leb (length o.offers) 4) e
  where
    go : (t u : Bool) → cond t (cond u (items_bad lot (o.bids ++ o.offers)) 61) 60 ≡ 0 → Priced o.bids × Priced o.offers
    go true true e = priced-both o.bids o.offers (items-priced lot (o.bids ++ o.offers) e)
    go true false e = absurd (omega arith)
    go false u e = absurd (omega arith)
