-- The odd-lot levels of one letter, and what an odd part does to them (document 01, "Odd part" and numbers 60 to 64).
-- Assumes nothing.
use Rattle.std.specs.Prelude.{ℕ, zero, suc, ◌+◌, ◌*◌, Bool, true, false, ◌&&◌, ◌||◌, cond, List, [], ◌∷◌, ◌++◌, ltb, leb, eqb, length, take, drop, replicate, Option, None, Some}
use Rattle.field.specs.Field.{part, field}
use Rattle.field.specs.Ascii.{B, S, X, space}
use Rattle.lists.specs.Lists.{member, bind_option, map_option}
use Rattle.ranking.specs.declared.Side.{Side}
use Rattle.ranking.specs.declared.Side.TheVariants.{Bid, Offer}
use Rattle.ranking.specs.Ranking.{ahead}
use Rattle.quote.specs.declared.Level.{Level}
use Rattle.levels.specs.declared.Item.{Item}
use Rattle.quote.specs.Quote.{level_length, level_in, level_bytes}

-- what stands of one letter, each side best first, no price twice
pub record Standing : Type 0 where
  pub bids : List Level
  pub offers : List Level

abbrev pub side_levels : Side → Standing → List Level
side_levels Bid v = v.bids
side_levels Offer v = v.offers

abbrev pub no_levels : Standing
no_levels = record { bids = []; offers = [] }

-- an odd part: its clear mark, its items, the message's timestamp
pub record Odd : Type 0 where
  pub mark : ℕ
  pub bids : List Item
  pub offers : List Item
  pub time : ℕ

-- ---- one item

-- the levels without that of a price
unfoldable pub without : ℕ → List Level → List Level
without p [] = []
without p (x ∷ xs) = cond (eqb x.price p) (without p xs) (x ∷ without p xs)

-- the levels with one more, at its rank
unfoldable pub insert : Side → Level → List Level → List Level
insert s y [] = y ∷ []
insert s y (x ∷ xs) = cond (ahead s y.price x.price) (y ∷ x ∷ xs) (x ∷ insert s y xs)

-- "Zero shares remove the level of that price, if any; a known price is replaced; another is added." None: it would make a fifth level
unfoldable pub item_on : Side → ℕ → Item → List Level → Option (List Level)
item_on s t i ls =
    cond (eqb i.shares 0) (Some (without i.price ls))
    (cond (ltb (length (without i.price ls)) 4)
    (Some (insert s (record { price = i.price; size = i.shares; time = t }) (without i.price ls)))
    None)

-- each item in order
unfoldable pub items_on : Side → ℕ → List Item → List Level → Option (List Level)
items_on s t [] ls = Some ls
items_on s t (i ∷ is) ls = bind_option (item_on s t i ls) (items_on s t is)

-- ---- the part

-- "the clear mark first (space none, B bids, S offers, X both)"
unfoldable pub clears : ℕ → Side → Bool
clears mark Bid = member (B ∷ X ∷ []) mark
clears mark Offer = member (S ∷ X ∷ []) mark

unfoldable pub cleared_by : ℕ → Side → List Level → List Level
cleared_by mark s ls = cond (clears mark s) [] ls

-- a side that a part touches: the clear mark clears it, or an item names it
abbrev pub side_items : Side → Odd → List Item
side_items Bid o = o.bids
side_items Offer o = o.offers

abbrev pub named : List Item → Bool
named [] = false
named (i ∷ is) = true

unfoldable pub touches : Odd → Side → Bool
touches o s = clears o.mark s || named (side_items s o)

-- the clear mark, then each item in order; none if an item would make a fifth level: then nothing is done, on both sides
unfoldable pub odd_on : Odd → Standing → Option Standing
odd_on o v =
    bind_option (items_on Bid o.time o.bids (cleared_by o.mark Bid v.bids))
    (λ b. map_option (λ a. record { bids = b; offers = a }) (items_on Offer o.time o.offers (cleared_by o.mark Offer v.offers)))

-- a part that asks for nothing: a space, and no items on both sides
unfoldable pub idle_odd : Odd → Bool
idle_odd o = eqb o.mark space && eqb (length (o.bids ++ o.offers)) 0

-- "62 price 0, 63 shares of a round lot or more, item by item over all items"
unfoldable pub items_bad : ℕ → List Item → ℕ
items_bad lot [] = 0
items_bad lot (x ∷ xs) = cond (eqb x.price 0) 62 (cond (leb lot x.shares) 63 (items_bad lot xs))

abbrev pub clear_marks : List ℕ
clear_marks = space ∷ B ∷ S ∷ X ∷ []

-- "60 clear mark. 61 either count above 4", then the items
unfoldable pub odd_bad : ℕ → Odd → ℕ
odd_bad lot o =
    cond (member clear_marks o.mark)
    (cond (leb (length o.bids) 4 && leb (length o.offers) 4) (items_bad lot (o.bids ++ o.offers)) 61)
    60

-- "only then 64 an item, when its turn comes, would make a fifth level"
abbrev pub fifth : Option Standing → ℕ
fifth None = 64
fifth (Some v) = 0

-- the code of an odd part: 0, or 60 to 64
unfoldable pub odd_code : ℕ → Standing → Odd → ℕ
odd_code lot v o = cond (eqb (odd_bad lot o) 0) (fifth (odd_on o v)) (odd_bad lot o)

-- ---- items' bytes: price 8, shares 4

abbrev pub item_length : ℕ
item_length = 12

-- n items from item i on
unfoldable pub item_at : List ℕ → ℕ → Item
item_at b i = record { price = field b (item_length * i) 8; shares = field b (item_length * i + 8) 4 }

unfoldable pub items_from : List ℕ → ℕ → ℕ → List Item
items_from b i zero = []
items_from b i (suc n) = item_at b i ∷ items_from b (i + 1) n

-- the odd part with this mark, these counts and this time whose items stand in b: the bids, then the offers
unfoldable pub odd_in : ℕ → ℕ → ℕ → ℕ → List ℕ → Odd
odd_in mark bids offers time b = record { mark = mark; bids = items_from b 0 bids; offers = items_from b bids offers; time = time }

-- ---- levels' bytes: a side is four levels' cells; bids, then offers

abbrev pub side_length : ℕ
side_length = 4 * level_length

abbrev pub levels_length : ℕ
levels_length = 2 * side_length

-- k cells as they stand
unfoldable pub cells_in : ℕ → List ℕ → List Level
cells_in zero b = []
cells_in (suc k) b = level_in (take level_length b) ∷ cells_in k (drop level_length b)

abbrev pub empty_cell : Level → Bool
empty_cell x = cond (eqb x.price 0) true (eqb x.size 0)

abbrev pub behind : Side → Option Level → Level → Bool
behind s None x = true
behind s (Some y) x = ahead s y.price x.price

-- the reading of a side: the cells before the first one that is empty (price 0 or shares 0) or does not rank strictly behind the cell before it
unfoldable pub ranked : Side → Option Level → List Level → List Level
ranked s y [] = []
ranked s y (x ∷ xs) = cond (empty_cell x) [] (cond (behind s y x) (x ∷ ranked s (Some x) xs) [])

unfoldable pub side_in : Side → List ℕ → List Level
side_in s b = ranked s None (cells_in 4 b)

-- bids, then offers
unfoldable pub levels_in : List ℕ → Standing
levels_in b = record { bids = side_in Bid (part b 0 side_length); offers = side_in Offer (part b side_length side_length) }

-- k cells, the levels first, zeros behind
unfoldable pub cells_bytes : ℕ → List Level → List ℕ
cells_bytes zero ls = []
cells_bytes (suc k) [] = replicate level_length 0 ++ cells_bytes k []
cells_bytes (suc k) (x ∷ xs) = level_bytes x ++ cells_bytes k xs
