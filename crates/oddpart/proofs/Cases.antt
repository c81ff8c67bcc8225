-- Document 01's cases P7, P8 and P9 as far as the odd part goes, and the cases around them, from the items' bytes. Each is checked by computing.
-- Assumes nothing.
use Prim.Native.Nat.{ℕ}
use mathlib.Core.Path.{◌≡◌, refl}
use mathlib.Core.Bool.{◌&&◌, cond}
use mathlib.Core.List.{List, [], ◌∷◌, ◌++◌}
use Rattle.std.specs.Prelude.{Option, None, Some}
use lib.Dec.{eqb}
use Rattle.lists.specs.Lists.{member, or_else}
use Rattle.field.specs.Field.{be, part, field}
use Rattle.ranking.specs.declared.Side.{Side}
use Rattle.ranking.specs.declared.Side.TheVariants.{Bid, Offer}
use Rattle.quote.specs.declared.Level.{Level}
use Rattle.levels.specs.Levels.{Standing, no_levels, side_levels, Odd, without, insert, item_on, items_on, clears, cleared_by, touches, odd_on, items_bad, odd_bad, odd_code, item_at, items_from, odd_in}

-- an item's twelve bytes: a price and shares below 256
abbrev item : ℕ → ℕ → List ℕ
item p z = 0 ∷ 0 ∷ 0 ∷ 0 ∷ 0 ∷ 0 ∷ 0 ∷ p ∷ 0 ∷ 0 ∷ 0 ∷ z ∷ []

abbrev level : ℕ → ℕ → ℕ → Level
level p z t = record { price = p; size = z; time = t }

-- four bids and one offer, of time 1
abbrev four : Standing
four = record { bids = level 40 5 1 ∷ level 30 5 1 ∷ level 20 5 1 ∷ level 10 5 1 ∷ []; offers = level 50 5 1 ∷ [] }

-- a part of time 9 at a round lot of 100: its code, and the levels of each side that is written, none for a side that is left
pub record Outcome : Type 0 where
  pub code : ℕ
  pub bids : Option (List Level)
  pub offers : Option (List Level)

abbrev written : Standing → Odd → Side → Option (List Level)
written v o s = cond (eqb (odd_code 100 v o) 0 && touches o s) (Some (side_levels s (or_else (odd_on o v) v))) None

abbrev after : Standing → ℕ → ℕ → ℕ → List ℕ → Outcome
after v mark bids offers s =
    let o = odd_in mark bids offers 9 s in
    record { code = odd_code 100 v o; bids = written v o Bid; offers = written v o Offer }

abbrev wrote_bids : List Level → Outcome
wrote_bids ls = record { code = 0; bids = Some ls; offers = None }

abbrev wrote_offers : List Level → Outcome
wrote_offers ls = record { code = 0; bids = None; offers = Some ls }

abbrev wrote_both : List Level → List Level → Outcome
wrote_both bs os = record { code = 0; bids = Some bs; offers = Some os }

abbrev refused : ℕ → Outcome
refused n = record { code = n; bids = None; offers = None }

pub record Cases : Type 0 where
  pub p7-in : after no_levels 32 1 0 (item 7 99) ≡ wrote_bids (level 7 99 9 ∷ [])
  pub p7-out : after no_levels 32 1 0 (item 7 100) ≡ refused 63
  pub p8 : after four 66 5 0 (item 1 1 ++ item 2 1 ++ item 3 1 ++ item 4 1 ++ item 5 1) ≡ refused 61
  pub p9 : after four 32 1 0 (item 7 5) ≡ refused 64
  pub mark : after four 65 0 0 [] ≡ refused 60
  pub five-offers : after four 32 0 5 (item 1 1 ++ item 2 1 ++ item 3 1 ++ item 4 1 ++ item 5 1) ≡ refused 61
  -- the first item's fault decides, and 62 before 63 in one item
  pub first-fault : after four 32 2 0 (item 7 100 ++ item 0 1) ≡ refused 63
  pub price-first : after four 32 1 0 (item 0 100) ≡ refused 62
  -- any 62 or 63 goes before a 64
  pub checks-first : after four 32 1 1 (item 7 5 ++ item 0 0) ≡ refused 62
  -- a mistake met before: a clear that stays though its part was refused
  pub cleared-refused : after four 88 1 0 (item 7 100) ≡ refused 63
  pub other-cleared : after four 83 1 1 (item 7 5 ++ item 51 5) ≡ refused 64
  -- a removal before makes room, one behind does not
  pub room : after four 32 2 0 (item 10 0 ++ item 35 6) ≡ wrote_bids (level 40 5 1 ∷ level 35 6 9 ∷ level 30 5 1 ∷ level 20 5 1 ∷ [])
  pub no_room : after four 32 2 0 (item 35 6 ++ item 10 0) ≡ refused 64
  -- a clear makes room
  pub cleared : after four 66 1 0 (item 7 5) ≡ wrote_bids (level 7 5 9 ∷ [])
  -- a known price is replaced, its time too; zero shares of an unknown price do nothing
  pub known : after four 32 1 0 (item 30 5) ≡ wrote_bids (level 40 5 1 ∷ level 30 5 9 ∷ level 20 5 1 ∷ level 10 5 1 ∷ [])
  pub unknown : after four 32 1 0 (item 7 0) ≡ wrote_bids four.bids
  -- offers rise: the lower goes first; the second of one price replaces the first
  pub offers : after four 32 0 3 (item 60 7 ++ item 45 7 ++ item 60 8) ≡ wrote_offers (level 45 7 9 ∷ level 50 5 1 ∷ level 60 8 9 ∷ [])
  -- a mark alone writes the sides that it clears; X and items of one side write both; a space and no items write none
  pub cleared-offers : after four 83 0 0 [] ≡ wrote_offers []
  pub cleared_both : after four 88 0 1 (item 51 5) ≡ wrote_both [] (level 51 5 9 ∷ [])
  pub idle : after four 32 0 0 [] ≡ record { code = 0; bids = None; offers = None }

pub cases : Cases
unfolding odd_code odd_bad odd_on items_bad items_on item_on without insert clears cleared_by touches item_at items_from odd_in member field part be
cases = record {
  p7-in = refl;
  p7-out = refl;
  p8 = refl;
  p9 = refl;
  mark = refl;
  five-offers = refl;
  first-fault = refl;
  price-first = refl;
  checks-first = refl;
  cleared-refused = refl;
  other-cleared = refl;
  room = refl;
  no_room = refl;
  cleared = refl;
  known = refl;
  unknown = refl;
  offers = refl;
  cleared-offers = refl;
  cleared_both = refl;
  idle = refl;
}
