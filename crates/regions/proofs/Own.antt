-- What of a page is a letter's own: its slot and its keys, of D the makers' cells too, and of the page's primary letter the trading status.
-- Assumes nothing.
use Prim.Native.Nat.{ℕ, ◌*◌}
use mathlib.Core.Bool.{◌&&◌, ◌||◌}
use lib.Dec.{eqb}
use Rattle.field.specs.Ascii.{D}
use Rattle.ranking.specs.declared.Side.{Side}
use Rattle.ranking.specs.declared.Side.TheVariants.{Bid, Offer}
use Rattle.keys.specs.Keys.{key_length}
use Rattle.page.specs.Layout.{symbol_at, head_length, slot_length, cell_length, maker_count, cells_at, slot_at, status_at, quote_key_at, first_key_at}
use Rattle.regions.proofs.RegionLaws.{Region, within}

abbrev pub slot_of : ℕ → Region
slot_of l = within (slot_at l) slot_length

-- the keys of its quote and of its first levels
abbrev pub quote_key_of : Side → ℕ → Region
quote_key_of s l = within (quote_key_at s l) key_length

abbrev pub first_key_of : Side → ℕ → Region
first_key_of s l = within (first_key_at s l) key_length

abbrev pub keys_of : ℕ → Region
keys_of l i = (quote_key_of Bid l i || quote_key_of Offer l i) || (first_key_of Bid l i || first_key_of Offer l i)

-- its quote and its levels: the slot and the keys
abbrev pub places_of : ℕ → Region
places_of l i = slot_of l i || keys_of l i

abbrev pub cells : Region
cells = within cells_at (maker_count * cell_length)

abbrev pub status : Region
status = within status_at 1

-- on a page whose primary letter is m: D's line sends makers' quotes, FINRA Close and Open, the primary letter's trading statuses (document 02, T-10)
abbrev pub own : ℕ → ℕ → Region
own m l i = places_of l i || ((eqb l D && cells i) || (eqb m l && status i))

-- symbol, round lot and primary letter
abbrev pub head : Region
head = within symbol_at head_length
