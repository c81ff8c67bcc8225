-- What a page says, whatever its bytes, and its entries worked out from its quotes.
-- Assumes nothing.
use Rattle.std.specs.Prelude.{ℕ, ◌+◌, Bool, cond, List, [], ◌∷◌, ◌++◌, map, eqb, Option, None, Some}
use Rattle.field.specs.Field.{part, field, splice, be_bytes}
use Rattle.lists.specs.Lists.{member, collect, range, upper}
use Rattle.field.specs.Low.{low, le_bytes}
use Rattle.ranking.specs.declared.Side.{Side}
use Rattle.ranking.specs.declared.Side.TheVariants.{Bid, Offer}
use Rattle.quote.specs.declared.Level.{Level}
use Rattle.quote.specs.declared.Quote.{Quote}
use Rattle.keys.specs.Keys.{key_length, level_key, quote_key}
use Rattle.quote.specs.Quote.{no_level, no_quote, quote_in, quote_bytes, quote_length}
use Rattle.levels.specs.Levels.{Standing, no_levels, levels_in, levels_length, cells_bytes}
use Rattle.entries.specs.Entries.{Maker, Entries, entries_of, unless_halted}
use Rattle.entries.specs.Publication.{publication}
use Rattle.field.specs.Ascii.{H, L, R}
use Rattle.text.specs.Form.{name_length}
use Rattle.page.specs.Layout.{entries_at, cell_length, maker_count, slot_at, cell_at, quote_key_at, first_key_at, in_levels, page_status}

-- ---- a letter's quote and levels. Their keys say their prices again; a side whose key is not its own has no quote and no levels

unfoldable pub agreed : Bool → Level → Level
agreed t v = cond t v no_level

unfoldable pub agreed_quote : ℕ → ℕ → Quote → Quote
agreed_quote kb ko q = record { condition = q.condition; bid = agreed (eqb kb (quote_key Bid q)) q.bid; offer = agreed (eqb ko (quote_key Offer q)) q.offer }

-- the key of a side's levels is that of the first
abbrev pub first_key : Side → List Level → ℕ
first_key s [] = 0
first_key s (v ∷ vs) = level_key s v

unfoldable pub agreed_side : Side → ℕ → List Level → List Level
agreed_side s k vs = cond (eqb k (first_key s vs)) vs []

unfoldable pub agreed_levels : ℕ → ℕ → Standing → Standing
agreed_levels kb ko v = record { bids = agreed_side Bid kb v.bids; offers = agreed_side Offer ko v.offers }

unfoldable pub quotes_in : List ℕ → ℕ → Quote
quotes_in p l =
    cond (upper l)
    (agreed_quote (low p (quote_key_at Bid l) key_length) (low p (quote_key_at Offer l) key_length) (quote_in (part p (slot_at l) quote_length)))
    no_quote

unfoldable pub levels_for : List ℕ → ℕ → Standing
levels_for p l =
    cond (upper l)
    (agreed_levels (low p (first_key_at Bid l) key_length) (low p (first_key_at Offer l) key_length) (levels_in (part p (slot_at l + quote_length) levels_length)))
    no_levels

-- ---- a letter's quote and a side of its levels, written: what stands in the slot, then the keys

abbrev pub with_key : ℕ → ℕ → List ℕ → List ℕ
with_key at k p = splice p at (le_bytes key_length k)

unfoldable pub with_quote : ℕ → Quote → List ℕ → List ℕ
with_quote l q p = with_key (quote_key_at Offer l) (quote_key Offer q) (with_key (quote_key_at Bid l) (quote_key Bid q) (splice p (slot_at l) (quote_bytes q)))

unfoldable pub with_side : Side → ℕ → List Level → List ℕ → List ℕ
with_side s l vs p = with_key (first_key_at s l) (first_key s vs) (splice p (slot_at l + quote_length + in_levels s) (cells_bytes 4 vs))

-- ---- makers

-- a cell stands if its condition is L or R, else it is free
unfoldable pub maker_in : List ℕ → Option Maker
maker_in b = cond (member (L ∷ R ∷ []) (field b name_length 1)) (Some (record { name = field b 0 name_length; quote = quote_in (part b name_length quote_length) })) None

unfoldable pub maker_bytes : Maker → List ℕ
maker_bytes m = be_bytes name_length m.name ++ quote_bytes m.quote

unfoldable pub makers_in : List ℕ → List (Option Maker)
makers_in p = map (λ k. maker_in (part p (cell_at k) cell_length)) (range maker_count 0)

abbrev pub same : {A : Type 0} → A → A
same a = a

-- the makers that stand
abbrev pub occupied : List (Option Maker) → List Maker
occupied cs = collect same cs

-- the entries worked out from a page's quotes
unfoldable pub page_entries : List ℕ → Entries
page_entries p = entries_of (quotes_in p) (occupied (makers_in p)) (levels_for p)

-- document 02, T-10: the status H is halted, every other byte trading
unfoldable pub halted_in : List ℕ → Bool
halted_in p = eqb (page_status p) H

-- the entries that are published: while halted none, else those worked out from the page's quotes
unfoldable pub published_entries : List ℕ → Entries
published_entries p = unless_halted (halted_in p) (page_entries p)

-- the page with its entries worked out
unfoldable pub refreshed : List ℕ → List ℕ
refreshed p = splice p entries_at (publication (published_entries p))
