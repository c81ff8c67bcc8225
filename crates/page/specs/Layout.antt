-- A symbol's page: its head, the six entries, a slot for each letter A to Z, the makers' cells, its trading status, the keys of its letters. Every place and
-- length of it is named here.
-- Assumes nothing.
use Rattle.std.specs.Prelude.{ℕ, ◌+◌, ◌*◌, ◌-◌, List}
use Rattle.field.specs.Field.{part, field}
use Rattle.field.specs.Ascii.{A}
use Rattle.ranking.specs.declared.Side.{Side}
use Rattle.ranking.specs.declared.Side.TheVariants.{Bid, Offer}
use Rattle.text.specs.Form.{symbol_length, name_length}
use Rattle.quote.specs.Quote.{bid_at, offer_at, quote_length}
use Rattle.levels.specs.Levels.{side_length, levels_length}
use Rattle.keys.specs.Keys.{key_length}
use Rattle.entries.specs.Publication.{entry_length, publication_length}

-- ---- a slot: the letter's quote, then its levels

abbrev pub slot_length : ℕ
slot_length = quote_length + levels_length

abbrev pub letter_count : ℕ
letter_count = 26

-- ---- a cell: the maker's name, then its quote

abbrev pub cell_length : ℕ
cell_length = name_length + quote_length

abbrev pub maker_count : ℕ
maker_count = 16

-- ---- the page

-- the symbol stands first, behind it the round lot, the primary letter and the hints
abbrev pub symbol_at : ℕ
symbol_at = 0

abbrev pub lot_at : ℕ
lot_at = symbol_at + symbol_length

-- document 02, T-10: "Adding a symbol now names its primary letter"
abbrev pub primary_at : ℕ
primary_at = lot_at + 1

-- hints where a symbol's page is, one for each bucket of symbols; only those of a book's first page are used
abbrev pub hints_at : ℕ
hints_at = primary_at + 1

abbrev pub hint_count : ℕ
hint_count = 251

abbrev pub head_length : ℕ
head_length = hints_at + hint_count

abbrev pub entries_at : ℕ
entries_at = head_length

abbrev pub slots_at : ℕ
slots_at = entries_at + publication_length

abbrev pub cells_at : ℕ
cells_at = slots_at + letter_count * slot_length

-- T-10: halted or trading
abbrev pub status_at : ℕ
status_at = cells_at + maker_count * cell_length

-- the keys: a row of 26 for the letters' bids, one for their offers, one for their best odd bids, one for their best odd offers
abbrev pub keys_at : ℕ
keys_at = status_at + 1

abbrev pub key_row : ℕ
key_row = letter_count * key_length

abbrev pub quote_keys_at : Side → ℕ
quote_keys_at Bid = keys_at
quote_keys_at Offer = keys_at + key_row

abbrev pub first_keys_at : Side → ℕ
first_keys_at Bid = keys_at + 2 * key_row
first_keys_at Offer = keys_at + 3 * key_row

abbrev pub page_length : ℕ
page_length = keys_at + 4 * key_row

-- from the slots to the end: zeros on a page without quotes, which trades
abbrev pub quotes_length : ℕ
quotes_length = page_length - slots_at

-- where entry k starts
abbrev pub entry_at : ℕ → ℕ
entry_at k = entries_at + entry_length * k

-- where the slot of a letter starts
abbrev pub slot_at : ℕ → ℕ
slot_at l = slots_at + (l - A) * slot_length

-- where maker cell k starts
abbrev pub cell_at : ℕ → ℕ
cell_at k = cells_at + k * cell_length

-- where the key of a side of a letter's quote stands, and that of its first level
abbrev pub quote_key_at : Side → ℕ → ℕ
quote_key_at s l = quote_keys_at s + key_length * (l - A)

abbrev pub first_key_at : Side → ℕ → ℕ
first_key_at s l = first_keys_at s + key_length * (l - A)

-- where a side's level stands in a quote, and its first level among the levels of a letter
abbrev pub in_quote : Side → ℕ
in_quote Bid = bid_at
in_quote Offer = offer_at

abbrev pub in_levels : Side → ℕ
in_levels Bid = 0
in_levels Offer = side_length

-- ---- what a page says without its quotes

-- the symbol, as one number
abbrev pub page_symbol : List ℕ → ℕ
page_symbol p = field p symbol_at symbol_length

abbrev pub page_lot : List ℕ → ℕ
page_lot p = field p lot_at 1

abbrev pub page_primary : List ℕ → ℕ
page_primary p = field p primary_at 1

abbrev pub page_status : List ℕ → ℕ
page_status p = field p status_at 1

-- the entries as they stand
abbrev pub kept_entries : List ℕ → List ℕ
kept_entries p = part p entries_at publication_length
