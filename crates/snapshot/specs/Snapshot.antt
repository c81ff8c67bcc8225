-- What a snapshot of a symbol carries (document 02, T-12), as values: it knows no book.
-- Assumes nothing.
use Rattle.std.specs.Prelude.{ℕ, ◌*◌, Bool, not, ◌&&◌, cond, List, [], ◌∷◌, Option, None, Some}
use Rattle.field.specs.Field.{part}
use Rattle.field.specs.Ascii.{A, D, S}
use Rattle.lists.specs.Lists.{member, collect, range}
use Rattle.quote.specs.declared.Level.{Level}
use Rattle.quote.specs.declared.Quote.{Quote}
use Rattle.quote.specs.Quote.{is_quoted}
use Rattle.entries.specs.Publication.{entry_length}

-- a side's price and its size in round lots
pub record Priced : Type 0 where
  pub price : ℕ
  pub size : ℕ

-- "each letter's latest condition, prices and sizes"
pub record Shown : Type 0 where
  pub letter : ℕ
  pub condition : ℕ
  pub bid : Priced
  pub offer : Priced

-- times play no part
abbrev pub priced_of : Level → Priced
priced_of l = record { price = l.price; size = l.size }

abbrev pub shown_of : ℕ → Quote → Shown
shown_of l q = record { letter = l; condition = q.condition; bid = priced_of q.bid; offer = priced_of q.offer }

-- two entries of a publication, 16 bytes each
pub record BothEntries : Type 0 where
  pub bid : List ℕ
  pub offer : List ℕ

abbrev pub both_length : ℕ
both_length = 2 * entry_length

-- as they stand in a publication, the bid first
abbrev pub both_in : List ℕ → BothEntries
both_in e = record { bid = part e 0 entry_length; offer = part e entry_length entry_length }

pub record Snapshot : Type 0 where
  pub symbol : List ℕ
  pub national : BothEntries
  pub finra : BothEntries
  pub letters : List Shown

-- ---- of a symbol

-- "each letter with a round quote since Start of Day": D's quotes are its makers', which FINRA's message tells, and S has none
unfoldable pub is_shown : (ℕ → Quote) → ℕ → Bool
is_shown quotes l = not (member (D ∷ S ∷ []) l) && is_quoted (quotes l).condition

abbrev pub shown_at : (ℕ → Quote) → ℕ → Option Shown
shown_at quotes l = cond (is_shown quotes l) (Some (shown_of l (quotes l))) None

-- of n letters from l on
abbrev pub shown_from : (ℕ → Quote) → ℕ → ℕ → List Shown
shown_from quotes n l = collect (shown_at quotes) (range n l)

-- of a symbol, the entries of its publication and its letters' latest quotes, "from A on" to Z
unfoldable pub snapshot_of : List ℕ → List ℕ → (ℕ → Quote) → Snapshot
snapshot_of s e quotes = record { symbol = s; national = both_in (part e 0 both_length); finra = both_in (part e both_length both_length); letters = shown_from quotes 26 A }
