-- A part that is sent to a book: a trading status on the line of its symbol's primary letter.
-- Assumes nothing.
use Prim.Native.Nat.{ℕ}
use mathlib.Core.Path.{◌≡◌}
use mathlib.Core.List.{List}
use Rattle.std.specs.Prelude.{Some}
use Rattle.message.specs.Message.{Part}
use Rattle.page.specs.Layout.{page_primary}
use Rattle.opening.specs.Opening.{page_at, page_place}
use Rattle.regions.proofs.PartLaws.{SentBy}

abbrev pub Primary : List ℕ → ℕ → ℕ → Type 0
Primary b l s = (k : ℕ) → page_place b s ≡ Some k → page_primary (page_at b k) ≡ l

abbrev pub SentOn : List ℕ → ℕ → Part → Type 0
SentOn b l r = SentBy (Primary b l) l r
