-- A page's reading, changed part by part: what each function on a page's bytes is proved to do.
-- Assumes nothing.
use mathlib.Core.Bool.{Bool, false, cond}
use mathlib.Core.List.{List, [], ◌∷◌, map}
use Rattle.std.specs.Prelude.{Option, None, Some}
use Prim.Native.Nat.{ℕ}
use lib.Dec.{eqb}
use lib.ListN.{replicate}
use Rattle.lists.specs.Lists.{is_some, or_else, map_option}
use Rattle.quote.specs.declared.Quote.{Quote}
use Rattle.quote.specs.Quote.{no_quote, empty_quote, quote_over, with_condition}
use Rattle.levels.specs.Levels.{Standing, no_levels, Odd, odd_on}
use Rattle.message.specs.Message.{Part, round_part, odd_part, maker_part, finra_part, status_part}
use Rattle.entries.specs.Entries.{Maker, entries_of, unless_halted}
use Rattle.entries.specs.Publication.{publication}
use Rattle.page.specs.Page.{occupied}
use Rattle.makers.specs.Makers.{named, find_maker, maker_over}
use Rattle.update.specs.Parts.{Reading}
use Rattle.page.specs.Layout.{maker_count}
use Rattle.field.specs.Ascii.{H}

abbrev pub set_at : {A : Type 0} → ℕ → A → (ℕ → A) → ℕ → A
set_at i a f j = cond (eqb i j) a (f j)

-- ---- cells

abbrev pub as_maker : ℕ → Quote → Maker
as_maker m q = record { name = m; quote = q }

-- the first cell of that name gets c
abbrev pub rewrite : ℕ → Option Maker → List (Option Maker) → List (Option Maker)
rewrite m c [] = []
rewrite m c (x ∷ xs) = cond (named m x) (c ∷ xs) (x ∷ rewrite m c xs)

-- the first free cell gets y
abbrev pub allocate : Maker → List (Option Maker) → List (Option Maker)
allocate y [] = []
allocate y (None ∷ xs) = Some y ∷ xs
allocate y (Some x ∷ xs) = Some x ∷ allocate y xs

-- what stands after a maker's quote: nothing if both sides are 0 and 0
unfoldable pub standing : ℕ → Quote → Option Maker
standing m q = cond (empty_quote q) None (Some (as_maker m q))

unfoldable pub maker_put : ℕ → Quote → List (Option Maker) → List (Option Maker)
maker_put m q cs = cond (is_some (find_maker m cs)) (rewrite m (standing m q) cs) (cond (empty_quote q) cs (allocate (as_maker m q) cs))

abbrev pub marked : ℕ → Maker → Maker
marked c x = record { name = x.name; quote = with_condition c x.quote }

unfoldable pub mark_all : ℕ → List (Option Maker) → List (Option Maker)
mark_all c cs = map (map_option (marked c)) cs

-- ---- readings

-- a reading with its entries worked out from its quotes, none while it is halted: symbol, round lot, primary letter, whether it is halted
unfoldable pub worked : ℕ → ℕ → ℕ → Bool → (ℕ → Quote) → List (Option Maker) → (ℕ → Standing) → Reading
worked s k m t quotes cells levels =
    record {
      symbol = s;
      lot = k;
      primary = m;
      halted = t;
      quotes = quotes;
      cells = cells;
      levels = levels;
      entries = publication (unless_halted t (entries_of quotes (occupied cells) levels));
    }

-- another's symbol, round lot, primary letter and status
abbrev pub worked_for : Reading → (ℕ → Quote) → List (Option Maker) → (ℕ → Standing) → Reading
worked_for r = worked r.symbol r.lot r.primary r.halted

-- a symbol with nothing
unfoldable pub blank_reading : ℕ → ℕ → ℕ → Reading
blank_reading s k m = worked s k m false (λ l. no_quote) (replicate maker_count None) (λ l. no_levels)

abbrev pub blanked : Reading → Reading
blanked r = blank_reading r.symbol r.lot r.primary

unfoldable pub round_reading : ℕ → Quote → Reading → Reading
round_reading l q r = worked_for r (set_at l (quote_over (r.quotes l) q) r.quotes) r.cells r.levels

unfoldable pub odd_reading : ℕ → Odd → Reading → Reading
odd_reading l o r =
    worked_for r r.quotes r.cells (set_at l (or_else (odd_on o (r.levels l)) (r.levels l)) r.levels)

unfoldable pub maker_reading : ℕ → Quote → Reading → Reading
maker_reading m q r = worked_for r r.quotes (maker_put m (maker_over (find_maker m r.cells) q) r.cells) r.levels

unfoldable pub finra_reading : ℕ → Reading → Reading
finra_reading c r = worked_for r r.quotes (mark_all c r.cells) r.levels

unfoldable pub status_reading : ℕ → Reading → Reading
status_reading x r = worked r.symbol r.lot r.primary (eqb x H) r.quotes r.cells r.levels

-- ---- the readings of a book

-- the first reading of the symbol
abbrev pub on_reading : ℕ → (Reading → Reading) → List Reading → List Reading
on_reading s g [] = []
on_reading s g (r ∷ rs) = cond (eqb r.symbol s) (g r ∷ rs) (r ∷ on_reading s g rs)

unfoldable pub part_reading : Part → List Reading → List Reading
part_reading (round_part s l q) rs = on_reading s (round_reading l q) rs
part_reading (odd_part s l o) rs = on_reading s (odd_reading l o) rs
part_reading (maker_part s m q) rs = on_reading s (maker_reading m q) rs
part_reading (finra_part c) rs = map (finra_reading c) rs
part_reading (status_part s x) rs = on_reading s (status_reading x) rs
