-- What each message that names a page's symbol does to that page: its code, its change flags and the page after it.
-- Assumes nothing.
use Rattle.std.specs.Prelude.{ℕ, cond, List, eqb, Result, Ok, Err}
use Rattle.ranking.specs.declared.Side.{Side}
use Rattle.ranking.specs.declared.Side.TheVariants.{Bid, Offer}
use Rattle.quote.specs.declared.Quote.{Quote}
use Rattle.levels.specs.declared.Item.{Item}
use Rattle.levels.specs.declared.Levels.{Levels}
use Rattle.levels.specs.declared.Rejected.{Rejected}
use Rattle.numbers.specs.Numbers.{code_of}
use Rattle.levels.specs.Levels.{side_levels, Odd, odd_code}
use Rattle.oddpart.specs.code.Part.{with_part}
use Rattle.message.specs.Message.{maker_code, status_code}
use Rattle.entries.specs.Publication.{change_flags}
use Rattle.page.specs.Page.{levels_for}
use Rattle.slots.specs.code.Slots.{with_cells}
use Rattle.update.specs.declared.Effect.{Effect}
use Rattle.update.specs.Parts.{reading_of, known_by, round_on, put_odd, odd_on_page, maker_on, status_on}
use Rattle.page.specs.Layout.{page_lot, page_primary, kept_entries}

pub record Updated : Type 0 where
  pub effect : Effect
  pub page : List ℕ

-- a rejected message leaves the page alone
abbrev pub rejected : ℕ → List ℕ → Updated
rejected code p = record { effect = record { code = code; flags = 0 }; page = p }

-- the page after, with the entries that changed
unfoldable pub flagged : ℕ → List ℕ → List ℕ → Updated
flagged code before after = record { effect = record { code = code; flags = change_flags (kept_entries before) (kept_entries after) }; page = after }

-- the code of an odd part on a letter's levels
abbrev pub odd_code_on : ℕ → Odd → List ℕ → ℕ
odd_code_on l o p = odd_code (page_lot p) (levels_for p l) o

-- the page with an odd part written: one with 60 to 64 leaves it
abbrev pub odd_taken : ℕ → Odd → List ℕ → List ℕ
odd_taken l o p = cond (eqb (odd_code_on l o p) 0) (put_odd l o p) p

-- a code, and the page after it
pub record Put : Type 0 where
  pub code : ℕ
  pub page : List ℕ

-- a side of a letter's levels after a part with this mark and time, and these items of that side
abbrev pub side_part : Side → ℕ → ℕ → ℕ → List Item → List ℕ → Result Levels Rejected
side_part s mark t l is p = with_part s mark t is (side_levels s (levels_for p l))

-- one side written, or both; a rejection writes nothing
abbrev pub one_side : Side → ℕ → Result Levels Rejected → List ℕ → Put
one_side s l (Ok v) p = record { code = 0; page = with_cells s l v.cells p }
one_side s l (Err r) p = record { code = code_of r.by; page = p }

abbrev pub both_sides : ℕ → Result Levels Rejected → Result Levels Rejected → List ℕ → Put
both_sides l (Ok b) (Ok o) p = record { code = 0; page = with_cells Offer l o.cells (with_cells Bid l b.cells p) }
both_sides l (Ok b) (Err r) p = record { code = code_of r.by; page = p }
both_sides l (Err r) o p = record { code = code_of r.by; page = p }

-- Q K: a fault rejects it; with 60 to 64 the round part alone is in force
unfoldable pub round_lot_on : ℕ → ℕ → Quote → Odd → List ℕ → Updated
round_lot_on l fault q o p =
    cond (eqb fault 0)
    (flagged (odd_code_on l o p) p (cond (eqb (odd_code_on l o p) 0) (odd_on_page l o (round_on l q p)) (round_on l q p)))
    (rejected fault p)

-- Q M, Q T: with 60 to 64 rejected
unfoldable pub odd_lot_on : ℕ → Odd → List ℕ → Updated
odd_lot_on l o p = cond (eqb (odd_code_on l o p) 0) (flagged 0 p (odd_on_page l o p)) (rejected (odd_code_on l o p) p)

-- Q U: a fault rejects it, then 49
unfoldable pub maker_quote_on : ℕ → ℕ → Quote → List ℕ → Updated
maker_quote_on fault m q p =
    cond (eqb fault 0)
    (cond (eqb (maker_code (known_by (reading_of p)) m q) 0) (flagged 0 p (maker_on m q p)) (rejected (maker_code (known_by (reading_of p)) m q) p))
    (rejected fault p)

-- T S: 76, 77
unfoldable pub trading_status_on : ℕ → ℕ → List ℕ → Updated
trading_status_on l x p =
    cond (eqb (status_code (page_primary p) l x) 0) (flagged 0 p (status_on x p)) (rejected (status_code (page_primary p) l x) p)
