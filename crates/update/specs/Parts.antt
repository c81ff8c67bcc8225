-- What each part of a message does to a symbol's page (layout and reading: crate `page`): the page is written, then its six entries are worked
-- out anew. So every accepted part leaves them as worked out from the page's quotes, none while it is halted, whatever bytes stood there.
-- Assumes nothing.
use Rattle.std.specs.Prelude.{ℕ, Bool, true, false, cond, List, ◌∷◌, ◌++◌, length, replicate, Option, None, Some}
use Rattle.field.specs.Field.{part, splice, be_bytes}
use Rattle.lists.specs.Lists.{is_some, or_else}
use Rattle.ranking.specs.declared.Side.{Side}
use Rattle.ranking.specs.declared.Side.TheVariants.{Bid, Offer}
use Rattle.quote.specs.declared.Quote.{Quote}
use Rattle.quote.specs.Quote.{quote_over}
use Rattle.levels.specs.Levels.{Standing, no_levels, side_levels, Odd, touches, odd_on, idle_odd}
use Rattle.message.specs.Message.{Known}
use Rattle.entries.specs.Entries.{Maker}
use Rattle.entries.specs.Publication.{no_entries}
use Rattle.page.specs.Page.{quotes_in, levels_for, with_quote, with_side, makers_in, occupied, halted_in, refreshed}
use Rattle.page.specs.Layout.{head_length, hint_count, maker_count, quotes_length, page_symbol, page_lot, page_primary, kept_entries, status_at}
use Rattle.makers.specs.Makers.{find_maker, maker_over, put_maker, mark_cells}

-- ---- a page as what it says

pub record Reading : Type 0 where
  pub symbol : ℕ
  pub lot : ℕ
  pub primary : ℕ
  pub halted : Bool
  pub quotes : ℕ → Quote
  pub cells : List (Option Maker)
  pub levels : ℕ → Standing
  -- the bytes that a read copies
  pub entries : List ℕ

unfoldable pub reading_of : List ℕ → Reading
reading_of p =
    record {
      symbol = page_symbol p;
      lot = page_lot p;
      primary = page_primary p;
      halted = halted_in p;
      quotes = quotes_in p;
      cells = makers_in p;
      levels = levels_for p;
      entries = kept_entries p;
    }

-- ---- round part

-- "An accepted Q K replaces its letter's quote"
unfoldable pub put_round : ℕ → Quote → List ℕ → List ℕ
put_round l q p = with_quote l q p

-- its times by T-02
unfoldable pub round_on : ℕ → Quote → List ℕ → List ℕ
round_on l q p = refreshed (put_round l (quote_over (quotes_in p l) q) p)

-- ---- odd part

-- the levels after it; a refused part does nothing
abbrev pub after_odd : Odd → Standing → Standing
after_odd o v = or_else (odd_on o v) v

-- all cells of a side that it touches written anew; another side keeps every byte, also of cells that no reading counts, and its key
unfoldable pub put_side : Side → ℕ → Odd → Standing → List ℕ → List ℕ
put_side s l o v p = cond (touches o s) (with_side s l (side_levels s v) p) p

unfoldable pub put_levels : ℕ → Odd → List ℕ → List ℕ
put_levels l o p = put_side Offer l o (after_odd o (levels_for p l)) (put_side Bid l o (after_odd o (levels_for p l)) p)

-- an odd part of a space and no items asks for nothing, and touches no side
unfoldable pub put_odd : ℕ → Odd → List ℕ → List ℕ
put_odd l o p = cond (idle_odd o) p (put_levels l o p)

unfoldable pub odd_on_page : ℕ → Odd → List ℕ → List ℕ
odd_on_page l o p = refreshed (put_odd l o p)

-- ---- makers

-- likewise
unfoldable pub maker_on : ℕ → Quote → List ℕ → List ℕ
maker_on m q p = refreshed (put_maker m (maker_over (find_maker m (makers_in p)) q) p)

-- ---- FINRA Close and Open

-- "FINRA Close gives every standing maker quote condition L, FINRA Open gives R; times hold"
unfoldable pub finra_on : ℕ → List ℕ → List ℕ
finra_on c p = refreshed (mark_cells c 0 maker_count p)

-- ---- trading status

-- T-10: "status H for halted or T for trading", as the message has it
unfoldable pub put_status : ℕ → List ℕ → List ℕ
put_status x p = splice p status_at (be_bytes 1 x)

-- "quotes go on being stored; trading brings the entries back from what then stands"
unfoldable pub status_on : ℕ → List ℕ → List ℕ
status_on x p = refreshed (put_status x p)

-- ---- a page with no quotes and six entries of none, which trades

-- head: symbol, round lot, primary letter and hints
unfoldable pub blank_page : List ℕ → List ℕ
blank_page head = head ++ (no_entries ++ replicate quotes_length 0)

-- the head of a symbol that is listed: no hints
abbrev pub new_head : List ℕ → ℕ → ℕ → List ℕ
new_head symbol lot primary = symbol ++ (lot ∷ primary ∷ replicate hint_count 0)

-- "Start of Day empties all quotes, makers and levels, makes every entry none"; T-10: "Start of Day ends every halt"
unfoldable pub emptied : List ℕ → List ℕ
emptied p = blank_page (part p 0 head_length)

-- ---- what a page gives for the codes of a message that names its symbol

unfoldable pub known_by : Reading → Known
known_by r =
    record {
      listed = true;
      lot = r.lot;
      primary = r.primary;
      count = length (occupied r.cells);
      stands = λ m. is_some (find_maker m r.cells);
      levels = r.levels;
    }

unfoldable pub known_of : Option Reading → Known
known_of None = record { listed = false; lot = 0; primary = 0; count = 0; stands = λ m. false; levels = λ l. no_levels }
known_of (Some r) = known_by r
