-- Is a price protected? (document 02, T-06): the letters are looked at from A, and the first whose national candidate reaches the price answers yes.
-- Assumes nothing.
use Rattle.std.specs.Prelude.{ℕ, ◌+◌, ◌-◌, Bool, true, false, List, leb, Option, None, Some}
use Rattle.field.specs.Ascii.{A}
use Rattle.lists.specs.Lists.{first_from}
use Rattle.ranking.specs.declared.Side.{Side}
use Rattle.ranking.specs.declared.Side.TheVariants.{Bid, Offer}
use Rattle.ranking.specs.declared.Candidate.{Candidate}
use Rattle.entries.specs.Entries.{candidates, trading_candidates}
use Rattle.page.specs.Page.{quotes_in, makers_in, occupied, halted_in}
use Rattle.page.specs.Layout.{letter_count}
use Rattle.protection.specs.declared.Protection.{Protection}

-- "stand with a bid at or above a given price (or an offer at or below)": x, where p is asked for
abbrev pub reaches : Side → ℕ → ℕ → Bool
reaches Bid p x = leb p x
reaches Offer p x = leb x p

-- a letter answers yes if it has a candidate and that one reaches the price
abbrev pub answers_yes : Side → ℕ → Option Candidate → Bool
answers_yes s p None = false
answers_yes s p (Some c) = reaches s p c.price

-- "Letters are looked at from A, and the search stops at the first that answers yes"
unfoldable pub first_yes : Side → ℕ → (ℕ → Option Candidate) → Option ℕ
first_yes s p c = first_from (λ l. answers_yes s p (c l)) A letter_count

-- "how many letters were looked at: the position of that letter among A to Z, or 26 for no"
abbrev pub looked_at : Option ℕ → Protection
looked_at (Some l) = record { yes = true; looked = l + 1 - A }
looked_at None = record { yes = false; looked = letter_count }

unfoldable pub protection : Side → ℕ → (ℕ → Option Candidate) → Protection
protection s p c = looked_at (first_yes s p c)

-- ---- on a page, whatever its bytes: by its quotes, not by the entries that it keeps

unfoldable pub page_candidates : List ℕ → Side → ℕ → Option Candidate
page_candidates p = candidates (quotes_in p) (occupied (makers_in p))

-- T-10: none while the symbol is halted, so that the search "says no with 26"
abbrev pub page_trading : List ℕ → Side → ℕ → Option Candidate
page_trading p = trading_candidates (halted_in p) (page_candidates p)
