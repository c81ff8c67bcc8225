-- The six best entries of a symbol (document 01, "Best entries"), from its letters' quotes, the makers that stand and its letters' levels.
-- Assumes nothing.
use Rattle.std.specs.Prelude.{ℕ, Bool, true, cond, List, [], eqb, Option, None, Some}
use Rattle.field.specs.Ascii.{A, D, S, space}
use Rattle.lists.specs.Lists.{map_option, is_some, collect, gather, range}
use Rattle.ranking.specs.declared.Side.{Side}
use Rattle.ranking.specs.declared.Candidate.{Candidate}
use Rattle.ranking.specs.declared.Reason.{Reason}
use Rattle.ranking.specs.Ranking.{ahead, better, best, why_ahead}
use Rattle.quote.specs.declared.Level.{Level}
use Rattle.quote.specs.declared.Quote.{Quote}
use Rattle.quote.specs.Quote.{admits, is_quoted, candidate_of, level_candidate}
use Rattle.levels.specs.Levels.{Standing, side_levels}

-- a maker's standing quote; the name is its four bytes as one number, so that lower names are lower numbers
pub record Maker : Type 0 where
  pub name : ℕ
  pub quote : Quote

-- each entry a candidate or none; which of the four put the national one ahead of the second best, none if there is no second
pub record Entries : Type 0 where
  pub national : Side → Option Candidate
  pub reason : Side → Option Reason
  pub finra : Side → Option Candidate
  pub odd : Side → Option Candidate

-- A to Z
unfoldable pub letters : List ℕ
letters = range 26 A

-- "FINRA best: over makers' counting sides"
unfoldable pub maker_candidate : Side → Maker → Option Candidate
maker_candidate s m = candidate_of s m.name m.quote

unfoldable pub finra_best : List Maker → Side → Option Candidate
finra_best ms s = best (better s) (collect (maker_candidate s) ms)

-- "D standing with its FINRA best and that maker's condition"
unfoldable pub as_d : Candidate → Candidate
as_d c = record { name = D; price = c.price; size = c.size; time = c.time; condition = c.condition }

-- D by its FINRA best; S, the processor, has nothing; any other letter by its quote
unfoldable pub letter_candidate : Side → (ℕ → Quote) → Option Candidate → ℕ → Option Candidate
letter_candidate s quotes fb l = cond (eqb l D) (map_option as_d fb) (cond (eqb l S) None (candidate_of s l (quotes l)))

-- a symbol's national candidates of a side by letter; `national_best` is the best of them
unfoldable pub candidates : (ℕ → Quote) → List Maker → Side → ℕ → Option Candidate
candidates quotes makers s l = letter_candidate s quotes (finra_best makers s) l

-- the national candidates: each letter has at most one
abbrev pub nationals : (ℕ → Quote) → (Side → Option Candidate) → Side → List Candidate
nationals quotes fb s = collect (letter_candidate s quotes (fb s)) letters

-- "National best: the same over letters"
unfoldable pub national_best : (ℕ → Quote) → (Side → Option Candidate) → Side → Option Candidate
national_best quotes fb s = best (better s) (nationals quotes fb s)

-- "whether the national leader won by price, size, time or letter", "by the comparison with the second best" (document 02, T-08)
unfoldable pub national_reason : (ℕ → Quote) → (Side → Option Candidate) → Side → Option Reason
national_reason quotes fb s = why_ahead s (nationals quotes fb s)

-- "priced above the national bid (below the national offer; any level if that side has none)"
abbrev pub beyond : Side → Option Candidate → ℕ → Bool
beyond s None p = true
beyond s (Some c) p = ahead s p c.price

unfoldable pub odd_candidate : Side → Option Candidate → ℕ → Level → Option Candidate
odd_candidate s nb l v = cond (beyond s nb v.price) (Some (level_candidate l space v)) None

-- "A level now ranks only while its letter's latest round quote admits that side by its condition, whatever price and size it shows. A letter other
-- than D with no round quote since Start of Day ranks as before. D ranks only while its FINRA best has that side, whatever quotes it had" (document
-- 02, T-07)
unfoldable pub ranks : Side → (ℕ → Quote) → Option Candidate → ℕ → Bool
ranks s quotes fb l = cond (eqb l D) (is_some fb) (cond (is_quoted (quotes l).condition) (admits s (quotes l).condition) true)

-- a letter's levels that rank; S, the processor, has none
unfoldable pub letter_levels : Side → (ℕ → Quote) → Option Candidate → (ℕ → Standing) → ℕ → List Level
letter_levels s quotes fb levels l = cond (eqb l S) [] (cond (ranks s quotes fb l) (side_levels s (levels l)) [])

-- "Odd best: over all letters' levels", those that rank, ordered likewise
unfoldable pub odd_best : (ℕ → Quote) → (Side → Option Candidate) → (ℕ → Standing) → (Side → Option Candidate) → Side → Option Candidate
odd_best quotes fb levels nb s = best (better s) (gather (λ l. collect (odd_candidate s (nb s) l) (letter_levels s quotes (fb s) levels l)) letters)

unfoldable pub entries_by : (ℕ → Quote) → (Side → Option Candidate) → (ℕ → Standing) → Entries
entries_by quotes fb levels =
    record { national = national_best quotes fb; reason = national_reason quotes fb; finra = fb; odd = odd_best quotes fb levels (national_best quotes fb) }

unfoldable pub entries_of : (ℕ → Quote) → List Maker → (ℕ → Standing) → Entries
entries_of quotes makers levels = entries_by quotes (finra_best makers) levels

-- ---- document 02, T-10: "While a symbol is halted all six entries are worked out as none and T-06 says no with 26"

abbrev pub no_best : Entries
no_best = record { national = λ s. None; reason = λ s. None; finra = λ s. None; odd = λ s. None }

unfoldable pub unless_halted : Bool → Entries → Entries
unless_halted halted e = cond halted no_best e

-- the candidates that T-06 looks at
unfoldable pub trading_candidates : Bool → (Side → ℕ → Option Candidate) → Side → ℕ → Option Candidate
trading_candidates halted cs = cond halted (λ s l. None) cs
