-- A side of a letter's levels as the code has them: its first level as a candidate, and its four cells written.
-- Assumes nothing.
use Rattle.std.specs.Prelude.{ℕ, ◌+◌, List, [], ◌∷◌, Option, None, Some}
use Rattle.field.specs.Field.{splice}
use Rattle.field.specs.Ascii.{space}
use Rattle.lists.specs.Lists.{map_option}
use Rattle.ranking.specs.declared.Side.{Side}
use Rattle.ranking.specs.declared.Candidate.{Candidate}
use Rattle.quote.specs.declared.Level.{Level}
use Rattle.quote.specs.Quote.{level_candidate, quote_length}
use Rattle.levels.specs.code.Cells.{joined_levels}
use Rattle.page.specs.Layout.{slot_at, in_levels, first_key_at}
use Rattle.page.specs.Page.{first_key, with_key}

abbrev pub first_of : List Level → Option Level
first_of [] = None
first_of (x ∷ xs) = Some x

unfoldable pub first_in : ℕ → List Level → Option Candidate
first_in l vs = map_option (level_candidate l space) (first_of vs)

-- four cells, whatever they are, with the key of the first
unfoldable pub with_cells : Side → ℕ → List Level → List ℕ → List ℕ
with_cells s l cs p = with_key (first_key_at s l) (first_key s cs) (splice p (slot_at l + quote_length + in_levels s) (joined_levels cs))
