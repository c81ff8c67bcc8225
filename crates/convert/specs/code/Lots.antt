-- The round lots of a venue's messages, as the code collects them: 0 for a symbol that is not listed, and where none is asked for.
-- Assumes nothing.
use Rattle.std.specs.Prelude.{ℕ, cond, List, map, Option, Some, None}
use Rattle.field.specs.Field.{be}
use Rattle.venueform.specs.declared.Form.{Form}
use Rattle.venueform.specs.Form.{layout_of, symbol_in}
use Rattle.calls.specs.Call.{lot_on}

-- an odd-lot quote has no size to divide
abbrev pub lot_by : List ℕ → List ℕ → Option Form → ℕ
lot_by b m (Some f) = cond f.round (lot_on b (be (symbol_in f m))) 0
lot_by b m None = 0

unfoldable pub lot_for : List ℕ → List ℕ → ℕ
lot_for b m = lot_by b m (layout_of m)

abbrev pub lots_for : List ℕ → List (List ℕ) → List ℕ
lots_for b ms = map (lot_for b) ms
