-- What the code that converts a message relies on: it is a quote as long as its counts say, and fits a block in our form.
-- Assumes nothing.
use Rattle.std.specs.Prelude.{ℕ, ◌+◌, Bool, false, ◌&&◌, List, leb, Option, Some, None}
use Rattle.block.specs.Block.{block_longest, offset_at}
use Rattle.venueform.specs.declared.Form.{Form}
use Rattle.venueform.specs.Form.{layout_of}
use Rattle.venuerules.specs.Rules.{length_good, our_length}

abbrev pub ready_by : List ℕ → Option Form → Bool
ready_by m (Some f) = length_good f m && leb (offset_at 1 + our_length f m) block_longest
ready_by m None = false

unfoldable pub ready : List ℕ → Bool
ready m = ready_by m (layout_of m)
