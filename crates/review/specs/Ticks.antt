-- What T-14's three claims count in a tick of a list of calls.
-- Assumes nothing.
use Rattle.std.specs.Prelude.{ℕ, ◌+◌, Bool, true, false, not, ◌&&◌, cond, List, [], ◌∷◌, eqb}
use Rattle.block.specs.Block.{idle_block}
use Rattle.line.specs.Line.{done}
use Rattle.calls.specs.Call.{Call, make, add, open_line, start_day, end_day, take, read, protected, convert_len, convert, snapshot_len, snapshot, try_order, set_allowance, tick, number_of}
use Rattle.review.specs.Reviewer.{Review, review_call}

-- the number that the reviewer works out
abbrev pub number_r : Review → Call → ℕ
number_r v c = number_of v.rest v.symbols c

-- "a tick call starts the next, and so does a setting"; so does make, which takes the allowance away. A refused call starts none
abbrev pub starts_tick : Review → Call → Bool
starts_tick v (make n) = done (number_r v (make n))
starts_tick v (add s k l) = false
starts_tick v (open_line i l) = false
starts_tick v start_day = false
starts_tick v end_day = false
starts_tick v (take i b room) = false
starts_tick v (read s room) = false
starts_tick v (protected s m x) = false
starts_tick v (convert_len x) = false
starts_tick v (convert x room) = false
starts_tick v (snapshot_len s) = false
starts_tick v (snapshot s room) = false
starts_tick v (try_order s m w room) = false
starts_tick v (set_allowance n ss) = done (number_r v (set_allowance n ss))
starts_tick v tick = true

-- a block on one of these lines, not free, with one of these numbers
abbrev pub block_on : (ℕ → Bool) → (ℕ → Bool) → Review → Call → Bool
block_on l p v (make n) = false
block_on l p v (add s k q) = false
block_on l p v (open_line i q) = false
block_on l p v start_day = false
block_on l p v end_day = false
block_on l p v (take i b room) = l i && (not (idle_block b) && p (number_r v (take i b room)))
block_on l p v (read s room) = false
block_on l p v (protected s m x) = false
block_on l p v (convert_len x) = false
block_on l p v (convert x room) = false
block_on l p v (snapshot_len s) = false
block_on l p v (snapshot s room) = false
block_on l p v (try_order s m w room) = false
block_on l p v (set_allowance n ss) = false
block_on l p v tick = false

-- one line, or all of them
abbrev pub only : ℕ → ℕ → Bool
only i j = eqb j i

abbrev pub any_line : ℕ → Bool
any_line j = true

-- a block that comes to check 86: taken, or refused there
abbrev pub comes : ℕ → Bool
comes k = cond (done k) true (eqb k 86)

-- how many such blocks the last tick of a list has; k: those of that tick before the list
unfoldable pub counted_in : (Review → Call → Bool) → Review → List Call → ℕ → ℕ
counted_in p v [] k = k
counted_in p v (c ∷ cs) k = counted_in p (review_call v c) cs (cond (starts_tick v c) 0 (cond (p v c) (k + 1) k))
