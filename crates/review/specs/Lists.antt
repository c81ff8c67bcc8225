-- Lists of calls: "Blocks, any bytes that the list gives".
-- Assumes nothing.
use Rattle.std.specs.Prelude.{ℕ, Bool, true, ◌&&◌, List, [], ◌∷◌, ltb}
use Rattle.lists.specs.Lists.{every}
use Rattle.calls.specs.Call.{Call, make, add, open_line, start_day, end_day, take, read, protected, convert_len, convert, snapshot_len, snapshot, try_order, set_allowance, tick}

-- each element is a byte
abbrev pub are_bytes : List ℕ → Bool
are_bytes b = every (λ x. ltb x 256) b

-- a call's block, if it has one, is bytes
abbrev pub block_is_bytes : Call → Bool
block_is_bytes (make n) = true
block_is_bytes (add s k l) = true
block_is_bytes (open_line i l) = true
block_is_bytes start_day = true
block_is_bytes end_day = true
block_is_bytes (take i b room) = are_bytes b
block_is_bytes (read s room) = true
block_is_bytes (protected s m x) = true
block_is_bytes (convert_len v) = true
block_is_bytes (convert v room) = true
block_is_bytes (snapshot_len s) = true
block_is_bytes (snapshot s room) = true
block_is_bytes (try_order s m w room) = true
block_is_bytes (set_allowance n ss) = true
block_is_bytes tick = true

unfoldable pub blocks_are_bytes : List Call → Bool
blocks_are_bytes [] = true
blocks_are_bytes (c ∷ cs) = block_is_bytes c && blocks_are_bytes cs
