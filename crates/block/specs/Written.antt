-- A block written from its messages (document 02, T-01): "it writes the one block of document 01 that carries them under a given sequence number".
-- Assumes nothing.
use Rattle.std.specs.Prelude.{ℕ, ◌+◌, Bool, true, false, cond, ◌&&◌, leb, List, [], ◌∷◌, ◌++◌, map, length, take, drop, ◌==◌, nat_le}
use Rattle.field.specs.Field.{splice, be_bytes}
use Rattle.lists.specs.Lists.{every, sum}
use Rattle.block.specs.Block.{messages_most, message_shortest, block_longest, offset_at, checksum_of, is_control}

-- messages end to end
abbrev pub joined : List (List ℕ) → List ℕ
joined [] = []
joined (m ∷ ms) = m ++ joined ms

-- the length of a block of c messages that have n bytes
abbrev pub length_with : ℕ → ℕ → ℕ
length_with c n = offset_at c + n

-- the offsets of messages of these lengths, the first of which starts at a
unfoldable pub offsets : ℕ → List ℕ → List ℕ
offsets a [] = []
offsets a (n ∷ ns) = be_bytes 2 a ++ offsets (a + n) ns

-- header and table: version, count, length, sequence number, checksum, offsets
unfoldable pub front : ℕ → ℕ → List (List ℕ) → List ℕ
front sequence checksum ms =
    (1 ∷ length ms ∷ [])
    ++ (be_bytes 2 (length_with (length ms) (length (joined ms)))
    ++ (be_bytes 4 sequence
    ++ (be_bytes 2 checksum
    ++ offsets (offset_at (length ms)) (map length ms))))

unfoldable pub written : ℕ → List (List ℕ) → List ℕ
written sequence ms = front sequence (checksum_of (front sequence 0 ms ++ joined ms)) ms ++ joined ms

-- ---- the checks

-- bytes cut into messages of these lengths
unfoldable pub cut_by : List ℕ → List ℕ → List (List ℕ)
cut_by [] b = []
cut_by (n ∷ ns) b = take n b ∷ cut_by ns (drop n b)

-- 71: "no messages, over 45, one under 20 bytes, lengths that don't add up to the bytes lent, or a block over 1,000"
unfoldable pub lengths_good : List ℕ → ℕ → Bool
lengths_good ns n =
    nat_le 1 (length ns) && (nat_le (length ns) messages_most && (every (leb message_shortest) ns && (sum ns == n && nat_le (length_with (length ns) n) block_longest)))

unfoldable pub any_control : List (List ℕ) → Bool
any_control [] = false
any_control (m ∷ ms) = cond (is_control m) true (any_control ms)

-- 72: "a control message among others"
unfoldable pub control_mixed : List (List ℕ) → Bool
control_mixed ms = nat_le 2 (length ms) && any_control ms

-- 71, "then 72 .., then 73 output too short"
unfoldable pub write_number : List ℕ → List ℕ → ℕ → ℕ
write_number ns b room =
    cond (lengths_good ns (length b))
    (cond (control_mixed (cut_by ns b)) 72
    (cond (nat_le (length_with (length ns) (length b)) room) 0 73))
    71

-- number and bytes written, and the output afterwards: a refused call changes nothing of it
pub record Out : Type 0 where
  pub number : ℕ
  pub length : ℕ
  pub output : List ℕ

unfoldable pub written_out : List ℕ → List ℕ → ℕ → List ℕ → Out
written_out b ns sequence output =
    cond (write_number ns b (length output) == 0)
    (record { number = 0; length = length_with (length ns) (length b); output = splice output 0 (written sequence (cut_by ns b)) })
    (record { number = write_number ns b (length output); length = 0; output = output })
