-- A block's bytes: checks 30 to 34, and its messages (document 01, "Block").
-- Bytes 0 version, 1 message count c, 2-3 length, 4-7 sequence number of the first message, 8-9 checksum, then c offsets of 2 bytes.
-- Assumes nothing.
use Rattle.std.specs.Prelude.{◌≡◌, ℕ, zero, suc, ◌+◌, ◌-◌, ◌*◌, ◌%◌, ◌≤◌, Bool, cond, not, ◌&&◌, List, [], ◌∷◌, length, ◌==◌, nat_le, nat_lt, slice_set, Result, Ok, Err}
use Rattle.field.specs.Field.{part, field}
use Rattle.field.specs.Ascii.{C, I, T, five}
use Rattle.lists.specs.Lists.{at, member, all, sum}
use Rattle.numbers.specs.declared.Refusal.{Refusal}
use Rattle.numbers.specs.declared.Refusal.TheVariants as refusal

-- bytes of a block, and of a message in it
abbrev pub block_shortest : ℕ
block_shortest = 32

abbrev pub block_longest : ℕ
block_longest = 1000

abbrev pub message_shortest : ℕ
message_shortest = 20

abbrev pub messages_most : ℕ
messages_most = 45

-- where offset i stands, behind a header of 10 bytes; behind all c offsets the messages begin
abbrev pub offset_at : ℕ → ℕ
offset_at i = 10 + 2 * i

abbrev pub count_in : List ℕ → ℕ
count_in b = at b 1

abbrev pub sequence_in : List ℕ → ℕ
sequence_in b = field b 4 4

-- "the sum of all block bytes, these two taken as zero, modulo 65,536"
unfoldable pub checksum_of : List ℕ → ℕ
checksum_of b = sum (slice_set (slice_set b 8 0) 9 0) % 65536

-- ---- messages

-- what a reader of the table asks for: the count c, a table that lies in the block, a block that is not too long
pub record Readable (b : List ℕ) (c : ℕ) : Type 0 where
  pub counted : c ≡ count_in b
  pub table : offset_at c ≤ length b
  pub short : length b ≤ block_longest

-- where message i starts: its offset; past the last, the block's end
unfoldable pub start_at : List ℕ → ℕ → ℕ
start_at b i = cond (nat_lt i (count_in b)) (field b (offset_at i) 2) (length b)

-- "Each message is the part of the block from its offset to the next, the last to the end"
unfoldable pub message_at : List ℕ → ℕ → List ℕ
message_at b i = part b (start_at b i) (start_at b (i + 1) - start_at b i)

-- k messages from i on
unfoldable pub messages_from : List ℕ → ℕ → ℕ → List (List ℕ)
messages_from b i zero = []
messages_from b i (suc k) = message_at b i ∷ messages_from b (i + 1) k

unfoldable pub messages_of : List ℕ → List (List ℕ)
messages_of b = messages_from b 0 (count_in b)

-- ---- checks

-- 30: "lent length under 32, over 1,000 or not the field"
unfoldable pub length_good : List ℕ → Bool
length_good b = nat_le block_shortest (length b) && (nat_le (length b) block_longest && field b 2 2 == length b)

-- message i "is at least 20 bytes"
abbrev pub spaced_at : List ℕ → ℕ → Bool
spaced_at b i = nat_le (start_at b i + message_shortest) (start_at b (i + 1))

unfoldable pub spaced : List ℕ → Bool
spaced b = all (spaced_at b) 0 (count_in b)

-- an answer is four bytes for each message
abbrev pub answer_length : ℕ
answer_length = 4 * messages_most

-- 33: "c not 1 to 45, or an offset rule broken". That the table lies in the block follows from the other rules; it is said so that the table may be read
unfoldable pub table_good : List ℕ → Bool
table_good b =
    nat_le 1 (count_in b) && (nat_le (count_in b) messages_most && (nat_le (offset_at (count_in b)) (length b) && (start_at b 0 == offset_at (count_in b) && spaced b)))

-- a control message: category C, whatever its type
abbrev pub is_control : List ℕ → Bool
is_control m = at m 0 == C

abbrev pub no_control_at : List ℕ → ℕ → Bool
no_control_at b i = not (is_control (message_at b i))

-- 34: "A control message (category C) is alone in its block"
unfoldable pub control_among : List ℕ → Bool
control_among b = nat_le 2 (count_in b) && not (all (no_control_at b) 0 (count_in b))

-- 30 to 34 in their order: the count of messages, or the first check that refuses
unfoldable pub checked : List ℕ → Result ℕ Refusal
checked b =
    cond (length_good b)
    (cond (at b 0 == 1)
    (cond (checksum_of b == field b 8 2)
    (cond (table_good b)
    (cond (control_among b) (Err refusal.ControlNotAlone) (Ok (count_in b)))
    (Err refusal.Offsets)) (Err refusal.Checksum)) (Err refusal.Version)) (Err refusal.BlockLength)

-- "Blocks whose message is C I, C T or C 5 skip checks 20 and 35, move neither and report d as 0"
unfoldable pub idle_block : List ℕ → Bool
idle_block b = is_control (message_at b 0) && member (five ∷ I ∷ T ∷ []) (at (message_at b 0) 1)
