-- Document 01's cases P10, P11 and P13, and a block for each number, by computing.
-- Assumes nothing.
use Rattle.std.proofs.Common.{◌≡◌, ℕ, ◌+◌, ◌/◌, ◌%◌, ◌<◌, ◌≤◌, true, List, ◌∷◌, length, replicate, refl, arith, ne_eqb, le-leb}
use borrow.Author.Tests.{lt-leb}
use Rattle.field.specs.Field.{be, part, field}
use Rattle.lists.specs.Lists.{member, all, sum}
use Rattle.block.specs.Block.{checksum_of, start_at, message_at, length_good, spaced, table_good, control_among, checked, idle_block}
use Rattle.block.specs.Sequence.{gap_of, next_of, arrival_of}
use Rattle.std.specs.Prelude.{Ok, Err, Some, None}
use Rattle.numbers.specs.declared.Refusal.TheVariants as refusal

-- P10: expected 4,294,967,295, c 2: next 1
pub P10 : arrival_of 4294967295 4294967295 2 ≡ Some (record { gap = 0; next = 1 })
unfolding arrival_of gap_of next_of
P10 = refl

-- P11: expected 0: 2,147,483,647 is a gap, 2,147,483,648 a duplicate
pub P11 : (arrival_of 2147483647 0 1 ≡ Some (record { gap = 2147483647; next = 2147483648 })) × (arrival_of 2147483648 0 1 ≡ None)
unfolding arrival_of gap_of next_of
P11 = (refl, refl)

-- ---- numbers 30 to 34

-- 30: "lent length under 32, over 1,000 or not the field", whatever else the block holds
pub too_short : (b : List ℕ) → length b < 32 → checked b ≡ Err refusal.BlockLength
unfolding checked length_good
too_short b h = rw (lt-leb _ _ h)

pub too_long : (b : List ℕ) → 1000 < length b → checked b ≡ Err refusal.BlockLength
unfolding checked length_good
too_long b h = let l : 32 ≤ length b = omega arith in rw (le-leb _ _ l, lt-leb _ _ h)

pub other_length : (b : List ℕ) → 32 ≤ length b → length b ≤ 1000 → (field b 2 2 ≡ length b → ⊥) → checked b ≡ Err refusal.BlockLength
unfolding checked length_good
other_length b l h n = rw (le-leb _ _ l, le-leb _ _ h, ne_eqb _ _ n)

-- a block of this version and count, sequence number 1, its length and checksum right
abbrev header : ℕ → ℕ → ℕ → ℕ → List ℕ → List ℕ
header version c n sum rest = version ∷ c ∷ n / 256 ∷ n % 256 ∷ 0 ∷ 0 ∷ 0 ∷ 1 ∷ sum / 256 ∷ sum % 256 ∷ rest

abbrev sealed : ℕ → ℕ → List ℕ → List ℕ
sealed version c rest = header version c (10 + length rest) (checksum_of (header version c (10 + length rest) 0 rest)) rest

-- a message of n bytes: this category and type, then letter N and zeros
abbrev message : ℕ → ℕ → ℕ → List ℕ
message category type n = category ∷ type ∷ 78 ∷ replicate n 0

-- P13: a C T block by N, sequence 1, other fields 0
abbrev line_integrity : List ℕ
line_integrity = 0 ∷ 12 ∷ message 67 84 17

pub P13 : checksum_of (header 1 1 32 0 line_integrity) ≡ 276
unfolding checksum_of sum
P13 = refl

pub P13-idle : (checked (sealed 1 1 line_integrity) ≡ Ok 1) × (idle_block (sealed 1 1 line_integrity) ≡ true)
unfolding checked length_good checksum_of sum table_good start_at spaced all control_among message_at field part be idle_block member
P13-idle = (refl, refl)

pub version-2 : checked (sealed 2 1 line_integrity) ≡ Err refusal.Version
unfolding checked length_good checksum_of sum field part be
version-2 = refl

pub checksum-off : checked (header 1 1 32 277 line_integrity) ≡ Err refusal.Checksum
unfolding checked length_good checksum_of sum field part be
checksum-off = refl

-- 33: c 0, 46 and 255; the first offset not 10 + 2c; an offset that goes back; a message of 19 bytes; the last past the end
pub table-broken :
    (checked (sealed 1 0 line_integrity) ≡ Err refusal.Offsets)
    × ((checked (sealed 1 46 (0 ∷ 102 ∷ replicate 110 0)) ≡ Err refusal.Offsets)
    × ((checked (sealed 1 255 line_integrity) ≡ Err refusal.Offsets)
    × ((checked (sealed 1 1 (0 ∷ 13 ∷ message 67 84 17)) ≡ Err refusal.Offsets)
    × ((checked (sealed 1 2 (0 ∷ 14 ∷ 0 ∷ 13 ∷ message 81 75 37)) ≡ Err refusal.Offsets)
    × ((checked (sealed 1 2 (0 ∷ 14 ∷ 0 ∷ 33 ∷ message 81 75 36)) ≡ Err refusal.Offsets)
    × (checked (sealed 1 2 (0 ∷ 14 ∷ 0 ∷ 200 ∷ message 81 75 37)) ≡ Err refusal.Offsets))))))
unfolding checked length_good checksum_of sum table_good start_at spaced all field part be
table-broken = (refl, (refl, (refl, (refl, (refl, (refl, refl))))))

-- two messages of 20 bytes pass; a control message of any type is alone or refused
pub control-alone :
    (checked (sealed 1 2 (0 ∷ 14 ∷ 0 ∷ 34 ∷ message 81 75 37)) ≡ Ok 2)
    × ((checked (sealed 1 2 (0 ∷ 14 ∷ 0 ∷ 34 ∷ message 67 63 37)) ≡ Err refusal.ControlNotAlone)
    × (checked (sealed 1 1 (0 ∷ 12 ∷ message 67 63 17)) ≡ Ok 1))
unfolding checked length_good checksum_of sum table_good start_at spaced all control_among message_at field part be
control-alone = (refl, (refl, refl))
