-- The writer of blocks, by computing (document 02, T-01): every byte that it writes, and each cause of 71, 72 and 73.
-- Assumes nothing.
use Rattle.std.proofs.Common.{◌≡◌, ℕ, List, [], ◌∷◌, ◌++◌, replicate, refl}
use Rattle.field.specs.Field.{splice, be_bytes}
use Rattle.lists.specs.Lists.{every, sum}
use Rattle.block.specs.Block.{checksum_of}
use Rattle.block.specs.Written.{Out, offsets, front, written, cut_by, lengths_good, any_control, control_mixed, write_number, written_out}

-- a message of this category and type, then n bytes
abbrev message : ℕ → ℕ → ℕ → List ℕ
message category type n = category ∷ type ∷ replicate n 0

-- an output of n bytes, each 7
abbrev output : ℕ → List ℕ
output n = replicate n 7

abbrev refused : ℕ → ℕ → Out
refused k n = record { number = k; length = 0; output = output n }

-- P13's message, C T by N, under sequence number 1: 32 bytes with checksum 276; the two bytes behind stay
pub one_written :
    written_out (message 67 84 0 ++ (78 ∷ replicate 17 0)) (20 ∷ []) 1 (output 34)
    ≡ record {
      number = 0;
      length = 32;
      output = (1 ∷ 1 ∷ 0 ∷ 32 ∷ 0 ∷ 0 ∷ 0 ∷ 1 ∷ 1 ∷ 20 ∷ 0 ∷ 12 ∷ 67 ∷ 84 ∷ 78 ∷ []) ++ (replicate 17 0 ++ output 2);
    }
unfolding written_out write_number lengths_good every sum control_mixed any_control cut_by written front offsets be_bytes checksum_of splice
one_written = refl

-- messages of 20 and 22 bytes under the last sequence number: offsets 14 and 34, length 56
pub two-written :
    written_out (message 81 75 18 ++ message 81 77 20) (20 ∷ 22 ∷ []) 4294967295 (output 56)
    ≡ record {
      number = 0;
      length = 56;
      output = (1 ∷ 2 ∷ 0 ∷ 56 ∷ 255 ∷ 255 ∷ 255 ∷ 255 ∷ 5 ∷ 161 ∷ 0 ∷ 14 ∷ 0 ∷ 34 ∷ []) ++ (message 81 75 18 ++ message 81 77 20);
    }
unfolding written_out write_number lengths_good every sum control_mixed any_control cut_by written front offsets be_bytes checksum_of splice
two-written = refl

-- ---- 71

pub no-message : written_out [] [] 1 (output 40) ≡ refused 71 40
unfolding written_out write_number lengths_good
no-message = refl

-- 45 messages of 20 bytes make a block of exactly 1,000
pub forty-five : write_number (replicate 45 20) (replicate 900 81) 1000 ≡ 0
unfolding write_number lengths_good every sum control_mixed any_control cut_by
forty-five = refl

pub forty-six : write_number (replicate 46 20) (replicate 920 81) 2000 ≡ 71
unfolding write_number lengths_good every sum
forty-six = refl

pub message-of-19 : written_out (message 81 75 18 ++ message 81 75 17) (20 ∷ 19 ∷ []) 1 (output 60) ≡ refused 71 60
unfolding written_out write_number lengths_good every sum
message-of-19 = refl

pub bytes-behind : written_out (message 81 75 19) (20 ∷ []) 1 (output 60) ≡ refused 71 60
unfolding written_out write_number lengths_good every sum
bytes-behind = refl

pub bytes-missing : written_out (message 81 75 18) (21 ∷ []) 1 (output 60) ≡ refused 71 60
unfolding written_out write_number lengths_good every sum
bytes-missing = refl

-- lengths whose sum is 20 modulo 2^32
pub sum-not-wrapped : write_number (2147483648 ∷ 2147483668 ∷ []) (message 81 75 18) 60 ≡ 71
unfolding write_number lengths_good every sum
sum-not-wrapped = refl

-- a block of 1,000 bytes and one of 1,001
pub longest : write_number (988 ∷ []) (replicate 988 81) 1000 ≡ 0
unfolding write_number lengths_good every sum control_mixed any_control cut_by
longest = refl

pub too_long : write_number (989 ∷ []) (replicate 989 81) 2000 ≡ 71
unfolding write_number lengths_good every sum
too_long = refl

-- 71 before 72 and 73
pub seventy-one-first : write_number (20 ∷ 19 ∷ []) (message 67 84 18 ++ message 81 75 17) 0 ≡ 71
unfolding write_number lengths_good every sum
seventy-one-first = refl

-- ---- 72

-- among others: the first, the last, one of a type that document 01 does not know
pub control-first : written_out (message 67 84 18 ++ message 81 75 18) (20 ∷ 20 ∷ []) 1 (output 60) ≡ refused 72 60
unfolding written_out write_number lengths_good every sum control_mixed any_control cut_by
control-first = refl

pub control-last : written_out (message 81 75 18 ++ message 67 63 18) (20 ∷ 20 ∷ []) 1 (output 60) ≡ refused 72 60
unfolding written_out write_number lengths_good every sum control_mixed any_control cut_by
control-last = refl

pub unknown-control-alone : write_number (20 ∷ []) (message 67 63 18) 32 ≡ 0
unfolding write_number lengths_good every sum control_mixed any_control cut_by
unknown-control-alone = refl

-- 72 before 73
pub seventy-two-first : write_number (20 ∷ 20 ∷ []) (message 67 84 18 ++ message 81 75 18) 0 ≡ 72
unfolding write_number lengths_good every sum control_mixed any_control cut_by
seventy-two-first = refl

-- ---- 73

pub one-short : written_out (message 81 75 18 ++ message 81 75 18) (20 ∷ 20 ∷ []) 1 (output 53) ≡ refused 73 53
unfolding written_out write_number lengths_good every sum control_mixed any_control cut_by
one-short = refl

pub long-enough : write_number (20 ∷ 20 ∷ []) (message 81 75 18 ++ message 81 75 18) 54 ≡ 0
unfolding write_number lengths_good every sum control_mixed any_control cut_by
long-enough = refl
