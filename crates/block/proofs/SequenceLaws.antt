-- Wrapping arithmetic is the difference and the sum modulo 2^32.
-- Assumes nothing.
use Rattle.std.proofs.Common.{◌≡◌, ℕ, ◌+◌, ◌%◌, ◌^◌, ◌<◌, ◌≤◌, arith, le-leb}
use borrow.Author.Tests.{lt-leb}
use Rattle.block.specs.Sequence.{gap_of, next_of, arrival_of}
use Rattle.std.specs.Prelude.{Some, None}

module _ (received expected c gap : ℕ) (fits : received < 2 ^ 32) (known : expected < 2 ^ 32) (small : gap < 2 ^ 32) (wraps : (gap + expected) % 2 ^ 32 ≡ received) where
  gap_is : gap ≡ gap_of received expected
  unfolding gap_of
  gap_is = omega arith

  pub taken_is : (next : ℕ) → gap ≤ 2147483647 → next ≡ (received + c) % 2 ^ 32 → Some (record { gap = gap; next = next }) ≡ arrival_of received expected c
  unfolding arrival_of next_of
  taken_is next h e = rw (← gap_is, le-leb _ _ h, ← e)

  pub duplicate-is : 2147483647 < gap → None ≡ arrival_of received expected c
  unfolding arrival_of
  duplicate-is h = rw (← gap_is, lt-leb _ _ h)
