-- Sequence numbers: gap, duplicate, next expected (document 01, "Block").
-- Assumes nothing.
use Rattle.std.specs.Prelude.{ℕ, ◌+◌, ◌-◌, ◌%◌, cond, nat_le, Option, Some, None}
use Rattle.block.specs.declared.Arrival.{Arrival}

-- d: "the sequence number less the next expected one, the difference taken modulo 4,294,967,296"
unfoldable pub gap_of : ℕ → ℕ → ℕ
gap_of received expected = (received + 4294967296 - expected) % 4294967296

-- "expected becomes its number + c under that modulus"
unfoldable pub next_of : ℕ → ℕ → ℕ
next_of received c = (received + c) % 4294967296

-- "0 is in order; 1 to 2,147,483,647 is a gap of d, taken with warning 70; more is a duplicate"
unfoldable pub arrival_of : ℕ → ℕ → ℕ → Option Arrival
arrival_of received expected c = cond (nat_le (gap_of received expected) 2147483647) (Some (record { gap = gap_of received expected; next = (next_of received c) })) None
