-- The output buffer.
-- Assumes nothing.
use Rattle.std.specs.Prelude.{ℕ}

abbrev pub output_length : ℕ
output_length = 65536
