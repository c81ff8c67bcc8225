-- What a tape's book is set up with (document 01, "Tape program").
-- Assumes nothing.
use Rattle.std.specs.Prelude.{ℕ, ◌+◌, ◌≤◌, ◌≡◌, List, length}
use Rattle.text.specs.Form.{symbol_length}
use Rattle.opening.specs.Layout.{book_length}

-- a symbol, or a line
pub data Setup : Type 0 where
  Symbol : Setup
  Line : Setup

-- bytes of one: a symbol, its round lot and (document 02, T-10: "reads that letter after the round lot") its primary letter, or a line and its letter
abbrev pub setup_length : Setup → ℕ
setup_length Symbol = symbol_length + 2
setup_length Line = 2

-- symbols of a tape
abbrev pub tape_symbols : ℕ
tape_symbols = 8

-- the memory of a book for a tape's n symbols
abbrev pub Memory : ℕ → List ℕ → Type 0
Memory n book = (n ≤ tape_symbols) × (length book ≡ book_length n)
