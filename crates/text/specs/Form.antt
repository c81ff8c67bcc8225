-- The form of symbols and names (document 01, "The book and its calls" and "Messages").
-- Assumes nothing.
use Rattle.std.specs.Prelude.{ℕ, Bool, true, not, ◌&&◌, ◌||◌, cond, List, [], ◌∷◌, eqb, leb, length}
use Rattle.field.specs.Ascii.{A, S, Z, space}
use Rattle.lists.specs.Lists.{at, every, between, upper}

abbrev pub is_space : ℕ → Bool
is_space x = eqb x space

-- bytes from low to high, then spaces to the end
unfoldable pub padded : ℕ → ℕ → List ℕ → Bool
padded low high [] = true
padded low high (x ∷ xs) = cond (between low high x) (padded low high xs) (every is_space (x ∷ xs))

-- x may follow `before` in printable bytes and then spaces: it is a space, or it is printable and `before` is above a space
unfoldable pub follows : ℕ → ℕ → Bool
follows before x = is_space x || leb 33 before && between 33 126 x

abbrev pub symbol_length : ℕ
symbol_length = 11

abbrev pub name_length : ℕ
name_length = 4

-- "A symbol is 11 bytes: A to Z first, then printable bytes 33 to 126, then spaces to the end"
unfoldable pub symbol_good : List ℕ → Bool
symbol_good s = eqb (length s) symbol_length && (upper (at s 0) && padded 33 126 s)

-- "maker (A to Z, at least one, then spaces)"
unfoldable pub maker_good : List ℕ → Bool
maker_good s = upper (at s 0) && padded A Z s

-- "Letters are A to Z without S (the processor)"
abbrev pub letter_good : ℕ → Bool
letter_good l = upper l && not (eqb l S)
