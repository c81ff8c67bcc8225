-- The bytes of an answer (docs/LOG.md): twelve numbers of 8 bytes, the last three of them the lengths of the bytes behind; then these bytes.
-- Assumes nothing.
use Rattle.std.specs.Prelude.{ℕ, ◌*◌, ◌+◌, cond, List, [], ◌∷◌, ◌++◌, ltb, length}
use Rattle.field.specs.Field.{be_bytes}
use Rattle.calls.specs.Call.{Answer}

unfoldable pub words_bytes : List ℕ → List ℕ
words_bytes [] = []
words_bytes (x ∷ xs) = be_bytes 8 x ++ words_bytes xs

abbrev pub words_count : ℕ
words_count = 12

abbrev pub words_length : ℕ
words_length = 8 * words_count

abbrev pub words_of : Answer → List ℕ
words_of a =
    a.number ∷ a.gap ∷ a.expected ∷ a.count ∷ a.accepted ∷ a.partly ∷ a.rejected ∷ a.found ∷ a.amount ∷ length a.answers ∷ length a.publication ∷ length a.output ∷ []

abbrev pub filled_of : Answer → List ℕ
filled_of a = a.answers ++ (a.publication ++ a.output)

unfoldable pub answer_bytes : Answer → List ℕ
answer_bytes a = words_bytes (words_of a) ++ filled_of a

unfoldable pub answers_bytes : List Answer → List ℕ
answers_bytes [] = []
answers_bytes (x ∷ xs) = answer_bytes x ++ answers_bytes xs

-- no call fills more than the longest run (T-11): three blocks and more than half of one
abbrev pub filled_most : ℕ
filled_most = 3600

abbrev pub answer_most : ℕ
answer_most = words_length + filled_most

-- a call answers to a buffer of this length as to a longer one
abbrev pub lent_of : ℕ → ℕ → ℕ
lent_of room most = cond (ltb room most) room most
