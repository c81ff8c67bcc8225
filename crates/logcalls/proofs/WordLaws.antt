-- An answer's twelve numbers as bytes.
-- Assumes nothing.
use Prim.Native.Nat.{ℕ, ◌+◌, ◌*◌, ◌<◌, ◌≤◌}
use mathlib.Core.Path.{◌≡◌, refl, ap, sym, ◌∙◌}
use mathlib.Core.Bool.{Bool, true, false, cond}
use mathlib.Core.List.{List, [], ◌∷◌, ◌++◌, append-nil}
use mir.Val.{bool_byte}
use native.Mathlib.Omega.{arith}
use native.Mathlib.Numerals.{add-one}
use lib.ListN.{length, drop, get_or, length-append, drop_of_length-le}
use lib.Seq.{drop-cons}
use Rattle.field.specs.Field.{splice, be_bytes}
use Rattle.field.proofs.Laws.{splice-join, length-be_bytes}
use Rattle.field.proofs.ZeroLaws.{splice-nothing}
use Rattle.calls.specs.Call.{Answer, bare}
use Rattle.logcalls.specs.Answers.{words_bytes, words_of, answer_bytes}

pub length-words : (xs : List ℕ) → length (words_bytes xs) ≡ 8 * length xs
unfolding words_bytes
length-words [] = refl
length-words (x ∷ xs) = length-append (be_bytes 8 x) (words_bytes xs) ∙ omega (arith, length-be_bytes 8 x, length-words xs)

-- one word more: what remains gives what the whole gives
pub words-again : (words : List ℕ) (i : ℕ) (out next whole : List ℕ) → i < length words → splice out (8 * i) (words_bytes (drop i words)) ≡ whole
    → next ≡ splice out (8 * i) (be_bytes 8 (get_or words i 0)) → splice next (8 * (i + 1)) (words_bytes (drop (i + 1) words)) ≡ whole
unfolding words_bytes
words-again words i out next whole h e n =
    let a : 8 * (i + 1) ≡ 8 * i + 8 = omega arith in
    rw (n, a, splice-join out (8 * i) 8 (be_bytes 8 (get_or words i 0)) (words_bytes (drop (i + 1) words)) (length-be_bytes 8 (get_or words i 0)), add-one) (rw (drop-cons words i 0) at e)

pub words-end : (words : List ℕ) (i : ℕ) (out whole : List ℕ) → length words ≤ i → splice out (8 * i) (words_bytes (drop i words)) ≡ whole → out ≡ whole
unfolding words_bytes
words-end words i out whole h e = sym (splice-nothing out (8 * i)) ∙ (rw (drop_of_length-le words h) at e)

-- an answer that fills nothing
pub bare-bytes : (n : ℕ) → answer_bytes (bare n) ≡ words_bytes (words_of (bare n))
unfolding answer_bytes
bare-bytes n = append-nil (words_bytes (words_of (bare n)))

-- yes and no as numbers
pub bit-is : (t : Bool) → bool_byte t ≡ cond t 1 0
bit-is true = refl
bit-is false = refl
