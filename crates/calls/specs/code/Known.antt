-- What checks 1 and 10 give: where the page of a symbol is.
-- Assumes nothing.
use Rattle.std.specs.Prelude.{ℕ, cond, List, Result, Err}
use Rattle.std.specs.Option.{ok_or}
use Rattle.field.specs.Field.{be}
use Rattle.numbers.specs.declared.Refusal.{Refusal}
use Rattle.numbers.specs.declared.Refusal.TheVariants as refusal
use Rattle.text.specs.Form.{symbol_good}
use Rattle.opening.specs.Opening.{sound, page_place}

unfoldable pub found_of : List ℕ → List ℕ → Result ℕ Refusal
found_of b x = cond (symbol_good x) (ok_or (page_place b (be x)) refusal.SymbolUnknown) (Err refusal.SymbolUnknown)

unfoldable pub known_of : List ℕ → List ℕ → Result ℕ Refusal
known_of b x = cond (sound b) (found_of b x) (Err refusal.NoBook)
