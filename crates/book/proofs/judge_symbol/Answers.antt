use mathlib.Core.Path.{refl, sym, ◌∙◌}
use native.Mathlib.Omega.{arith}
use Rattle.calls.proofs.NumberLaws.{number-unsound, symbol-eleven}
use Rattle.opening.proofs.ReadLaws.{opening-room}
use Rattle.book.proofs.CallLaws.{add-symbol, add-lot, add-letter, add-listed, add-new, add-full}
use Rattle.book.proofs.judge_symbol.Goals as goal

pub returns-then-not-is_sound : goal.returns-then-not-is_sound
returns-then-not-is_sound c = number-unsound _ _ refl (sym c.is_sound.ensures ∙ c.if-not-is_sound.true)

pub returns-then-not-is_symbol : goal.returns-then-not-is_symbol
returns-then-not-is_symbol c =
    add-symbol _ _ _ _ (sym c.is_sound.ensures ∙ c.if-not-is_sound.false) (sym c.is_symbol.ensures ∙ c.if-not-is_symbol.true)

pub returns-then-not-is_lot : goal.returns-then-not-is_lot
returns-then-not-is_lot c =
    add-lot _ _ _ _ (sym c.is_sound.ensures ∙ c.if-not-is_sound.false) (sym c.is_symbol.ensures ∙ c.if-not-is_symbol.false) (sym c.is_lot.ensures ∙ c.if-not-is_lot.true)

pub returns-then-not-is_letter : goal.returns-then-not-is_letter
returns-then-not-is_letter c =
    add-letter _ _ _ _ (sym c.is_sound.ensures ∙ c.if-not-is_sound.false) (sym c.is_symbol.ensures ∙ c.if-not-is_symbol.false) (sym c.is_lot.ensures ∙ c.if-not-is_lot.false) (sym c.is_letter.ensures ∙ c.if-not-is_letter.true)

pub find-requires : goal.find-requires
find-requires c = (sym c.is_sound.ensures ∙ c.if-not-is_sound.false, symbol-eleven _ (sym c.is_symbol.ensures ∙ c.if-not-is_symbol.false))

pub returns-then-is_some : goal.returns-then-is_some
returns-then-is_some c =
    add-listed _ _ _ _ (sym c.is_sound.ensures ∙ c.if-not-is_sound.false) (sym c.is_symbol.ensures ∙ c.if-not-is_symbol.false) (sym c.is_lot.ensures ∙ c.if-not-is_lot.false) (sym c.is_letter.ensures ∙ c.if-not-is_letter.false)
    (rw c.find.ensures at (sym c.is_some.ensures ∙ c.if-is_some.true))

pub get8-requires : goal.get8-requires
get8-requires c = omega (arith, opening-room _ (sym c.is_sound.ensures ∙ c.if-not-is_sound.false))

pub get8-requires-2 : goal.get8-requires-2
get8-requires-2 c = omega (arith, opening-room _ (sym c.is_sound.ensures ∙ c.if-not-is_sound.false))

pub returns-then-get8 : goal.returns-then-get8
returns-then-get8 c =
    add-new _ _ _ _ (sym c.is_sound.ensures ∙ c.if-not-is_sound.false) (sym c.is_symbol.ensures ∙ c.if-not-is_symbol.false) (sym c.is_lot.ensures ∙ c.if-not-is_lot.false) (sym c.is_letter.ensures ∙ c.if-not-is_letter.false)
    (rw c.find.ensures at (sym c.is_some.ensures ∙ c.if-is_some.false)) _ _ c.get8.ensures c.get8-2.ensures c.if-get8.true

pub returns : goal.returns
returns c =
    add-full _ _ _ _ (sym c.is_sound.ensures ∙ c.if-not-is_sound.false) (sym c.is_symbol.ensures ∙ c.if-not-is_symbol.false) (sym c.is_lot.ensures ∙ c.if-not-is_lot.false) (sym c.is_letter.ensures ∙ c.if-not-is_letter.false)
    (rw c.find.ensures at (sym c.is_some.ensures ∙ c.if-is_some.false)) _ _ c.get8.ensures c.get8-2.ensures c.if-get8.false
