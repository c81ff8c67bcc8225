use mathlib.Core.Path.{sym, ◌∙◌}
use Rattle.calls.proofs.NumberLaws.{symbol-eleven}
use Rattle.calls.proofs.KnownLaws.{listed-malformed, listed-placed}
use Rattle.calls.proofs.listed.Goals as goal

pub returns-then-not-is_symbol : goal.returns-then-not-is_symbol
returns-then-not-is_symbol c = listed-malformed _ _ (sym c.is_symbol.ensures ∙ c.if-not-is_symbol.true)

pub find-requires : goal.find-requires
find-requires c = (c.requires, symbol-eleven _ (sym c.is_symbol.ensures ∙ c.if-not-is_symbol.false))

pub returns : goal.returns
returns c =
    listed-placed _ _ (sym c.is_symbol.ensures ∙ c.if-not-is_symbol.false) _ (rw c.find.ensures at c.ok_or.ensures.value)
