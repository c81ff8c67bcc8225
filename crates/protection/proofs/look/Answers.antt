use mathlib.Core.Path.{sym, ◌∙◌}
use Rattle.protection.proofs.HaltLaws.{look-halted, look-trading}
use Rattle.protection.proofs.look.Goals as goal

-- `protection::look` meets its contract.

pub returns-then-is_halted : goal.returns-then-is_halted
returns-then-is_halted c = look-halted _ _ _ (sym c.is_halted.ensures ∙ c.if-is_halted.true)

pub returns : goal.returns
returns c = look-trading _ _ _ (sym c.is_halted.ensures ∙ c.if-is_halted.false) _ c.search.ensures
