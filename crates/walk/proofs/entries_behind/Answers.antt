use mathlib.Core.Path.{sym, ◌∙◌}
use Rattle.walk.proofs.HaltLaws.{none-behind, trading-behind}
use Rattle.walk.proofs.entries_behind.Goals as goal

-- `walk::entries_behind` meets its contract.

pub returns-then-is_halted : goal.returns-then-is_halted
returns-then-is_halted c =
    none-behind _ c.requires.page_len _ c.requires.a_le_last.0 c.requires.a_le_last.1 (sym c.is_halted.ensures ∙ c.if-is_halted.true)

pub returns : goal.returns
returns c =
    trading-behind _ c.requires.page_len _ c.requires.a_le_last.0 c.requires.a_le_last.1 (sym c.is_halted.ensures ∙ c.if-is_halted.false) _ c.walk_page.ensures
