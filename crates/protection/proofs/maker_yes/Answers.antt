use Rattle.std.proofs.Common.{refl, ◌∙◌}
use Rattle.protection.proofs.StepLaws.{maker-short, maker-regular}
use Rattle.protection.proofs.maker_yes.Goals as goal

-- `protection::maker_yes` meets its contract.

pub returns-then-level_yes : goal.returns-then-level_yes
returns-then-level_yes c =
    maker-regular _ _ _ _ _ _ c.cell_at-quote.ensures c.in_quote.ensures.0 _ c.level_yes.ensures _ _ c.if-level_yes.true c.get8.ensures refl

pub returns-else-level_yes : goal.returns-else-level_yes
returns-else-level_yes c =
    c.if-level_yes.false ∙ maker-short _ _ _ _ _ _ c.cell_at-quote.ensures c.in_quote.ensures.0 _ c.level_yes.ensures c.if-level_yes.false
