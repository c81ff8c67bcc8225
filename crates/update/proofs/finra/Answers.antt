use mathlib.Core.Path.{◌∙◌}
use Rattle.update.proofs.EffectLaws.{finra-is}
use Rattle.update.proofs.finra.Goals as goal

pub returns : goal.returns
returns c =
    finra-is _ _ _ _ _ c.requires c.mark_cells.ensures (c.mark_cells.auto.page ∙ c.requires) c.renew.ensures.0 c.renew.ensures.1
