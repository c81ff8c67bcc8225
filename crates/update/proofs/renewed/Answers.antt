use Rattle.update.proofs.EffectLaws.{renewed-is}
use Rattle.update.proofs.renewed.Goals as goal

pub returns : goal.returns
returns c =
    renewed-is _ _ _ _ c.requires c.renew-flags.ensures.0 c.renew-flags.ensures.1
