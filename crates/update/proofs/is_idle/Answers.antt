use mathlib.Core.Path.{◌∙◌}
use borrow.Author.Tests.{ne_eqb}
use Rattle.update.proofs.EffectLaws.{idle-space, idle-marked}
use Rattle.update.proofs.is_idle.Goals as goal

pub returns-then-odd-eq32 : goal.returns-then-odd-eq32
returns-then-odd-eq32 c = c.is_empty.ensures ∙ idle-space _ _ _ _ _ c.requires c.if-odd-eq32.true

pub returns-else-odd-eq32 : goal.returns-else-odd-eq32
returns-else-odd-eq32 c = ne_eqb _ _ c.if-odd-eq32.false ∙ idle-marked _ _ _ _ _ c.requires c.if-odd-eq32.false
