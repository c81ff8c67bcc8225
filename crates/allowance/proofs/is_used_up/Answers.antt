use Rattle.std.proofs.Common.{◌∙◌}
use borrow.Author.Tests.{lt-leb}
use Rattle.allowance.proofs.ByteLaws.{unset-free, share-left, spare-asked}
use Rattle.allowance.proofs.is_used_up.Goals as goal

pub returns-then-blocks-eq0 : goal.returns-then-blocks-eq0
returns-then-blocks-eq0 c = unset-free _ _ _ c.get8-blocks.ensures c.if-blocks-eq0.true

pub returns-then-share-get8 : goal.returns-then-share-get8
returns-then-share-get8 c = spare-asked _ _ _ c.get8-blocks.ensures c.if-blocks-eq0.false c.requires.1 c.requires.0 _ _ _ c.get8-share.ensures c.get8.ensures c.if-share-get8.true c.is_spare_used.ensures

pub returns-else-share-get8 : goal.returns-else-share-get8
returns-else-share-get8 c = lt-leb _ _ c.if-share-get8.false ∙ share-left _ _ _ c.get8-blocks.ensures c.if-blocks-eq0.false c.requires.1 c.requires.0 _ _ c.get8-share.ensures c.get8.ensures c.if-share-get8.false
