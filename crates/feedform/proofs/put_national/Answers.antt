use Rattle.field.specs.Field.{part}
use Rattle.feedform.proofs.WriteLaws.{national-is}
use Rattle.feedform.proofs.put_national.Goals as goal

-- `feedform::put_national` meets its contract.

pub returns : goal.returns
unfolding part
returns c =
    national-is _ _ _ _ _ _ c.requires.1 c.copy.ensures c.copy-2.ensures c.fill.ensures
