use Rattle.venuequote.proofs.WriteLaws.{kind-is}
use Rattle.venuequote.proofs.put_kind.Goals as goal

pub returns : goal.returns
returns c = kind-is _ _ _ _ _ _ c.kind.ensures c.byte-letter.ensures c.copy_from_slice.ensures.after
