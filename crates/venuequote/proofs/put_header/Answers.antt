use Rattle.field.specs.Field.{Bytes}
use Rattle.venuequote.proofs.WriteLaws.{header_is}
use Rattle.venuequote.proofs.put_header.Goals as goal

pub returns : goal.returns
returns c =
    let b : Bytes c.args.msg.now = λ i. (c.shared_slice_known-1.given i).fits in
    header_is _ _ _ _ _ _ _ _ c.requires.1 b c.put_kind.ensures c.time.ensures c.put64.ensures c.get64.ensures c.put64-2.ensures
