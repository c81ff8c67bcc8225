use Rattle.std.proofs.Common.{arith}
use Rattle.field.specs.Field.{Bytes}
use Rattle.opening.proofs.ReadLaws.{hint-put}
use Rattle.opening.proofs.put_hint.Goals as goal

pub put8-requires : goal.put8-requires
put8-requires c = omega (arith, c.hint_at.ensures.1, c.requires.0)

pub returns : goal.returns
returns c =
    let b : Bytes c.args.symbol.now = λ i. (c.shared_slice_known-1.given i).fits in
    hint-put _ _ _ _ _ _ c.requires.1 b c.get64-high.ensures c.hint_at.ensures.0 c.put8.ensures
