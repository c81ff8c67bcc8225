use Rattle.field.specs.Field.{Bytes}
use Rattle.walk.proofs.WalkLaws.{finra-none, finra-walked}
use Rattle.walk.proofs.walk_finra.Goals as goal

-- `walk::walk_finra` meets its contract.

pub returns-then-last-lt-D : goal.returns-then-last-lt-D
returns-then-last-lt-D c = finra-none _ c.requires.page_len _ c.requires.a_le_last.0 c.requires.a_le_last.1 c.if-last-lt-D.true

pub returns : goal.returns
returns c =
    let b : Bytes c.args.page.now = λ i. (c.shared_slice_known-1.given i).fits in
    finra-walked _ c.requires.page_len _ c.requires.a_le_last.0 c.requires.a_le_last.1 b _ c.if-last-lt-D.false c.walk_makers.ensures
