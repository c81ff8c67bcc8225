use mathlib.Core.Path.{refl}
use native.Mathlib.Omega.{arith}
use Rattle.field.specs.Field.{part}
use Rattle.feed.proofs.BlockLaws.{second_is}
use Rattle.feed.proofs.put_second.Goals as goal

-- `feed::put_second` meets its contract.

pub returns : goal.returns
unfolding part
returns c =
    second_is c.args.symbol.now c.args.page.now c.requires.0 _ _ _ _ _ _ _ _ c.requires.1.1.1.0 refl (omega (arith, c.requires.1.1.1.1.1)) c.put_front.ensures c.put_letters.ensures c.put_finra.ensures c.seal.ensures
