use mathlib.Core.Path.{refl}
use native.Mathlib.Omega.{arith}
use Rattle.field.specs.Field.{part}
use Rattle.feed.proofs.BlockLaws.{only-is}
use Rattle.feed.proofs.put_only.Goals as goal

-- `feed::put_only` meets its contract.

pub returns : goal.returns
unfolding part
returns c =
    only-is c.args.symbol.now c.args.page.now c.requires.0 _ _ _ _ _ _ _ _ c.requires.1.0 refl (omega (arith, c.requires.1.1.1)) c.put_front.ensures c.put_consolidated.ensures c.put_letters.ensures c.put_finra.ensures c.seal.ensures
