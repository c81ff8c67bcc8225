use Prim.Native.Nat.{◌<◌}
use Rattle.feedform.proofs.WriteLaws.{participant-is}
use borrow.Author.Rules.{rules}
use Rattle.feedform.proofs.put_participant.Goals as goal

-- `feedform::put_participant` meets its contract.

pub returns : goal.returns
returns c =
    let fits : c.args.quote.condition < 256 =
    search rules in
    participant-is _ _ _ c.args.quote _ _ _ _ _ _ _ _ fits c.requires.1 c.open_message.ensures c.put8.ensures c.put_priced.ensures c.put_priced-2.ensures c.fill.ensures c.fill-2.ensures c.fill-3.ensures
