use native.Mathlib.Omega.{arith}
use Rattle.field.proofs.Laws.{splice-one}
use Rattle.venuerules.proofs.QuoteLaws.{sides-in}
use Rattle.venuequote.proofs.WriteLaws.{round_is}
use borrow.Author.Rules.{rules}
use Rattle.venuequote.proofs.put_round.Goals as goal

pub put_side-requires : goal.put_side-requires
put_side-requires c =
    let g = sides-in c.args.form c.args.msg.now c.requires.1.0 c.requires.1.1 in
    (search rules, (omega (arith, c.bid_at-at.ensures.1), omega (arith, c.bid_at-at.ensures.0, g)))

pub put_side-requires-2 : goal.put_side-requires-2
put_side-requires-2 c =
    let g = sides-in c.args.form c.args.msg.now c.requires.1.0 c.requires.1.1 in
    (search rules, (omega (arith, c.bid_at-at.ensures.1, c.side_len.ensures.1), omega (arith, c.bid_at-at.ensures.0, c.side_len.ensures.0, g)))

pub returns : goal.returns
returns c =
    round_is _ _ _ _ _ _ _ _ _ _ c.bid_at-at.ensures.0 c.condition.ensures (splice-one c.args.output.now 31 c.condition.result (omega (arith, c.requires.0))) c.put_side.ensures c.side_len.ensures.0 c.put_side-2.ensures
