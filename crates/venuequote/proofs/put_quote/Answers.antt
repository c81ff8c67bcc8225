use native.Mathlib.Omega.{arith}
use Rattle.venuerules.proofs.QuoteLaws.{symbol-in}
use Rattle.venuequote.proofs.WriteLaws.{quote-room, quote-room-round, quote-room-odd, quote-round, quote-odd}
use Rattle.venuequote.proofs.put_quote.Goals as goal

pub put_header-requires : goal.put_header-requires
put_header-requires c =
    (omega (arith, quote-room c.args.form c.args.msg.now _ c.requires.1), omega (arith, symbol-in c.args.form c.args.msg.now c.requires.0))

pub put_symbol-requires : goal.put_symbol-requires
put_symbol-requires c =
    (omega (arith, c.put_header.auto.output, quote-room c.args.form c.args.msg.now _ c.requires.1), c.requires.0)

pub put_round-requires : goal.put_round-requires
put_round-requires c =
    (omega (arith, c.put_header.auto.output, c.put_symbol.auto.output, quote-room-round c.args.form c.args.msg.now _ c.requires.1 c.if-form.true), (c.requires.0, c.if-form.true))

pub put_marks-requires : goal.put_marks-requires
put_marks-requires c =
    rw c.if-form.true (omega (arith, c.put_header.auto.output, c.put_symbol.auto.output, c.put_round.auto.output, quote-room-round c.args.form c.args.msg.now _ c.requires.1 c.if-form.true))

pub put_items-requires : goal.put_items-requires
put_items-requires c =
    (omega (arith, c.put_header.auto.output, c.put_symbol.auto.output, c.put_round.auto.output, c.put_marks.auto.output, quote-room-round c.args.form c.args.msg.now _ c.requires.1 c.if-form.true), c.requires.0)

pub put_marks-requires-else-form : goal.put_marks-requires-else-form
put_marks-requires-else-form c =
    rw c.if-form.false (omega (arith, c.put_header.auto.output, c.put_symbol.auto.output, quote-room-odd c.args.form c.args.msg.now _ c.requires.1 c.if-form.false))

pub put_items-requires-else-form : goal.put_items-requires-else-form
put_items-requires-else-form c =
    (omega (arith, c.put_header.auto.output, c.put_symbol.auto.output, c.put_marks-else-form.auto.output, quote-room-odd c.args.form c.args.msg.now _ c.requires.1 c.if-form.false), c.requires.0)

pub returns-then-form : goal.returns-then-form
returns-then-form c =
    quote-round c.args.form c.args.msg.now c.requires.0 _ _ _ _ c.requires.1 c.put_header.ensures c.put_symbol.ensures _ _ _ c.if-form.true c.put_round.ensures c.put_marks.ensures c.put_items.ensures

pub returns-else-form : goal.returns-else-form
returns-else-form c =
    quote-odd c.args.form c.args.msg.now c.requires.0 _ _ _ _ c.requires.1 c.put_header.ensures c.put_symbol.ensures _ _ c.if-form.false c.put_marks-else-form.ensures c.put_items-else-form.ensures
