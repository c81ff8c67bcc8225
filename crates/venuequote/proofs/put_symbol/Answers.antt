use mathlib.Core.Path.{◌≡◌}
use native.Mathlib.Omega.{arith}
use lib.ListN.{replicate}
use Rattle.venuequote.proofs.WriteLaws.{symbol-long, symbol-short}
use borrow.Author.Rules.{rules}
use Rattle.venuequote.proofs.put_symbol.Goals as goal

pub returns-then-form : goal.returns-then-form
returns-then-form c =
    symbol-long c.args.form c.args.msg.now _ _ _ _ (omega arith) c.if-form.true c.requires.1 c.copy_from_slice.ensures.after

pub returns-else-form : goal.returns-else-form
returns-else-form c =
    let spaces : c.fill.new.self ≡ replicate 6 32 = search rules in
    symbol-short c.args.form c.args.msg.now _ _ _ _ _ _ (omega arith) (omega arith) c.if-form.false c.requires.1 c.copy_from_slice-else-form.ensures.after spaces
