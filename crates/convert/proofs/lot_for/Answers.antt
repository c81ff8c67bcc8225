use native.Mathlib.Omega.{arith}
use Rattle.venuequote.proofs.WriteLaws.{ready-quote}
use Rattle.convert.proofs.LotLaws.{lot-round, lot-odd, lot-other, symbol-is}
use Rattle.convert.proofs.lot_for.Goals as goal

pub returns-in_default : goal.returns-in_default
returns-in_default c = lot-other _ _ _ c.layout_of.ensures c.in_default.is

pub put_symbol-requires : goal.put_symbol-requires
put_symbol-requires c = (omega arith, ready-quote _ _ c.layout_of.ensures _ c.in-Some.is c.requires.1)

pub returns-then-form : goal.returns-then-form
returns-then-form c =
    lot-round _ _ _ c.layout_of.ensures _ _ _ c.in-Some.is c.if-form.true (symbol-is c.in-Some.form c.args.msg.now (ready-quote _ _ c.layout_of.ensures _ c.in-Some.is c.requires.1) _ c.put_symbol.ensures) c.lot_in.ensures

pub returns : goal.returns
returns c = lot-odd _ _ _ c.layout_of.ensures _ c.in-Some.is c.if-form.false
