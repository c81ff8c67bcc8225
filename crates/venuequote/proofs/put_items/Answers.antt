use Prim.Native.Nat.{ℕ}
use mathlib.Core.Path.{refl, ap, ◌∙◌}
use native.Mathlib.Omega.{arith}
use Rattle.field.specs.Field.{splice}
use Rattle.venuerules.proofs.QuoteLaws.{item_in}
use Rattle.venuequote.specs.Quote.{our_items}
use Rattle.venuequote.proofs.WriteLaws.{items-start, items-again, items-end}
use borrow.Author.Rules.{rules}
use Rattle.venuequote.proofs.put_items.Goals as goal

pub loop-i-init : goal.loop-i-init
loop-i-init c = (search rules, (refl, items-start c.args.form c.args.msg.now _ _ _))

pub put_item-requires : goal.put_item-requires
put_item-requires c =
    (omega (arith, c.requires.0, c.item_count-n.ensures.0, c.loop-i.invariant.1.0), (c.item_at.ensures.1, omega (arith, c.item_at.ensures.0, item_in c.args.form c.args.msg.now c.requires.1 c.item_count-n.result c.loop-i.i c.item_count-n.ensures.0 (omega arith))))

pub loop-i-preserved : goal.loop-i-preserved
loop-i-preserved c =
    (search rules, (c.put_item.auto.output ∙ c.loop-i.invariant.1.0, items-again c.args.form c.args.msg.now _ _ _ _ _ _ _ (omega arith) c.loop-i.invariant.1.1 c.item_at.ensures.0 c.put_item.ensures))

pub returns : goal.returns
returns c =
    items-end c.args.form c.args.msg.now _ _ _ _ _ (omega arith) c.loop-i.invariant.1.1 ∙ ap (λ (n : ℕ). splice c.args.output.now c.args.to (our_items c.args.form c.args.msg.now 0 n)) c.item_count-n.ensures.0
