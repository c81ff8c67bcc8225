use mathlib.Core.Path.{ap, ◌∙◌}
use native.Mathlib.Omega.{arith}
use Rattle.lists.specs.Lists.{all}
use Rattle.lists.proofs.Searches.{all_start, all-fails, all-again, all_end}
use Rattle.venuerules.proofs.QuoteLaws.{item_in, item-high, item-low}
use borrow.Author.Rules.{rules}
use Rattle.venuerules.specs.Rules.{item_good, items_good}
use Rattle.venuerules.proofs.are_items_good.Goals as goal

pub loop-i-init : goal.loop-i-init
loop-i-init c = (search rules, all_start (item_good c.args.form c.args.msg.now) c.args.n)

pub price-requires : goal.price-requires
price-requires c =
    let k = c in
    let s = k in
    omega (arith, c.item_at-at.ensures.0, item_in s.args.form s.args.msg.now s.requires.1.1 s.args.n k.loop-i.i s.requires.0 (omega arith))

pub returns-then-price-gt-PRICE_MOST : goal.returns-then-price-gt-PRICE_MOST
unfolding items_good
returns-then-price-gt-PRICE_MOST c =
    let p = c in
    let k = p in
    let s = k in
    all-fails (item_good s.args.form s.args.msg.now) s.args.n _ k.loop-i.i (omega arith) k.loop-i.invariant.1 (item-high s.args.form s.args.msg.now k.loop-i.i _ _ p.item_at-at.ensures.0 p.price.ensures c.if-price-gt-PRICE_MOST.true)
    ∙ ap (λ (x : _). all (item_good s.args.form s.args.msg.now) 0 x) s.requires.0

pub loop-i-preserved : goal.loop-i-preserved
loop-i-preserved c =
    let p = c in
    let k = p in
    let s = k in
    (search rules, all-again (item_good s.args.form s.args.msg.now) s.args.n _ k.loop-i.i (omega arith) k.loop-i.invariant.1 (item-low s.args.form s.args.msg.now k.loop-i.i _ _ p.item_at-at.ensures.0 p.price.ensures c.if-price-gt-PRICE_MOST.false))

pub returns : goal.returns
unfolding items_good
returns c =
    let k = c in
    let s = k in
    all_end (item_good s.args.form s.args.msg.now) s.args.n _ k.loop-i.i (omega arith) k.loop-i.invariant.1
    ∙ ap (λ (x : _). all (item_good s.args.form s.args.msg.now) 0 x) s.requires.0
