use mathlib.Core.Path.{◌≡◌, ◌∙◌}
use Rattle.venuequote.proofs.WriteLaws.{item-is}
use borrow.Author.Rules.{rules}
use Rattle.venuequote.proofs.put_item.Goals as goal

pub returns : goal.returns
returns c =
    let e : c.from-shares.result ≡ c.byte.result = search rules in
    item-is c.args.form c.args.msg.now _ _ _ _ _ _ _ _ c.price_len.ensures.0 (e ∙ c.byte.ensures) c.price.ensures c.put64.ensures c.put32.ensures
