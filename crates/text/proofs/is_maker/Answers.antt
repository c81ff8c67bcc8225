use Rattle.std.proofs.Common.{◌≡◌, sym, ap, ◌∙◌}
use Rattle.lists.specs.Lists.{at, upper}
use Rattle.text.specs.Form.{maker_good}
use Rattle.text.proofs.is_maker.Goals as goal

-- `text::is_maker` meets its contract.

pub returns-then-is_upper : goal.returns-then-is_upper
unfolding maker_good
returns-then-is_upper c =
    let first-is : upper (at c.args.s.now 0) ≡ c.is_upper.result =
    ap upper (sym c.byte.ensures) ∙ sym c.is_upper.ensures in
    rw (first-is ∙ c.if-is_upper.true) c.is_padded.ensures

pub returns-else-is_upper : goal.returns-else-is_upper
unfolding maker_good
returns-else-is_upper c =
    let first-is : upper (at c.args.s.now 0) ≡ c.is_upper.result =
    ap upper (sym c.byte.ensures) ∙ sym c.is_upper.ensures in
    rw (first-is, c.if-is_upper.false)
