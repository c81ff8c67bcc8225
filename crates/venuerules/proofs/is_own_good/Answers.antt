use mathlib.Core.Path.{◌≡◌, sym, ◌∙◌}
use Rattle.lists.specs.Lists.{member}
use Rattle.lists.proofs.Iteration.{member_any}
use Rattle.venueform.specs.Form.{long_round, condition_in}
use Rattle.venuerules.specs.Rules.{venue_conditions, own_good}
use Rattle.venuerules.proofs.is_own_good.Goals as goal

pub returns-then-contains : goal.returns-then-contains
unfolding own_good
returns-then-contains c =
    let m = c.args.msg.now in
    let a : c.contains.result ≡ member venue_conditions (condition_in long_round m) = c.contains.ensures.value ∙ sym (rw (← c.byte.ensures) (member_any venue_conditions c.byte.result)) in
    rw (sym a ∙ c.if-contains.true) c.is_rest_own_good.ensures

pub returns-else-contains : goal.returns-else-contains
unfolding own_good
returns-else-contains c =
    let m = c.args.msg.now in
    let a : c.contains.result ≡ member venue_conditions (condition_in long_round m) = c.contains.ensures.value ∙ sym (rw (← c.byte.ensures) (member_any venue_conditions c.byte.result)) in
    rw (sym a ∙ c.if-contains.false) c.if-contains.false
