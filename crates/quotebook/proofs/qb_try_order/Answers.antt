use mathlib.Core.Path.{refl, sym, ◌∙◌}
use Rattle.sweep.specs.declared.Swept.{Swept}
use Rattle.quotebook.proofs.InterfaceLaws.{order-told, part-told}
use Rattle.quotebook.proofs.qb_try_order.Goals as goal

pub returns : goal.returns
returns c =
    let found = part-told _ _ _ _ c.parts-number.ensures.0 c.parts-number.ensures.1 (λ (s : Swept). s.steps) refl in
    let amount = part-told _ _ _ _ c.parts-number.ensures.0 c.parts-number.ensures.1 (λ (s : Swept). s.unfilled) refl in
    order-told _ _ _ _ _ _ ((λ j. record { number = c.parts-number.ensures.0 j; found = sym found j; amount = sym amount j; steps = c.try_order.new.steps }) ∙ c.try_order.ensures)
