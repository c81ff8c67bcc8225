use mathlib.Core.Path.{refl, sym, ◌∙◌}
use Rattle.feed.specs.declared.Size.{Size}
use Rattle.quotebook.proofs.InterfaceLaws.{feed-sized, part-told}
use Rattle.quotebook.proofs.qb_snapshot.Goals as goal

pub returns : goal.returns
returns c =
    let found = part-told _ _ _ _ c.parts-number.ensures.0 c.parts-number.ensures.1 (λ (s : Size). s.blocks) refl in
    let bytes = part-told _ _ _ _ c.parts-number.ensures.0 c.parts-number.ensures.1 (λ (s : Size). s.bytes) refl in
    feed-sized _ _ _ _ ((λ j. record { number = c.parts-number.ensures.0 j; blocks = sym found j; bytes = sym bytes j; output = c.snapshot.new.output }) ∙ c.snapshot.ensures)
