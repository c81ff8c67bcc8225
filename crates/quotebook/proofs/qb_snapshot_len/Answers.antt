use mathlib.Core.Path.{refl, sym, ◌∙◌}
use mathlib.Core.List.{[]}
use Rattle.feed.specs.declared.Size.{Size}
use Rattle.calls.specs.Call.{fed}
use Rattle.quotebook.proofs.InterfaceLaws.{size-told, part-told}
use Rattle.quotebook.proofs.qb_snapshot_len.Goals as goal

pub returns : goal.returns
returns c =
    let found = part-told _ _ _ _ c.parts-number.ensures.0 c.parts-number.ensures.1 (λ (s : Size). s.blocks) refl in
    let bytes = part-told _ _ _ _ c.parts-number.ensures.0 c.parts-number.ensures.1 (λ (s : Size). s.bytes) refl in
    size-told _ _ _ _ _ ((λ j. record { bytes = c.args.book.now; answer = fed (c.parts-number.ensures.0 j) (sym found j) (sym bytes j) [] }) ∙ c.snapshot_len.ensures)
