use mathlib.Core.Path.{refl, sym, ◌∙◌}
use mathlib.Core.Bool.{cond}
use Rattle.protection.specs.declared.Protection.{Protection}
use Rattle.calls.specs.Call.{queried}
use Rattle.logcalls.proofs.WordLaws.{bit-is}
use Rattle.quotebook.proofs.InterfaceLaws.{query-told, part-told}
use Rattle.quotebook.proofs.qb_is_protected.Goals as goal

pub returns : goal.returns
returns c =
    let yes = part-told _ _ _ _ c.parts-number.ensures.0 c.parts-number.ensures.1 (λ (t : Protection). cond t.yes 1 0) refl in
    let looked = part-told _ _ _ _ c.parts-number.ensures.0 c.parts-number.ensures.1 (λ (t : Protection). t.looked) refl in
    query-told _ _ _ _ _ _ _ _ (c.from.ensures ∙ bit-is _)
    ((λ j. record { bytes = c.args.book.now; answer = queried (c.parts-number.ensures.0 j) (sym yes j) (sym looked j) }) ∙ c.is_protected.ensures)
