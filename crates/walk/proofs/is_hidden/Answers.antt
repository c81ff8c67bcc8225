use Rattle.std.proofs.Common.{sym, ap, ◌∙◌, eq-eqb, not}
use Rattle.lists.proofs.Tests.{clash}
use Rattle.walk.proofs.LeadingLaws.{hidden-none, hidden-full, hidden-d, hidden-size}
use Rattle.walk.proofs.is_hidden.Goals.{then-top-full, else-top-full}
use Rattle.walk.proofs.is_hidden.Goals as goal

-- `walk::is_hidden` meets its contract.

pub returns-then-has_d : goal.returns-then-has_d
returns-then-has_d c =
    elim c.if-top-full.branch [
      | then-top-full w ↦ w.value-is ∙ eq-eqb _ _ w.if-top-full.true ∙ hidden-full _ _ _ _ c.if-top-ne0.true _ c.full.ensures w.if-top-full.true
      | else-top-full w ↦ c.if-has_d.true ∙ hidden-d _ _ _ _ c.if-top-ne0.true _ c.full.ensures w.if-top-full.false _ w.has_d.ensures (sym w.value-is ∙ c.if-has_d.true)
    ]

pub returns-else-has_d : goal.returns-else-has_d
returns-else-has_d c =
    elim c.if-top-full.branch [
      | then-top-full w ↦ clash (sym (w.value-is ∙ eq-eqb _ _ w.if-top-full.true) ∙ c.if-has_d.false)
      | else-top-full w ↦ hidden-size _ _ _ _ c.if-top-ne0.true _ c.full.ensures w.if-top-full.false _ w.has_d.ensures (sym w.value-is ∙ c.if-has_d.false)
    ]

pub returns-else-top-ne0 : goal.returns-else-top-ne0
returns-else-top-ne0 c = ap not (eq-eqb _ _ c.if-top-ne0.false) ∙ hidden-none _ _ _ _ c.if-top-ne0.false
