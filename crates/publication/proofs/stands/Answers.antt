use mathlib.Core.Path.{sym, ◌∙◌}
use borrow.Author.Tests.{eqb-true, eqb-false, ne_eqb}
use borrow.Author.Rules.{rules}
use Rattle.lists.proofs.Tests.{clash}
use Rattle.publication.proofs.PublicationLaws.{EntryFits, other-name, other-price, by_size}
use Rattle.publication.proofs.stands.Goals.{then-get32-e, else-get32-e}
use Rattle.publication.proofs.stands.Goals as goal

-- `publication::stands` meets its contract.

pub returns-then-get64-e : goal.returns-then-get64-e
returns-then-get64-e c =
    let fits : EntryFits c.args.e =
    search rules in
    elim c.if-get32-e.branch [
      | then-get32-e w ↦ by_size _ fits _ _ _ c.get32.ensures w.if-get32-e.true _ w.get64.ensures (eqb-true _ _ (sym w.value-is ∙ c.if-get64-e.true)) _ c.get32-then-get64-e.ensures
      | else-get32-e w ↦ clash (sym c.if-get64-e.true ∙ w.value-is ∙ ne_eqb _ _ w.if-get32-e.false)
    ]

pub returns-else-get64-e : goal.returns-else-get64-e
returns-else-get64-e c =
    let fits : EntryFits c.args.e =
    search rules in
    c.if-get64-e.false
    ∙ elim c.if-get32-e.branch [
      | then-get32-e w ↦ other-price _ fits _ _ _ c.get32.ensures w.if-get32-e.true _ w.get64.ensures (eqb-false _ _ (sym w.value-is ∙ c.if-get64-e.false))
      | else-get32-e w ↦ other-name _ fits _ _ _ c.get32.ensures w.if-get32-e.false
    ]
