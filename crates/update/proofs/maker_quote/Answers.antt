use mathlib.Core.Path.{sym, ◌∙◌}
use borrow.Author.Tests.{ne_eqb}
use Rattle.update.specs.code.Update.{maker_quote_on}
use Rattle.update.proofs.MakerLaws.{maker-hit, free-hit}
use Rattle.update.proofs.EffectLaws.{maker-known, maker-new, maker-nothing, maker-full}
use Rattle.update.proofs.maker_quote.Goals as goal

pub returns-then-fault-ne0 : goal.returns-then-fault-ne0
unfolding maker_quote_on
returns-then-fault-ne0 c = rw (ne_eqb _ _ c.if-fault-ne0.true)

pub put_cell_over-requires : goal.put_cell_over-requires
put_cell_over-requires c =
    (c.requires, (maker-hit _ _ _ (sym c.maker_place-known.ensures ∙ c.in-Some.is)).0)

pub returns-in-Some : goal.returns-in-Some
returns-in-Some c =
    rw c.if-fault-ne0.false
    (maker-known _ c.requires _ _ _ _ _ (sym c.maker_place-known.ensures ∙ c.in-Some.is) c.put_cell_over.ensures c.renewed.ensures)

-- an empty quote of a maker without a cell

pub returns-then-is_empty : goal.returns-then-is_empty
returns-then-is_empty c =
    rw c.if-fault-ne0.false
    (maker-nothing _ c.requires _ _ _ (sym c.maker_place-known.ensures ∙ c.in_default.is) (sym c.is_empty.ensures ∙ c.if-is_empty.true) c.renewed-then-is_empty.ensures)

pub returns-in_default-free : goal.returns-in_default-free
returns-in_default-free c =
    rw c.if-fault-ne0.false
    (maker-full _ c.requires _ _ (sym c.maker_place-known.ensures ∙ c.in_default.is) (sym c.free_place-free.ensures ∙ c.in_default-free.is) (sym c.is_empty.ensures ∙ c.if-is_empty.false))

pub put_cell-requires : goal.put_cell-requires
put_cell-requires c =
    (c.requires, (free-hit _ _ (sym c.free_place-free.ensures ∙ c.in-Some-free.is)).0)

pub returns : goal.returns
returns c =
    rw c.if-fault-ne0.false
    (maker-new _ c.requires _ _ _ _ _ (sym c.maker_place-known.ensures ∙ c.in_default.is) (sym c.free_place-free.ensures ∙ c.in-Some-free.is) (sym c.is_empty.ensures ∙ c.if-is_empty.false)
    c.put_cell.ensures c.renewed-2.ensures)
