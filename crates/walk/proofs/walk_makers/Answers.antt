use mathlib.Core.Path.{refl}
use Rattle.walk.proofs.CellLaws.{Next, cells-start, cells-read, cells_free, cells-end}
use Rattle.ranking.proofs.ChoiceLaws.{sides-again, sides-end}
use Rattle.page.specs.Layout.{maker_count}
use borrow.Author.Rules.{rules}
use Rattle.walk.proofs.walk_makers.Goals as goal
use Rattle.walk.proofs.walk_makers.Goals.{then-get8-eq82, else-get8-eq82}

-- `walk::walk_makers` meets its contract.

pub loop-k-init : goal.loop-k-init
loop-k-init c = (search rules, (search rules, λ e. refl), (search rules, λ e. refl), cells-start _)

pub with_cell-bid-requires : goal.with_cell-bid-requires
with_cell-bid-requires c = record { page_len = c.requires; k_lt_maker_count = c.loop-k-test.true; kept = c.loop-k.invariant.1 }

pub with_cell-offer-requires : goal.with_cell-offer-requires
with_cell-offer-requires c = record { page_len = c.requires; k_lt_maker_count = c.loop-k-test.true; kept = c.loop-k.invariant.2 }

-- what the turn left of both sides, whether the cell was read or not

pub loop-k-preserved : goal.loop-k-preserved
loop-k-preserved c =
    let next : Next c.args.page.now c.loop-k.k c.loop-k.bid c.loop-k.offer c.if-get8-eq82.bid c.if-get8-eq82.offer =
    let l = c.loop-k in
    elim c.if-get8-eq82.branch [
      | then-get8-eq82 w ↦ cells-read _ _ _ _ _ c.cell_at.ensures _ c.get8.ensures _ _ w.if-get8-eq82.true w.with_cell-bid.ensures w.with_cell-offer.ensures _ _ w.bid-is w.offer-is
      | else-get8-eq82 w ↦ cells_free _ _ _ _ _ c.cell_at.ensures _ c.get8.ensures w.if-get8-eq82.false l.invariant.1 l.invariant.2 _ _ w.bid-is w.offer-is
    ] in
    let n = next in (search rules, n.0, n.1, sides-again _ maker_count _ _ _ _ c.loop-k-test.true c.loop-k.invariant.3 n.2)

pub in_cell-requires : goal.in_cell-requires
in_cell-requires c = record { page_len = c.requires; cell_lt_maker_count = c.loop-k.invariant.1.0 }

pub in_cell-requires-2 : goal.in_cell-requires-2
in_cell-requires-2 c = record { page_len = c.requires; cell_lt_maker_count = c.loop-k.invariant.2.0 }

pub returns : goal.returns
returns c = cells-end _ _ _ _ _ _ (sides-end _ maker_count _ _ _ c.loop-k-test.false c.loop-k.invariant.3) c.in_cell.ensures c.in_cell-2.ensures
