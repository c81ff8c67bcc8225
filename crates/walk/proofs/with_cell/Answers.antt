use Rattle.std.proofs.Common.{◌≡◌, ◌∙◌, eq-eqb, sym}
use Rattle.lists.proofs.Tests.{clash}
use Rattle.walk.specs.code.Cells.{cell_as}
use Rattle.walk.proofs.CellLaws.{Priced, price-read, size-read, cell-behind, cell-sizeless, cell-priceless, cell-ahead, cell-after, cell-before}
use borrow.Author.Rules.{rules}
use Rattle.walk.proofs.with_cell.Goals as goal
use Rattle.walk.proofs.with_cell.Goals.{else-rank-best-2-via-then-rank-best-2+else-not-is_before, then-price-eq0, else-price-eq0, else-rank-best-2-via-else-rank-best-2}

-- `walk::with_cell` meets its contract.

pub returns-then-rank-best : goal.returns-then-rank-best
returns-then-rank-best c =
    let priced : let a = c.args in Priced a.page.now a.side a.k a.best c.low64-price.result c.rank-rank.result =
    record {
      kept = c.requires.kept;
      held = search rules;
      cell = c.requires.k_lt_maker_count;
      fits = search rules;
      price = price-read _ _ _ _ _ c.cell_at.ensures c.in_quote.ensures.0 _ c.low64-price.ensures;
      rank = c.rank-rank.ensures;
    } in
    cell-behind _ _ _ _ _ _ priced c.if-rank-best.true

pub returns-then-lots-eq0 : goal.returns-then-lots-eq0
returns-then-lots-eq0 c =
    let priced : let a = c.args in Priced a.page.now a.side a.k a.best c.low64-price.result c.rank-rank.result =
    record {
      kept = c.requires.kept;
      held = search rules;
      cell = c.requires.k_lt_maker_count;
      fits = search rules;
      price = price-read _ _ _ _ _ c.cell_at.ensures c.in_quote.ensures.0 _ c.low64-price.ensures;
      rank = c.rank-rank.ensures;
    } in
    let sized : let a = c.args in c.low32-lots.result ≡ (cell_as a.page.now a.side a.k).size =
    size-read _ _ _ _ _ c.cell_at.ensures c.in_quote.ensures.0 _ c.low32-lots.ensures in
    cell-sizeless _ _ _ _ _ _ priced _ sized c.if-lots-eq0.true

pub returns-then-not-is_before : goal.returns-then-not-is_before
returns-then-not-is_before c =
    let priced : let a = c.args in Priced a.page.now a.side a.k a.best c.low64-price.result c.rank-rank.result =
    record {
      kept = c.requires.kept;
      held = search rules;
      cell = c.requires.k_lt_maker_count;
      fits = search rules;
      price = price-read _ _ _ _ _ c.cell_at.ensures c.in_quote.ensures.0 _ c.low64-price.ensures;
      rank = c.rank-rank.ensures;
    } in
    let sized : let a = c.args in c.low32-lots.result ≡ (cell_as a.page.now a.side a.k).size =
    size-read _ _ _ _ _ c.cell_at.ensures c.in_quote.ensures.0 _ c.low32-lots.ensures in
    elim c.if-price-eq0.branch [
      | then-price-eq0 w ↦ cell-priceless _ _ _ _ _ _ priced w.if-price-eq0.true
      | else-price-eq0 w ↦ cell-after _ _ _ _ _ _ priced _ sized c.if-lots-eq0.false c.if-rank-best-2.true w.if-price-eq0.false _ w.is_before.ensures (sym w.value-is ∙ c.if-not-is_before.true)
    ]

pub returns : goal.returns
returns c =
    let priced : let a = c.args in Priced a.page.now a.side a.k a.best c.low64-price.result c.rank-rank.result =
    record {
      kept = c.requires.kept;
      held = search rules;
      cell = c.requires.k_lt_maker_count;
      fits = search rules;
      price = price-read _ _ _ _ _ c.cell_at.ensures c.in_quote.ensures.0 _ c.low64-price.ensures;
      rank = c.rank-rank.ensures;
    } in
    let sized : let a = c.args in c.low32-lots.result ≡ (cell_as a.page.now a.side a.k).size =
    size-read _ _ _ _ _ c.cell_at.ensures c.in_quote.ensures.0 _ c.low32-lots.ensures in
    elim c.else-rank-best-2.branch [
      | else-rank-best-2-via-then-rank-best-2+else-not-is_before w ↦
          elim w.if-price-eq0.branch [
            | then-price-eq0 v ↦ clash (sym (v.value-is ∙ eq-eqb _ _ v.if-price-eq0.true) ∙ w.if-not-is_before.false)
            | else-price-eq0 v ↦ cell-before _ _ _ _ _ _ priced _ sized c.if-lots-eq0.false w.if-rank-best-2.true v.if-price-eq0.false _ v.is_before.ensures (sym v.value-is ∙ w.if-not-is_before.false)
          ]
      | else-rank-best-2-via-else-rank-best-2 w ↦ cell-ahead _ _ _ _ _ _ priced _ sized c.if-lots-eq0.false c.if-rank-best.false w.if-rank-best-2.false
    ]
