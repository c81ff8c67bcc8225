use Rattle.field.specs.Field.{Bytes}
use Rattle.walk.proofs.GuessLaws.{told_same, above-told}
use Rattle.walk.proofs.KeyLaws.{first-row-fits, set-small}
use Rattle.walk.proofs.odd_above.Goals as goal

-- `walk::odd_above` meets its contract.

pub above-set-requires : goal.above-set-requires
above-set-requires c = first-row-fits c.args.side _ c.requires _ c.first_keys.ensures.0

pub odd_among-best-requires : goal.odd_among-best-requires
odd_among-best-requires c = (c.requires, set-small _ _ c.above-set.ensures)

pub returns : goal.returns
returns c =
    let b : Bytes c.args.page.now = λ i. (c.shared_slice_known-1.given i).fits in
    told_same _ _ _ _ _ _ c.marked.ensures (above-told _ b _ _ _ _ _ _ c.first_keys.ensures.0 c.above-set.ensures c.odd_among-best.ensures)
