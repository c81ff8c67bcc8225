use Rattle.field.specs.Field.{Bytes}
use Rattle.update.proofs.StoreLaws.{list-is}
use Rattle.update.proofs.list.Goals as goal

pub returns : goal.returns
returns c =
    let b : Bytes c.args.symbol.now = λ i. (c.shared_slice_known-1.given i).fits in
    list-is _ _ _ _ c.requires.0 c.requires.1 b c.ranges.lot.fits c.ranges.primary.fits _ _ _ _ _ _ _ _ _ _ c.get64.ensures c.get16.ensures c.get8.ensures c.put64.ensures c.put16.ensures c.put8.ensures c.put8-2.ensures c.put8-3.ensures c.clear.ensures c.empty.ensures
