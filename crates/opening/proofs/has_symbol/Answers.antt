use Rattle.std.proofs.Common.{rules, tests}
use Rattle.field.specs.Field.{Bytes}
use Rattle.opening.proofs.ReadLaws.{symbol-parts}
use Rattle.opening.proofs.has_symbol.Goals as goal

pub returns-then-get16-middle : goal.returns-then-get16-middle
returns-then-get16-middle c =
    let b : Bytes c.args.book.now = λ i. (c.shared_slice_known-1.given i).fits in
    rw (← symbol-parts _ _ _ _ _ c.requires b c.ranges.middle.fits c.ranges.low.fits) (search (rules, tests))

pub returns-else-get16-middle : goal.returns-else-get16-middle
returns-else-get16-middle c =
    let b : Bytes c.args.book.now = λ i. (c.shared_slice_known-1.given i).fits in
    rw (← symbol-parts _ _ _ _ _ c.requires b c.ranges.middle.fits c.ranges.low.fits) (search (rules, tests))
