use mathlib.Core.Path.{sym, ◌∙◌}
use native.Mathlib.Omega.{arith}
use Rattle.venue.proofs.BlockLaws.{size-lengths}
use Rattle.venue.specs.Venue.{block_good}
use borrow.Author.Rules.{rules}
use Rattle.venue.proofs.is_block_good.Goals as goal

pub returns-then-not-is_size_good : goal.returns-then-not-is_size_good
unfolding block_good
returns-then-not-is_size_good c = search rules

pub checksum-requires : goal.checksum-requires
checksum-requires c =
    let l = size-lengths _ (sym c.is_size_good.ensures ∙ search rules) in
    (omega (arith, l.0), omega (arith, l.1))

pub get16-requires : goal.get16-requires
get16-requires c =
    let l = size-lengths _ (sym c.is_size_good.ensures ∙ search rules) in
    omega (arith, l.0)

pub is_laid-requires : goal.is_laid-requires
is_laid-requires c =
    let l = size-lengths _ (sym c.is_size_good.ensures ∙ search rules) in
    (omega (arith, l.0), l.1)

pub returns-then-count-ge1 : goal.returns-then-count-ge1
unfolding block_good
returns-then-count-ge1 c = search rules

pub returns-else-count-ge1 : goal.returns-else-count-ge1
unfolding block_good
returns-else-count-ge1 c = search rules
