-- The rows of `Cases` hold of the book, from memory of any bytes in which make has just answered 0.
-- Assumes nothing.
use mathlib.Core.Path.{refl}
use Rattle.field.specs.Field.{be_bytes}
use Rattle.lists.specs.Lists.{every}
use Rattle.review.specs.Lists.{blocks_are_bytes}
use Rattle.cases.proofs.BookCases.{OnBook, on-book}
use Rattle.mixing.proofs.Cases as Cases

pub cases : OnBook Cases.table
unfolding Cases.table blocks_are_bytes every be_bytes
cases = on-book Cases.table refl Cases.cases
