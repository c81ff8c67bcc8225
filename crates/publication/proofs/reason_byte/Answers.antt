use borrow.Author.Tests.{ne_eqb}
use Rattle.publication.specs.code.Entry.{reason_of}
use Rattle.publication.proofs.reason_byte.Goals as goal

-- `publication::reason_byte` meets its contract.

pub returns-in-1 : goal.returns-in-1
unfolding reason_of
returns-in-1 c = rw c.in-1.is

pub returns-in-2 : goal.returns-in-2
unfolding reason_of
returns-in-2 c = rw c.in-2.is

pub returns-in-3 : goal.returns-in-3
unfolding reason_of
returns-in-3 c = rw c.in-3.is

pub returns-in-4 : goal.returns-in-4
unfolding reason_of
returns-in-4 c = rw c.in-4.is

pub returns-in_default : goal.returns-in_default
unfolding reason_of
returns-in_default c =
    let r = c.in_default.in_default-own.rest in
    rw (ne_eqb _ 1 r.0.0.0.1, ne_eqb _ 2 r.0.0.1, ne_eqb _ 3 r.0.1, ne_eqb _ 4 r.1)
