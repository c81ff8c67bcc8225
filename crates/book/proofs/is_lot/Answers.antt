use mathlib.Core.Path.{sym}
use Rattle.lists.proofs.Tables.{one_of, none_of}
use Rattle.calls.specs.Call.{lots}
use Rattle.book.proofs.is_lot.Goals as goal

pub returns-in-1 : goal.returns-in-1
returns-in-1 c = sym (one_of lots _ c.in-1.is)

pub returns-in_default : goal.returns-in_default
returns-in_default c = sym (none_of lots _ c.in_default.in_default-own.rest.1)
