use mathlib.Core.Path.{◌∙◌}
use Rattle.quotebook.proofs.InterfaceLaws.{restore-numbered}
use Rattle.quotebook.proofs.qb_restore.Goals as goal

pub returns : goal.returns
returns c =
    restore-numbered _ _ _ _ ((λ j. record { number = c.number-number.ensures j; place = c.restore-told.result.place; written = c.restore-told.result.written; bytes = c.restore-told.new.book; output = c.restore-told.new.output }) ∙ c.restore-told.ensures)
