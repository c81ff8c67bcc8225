use mathlib.Core.Path.{◌∙◌}
use Rattle.quotebook.proofs.InterfaceLaws.{replay-numbered}
use Rattle.quotebook.proofs.qb_replay.Goals as goal

pub returns : goal.returns
returns c =
    replay-numbered _ _ _ _ _ ((λ j. record { number = c.number-number.ensures j; place = c.replay-told.result.place; written = c.replay-told.result.written; bytes = c.replay-told.new.book; output = c.replay-told.new.output }) ∙ c.replay-told.ensures)
