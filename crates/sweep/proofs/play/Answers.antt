use mathlib.Core.Path.{sym, ◌∙◌}
use Rattle.sweep.proofs.HaltLaws.{play-halted, play-trading}
use Rattle.sweep.proofs.play.Goals as goal

-- `sweep::play` meets its contract.

pub returns-then-is_halted : goal.returns-then-is_halted
returns-then-is_halted c = play-halted _ _ _ _ (sym c.is_halted.ensures ∙ c.if-is_halted.true)

pub returns : goal.returns
returns c =
    play-trading _ _ _ _ (sym c.is_halted.ensures ∙ c.if-is_halted.false) _ c.play_trading.ensures
