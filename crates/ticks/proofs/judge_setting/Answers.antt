use mathlib.Core.Path.{sym, ◌∙◌}
use Rattle.ticks.proofs.TickLaws.{setting-unsound, setting-judged}
use Rattle.ticks.proofs.judge_setting.Goals as goal

pub returns-then-not-is_sound : goal.returns-then-not-is_sound
returns-then-not-is_sound c = setting-unsound _ _ _ (sym c.is_sound.ensures ∙ c.if-not-is_sound.true)

pub returns : goal.returns
returns c = setting-judged _ _ _ _ (sym c.is_sound.ensures ∙ c.if-not-is_sound.false) c.judge.ensures
