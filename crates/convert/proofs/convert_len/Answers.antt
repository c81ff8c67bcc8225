use mathlib.Core.Path.{sym, ◌∙◌}
use Rattle.calls.proofs.ConvertLaws.{length-told, length-unsound}
use borrow.Author.Rules.{rules}
use Rattle.convert.proofs.convert_len.Goals as goal

pub returns-then-not-is_sound : goal.returns-then-not-is_sound
returns-then-not-is_sound c = length-unsound _ _ (sym c.is_sound.ensures ∙ search rules)

pub returns : goal.returns
returns c =
    length-told _ _ (sym c.is_sound.ensures ∙ search rules) _ _ c.convert_len.ensures.0 c.convert_len.ensures.1
