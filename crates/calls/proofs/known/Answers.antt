use mathlib.Core.Path.{sym, ◌∙◌}
use Rattle.calls.proofs.KnownLaws.{known-unsound, known-listed}
use Rattle.calls.proofs.known.Goals as goal

pub returns-then-not-is_sound : goal.returns-then-not-is_sound
returns-then-not-is_sound c = known-unsound _ _ (sym c.is_sound.ensures ∙ c.if-not-is_sound.true)

pub listed-requires : goal.listed-requires
listed-requires c = sym c.is_sound.ensures ∙ c.if-not-is_sound.false

pub returns : goal.returns
returns c = known-listed _ _ (sym c.is_sound.ensures ∙ c.if-not-is_sound.false) _ c.listed.ensures
