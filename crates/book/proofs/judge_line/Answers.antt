use mathlib.Core.Path.{refl, sym, ◌∙◌}
use Rattle.calls.proofs.NumberLaws.{number-unsound}
use Rattle.book.proofs.CallLaws.{open_above, open-letter, open-standing, open-new}
use Rattle.book.proofs.judge_line.Goals as goal

pub returns-then-not-is_sound : goal.returns-then-not-is_sound
returns-then-not-is_sound c = number-unsound _ _ refl (sym c.is_sound.ensures ∙ c.if-not-is_sound.true)

pub returns-then-line-gt-LAST : goal.returns-then-line-gt-LAST
returns-then-line-gt-LAST c = open_above _ _ _ (sym c.is_sound.ensures ∙ c.if-not-is_sound.false) c.if-line-gt-LAST.true

pub returns-then-not-is_letter : goal.returns-then-not-is_letter
returns-then-not-is_letter c =
    open-letter _ _ _ (sym c.is_sound.ensures ∙ c.if-not-is_sound.false) c.if-line-gt-LAST.false (sym c.is_letter.ensures ∙ c.if-not-is_letter.true)

pub line_state-requires : goal.line_state-requires
line_state-requires c = sym c.is_sound.ensures ∙ c.if-not-is_sound.false

pub returns-then-is_some : goal.returns-then-is_some
returns-then-is_some c =
    open-standing _ _ _ (sym c.is_sound.ensures ∙ c.if-not-is_sound.false) c.if-line-gt-LAST.false (sym c.is_letter.ensures ∙ c.if-not-is_letter.false)
    (rw c.line_state.ensures at (sym c.is_some.ensures ∙ c.if-is_some.true))

pub returns : goal.returns
returns c =
    open-new _ _ _ (sym c.is_sound.ensures ∙ c.if-not-is_sound.false) c.if-line-gt-LAST.false (sym c.is_letter.ensures ∙ c.if-not-is_letter.false)
    (rw c.line_state.ensures at (sym c.is_some.ensures ∙ c.if-is_some.false))
