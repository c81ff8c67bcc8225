use mathlib.Core.Path.{sym, ◌∙◌}
use native.Mathlib.Omega.{arith}
use Rattle.opening.proofs.ReadLaws.{opening-room}
use Rattle.book.proofs.CallLaws.{day-unsound, day-asked, day-else}
use Rattle.book.proofs.judge_day.Goals as goal

-- `book::judge_day` meets its contract.

pub returns-then-not-is_sound : goal.returns-then-not-is_sound
returns-then-not-is_sound c = day-unsound _ _ _ (sym c.is_sound.ensures ∙ c.if-not-is_sound.true)

pub get8-requires : goal.get8-requires
get8-requires c = omega (arith, opening-room _ (sym c.is_sound.ensures ∙ c.if-not-is_sound.false))

pub returns-then-get8-day : goal.returns-then-get8-day
returns-then-get8-day c =
    day-else _ _ _ (sym c.is_sound.ensures ∙ c.if-not-is_sound.false) _ c.get8.ensures c.if-get8-day.true

pub returns : goal.returns
returns c =
    day-asked _ _ _ (sym c.is_sound.ensures ∙ c.if-not-is_sound.false) _ c.get8.ensures c.if-get8-day.false
