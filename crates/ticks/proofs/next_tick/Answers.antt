use mathlib.Core.Path.{sym, ◌∙◌}
use native.Mathlib.Omega.{arith}
use Rattle.opening.proofs.ReadLaws.{opening-room}
use Rattle.ticks.proofs.TickLaws.{tick-unsound, tick-unset, tick-done}
use Rattle.ticks.proofs.next_tick.Goals as goal

pub returns-then-not-is_sound : goal.returns-then-not-is_sound
returns-then-not-is_sound c = tick-unsound _ (sym c.is_sound.ensures ∙ c.if-not-is_sound.true)

pub get8-requires : goal.get8-requires
get8-requires c = omega (arith, opening-room _ (sym c.is_sound.ensures ∙ c.if-not-is_sound.false))

pub returns-then-get8-eq0 : goal.returns-then-get8-eq0
returns-then-get8-eq0 c = tick-unset _ (sym c.is_sound.ensures ∙ c.if-not-is_sound.false) _ c.get8.ensures c.if-get8-eq0.true

pub clear-requires : goal.clear-requires
clear-requires c = (omega arith, omega (arith, opening-room _ (sym c.is_sound.ensures ∙ c.if-not-is_sound.false)))

pub returns : goal.returns
returns c =
    tick-done _ (sym c.is_sound.ensures ∙ c.if-not-is_sound.false) _ _ c.get8.ensures c.if-get8-eq0.false c.clear.ensures
