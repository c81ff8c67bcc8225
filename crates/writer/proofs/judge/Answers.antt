use mathlib.Core.Path.{sym, ◌∙◌}
use Rattle.writer.proofs.NumberLaws.{number-71, number-72, number-73, number-0}
use Rattle.writer.proofs.judge.Goals as goal

-- `writer::judge` meets its contract.

pub is_control_mixed-requires : goal.is_control_mixed-requires
is_control_mixed-requires c = sym c.are_good.ensures ∙ c.if-not-are_good.false

pub returns-then-is_control_mixed : goal.returns-then-is_control_mixed
returns-then-is_control_mixed c =
    let g = c in
    number-72 _ _ _ (sym g.are_good.ensures ∙ g.if-not-are_good.false) (sym c.is_control_mixed.ensures ∙ c.if-is_control_mixed.true)

pub returns-then-room-lengths : goal.returns-then-room-lengths
returns-then-room-lengths c =
    let m = c in
    let g = m in
    number-73 _ _ _ (sym g.are_good.ensures ∙ g.if-not-are_good.false) (sym m.is_control_mixed.ensures ∙ m.if-is_control_mixed.false) c.if-room-lengths.true

pub returns : goal.returns
returns c =
    let m = c in
    let g = m in
    number-0 _ _ _ (sym g.are_good.ensures ∙ g.if-not-are_good.false) (sym m.is_control_mixed.ensures ∙ m.if-is_control_mixed.false) c.if-room-lengths.false

pub returns-then-not-are_good : goal.returns-then-not-are_good
returns-then-not-are_good c = number-71 _ _ _ (sym c.are_good.ensures ∙ c.if-not-are_good.true)
