use mathlib.Core.Path.{sym, ap, ◌∙◌}
use native.Mathlib.Omega.{arith}
use Rattle.opening.proofs.OpeningLaws.{sound-of}
use Rattle.numbers.specs.Numbers.{number_of}
use Rattle.line.specs.code.Gate.{gate_told, stopped_told}
use Rattle.calls.proofs.TakenLaws.{entered, taken-by, taken-run}
use Rattle.intake.proofs.take_block.Goals as goal

pub run-tally-requires : goal.run-tally-requires
run-tally-requires c =
    let e = entered _ _ _ _ _ _ _ _ _ (sym c.judge-gate.ensures ∙ ap gate_told c.in-Ok.is) in
    record { book_value = (e.good, e.letter); block_value = e.passes; answer_length_in_bounds = e.wide }

pub settle-requires : goal.settle-requires
settle-requires c =
    let e = entered _ _ _ _ _ _ _ _ _ (sym c.judge-gate.ensures ∙ ap gate_told c.in-Ok.is) in
    let z = sound-of _ e.good in
    (omega (arith, z.size, z.low, c.run-tally.auto.book), e.low)

pub returns-in-None : goal.returns-in-None
returns-in-None c =
    rw c.refused.ensures (taken-by _ _ _ _ _ _ c.judge-gate.ensures (ap gate_told c.in-Err.is ∙ ap (stopped_told (number_of c.in-Err.stopped.refusal)) c.in-None.is))

pub returns-in-Some : goal.returns-in-Some
returns-in-Some c =
    rw c.refused-in-Some.ensures (taken-by _ _ _ _ _ _ c.judge-gate.ensures (ap gate_told c.in-Err.is ∙ ap (stopped_told (number_of c.in-Err.stopped.refusal)) c.in-Some.is))

pub returns-in-Ok : goal.returns-in-Ok
returns-in-Ok c =
    taken-run _ _ _ _ _ _ _ _ _ _ _ _ _ _ c.judge-gate.ensures (ap gate_told c.in-Ok.is) c.run-tally.ensures c.settle.ensures
