use Prim.Native.Nat.{ℕ}
use mathlib.Core.Path.{◌≡◌, sym, ap, ◌∙◌}
use native.Mathlib.Omega.{arith}
use lib.Dec.{eqb}
use Rattle.numbers.proofs.RefusalLaws.{passed_up}
use Rattle.opening.specs.Opening.{rest_in}
use Rattle.opening.proofs.OpeningLaws.{sound-of}
use Rattle.opening.proofs.ReadLaws.{opening-room}
use Rattle.line.proofs.GateLaws.{judge-unsound, judge-short, judge-closed, judge-refused, judge-admitted, opened, open-low}
use Rattle.line.proofs.judge.Goals as goal

pub returns-then-not-is_sound : goal.returns-then-not-is_sound
returns-then-not-is_sound c = rw c.bare.ensures (judge-unsound _ _ _ _ (sym c.is_sound.ensures ∙ c.if-not-is_sound.true))

pub returns-then-room-lt-ANSWER_LEN : goal.returns-then-room-lt-ANSWER_LEN
returns-then-room-lt-ANSWER_LEN c =
    rw c.bare-then-room-lt-ANSWER_LEN.ensures (judge-short _ _ _ _ (sym c.is_sound.ensures ∙ c.if-not-is_sound.false) c.if-room-lt-ANSWER_LEN.true)

pub returns-in_err-old : goal.returns-in_err-old
returns-in_err-old c =
    rw (passed_up c.from_residual.result _ c.from_residual.ensures.1)
    (judge-closed _ _ _ _ (sym c.is_sound.ensures ∙ c.if-not-is_sound.false) c.if-room-lt-ANSWER_LEN.false _ c.line_state.ensures _ _ c.in_err-old.ensures.value c.bare-2.ensures)

pub returns-in-Err : goal.returns-in-Err
returns-in-Err c =
    rw c.on.ensures
    (judge-refused _ _ _ _ (sym c.is_sound.ensures ∙ c.if-not-is_sound.false) c.if-room-lt-ANSWER_LEN.false _
    (opened c.args.book.now c.args.line c.args.block.now c.args.room (sym c.is_sound.ensures ∙ c.if-not-is_sound.false) c.if-room-lt-ANSWER_LEN.false _ c.line_state.ensures _ _ c.in_ok-old.ensures.value) _ (sym c.in-Err.is ∙ c.check_block-checked.ensures))

pub get8-requires : goal.get8-requires
get8-requires c =
    let z = sound-of _ (sym c.is_sound.ensures ∙ c.if-not-is_sound.false) in
    omega (arith, z.size, z.low)

pub admit-requires : goal.admit-requires
admit-requires c = (
  sym c.check_block-checked.ensures ∙ c.in-Ok.is,
  (opening-room _ (sym c.is_sound.ensures ∙ c.if-not-is_sound.false), open-low _ _ _ (opened c.args.book.now c.args.line c.args.block.now c.args.room (sym c.is_sound.ensures ∙ c.if-not-is_sound.false) c.if-room-lt-ANSWER_LEN.false _ c.line_state.ensures _ _ c.in_ok-old.ensures.value)),
)

pub returns-in-Ok : goal.returns-in-Ok
unfolding rest_in
returns-in-Ok c =
    let day-is : eqb c.get8.result 1 ≡ (rest_in c.args.book.now).day = ap (λ (x : ℕ). eqb x 1) c.get8.ensures in
    judge-admitted _ _ _ _ (sym c.is_sound.ensures ∙ c.if-not-is_sound.false) c.if-room-lt-ANSWER_LEN.false _
    (opened c.args.book.now c.args.line c.args.block.now c.args.room (sym c.is_sound.ensures ∙ c.if-not-is_sound.false) c.if-room-lt-ANSWER_LEN.false _ c.line_state.ensures _ _ c.in_ok-old.ensures.value) _ _ day-is c.admit.ensures
