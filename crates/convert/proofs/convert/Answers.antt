use mathlib.Core.Path.{refl, sym, ◌∙◌}
use native.Mathlib.Omega.{arith}
use Rattle.numbers.proofs.RefusalLaws.{never-zero, passed_up}
use Rattle.calls.proofs.ConvertLaws.{run-unsound}
use Rattle.convert.proofs.OutLaws.{out-refused, out-done, needs-is, good, lent_length}
use Rattle.convert.proofs.convert.Goals as goal

pub returns-then-not-is_sound : goal.returns-then-not-is_sound
returns-then-not-is_sound c = run-unsound _ _ _ (sym c.is_sound.ensures ∙ c.if-not-is_sound.true)

pub returns-in_err-len : goal.returns-in_err-len
returns-in_err-len c =
    rw (passed_up c.from_residual.result _ c.from_residual.ensures.1) (out-refused _ _ _ (sym c.is_sound.ensures ∙ c.if-not-is_sound.false) _ _ c.in_err-len.ensures.0 c.in_err-len.ensures.1 (never-zero _))

pub slice_bounds-write-end : goal.slice_bounds-write-end
slice_bounds-write-end c =
    omega (
      arith,
      needs-is _ _ c.args.output.now (sym c.is_sound.ensures ∙ c.if-not-is_sound.false) _ _ c.in_ok-len.ensures.0 c.in_ok-len.ensures.1 refl,
      (good _ _ c.args.output.now (sym c.is_sound.ensures ∙ c.if-not-is_sound.false) _ _ c.in_ok-len.ensures.0 c.in_ok-len.ensures.1 refl).1,
    )

pub write-requires : goal.write-requires
write-requires c = (
  sym c.is_sound.ensures ∙ c.if-not-is_sound.false,
  (
    (good _ _ c.args.output.now (sym c.is_sound.ensures ∙ c.if-not-is_sound.false) _ _ c.in_ok-len.ensures.0 c.in_ok-len.ensures.1 refl).0,
    lent_length _ _ c.args.output.now (sym c.is_sound.ensures ∙ c.if-not-is_sound.false) _ _ c.in_ok-len.ensures.0 c.in_ok-len.ensures.1 refl,
  ),
)

pub returns : goal.returns
returns c =
    out-done _ _ _ (sym c.is_sound.ensures ∙ c.if-not-is_sound.false) _ _ c.in_ok-len.ensures.0 c.in_ok-len.ensures.1 refl _ c.write.ensures
