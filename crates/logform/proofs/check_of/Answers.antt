use Rattle.std.proofs.Common.{◌≡◌, ◌+◌, ◌*◌, ◌-◌, ℕ, refl, ap, ◌∙◌, rules, arith, length, take, drop, ◌/◌}
use Rattle.logform.specs.Log.{mixed, check_from, check_of}
use Rattle.logform.proofs.LogLaws.{word-again, byte-again, check-end}
use Rattle.logform.proofs.check_of.Goals as goal

pub loop-i-init : goal.loop-i-init
unfolding check_of
loop-i-init c = (search rules, refl)

pub loop-i-preserved : goal.loop-i-preserved
loop-i-preserved c =
    let at : 4 * (c.loop-i.i + 1) ≡ 4 * c.loop-i.i + 4 = omega arith in
    (search rules, ap (λ (k : ℕ). check_from c.mix-h.result (drop k c.args.s.now)) at ∙ word-again c.args.s.now c.loop-i.h c.mix-h.result (4 * c.loop-i.i) _ c.loop-i.invariant.1 (omega arith) (c.mix-h.ensures ∙ ap (mixed _) c.get32.ensures))

pub loop-x-preserved : goal.loop-x-preserved
loop-x-preserved c =
    let rest = take (length c.args.s.now - 4 * (length c.args.s.now / 4)) (drop (4 * (length c.args.s.now / 4)) c.args.s.now) in
    byte-again rest c.loop-x.h c.mix-h-in-loop-x.result c.loop-x.x-index _ c.loop-x.invariant (search rules) (search rules) (c.mix-h-in-loop-x.ensures ∙ ap (mixed _) c.from.ensures)

pub returns : goal.returns
returns c =
    let rest = take (length c.args.s.now - 4 * (length c.args.s.now / 4)) (drop (4 * (length c.args.s.now / 4)) c.args.s.now) in
    check-end rest c.loop-x.h c.loop-x.x-index _ c.loop-x.invariant (search rules)
