use native.Mathlib.Omega.{arith}
use Rattle.text.proofs.FormLaws.{text-start, text-again, text-end}
use borrow.Author.Rules.{rules}
use Rattle.text.proofs.is_text.Goals as goal

pub loop-i-init : goal.loop-i-init
loop-i-init c = (search rules, (search rules, text-start c.args.s.now (omega arith) c.requires.1))

pub loop-i-preserved : goal.loop-i-preserved
loop-i-preserved c =
    let k = c in
    (search rules, (search rules, text-again k.args.s.now _ k.loop-i.faults k.loop-i.i c.fault-faults.result (omega arith) k.loop-i.invariant.1.1 c.fault-faults.ensures.0))

pub returns : goal.returns
returns c = text-end c.args.s.now _ c.loop-i.faults c.loop-i.i (omega arith) c.loop-i.invariant.1.1
