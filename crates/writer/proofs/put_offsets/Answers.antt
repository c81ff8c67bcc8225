use mathlib.Core.Path.{refl, ◌∙◌}
use native.Mathlib.Omega.{arith}
use Rattle.lists.proofs.Searches.{sum_step}
use Rattle.writer.proofs.LoopLaws.{offsets-again, offsets-end, length-put}
use borrow.Author.Rules.{rules}
use Rattle.writer.proofs.put_offsets.Goals as goal

-- `writer::put_offsets` meets its contract.

pub loop-i-init : goal.loop-i-init
loop-i-init c = (search rules, (search rules, (refl, (search rules, refl))))

pub loop-i-preserved : goal.loop-i-preserved
loop-i-preserved c =
    let p = c in
    let k = p in
    let s = k in (
      search rules,
      (
        search rules,
        (
          length-put _ _ _ _ p.put16.ensures (omega arith) ∙ k.loop-i.invariant.1.1.0,
          (
            omega (arith, k.loop-i.invariant.1.1.1.0, sum_step s.args.lengths.now k.loop-i.i (omega arith)),
            offsets-again _ _ _ _ _ _ (omega arith) k.loop-i.invariant.1.1.1.1 p.put16.ensures,
          ),
        ),
      ),
    )

pub returns : goal.returns
returns c = offsets-end _ _ _ _ _ (omega arith) (omega arith) c.loop-i.invariant.1.1.1.1
