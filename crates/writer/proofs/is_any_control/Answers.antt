use mathlib.Core.Path.{refl, sym, ◌∙◌}
use native.Mathlib.Omega.{arith}
use Rattle.lists.proofs.Searches.{sum_step}
use Rattle.writer.proofs.GoodLaws.{good-is, first-long, rest-long}
use Rattle.writer.proofs.LoopLaws.{control-found, control-not, control-end}
use Rattle.writer.proofs.is_any_control.Goals as goal

-- `writer::is_any_control` meets its contract.

pub loop-n-init : goal.loop-n-init
loop-n-init c =
    let g = good-is _ _ c.requires in
    (omega (arith, g.adds), (g.long, refl))

-- a message of 20 bytes or more starts at `at`

pub bounds-messages-first : goal.bounds-messages-first
bounds-messages-first c =
    let l = c.loop-n in
    omega (arith, l.invariant.0, sum_step c.args.lengths.now l.n-index (omega arith), first-long c.args.lengths.now l.n-index (omega arith) l.invariant.1.0)

pub returns-then-messages-first-eq67 : goal.returns-then-messages-first-eq67
returns-then-messages-first-eq67 c =
    let l = c.loop-n in
    control-found c.args.lengths.now c.args.messages.now _ l.n-index l.first (omega arith) (first-long c.args.lengths.now l.n-index (omega arith) l.invariant.1.0) l.invariant.1.1 c.if-messages-first-eq67.true

pub loop-n-preserved : goal.loop-n-preserved
loop-n-preserved c =
    let l = c.loop-n in
    let ns = c.args.lengths.now in (
      omega (arith, l.invariant.0, sum_step ns l.n-index (omega arith)),
      (
        rest-long ns l.n-index (omega arith) l.invariant.1.0,
        control-not ns c.args.messages.now _ l.n-index l.first (omega arith) (first-long ns l.n-index (omega arith) l.invariant.1.0) l.invariant.1.1 c.if-messages-first-eq67.false,
      ),
    )

pub returns : goal.returns
returns c =
    let l = c.loop-n in
    sym (control-end c.args.lengths.now c.args.messages.now l.n-index l.first (omega arith)) ∙ l.invariant.1.1
