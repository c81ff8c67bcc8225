use mathlib.Core.Path.{sym, ◌∙◌}
use native.Mathlib.Omega.{arith}
use Rattle.venue.proofs.WalkLaws.{lies-is, next-is, laid-fails, laid-again, laid_end, from_start}
use Rattle.venue.specs.Venue.{venue_first, laid_from}
use borrow.Author.Rules.{rules}
use Rattle.venue.proofs.is_laid.Goals as goal

pub loop-i-init : goal.loop-i-init
loop-i-init c = (search rules, (search rules, from_start (laid_from c.args.block.now venue_first) c.args.c))

pub returns-then-not-lies : goal.returns-then-not-lies
returns-then-not-lies c =
    laid-fails _ _ _ _ _ c.loop-i-test.true c.loop-i.invariant.1.1 (sym c.lies.ensures ∙ search rules)

pub loop-i-preserved : goal.loop-i-preserved
loop-i-preserved c =
    let b = c.args.block.now in
    let l = lies-is b c.loop-i.p (sym c.lies.ensures ∙ search rules) in (
      search rules,
      (
        omega (arith, c.next-p.ensures, next-is b c.loop-i.p l, l.inside),
        laid-again _ _ _ _ _ _ c.loop-i-test.true c.loop-i.invariant.1.1 (sym c.lies.ensures ∙ search rules) c.next-p.ensures,
      ),
    )

pub returns : goal.returns
returns c =
    let k = c in
    c.ends.ensures ∙ laid_end _ _ _ _ _ c.loop-i-test.false k.loop-i.invariant.1.1
