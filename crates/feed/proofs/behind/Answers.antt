use Prim.Native.Nat.{◌+◌}
use mathlib.Core.Path.{ap}
use native.Mathlib.Omega.{arith}
use lib.ListN.{length}
use Rattle.field.specs.Ascii.{Z}
use Rattle.page.specs.Page.{quotes_in}
use Rattle.feed.proofs.LetterLaws.{counted, count-again, count-end, count_low, shown-end}
use borrow.Author.Rules.{rules}
use Rattle.feed.proofs.behind.Goals as goal

-- `feed::behind` meets its contract.

pub loop-letter-init : goal.loop-letter-init
loop-letter-init c = (search rules, (search rules, (search rules, (search rules, omega arith))))

pub returns-then-seen-n : goal.returns-then-seen-n
returns-then-seen-n c =
    (c.loop-letter.invariant.0, (c.loop-letter.invariant.1.0, omega (arith, c.if-seen-n.true, c.loop-letter.invariant.1.1.1.1)))

pub loop-letter-preserved : goal.loop-letter-preserved
loop-letter-preserved c = (
  search rules,
  (
    search rules,
    (
      omega (arith, count_low _ _ c.is_shown.result (counted c.loop-letter.seen _ c.is_shown.result c.from-seen.ensures), c.loop-letter.invariant.0, c.loop-letter.invariant.1.1.0),
      (
        omega (arith, count_low _ _ c.is_shown.result (counted c.loop-letter.seen _ c.is_shown.result c.from-seen.ensures), c.if-seen-n.false, c.loop-letter.invariant.1.1.1.0),
        count-again _ _ _ _ _ _ _ c.loop-letter-test.true c.loop-letter.invariant.1.1.1.1 c.is_shown.ensures (counted c.loop-letter.seen _ c.is_shown.result c.from-seen.ensures),
      ),
    ),
  ),
)

pub returns : goal.returns
returns c =
    let e = count-end (quotes_in c.args.page.now) _ _ _ _ c.loop-letter-test.false c.loop-letter.invariant.1.1.1.1 in
    let n = ap length (shown-end (quotes_in c.args.page.now) (Z + 1) (Z + 1) (omega arith)) in
    (omega arith, (omega arith, omega (arith, e, n, c.loop-letter.invariant.1.1.1.0, c.requires.1)))
