use native.Mathlib.Omega.{arith}
use Rattle.page.specs.Page.{quotes_in}
use Rattle.snapshot.proofs.ShownLaws.{few}
use Rattle.feed.proofs.LetterLaws.{counted, count-again, count-end, count_low}
use borrow.Author.Rules.{rules}
use Rattle.feed.proofs.count.Goals as goal

-- `feed::count` meets its contract.

pub loop-letter-init : goal.loop-letter-init
loop-letter-init c = (search rules, (search rules, (search rules, omega arith)))

pub loop-letter-preserved : goal.loop-letter-preserved
loop-letter-preserved c = (
  search rules,
  (
    search rules,
    (
      omega (arith, count_low _ _ c.is_shown.result (counted c.loop-letter.n _ c.is_shown.result c.from-n.ensures), c.loop-letter.invariant.0, c.loop-letter.invariant.1.1.0),
      count-again _ _ _ _ _ _ _ c.loop-letter-test.true c.loop-letter.invariant.1.1.1 c.is_shown.ensures (counted c.loop-letter.n _ c.is_shown.result c.from-n.ensures),
    ),
  ),
)

pub returns : goal.returns
returns c =
    let e = count-end (quotes_in c.args.page.now) _ _ _ _ c.loop-letter-test.false c.loop-letter.invariant.1.1.1 in
    (e, omega (arith, e, few (quotes_in c.args.page.now)))
