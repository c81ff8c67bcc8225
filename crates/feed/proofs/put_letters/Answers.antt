use mathlib.Core.Path.{refl, ◌∙◌}
use native.Mathlib.Omega.{arith}
use Rattle.feed.proofs.LetterLaws.{room-again, room-one, letters-again, letters-end}
use borrow.Author.Rules.{rules}
use Rattle.feed.proofs.put_letters.Goals as goal

-- `feed::put_letters` meets its contract.

pub loop-letter-init : goal.loop-letter-init
loop-letter-init c = (search rules, (search rules, (refl, (search rules, refl))))

pub put_letter-end-requires : goal.put_letter-end-requires
put_letter-end-requires c = (
  c.requires.0,
  (
    omega (arith, c.requires.1.0, c.loop-letter.invariant.0),
    (
      omega (arith, c.requires.1.1.1.0, c.loop-letter-test.true),
      omega (arith, c.loop-letter.invariant.1.1.0, room-one c.args.symbol.now c.requires.0.symbol c.args.page.now _ _ c.loop-letter-test.true _ _ c.loop-letter.invariant.1.1.1.0),
    ),
  ),
)

pub loop-letter-preserved : goal.loop-letter-preserved
loop-letter-preserved c = (
  search rules,
  (
    search rules,
    (
      c.put_letter-end.auto.output ∙ c.loop-letter.invariant.1.1.0,
      (
        room-again c.args.symbol.now c.requires.0.symbol c.args.page.now _ _ c.loop-letter-test.true _ _ _ c.loop-letter.invariant.1.1.1.0 c.put_letter-end.ensures.1,
        letters-again c.args.symbol.now c.requires.0.symbol c.args.page.now _ _ c.loop-letter-test.true _ _ _ _ _ c.loop-letter.invariant.1.1.1.1 c.put_letter-end.ensures.0 c.put_letter-end.ensures.1,
      ),
    ),
  ),
)

pub returns : goal.returns
returns c =
    letters-end c.args.symbol.now c.requires.0.symbol c.args.page.now _ _ _ _ _ c.loop-letter-test.false c.loop-letter.invariant.1.1.1.1
