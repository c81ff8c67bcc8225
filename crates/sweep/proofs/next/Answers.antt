use Prim.Native.Nat.{◌+◌}
use mathlib.Core.Path.{refl}
use native.Mathlib.Omega.{arith}
use Rattle.field.specs.Ascii.{Z}
use Rattle.sweep.proofs.NextLaws.{best-again, best-end, next-chosen, next-found}
use borrow.Author.Rules.{rules}
use Rattle.sweep.proofs.next.Goals as goal

-- `sweep::next` meets its contract.

pub loop-letter-init : goal.loop-letter-init
loop-letter-init c = (search rules, search rules, refl)

pub loop-letter-preserved : goal.loop-letter-preserved
loop-letter-preserved c = (
  search rules,
  search rules,
  best-again _ _ (Z + 1) _ _ _ _ (omega (arith, c.loop-letter-test.true)) c.loop-letter.invariant.2 (next-chosen _ _ _ _ _ _ _ c.letter_candidate-x.ensures c.with_next-best.ensures),
)

pub returns : goal.returns
returns c =
    next-found _ (λ i. (c.shared_slice_known-1.given i).fits) _ _ _ (best-end _ _ (Z + 1) _ _ _ (omega (arith, c.loop-letter-test.false)) c.loop-letter.invariant.2)
