use native.Mathlib.Omega.{arith}
use Rattle.field.specs.Field.{Bytes}
use Rattle.keysets.proofs.FoldLaws.{lowest-member}
use Rattle.walk.proofs.GuessLaws.{guess-nobody, guess-alone}
use Rattle.walk.proofs.MarkLaws.{first-marked}
use Rattle.walk.proofs.KeyLaws.{set-small}
use Rattle.walk.proofs.odd_by.Goals as goal

-- `walk::odd_by` meets its contract.

pub returns-then-set-eq0 : goal.returns-then-set-eq0
returns-then-set-eq0 c =
    let b : Bytes c.args.page.now = λ i. (c.shared_slice_known-1.given i).fits in
    guess-nobody _ b _ _ _ _ _ c.requires.page_len.1 c.requires.set_value c.if-set-eq0.true c.if-bar-floor.false

pub lowest-i-requires : goal.lowest-i-requires
lowest-i-requires c = (omega (arith, c.if-set-eq0.false), set-small _ _ c.requires.set_value)

pub without-requires : goal.without-requires
without-requires c = lowest-member _ _ (omega (arith, c.if-set-eq0.false)) (set-small _ _ c.requires.set_value) c.lowest-i.ensures.0

pub returns : goal.returns
returns c =
    let b : Bytes c.args.page.now = λ i. (c.shared_slice_known-1.given i).fits in
    guess-alone _ b _ _ _ _ _ c.requires.page_len.1 c.requires.set_value _ _ (omega (arith, c.if-set-eq0.false)) c.lowest-i.ensures.0 c.without.ensures (omega (arith, c.if-without-ne0.false)) _ (first-marked _ _ _ _ _ _ c.marked.ensures c.odd_first-first.ensures) (λ z. omega (arith, c.if-first-eq0.false, z))
