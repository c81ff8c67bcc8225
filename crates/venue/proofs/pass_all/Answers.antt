use Prim.Native.Nat.{ℕ}
use mathlib.Core.Path.{sym, ap, ◌∙◌}
use native.Mathlib.Omega.{arith}
use Rattle.venue.proofs.BlockLaws.{sound-is}
use Rattle.venue.proofs.WalkLaws.{next-is, lent_length, here, there, from_start, all-fails, all-again, all-end}
use Rattle.venue.specs.code.Each.{all_by}
use Rattle.venue.specs.Venue.{venue_first, laid_from, venue_from}
use borrow.Author.Rules.{rules}
use Rattle.venue.proofs.pass_all.Goals as goal

pub loop-i-init : goal.loop-i-init
loop-i-init g c =
    let b = c.args.block.now in
    let s = sound-is b c.requires.good in
    let n = from_start (λ k. k) c.count-c.result ∙ c.count-c.ensures.0 in (
      search rules,
      (
        ap (laid_from b venue_first) n ∙ s.laid,
        λ rule d. ap (λ (k : ℕ). all_by rule 0 (venue_from b venue_first k)) n,
      ),
    )

pub slice_bounds-test-count : goal.slice_bounds-test-count
slice_bounds-test-count g c =
    let stands = here _ _ _ _ c.loop-i-test.true c.loop-i.invariant.1.0 in
    omega (arith, c.next-e.ensures ∙ next-is _ _ stands)

pub slice_bounds-test-start : goal.slice_bounds-test-start
slice_bounds-test-start g c =
    let stands = here _ _ _ _ c.loop-i-test.true c.loop-i.invariant.1.0 in
    omega (arith, c.next-e.ensures ∙ next-is _ _ stands)

pub slice_bounds-test-end : goal.slice_bounds-test-end
slice_bounds-test-end g c =
    let stands = here _ _ _ _ c.loop-i-test.true c.loop-i.invariant.1.0 in
    omega (arith, c.next-e.ensures ∙ next-is _ _ stands, stands.inside)

pub test-requires : goal.test-requires
test-requires g c =
    let stands = here _ _ _ _ c.loop-i-test.true c.loop-i.invariant.1.0 in
    c.requires.calls _ _ (omega (arith, c.loop-i-test.true, c.count-c.ensures.1)) (omega (arith, lent_length _ _ _ stands c.next-e.ensures, stands.long))

pub returns-then-not-test : goal.returns-then-not-test
returns-then-not-test g c rule d =
    all-fails _ _ _ _ rule _ (c.loop-i.invariant.1.1 rule d) _ c.loop-i-test.true c.loop-i.invariant.1.0 c.next-e.ensures (sym (d _ _ _ c.test.ensures) ∙ search rules)

pub loop-i-preserved : goal.loop-i-preserved
loop-i-preserved g c = (
  search rules,
  (
    there _ _ _ _ _ c.loop-i-test.true c.loop-i.invariant.1.0 c.next-e.ensures,
    λ rule d. all-again _ _ _ _ rule _ (c.loop-i.invariant.1.1 rule d) _ c.loop-i-test.true c.loop-i.invariant.1.0 c.next-e.ensures (sym (d _ _ _ c.test.ensures) ∙ search rules),
  ),
)

pub returns : goal.returns
returns g c rule d = all-end _ _ _ _ rule _ (c.loop-i.invariant.1.1 rule d) c.loop-i-test.false
