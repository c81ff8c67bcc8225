use mathlib.Core.Path.{◌≡◌, sym, ap, subst, ◌∙◌}
use Prim.Native.Nat.{ℕ, ◌+◌, ◌*◌, ◌%◌, ◌^◌, ◌<◌}
use native.Mathlib.Omega.{arith}
use mir.Facts.{Fits-bits}
use Rattle.keysets.specs.Sets.{key_count, with_member}
use Rattle.keysets.proofs.SetLaws.{one_shl, with-lt, with-new, with-old}
use Rattle.keysets.proofs.with_member.Goals as goal

-- the sum is the set with the member in it

pub overflow_add-result : goal.overflow_add-result
overflow_add-result c =
    let sum_is : let a = c.args in a.set + (1 * 2 ^ a.i) % 2 ^ 32 ≡ with_member a.set a.i =
    let a = c.args in ap (λ (x : ℕ). a.set + x) (one_shl a.i (omega arith)) ∙ with-new a.set a.i c.if-set-i-eq0.true in
    let bound : with_member c.args.set c.args.i < 2 ^ key_count =
    with-lt key_count c.args.set c.args.i c.requires.0 c.requires.1 in
    Fits-bits 32 tt (omega (arith, sum_is, bound))

pub returns-then-set-i-eq0 : goal.returns-then-set-i-eq0
returns-then-set-i-eq0 c =
    let sum_is : let a = c.args in a.set + (1 * 2 ^ a.i) % 2 ^ 32 ≡ with_member a.set a.i =
    let a = c.args in ap (λ (x : ℕ). a.set + x) (one_shl a.i (omega arith)) ∙ with-new a.set a.i c.if-set-i-eq0.true in
    let bound : with_member c.args.set c.args.i < 2 ^ key_count =
    with-lt key_count c.args.set c.args.i c.requires.0 c.requires.1 in
    (sum_is, subst (λ (x : ℕ). x < 2 ^ key_count) (sym (sum_is)) (bound))

pub returns : goal.returns
returns c = (with-old c.args.set c.args.i c.if-set-i-eq0.false, c.requires.0)
