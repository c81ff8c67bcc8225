use mathlib.Core.Path.{ap, subst, sym}
use Prim.Native.Nat.{ℕ, ◌-◌, ◌≤◌}
use Rattle.keysets.proofs.SetLaws.{member-le, member-lt, one_shl}
use Rattle.keysets.proofs.without.Goals as goal

pub overflow_shl-result : goal.overflow_shl-result
overflow_shl-result c = member-lt 32 c.args.set c.args.i c.ranges.set.fits c.requires

pub overflow_sub-result : goal.overflow_sub-result
overflow_sub-result c = subst (λ (x : ℕ). x ≤ c.args.set) (sym (one_shl c.args.i (overflow_shl-result c))) (member-le c.args.i c.args.set c.requires)

pub returns : goal.returns
returns c = ap (λ (x : ℕ). c.args.set - x) (one_shl c.args.i (overflow_shl-result c))
