use mathlib.Core.Path.{◌≡◌}
use mathlib.Core.Bool.{Bool}
use mathlib.Core.List.{List}
use Prim.Native.Nat.{ℕ, ◌-◌, ◌≤◌}
use lib.Dec.{eqb}
use Rattle.keysets.specs.Sets.{key_at, key_count, set_of}
use Rattle.keysets.proofs.same.Given as goal

abbrev pub asked : ℕ → ℕ → Bool
asked k x = eqb x k

abbrev pub at_each : List ℕ → ℕ → ℕ → ℕ → Bool
at_each page at k i = asked k (key_at page at i)

abbrev pub invariant-loop-i : goal.invariant-loop-i
invariant-loop-i l = (l.i ≤ key_count) × (l.m ≡ set_of (at_each l.page l.at l.k) l.i)
