-- Shares and charges of the lines: what one charge more does to the spare, and how the sums stand to each other.
-- Assumes nothing.
use Prim.Native.Nat.{ℕ, zero, suc, ◌+◌, ◌-◌, ◌≤◌, ◌<◌}
use mathlib.Core.Path.{◌≡◌, refl}
use mathlib.Core.List.{List, [], ◌∷◌}
use native.Mathlib.Omega.{arith}
use lib.ListN.{length, replicate, set}
use Rattle.lists.specs.Lists.{at, sum}
use Rattle.allowance.specs.Allowance.{spare_charged}

-- one block more of line i
pub spare-step : (ss cs : List ℕ) (i : ℕ) → i < length ss → length cs ≡ length ss
    → spare_charged ss (set cs i (at cs i + 1)) + (at cs i - at ss i) ≡ spare_charged ss cs + (at cs i + 1 - at ss i)
unfolding spare_charged
spare-step [] cs i h e = absurd (omega arith)
spare-step (s ∷ ss) [] i h e = absurd (omega arith)
spare-step (s ∷ ss) (c ∷ cs) zero h e = omega arith
spare-step (s ∷ ss) (c ∷ cs) (suc i) h e = let g : i < length ss = omega arith in let f : length cs ≡ length ss = omega arith in omega (arith, spare-step ss cs i g f)

-- what one line has of the spare is in the sum
pub line-inside : (ss cs : List ℕ) (i : ℕ) → i < length ss → length cs ≡ length ss → at cs i - at ss i ≤ spare_charged ss cs
unfolding spare_charged
line-inside [] cs i h e = absurd (omega arith)
line-inside (s ∷ ss) [] i h e = absurd (omega arith)
line-inside (s ∷ ss) (c ∷ cs) zero h e = omega arith
line-inside (s ∷ ss) (c ∷ cs) (suc i) h e = let g : i < length ss = omega arith in let f : length cs ≡ length ss = omega arith in omega (arith, line-inside ss cs i g f)

pub share-inside : (ss : List ℕ) (i : ℕ) → at ss i ≤ sum ss
unfolding sum
share-inside [] i = omega arith
share-inside (s ∷ ss) zero = omega arith
share-inside (s ∷ ss) (suc i) = omega (arith, share-inside ss i)

-- all that is charged is charged to a share or to the spare
pub charges-inside : (ss cs : List ℕ) → length cs ≡ length ss → sum cs ≤ sum ss + spare_charged ss cs
unfolding sum spare_charged
charges-inside [] [] e = omega arith
charges-inside [] (c ∷ cs) e = absurd (omega arith)
charges-inside (s ∷ ss) [] e = absurd (omega arith)
charges-inside (s ∷ ss) (c ∷ cs) e = let f : length cs ≡ length ss = omega arith in omega (arith, charges-inside ss cs f)

-- nothing is charged when a tick starts
pub none-charged : (ss : List ℕ) (n : ℕ) → spare_charged ss (replicate n 0) ≡ 0
unfolding spare_charged
none-charged [] n = refl
none-charged (s ∷ ss) zero = refl
none-charged (s ∷ ss) (suc n) = omega (arith, none-charged ss n)
