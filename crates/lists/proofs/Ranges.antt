-- Lists made by a function on a range of numbers.
-- Assumes nothing.
use Prim.Native.Nat.{ℕ, zero, suc, ◌+◌, ◌≤◌, ◌<◌}
use mathlib.Core.Path.{◌≡◌, refl}
use mathlib.Core.List.{◌∷◌, map}
use native.Mathlib.Omega.{arith}
use Rattle.lists.specs.Lists.{range}

-- two functions that agree on the range
module _ {A : Type 0} (f g : ℕ → A) where
  pub map_range : (n k : ℕ) → ((j : ℕ) → k ≤ j → j < k + n → g j ≡ f j) → map g (range n k) ≡ map f (range n k)
  map_range zero k q = refl
  map_range (suc n) k q =
      let x : g k ≡ f k = q k (omega arith) (omega arith) in
      let y : map g (range n (suc k)) ≡ map f (range n (suc k)) = map_range n (suc k) (λ j l h. q j (omega arith) (omega arith)) in
      λ i. x i ∷ y i
