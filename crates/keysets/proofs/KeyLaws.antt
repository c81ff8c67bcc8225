-- The numbers side by side, as loops over them go.
-- Assumes nothing.
use mathlib.Core.Path.{◌≡◌, sym, subst, ap, ◌∙◌}
use mathlib.Core.Bool.{Bool, cond}
use mathlib.Core.List.{List}
use Prim.Native.Nat.{ℕ, ◌+◌, ◌*◌, ◌^◌, ◌≤◌, ◌<◌}
use native.Mathlib.Omega.{arith}
use Rattle.field.specs.Low.{low}
use Rattle.lists.proofs.Tests.{Cut, equal, apart, cut}
use Rattle.keysets.specs.Sets.{NoneAbove, key_at, key_length}

pub none-start : (f : ℕ → ℕ) (r : ℕ) → NoneAbove f 0 r
none-start f r = λ i h. absurd (omega arith)

pub none-step : (f : ℕ → ℕ) (n m k r : ℕ) → NoneAbove f n m → k ≡ f n → (m ≤ r) × (k ≤ r) → NoneAbove f (n + 1) r
none-step f n m k r w e b = λ i h. go i h (cut i n)
  where
    go : (i : ℕ) → i < n + 1 → Cut i n → f i ≤ r
    go i h (equal d q) = subst (λ (x : ℕ). f x ≤ r) (sym q) (subst (λ (x : ℕ). x ≤ r) e b.1)
    go i h (apart d q) = omega (arith, w i (omega (arith, q)), b.0)

pub none_end : (f : ℕ → ℕ) (n i r : ℕ) → n ≤ i → NoneAbove f i r → NoneAbove f n r
none_end f n i r h w = λ j l. w j (omega arith)

-- what a place adds, for a test of its number
pub weight-at : (t : ℕ → Bool) (b : List ℕ) (at i x w : ℕ) → x ≡ low b (at + key_length * i) key_length → w ≡ cond (t x) (2 ^ i) 0 → w ≡ cond (t (key_at b at i)) (2 ^ i) 0
unfolding key_at
weight-at t b at i x w e d = d ∙ ap (λ (y : ℕ). cond (t y) (2 ^ i) 0) e
