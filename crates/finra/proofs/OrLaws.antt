-- Flags joined by or, page after page.
-- Assumes nothing.
use Prim.Native.Nat.{ℕ, zero, suc, ◌+◌, ◌*◌, ◌/◌, ◌%◌, ◌≤◌, max}
use mathlib.Core.Path.{◌≡◌, refl, sym, ap, ◌∙◌}
use native.Mathlib.Omega.{arith}
use native.Mathlib.Nat.{max-le, zero-max, max-zero, suc-max-suc}
use lib.Arith.{bin_ind}
use lib.Bits.{bit_or, or_step, or_zero_r}
use Rattle.finra.specs.code.Flags.{or_from}

-- ---- flags joined, in any grouping

max_assoc : (x y z : ℕ) → max (max x y) z ≡ max x (max y z)
max_assoc zero y z = rw (zero-max y, zero-max (max y z))
max_assoc (suc x) zero z = rw (max-zero (suc x), zero-max z)
max_assoc (suc x) (suc y) zero = rw (max-zero (max (suc x) (suc y)), max-zero (suc y))
max_assoc (suc x) (suc y) (suc z) = rw (suc-max-suc x y, suc-max-suc y z, suc-max-suc (max x y) z, suc-max-suc x (max y z)) (ap suc (max_assoc x y z))

or_assoc : (a b c : ℕ) → bit_or (bit_or a b) c ≡ bit_or a (bit_or b c)
or_assoc = bin_ind (λ (n : ℕ). (b c : ℕ) → bit_or (bit_or n b) c ≡ bit_or n (bit_or b c)) (λ b c. refl) step
  where
    low : (a b : ℕ) → max (a % 2) (b % 2) ≤ 1
    low a b = max-le (omega arith) (omega arith)

    half : (a b : ℕ) → bit_or a b / 2 ≡ bit_or (a / 2) (b / 2)
    half a b = omega (arith, or_step a b, low a b)

    bit : (a b : ℕ) → bit_or a b % 2 ≡ max (a % 2) (b % 2)
    bit a b = omega (arith, or_step a b, low a b)

    step : (n : ℕ) → ((b c : ℕ) → bit_or (bit_or (n / 2) b) c ≡ bit_or (n / 2) (bit_or b c)) → (b c : ℕ) → bit_or (bit_or n b) c ≡ bit_or n (bit_or b c)
    step n ih b c =
        or_step (bit_or n b) c
        ∙ (λ i. bit_or (half n b i) (c / 2) * 2 + max (bit n b i) (c % 2))
        ∙ (λ i. ih (b / 2) (c / 2) i * 2 + max_assoc (n % 2) (b % 2) (c % 2) i)
        ∙ sym (or_step n (bit_or b c) ∙ (λ i. bit_or (n / 2) (half b c i) * 2 + max (n % 2) (bit b c i)))

-- as a loop joins them
pub or-again : (f : ℕ → ℕ) (acc i k : ℕ) → bit_or acc (or_from f i (suc k)) ≡ bit_or (bit_or acc (f i)) (or_from f (i + 1) k)
unfolding or_from
or-again f acc i k = sym (or_assoc acc (f i) (or_from f (i + 1) k))

pub or-end : (f : ℕ → ℕ) (acc i : ℕ) → bit_or acc (or_from f i 0) ≡ acc
unfolding or_from
or-end f acc i = or_zero_r acc
