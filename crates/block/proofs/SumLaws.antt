-- The checksum: the sum of all bytes less those of its own field.
-- Assumes nothing.
use Rattle.std.proofs.Common.{◌≡◌, ℕ, zero, suc, ◌+◌, ◌-◌, ◌%◌, ◌≤◌, List, [], ◌∷◌, length, get_or, set, refl, ap, arith, get_or-set_other}
use borrow.Author.Tests.{eqb-false}
use Rattle.field.specs.Field.{field}
use Rattle.field.proofs.Laws.{field-one}
use Rattle.lists.specs.Lists.{sum}
use Rattle.block.specs.Block.{checksum_of}

-- one byte taken as zero
sum-zero : (s : List ℕ) (i : ℕ) → sum (set s i 0) + get_or s i 0 ≡ sum s
unfolding sum
sum-zero [] i = refl
sum-zero (x ∷ xs) zero = omega arith
sum-zero (x ∷ xs) (suc i) = omega (arith, sum-zero xs i)

-- bytes 8 and 9 taken as zero
pub sum-two : (s : List ℕ) → sum (set (set s 8 0) 9 0) + get_or s 9 0 + get_or s 8 0 ≡ sum s
sum-two s =
    let o : get_or (set s 8 0) 9 0 ≡ get_or s 9 0 = get_or-set_other s 8 9 0 0 (eqb-false 9 8 refl) in
    omega (arith, sum-zero (set s 8 0) 9, sum-zero s 8)

-- the code's way: the sum of all bytes, less the two
module _ (b : List ℕ) (total high low : ℕ) (t : total ≡ sum b) (h : high ≡ field b 8 1) (l : low ≡ field b 9 1) (long : 10 ≤ length b) where
  own : total ≡ sum (set (set b 8 0) 9 0) + (high + low)
  own = omega (arith, sum-two b, field-one b 8 (omega arith), field-one b 9 (omega arith))

  pub own-inside : high + low ≤ total
  own-inside = omega (arith, own)

  pub checksum-is : (total - (high + low)) % 65536 ≡ checksum_of b
  unfolding checksum_of
  checksum-is = let e : total - (high + low) ≡ sum (set (set b 8 0) 9 0) = omega (arith, own) in ap (λ (n : ℕ). n % 65536) e
