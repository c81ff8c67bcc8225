-- Numbers of four bytes side by side; sets of places as numbers, with place i in bit i.
-- Assumes nothing.
use Rattle.std.specs.Prelude.{ℕ, zero, suc, ◌+◌, ◌*◌, ◌/◌, ◌%◌, ◌^◌, ◌≤◌, ◌<◌, Bool, cond, List, eqb}
use Rattle.std.specs.Int.Count.{count_trailing_zeros}
use Rattle.field.specs.Low.{low}

-- ---- the numbers

-- one for each letter
abbrev pub key_count : ℕ
key_count = 26

abbrev pub key_length : ℕ
key_length = 4

abbrev pub keys_length : ℕ
keys_length = key_count * key_length

-- number i of those that stand from at on
unfoldable pub key_at : List ℕ → ℕ → ℕ → ℕ
key_at b at i = low b (at + key_length * i) key_length

-- none of the first n is above r
abbrev pub NoneAbove : (ℕ → ℕ) → ℕ → ℕ → Type 0
NoneAbove f n r = (i : ℕ) → i < n → f i ≤ r

-- ---- sets

-- i is a member
unfoldable pub has : ℕ → ℕ → Bool
has m i = eqb (m / 2 ^ i % 2) 1

-- those below n at which a test holds
unfoldable pub set_of : (ℕ → Bool) → ℕ → ℕ
set_of p zero = 0
set_of p (suc n) = set_of p n + cond (p n) (2 ^ n) 0

unfoldable pub with_member : ℕ → ℕ → ℕ
unfolding has
with_member m i = cond (has m i) m (m + 2 ^ i)

-- the lowest member of a set of numbers below 32 that has one
unfoldable pub lowest_of : ℕ → ℕ
lowest_of m = count_trailing_zeros 32 m

-- g over the members among the k numbers from i on, the lowest first
unfoldable pub fold_set : {S : Type 0} → (ℕ → S → S) → (ℕ → Bool) → ℕ → ℕ → S → S
fold_set g m i zero a = a
fold_set g m i (suc k) a = fold_set g m (i + 1) k (cond (m i) (g i a) a)
