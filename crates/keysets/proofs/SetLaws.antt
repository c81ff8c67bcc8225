-- Sets as numbers: their members, one put in or taken out, the lowest.
-- Assumes nothing.
use mathlib.Core.Path.{◌≡◌, refl, sym, ap, subst, ◌∙◌}
use mathlib.Core.Bool.{Bool, true, false, cond}
use Prim.Native.Nat.{ℕ, zero, suc, ◌+◌, ◌-◌, ◌*◌, ◌/◌, ◌%◌, ◌^◌, ◌≤◌, ◌<◌}
use native.Mathlib.Omega.{arith}
use native.Mathlib.Numerals.{add-one, one-add}
use native.Mathlib.Nat.{pow-suc, div-one, zero-div, lt_of_not-le, one-mul}
use lib.Bits.{block_half, block_odd}
use lib.Count.{count_trailing_zeros, under}
use lib.Dec.{eqb, lit<, eqb-zero-suc, eqb-suc-zero, eqb-suc-suc}
use lib.Pow.{high, pow-lt, pow_mono, shl_exact, shr-shr}
use borrow.Author.Tests.{eqb-true, eqb-false}
use Rattle.lists.proofs.Tests.{Cut, equal, apart, cut}
use Rattle.keysets.specs.Sets.{has, key_count, lowest_of, set_of, with_member}

-- `1 << i` at 32 bits is 2 ^ i
pub one_shl : (i : ℕ) → i < 32 → (1 * 2 ^ i) % 2 ^ 32 ≡ 2 ^ i
one_shl i h = shl_exact {a = 1} 1 i 32 (lit< tt) (subst (λ (x : ℕ). x ≤ 32) (sym (one-add i)) h) ∙ one-mul (2 ^ i)

-- ---- members, bit by bit

has-zero : (m : ℕ) → has m 0 ≡ eqb (m % 2) 1
unfolding has
has-zero m = ap (λ (x : ℕ). eqb (x % 2) 1) (div-one m)

has-suc : (m i : ℕ) → has m (suc i) ≡ has (m / 2) i
unfolding has
has-suc m i = ap (λ (x : ℕ). eqb (m / 2 ^ x % 2) 1) (sym (one-add i)) ∙ ap (λ (x : ℕ). eqb (x % 2) 1) (sym (shr-shr m 1 i))

pub has-none : (i : ℕ) → has 0 i ≡ false
unfolding has
has-none i = ap (λ (x : ℕ). eqb (x % 2) 1) (zero-div (2 ^ i))

-- bits from n on do not matter below n
has-below : (i n a r : ℕ) → i < n → has (a * 2 ^ n + r) i ≡ has r i
has-below zero zero a r h = absurd (omega arith)
has-below zero (suc n) a r h = has-zero (a * 2 ^ suc n + r) ∙ ap (λ (x : ℕ). eqb x 1) (block_odd a n r) ∙ sym (has-zero r)
has-below (suc i) zero a r h = absurd (omega arith)
has-below (suc i) (suc n) a r h =
    has-suc (a * 2 ^ suc n + r) i ∙ ap (λ (x : ℕ). has x i) (block_half a n r) ∙ has-below i n a (r / 2) (omega arith) ∙ sym (has-suc r i)

-- bits below n do not matter from n on
has-at : (n a r : ℕ) → r < 2 ^ n → has (a * 2 ^ n + r) n ≡ eqb (a % 2) 1
unfolding has
has-at n a r h = ap (λ (x : ℕ). eqb (x % 2) 1) (high a n h)

-- a member's bit is in the number
pub member-le : (i m : ℕ) → has m i ≡ true → 2 ^ i ≤ m
member-le zero m e = let b : m % 2 ≡ 1 = eqb-true (m % 2) 1 (sym (has-zero m) ∙ e) in omega arith
member-le (suc i) m e =
    let b : 2 ^ i ≤ m / 2 = member-le i (m / 2) (sym (has-suc m i) ∙ e) in
    omega (arith, pow-suc 2 i)

-- a member of a set of numbers below n is below n
pub member-lt : (n m i : ℕ) → m < 2 ^ n → has m i ≡ true → i < n
member-lt n m i h e = lt_of_not-le (λ (l : n ≤ i). omega (arith, member-le i m e, pow_mono l))

-- ---- the set of those at which a test holds

pub set-lt : (p : ℕ → Bool) (n : ℕ) → set_of p n < 2 ^ n
unfolding set_of
set-lt p zero = lit< tt
set-lt p (suc n) = go (p n) (set-lt p n)
  where
    go : (t : Bool) → set_of p n < 2 ^ n → set_of p n + cond t (2 ^ n) 0 < 2 ^ suc n
    go true h = omega (arith, pow-suc 2 n)
    go false h = omega (arith, pow-suc 2 n)

-- one more place, as a loop adds it
pub set-step : (p : ℕ → Bool) (n m w : ℕ) → m ≡ set_of p n → w ≡ cond (p n) (2 ^ n) 0 → m + w ≡ set_of p (n + 1)
unfolding set_of
set-step p n m w e d = subst (λ (k : ℕ). m + w ≡ set_of p k) (sym (add-one n)) (rw (e, d))

-- no sum on the way is beyond 32 bits
pub set-fits : (p : ℕ → Bool) (n m w : ℕ) → n < key_count → m ≡ set_of p n → w ≡ cond (p n) (2 ^ n) 0 → m + w < 2 ^ 32
set-fits p n m w h e d = omega (arith, set-step p n m w e d, set-lt p (n + 1), pow_mono {i = n + 1} {j = 26} (omega arith))

pub set-end : (p : ℕ → Bool) (n i m : ℕ) → i ≤ n → n ≤ i → m ≡ set_of p i → m ≡ set_of p n
set-end p n i m l h e = let q : i ≡ n = omega arith in e ∙ ap (set_of p) q

pub set-has : (p : ℕ → Bool) (n i : ℕ) → i < n → has (set_of p n) i ≡ p i
unfolding set_of
set-has p zero i h = absurd (omega arith)
set-has p (suc n) i h = go (cut i n) (p n) refl (set-lt p n) (λ k. set-has p n i k)
  where
    front : (t : Bool) → set_of p n + cond t (2 ^ n) 0 ≡ cond t 1 0 * 2 ^ n + set_of p n
    front true = omega arith
    front false = omega arith

    at_n : (t : Bool) → set_of p n < 2 ^ n → has (cond t 1 0 * 2 ^ n + set_of p n) n ≡ t
    at_n true l = has-at n 1 (set_of p n) l
    at_n false l = has-at n 0 (set_of p n) l

    go : Cut i n → (t : Bool) → p n ≡ t → set_of p n < 2 ^ n → (i < n → has (set_of p n) i ≡ p i) → has (set_of p n + cond t (2 ^ n) 0) i ≡ p i
    go (equal d q) t e l down = rw (q, front t) (at_n t l ∙ sym e)
    go (apart d q) t e l down = let k : i < n = omega (arith, q) in rw (front t) (has-below i n (cond t 1 0) (set_of p n) k ∙ down k)

-- ---- one put in, one taken out

not-member : (m : ℕ) → eqb (m % 2) 1 ≡ false → m % 2 ≡ 0
not-member m e = let q : m % 2 ≡ 1 → ⊥ = eqb-false (m % 2) 1 e in omega (arith, q)

pub put_in : (i m j : ℕ) → has m i ≡ false → has (m + 2 ^ i) j ≡ cond (eqb j i) true (has m j)
put_in zero m zero e =
    let b : (m + 1) % 2 ≡ 1 = omega (arith, not-member m (sym (has-zero m) ∙ e)) in
    has-zero (m + 1) ∙ ap (λ (x : ℕ). eqb x 1) b
put_in zero m (suc j) e =
    let b : (m + 1) / 2 ≡ m / 2 = omega (arith, not-member m (sym (has-zero m) ∙ e)) in
    has-suc (m + 1) j ∙ ap (λ (x : ℕ). has x j) b ∙ sym (has-suc m j) ∙ ap (λ (t : Bool). cond t true (has m (suc j))) (sym (eqb-suc-zero j))
put_in (suc i) m zero e =
    let b : (m + 2 ^ suc i) % 2 ≡ m % 2 = omega (arith, pow-suc 2 i) in
    has-zero (m + 2 ^ suc i) ∙ ap (λ (x : ℕ). eqb x 1) b ∙ sym (has-zero m) ∙ ap (λ (t : Bool). cond t true (has m 0)) (sym (eqb-zero-suc i))
put_in (suc i) m (suc j) e =
    let b : (m + 2 ^ suc i) / 2 ≡ m / 2 + 2 ^ i = omega (arith, pow-suc 2 i) in
    has-suc (m + 2 ^ suc i) j ∙ ap (λ (x : ℕ). has x j) b ∙ put_in i (m / 2) j (sym (has-suc m i) ∙ e)
    ∙ ap (λ (t : Bool). cond t true (has (m / 2) j)) (sym (eqb-suc-suc j i))
    ∙ ap (λ (t : Bool). cond (eqb (suc j) (suc i)) true t) (sym (has-suc m j))

pub take_out : (i m j : ℕ) → has m i ≡ true → has (m - 2 ^ i) j ≡ cond (eqb j i) false (has m j)
take_out zero m zero e =
    let b : (m - 1) % 2 ≡ 0 = omega (arith, eqb-true (m % 2) 1 (sym (has-zero m) ∙ e)) in
    has-zero (m - 1) ∙ ap (λ (x : ℕ). eqb x 1) b
take_out zero m (suc j) e =
    let b : (m - 1) / 2 ≡ m / 2 = omega (arith, eqb-true (m % 2) 1 (sym (has-zero m) ∙ e)) in
    has-suc (m - 1) j ∙ ap (λ (x : ℕ). has x j) b ∙ sym (has-suc m j) ∙ ap (λ (t : Bool). cond t false (has m (suc j))) (sym (eqb-suc-zero j))
take_out (suc i) m zero e =
    let b : (m - 2 ^ suc i) % 2 ≡ m % 2 = omega (arith, pow-suc 2 i, member-le (suc i) m e) in
    has-zero (m - 2 ^ suc i) ∙ ap (λ (x : ℕ). eqb x 1) b ∙ sym (has-zero m) ∙ ap (λ (t : Bool). cond t false (has m 0)) (sym (eqb-zero-suc i))
take_out (suc i) m (suc j) e =
    let b : (m - 2 ^ suc i) / 2 ≡ m / 2 - 2 ^ i = omega (arith, pow-suc 2 i, member-le (suc i) m e) in
    has-suc (m - 2 ^ suc i) j ∙ ap (λ (x : ℕ). has x j) b ∙ take_out i (m / 2) j (sym (has-suc m i) ∙ e)
    ∙ ap (λ (t : Bool). cond t false (has (m / 2) j)) (sym (eqb-suc-suc j i))
    ∙ ap (λ (t : Bool). cond (eqb (suc j) (suc i)) false t) (sym (has-suc m j))

-- a set below 2 ^ n stays below it with a number below n
put-lt : (n i m : ℕ) → m < 2 ^ n → i < n → has m i ≡ false → m + 2 ^ i < 2 ^ n
put-lt zero i m h l e = absurd (omega arith)
put-lt (suc n) zero m h l e = omega (arith, pow-suc 2 n, not-member m (sym (has-zero m) ∙ e))
put-lt (suc n) (suc i) m h l e =
    let b : m / 2 + 2 ^ i < 2 ^ n = put-lt n i (m / 2) (omega (arith, pow-suc 2 n)) (omega arith) (sym (has-suc m i) ∙ e) in
    omega (arith, pow-suc 2 n, pow-suc 2 i)

pub with-new : (m i : ℕ) → m / 2 ^ i % 2 ≡ 0 → m + 2 ^ i ≡ with_member m i
unfolding with_member has
with-new m i e = rw e

pub with-old : (m i : ℕ) → (m / 2 ^ i % 2 ≡ 0 → ⊥) → m ≡ with_member m i
unfolding with_member has
with-old m i e = let b : m / 2 ^ i % 2 ≡ 1 = omega (arith, e) in rw b

pub with-lt : (n m i : ℕ) → m < 2 ^ n → i < n → with_member m i < 2 ^ n
unfolding with_member
with-lt n m i h l = go (has m i) refl
  where
    go : (t : Bool) → has m i ≡ t → cond t m (m + 2 ^ i) < 2 ^ n
    go true e = h
    go false e = put-lt n i m h l e

pub with-has : (m i j : ℕ) → has (with_member m i) j ≡ cond (eqb j i) true (has m j)
unfolding with_member
with-has m i j = go (has m i) refl (cut j i)
  where
    go : (t : Bool) → has m i ≡ t → Cut j i → has (cond t m (m + 2 ^ i)) j ≡ cond (eqb j i) true (has m j)
    go true e (equal d q) = rw d (ap (has m) q ∙ e)
    go true e (apart d q) = rw d
    go false e k = put_in i m j e

-- ---- the lowest member

-- no number below i is a member, and i is one
pub record Lowest (m i : ℕ) : Type 0 where
  pub member : has m i ≡ true
  pub first : (j : ℕ) → j < i → has m j ≡ false

trailing-lowest : (k m : ℕ) → 0 < m → m < 2 ^ k → Lowest m (count_trailing_zeros k m)
unfolding count_trailing_zeros
trailing-lowest zero m p h = absurd (omega arith)
trailing-lowest (suc k) m p h = go (m % 2) refl (λ q. trailing-lowest k (m / 2) q (omega (arith, pow-suc 2 k)))
  where
    later : (t : ℕ) → m % 2 ≡ 0 → Lowest (m / 2) t → (j : ℕ) → j < suc t → has m j ≡ false
    later t e w zero l = has-zero m ∙ ap (λ (x : ℕ). eqb x 1) e
    later t e w (suc j) l = has-suc m j ∙ w.first j (omega arith)

    go : (d : ℕ) → m % 2 ≡ d → (0 < m / 2 → Lowest (m / 2) (count_trailing_zeros k (m / 2))) → Lowest m (under d (count_trailing_zeros k (m / 2)))
    go zero e down =
        let w : Lowest (m / 2) (count_trailing_zeros k (m / 2)) = down (omega arith) in
        record { member = has-suc m (count_trailing_zeros k (m / 2)) ∙ w.member; first = later (count_trailing_zeros k (m / 2)) e w }
    go (suc d) e down =
        let b : m % 2 ≡ 1 = omega arith in
        record { member = has-zero m ∙ ap (λ (x : ℕ). eqb x 1) b; first = λ j l. absurd (omega arith) }

pub lowest-is : (m : ℕ) → 0 < m → m < 2 ^ key_count → Lowest m (lowest_of m)
unfolding lowest_of
lowest-is m p h = trailing-lowest 32 m p (omega (arith, pow-lt {i = 26} {j = 32} (lit< tt)))

pub lowest-lt : (m : ℕ) → 0 < m → m < 2 ^ key_count → lowest_of m < key_count
lowest-lt m p h = member-lt key_count m (lowest_of m) h (lowest-is m p h).member
