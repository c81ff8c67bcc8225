-- Symbols and names, as the loops read them.
-- Assumes nothing.
use Prim.Native.Nat.{ℕ, zero, suc, ◌+◌, ◌*◌, ◌≤◌, ◌<◌}
use mathlib.Core.Path.{◌≡◌, refl, sym, ap, ◌∙◌}
use mathlib.Core.Bool.{Bool, true, false, not, ◌&&◌, ◌||◌, cond}
use mathlib.Core.Bool as bool
use mathlib.Core.List.{List, [], ◌∷◌}
use native.Mathlib.Omega.{arith}
use native.Mathlib.Nat.{zero-add, zero-mul, mul-zero, mul-suc, mul-le-mul}
use native.Mathlib.Numerals.{add-one, one-add}
use lib.ListN.{length, drop, drop_of_length-le}
use lib.Seq.{drop-cons}
use borrow.Author.Tests.{lt-leb, le-leb, leb-true, ltb-true, ltb-false, ne_eqb}
use lib.Dec.{eqb, leb, ltb, eqb-suc-zero}
use Rattle.std.specs.List.{position_or_len}
use Rattle.lists.specs.Lists.{at, every, between, upper}
use Rattle.lists.proofs.Tests.{and-true, Cut, equal, apart, cut}
use Rattle.text.specs.Form.{is_space, padded, follows}
use Rattle.field.specs.Ascii.{A, Z}

-- outside the bytes from low to high, as a search asks for the end of a text
abbrev pub outside : ℕ → ℕ → ℕ → Bool
outside low high x = ltb x low || ltb high x

not-outside : (low high x : ℕ) → between low high x ≡ not (outside low high x)
not-outside low high x = go (ltb x low) refl (ltb high x) refl
  where
    go : (s : Bool) → ltb x low ≡ s → (t : Bool) → ltb high x ≡ t → between low high x ≡ not (s || t)
    go true e t f = rw (lt-leb low x (ltb-true x low e))
    go false e true f = rw (le-leb low x (ltb-false x low e), lt-leb x high (ltb-true high x f))
    go false e false f = rw (le-leb low x (ltb-false x low e), le-leb x high (ltb-false high x f))

-- spaces from the first byte outside on
pub padded-cut : (low high : ℕ) (s : List ℕ) → padded low high s ≡ every is_space (drop (position_or_len (outside low high) s) s)
unfolding padded every
padded-cut low high [] = refl
padded-cut low high (x ∷ xs) = ap (λ (t : Bool). cond t (padded low high xs) (every is_space (x ∷ xs))) (not-outside low high x) ∙ step (not (outside low high x)) (padded-cut low high xs)
  where
    step : (t : Bool) → padded low high xs ≡ every is_space (drop (position_or_len (outside low high) xs) xs) → cond t (padded low high xs) (every is_space (x ∷ xs)) ≡ every is_space (drop (cond t (1 + position_or_len (outside low high) xs) 0) (x ∷ xs))
    step true e = e ∙ ap (λ (k : ℕ). every is_space (drop k (x ∷ xs))) (sym (one-add (position_or_len (outside low high) xs)))
    step false e = refl

-- ---- symbols, without a branch

-- a sum is 0 if both are, a product if one is
none-sum : (m n : ℕ) → eqb (m + n) 0 ≡ (eqb m 0 && eqb n 0)
none-sum m n = go (cut m 0)
  where
    go : Cut m 0 → eqb (m + n) 0 ≡ (eqb m 0 && eqb n 0)
    go (equal t e) = rw (e, zero-add)
    go (apart t e) = rw t (ne_eqb (m + n) 0 (λ q. e (omega arith)))

none-product : (m n : ℕ) → eqb (m * n) 0 ≡ (eqb m 0 || eqb n 0)
none-product zero n = rw zero-mul
none-product (suc m) zero = rw (mul-zero, eqb-suc-zero)
none-product (suc m) (suc n) = rw (eqb-suc-zero m, eqb-suc-zero n) (ne_eqb (suc m * suc n) 0 (λ q. omega (arith, mul-suc (suc m) n)))

pub fault-is : (a b c d before x : ℕ) → (eqb a 0 ≡ is_space x) × (a ≤ 1) → (eqb b 0 ≡ leb 33 before) × (b ≤ 1) → (eqb c 0 ≡ leb 33 x) × (c ≤ 1) → (eqb d 0 ≡ leb x 126) × (d ≤ 1)
    → (eqb (a * (b + c + d)) 0 ≡ follows before x) × (a * (b + c + d) ≤ 3)
unfolding follows
fault-is a b c d before x ha hb hc hd =
    let h : b + c + d ≤ 3 = omega arith in
    (rw (none-product, none-sum, none-sum, bool.and_assoc, ha.0, hb.0, hc.0, hd.0), omega (arith, mul-le-mul ha.1 h))

-- each byte may follow the one before it
unfoldable pub text_from : ℕ → List ℕ → Bool
text_from before [] = true
text_from before (x ∷ xs) = follows before x && text_from x xs

-- behind a space, and behind a printable byte
blank-text : (xs : List ℕ) → text_from 32 xs ≡ every is_space xs
unfolding text_from follows every
blank-text [] = refl
blank-text (x ∷ xs) = go (cut x 32) (blank-text xs)
  where
    go : Cut x 32 → text_from 32 xs ≡ every is_space xs → text_from 32 (x ∷ xs) ≡ every is_space (x ∷ xs)
    go (equal t e) ih = rw e ih
    go (apart t e) ih = rw t

padded-text : (b : ℕ) (xs : List ℕ) → leb 33 b ≡ true → text_from b xs ≡ padded 33 126 xs
unfolding text_from follows padded every
padded-text b [] p = refl
padded-text b (x ∷ xs) p = go (cut x 32) (padded-text x xs)
  where
    inside : (s t : Bool) → (s ≡ true → text_from x xs ≡ padded 33 126 xs) → ((s && t) && text_from x xs) ≡ cond (s && t) (padded 33 126 xs) false
    inside true true ih = ih refl
    inside true false ih = refl
    inside false t ih = refl

    go : Cut x 32 → (leb 33 x ≡ true → text_from x xs ≡ padded 33 126 xs) → text_from b (x ∷ xs) ≡ padded 33 126 (x ∷ xs)
    go (equal t e) ih = rw (p, e) (blank-text xs)
    go (apart t e) ih = rw (p, t) (inside _ _ ih)

-- with f faults up to i: no fault there, and none behind
abbrev pub no_fault : List ℕ → ℕ → ℕ → Bool
no_fault s f i = eqb f 0 && text_from (at s i) (drop (i + 1) s)

pub text-start : (s : List ℕ) → 0 < length s → upper (at s 0) ≡ true → no_fault s 0 0 ≡ padded 33 126 s
unfolding padded
text-start [] h u = absurd (omega arith)
text-start (x ∷ xs) h u =
    let (l, g) : (leb A x ≡ true) × (leb x Z ≡ true) = and-true _ _ u in
    let low : leb 33 x ≡ true = le-leb 33 x (omega (arith, leb-true A x l)) in
    rw (low, le-leb x 126 (omega (arith, leb-true x Z g))) (padded-text x xs low)

module _ (s : List ℕ) (w : Bool) (f i : ℕ) where
  pub text-again : (r : ℕ) → i + 1 < length s → no_fault s f i ≡ w → eqb r 0 ≡ follows (at s i) (at s (i + 1)) → no_fault s (f + r) (i + 1) ≡ w
  unfolding text_from
  text-again r h inv e = rw (none-sum, e, bool.and_assoc, add-one (i + 1)) (rw (drop-cons s (i + 1) 0) at inv)

  pub text-end : length s ≤ i + 1 → no_fault s f i ≡ w → eqb f 0 ≡ w
  unfolding text_from
  text-end h inv = rw (drop_of_length-le s h, bool.and-true) at inv
