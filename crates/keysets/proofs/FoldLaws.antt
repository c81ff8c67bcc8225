-- A fold over the members of a set, as a loop takes them out, the lowest first.
-- Assumes nothing.
use mathlib.Core.Path.{◌≡◌, refl, sym, ap, ◌∙◌}
use mathlib.Core.Bool.{Bool, true, false, cond}
use Prim.Native.Nat.{ℕ, zero, suc, ◌+◌, ◌-◌, ◌^◌, ◌≤◌, ◌<◌}
use native.Mathlib.Omega.{arith}
use lib.Dec.{eqb}
use lib.Pow.{pow_pos}
use borrow.Author.Tests.{ne_eqb}
use Rattle.lists.proofs.Tests.{Cut, equal, apart, cut}
use Rattle.keysets.specs.Sets.{fold_set, has, key_count, lowest_of}
use Rattle.keysets.proofs.SetLaws.{Lowest, has-none, lowest-is, lowest-lt, member-le, take_out}

module _ {S : Type 0} (g : ℕ → S → S) where
  -- a fold depends on the members in its range only
  pub fold_same : (p q : ℕ → Bool) (i k : ℕ) (a : S) → ((j : ℕ) → i ≤ j → j < i + k → p j ≡ q j) → fold_set g p i k a ≡ fold_set g q i k a
  unfolding fold_set
  fold_same p q i zero a e = refl
  fold_same p q i (suc k) a e =
      ap (λ (t : Bool). fold_set g p (i + 1) k (cond t (g i a) a)) (e i (omega arith) (omega arith))
      ∙ fold_same p q (i + 1) k (cond (q i) (g i a) a) (λ j l h. e j (omega arith) (omega arith))

  pub member-none : (i k : ℕ) (a : S) → fold_set g (has 0) i k a ≡ a
  unfolding fold_set
  member-none i zero a = refl
  member-none i (suc k) a = ap (λ (t : Bool). fold_set g (has 0) (i + 1) k (cond t (g i a) a)) (has-none i) ∙ member-none (i + 1) k a

  -- the first member in the range, and the set without it
  module _ (p q : ℕ → Bool) (x : ℕ) (member : p x ≡ true) (first : (j : ℕ) → j < x → p j ≡ false) (out : (j : ℕ) → q j ≡ cond (eqb j x) false (p j)) where
    kept : (j : ℕ) → (j ≡ x → ⊥) → q j ≡ p j
    kept j n = out j ∙ ap (λ (t : Bool). cond t false (p j)) (ne_eqb j x n)

    pub fold-first : (i k : ℕ) (a : S) → i ≤ x → x < i + k → fold_set g p i k a ≡ fold_set g q i k (g x a)
    unfolding fold_set
    fold-first i zero a l h = absurd (omega arith)
    fold-first i (suc k) a l h = go (cut i x) (λ (m : i + 1 ≤ x). fold-first (i + 1) k a m (omega arith))
      where
        go : Cut i x → (i + 1 ≤ x → fold_set g p (i + 1) k a ≡ fold_set g q (i + 1) k (g x a))
            → fold_set g p (i + 1) k (cond (p i) (g i a) a) ≡ fold_set g q (i + 1) k (cond (q i) (g i (g x a)) (g x a))
        go (equal d e) down =
            let here : p i ≡ true = ap p e ∙ member in
            let gone : q i ≡ false = out i ∙ ap (λ (t : Bool). cond t false (p i)) d in
            rw (here, gone, e) (fold_same p q (x + 1) k (g x a) (λ j m n. sym (kept j (λ r. omega arith))))
        go (apart d e) down =
            let m : i < x = omega (arith, e) in
            let none : p i ≡ false = first i m in
            let neither : q i ≡ false = kept i e ∙ none in
            rw (none, neither) (down (omega arith))

-- a turn of a loop that takes out the lowest member: it is one, the set gets smaller, and the fold over what is left gives what it gave
pub record Step {S : Type 0} (g : ℕ → S → S) (m i : ℕ) (a : S) : Type 0 where
  pub high : i < key_count
  pub member : has m i ≡ true
  pub less : m - 2 ^ i < m
  pub fold : fold_set g (has m) 0 key_count a ≡ fold_set g (has (m - 2 ^ i)) 0 key_count (g i a)

pub member-step : {S : Type 0} (g : ℕ → S → S) (m : ℕ) (a : S) → 0 < m → m < 2 ^ key_count → Step g m (lowest_of m) a
member-step g m a p h =
    let w : Lowest m (lowest_of m) = lowest-is m p h in
    let l : lowest_of m < key_count = lowest-lt m p h in
    record {
      high = l;
      member = w.member;
      less = omega (arith, member-le (lowest_of m) m w.member, pow_pos (lowest_of m));
      fold = fold-first g (has m) (has (m - 2 ^ lowest_of m)) (lowest_of m) w.member w.first (λ j. take_out (lowest_of m) m j w.member) 0 key_count a (omega arith) l;
    }

-- ---- the loop

module _ (m i : ℕ) (p : 0 < m) (h : m < 2 ^ key_count) (e : i ≡ lowest_of m) where
  pub lowest-member : has m i ≡ true
  lowest-member = ap (has m) e ∙ (lowest-is m p h).member

  pub out-less : m - 2 ^ i < m
  out-less = omega (arith, member-le i m lowest-member, pow_pos i)

  -- what is left to do gives what the whole gives
  pub fold-again : {S : Type 0} (g : ℕ → S → S) (n : ℕ) (a b w : S) → n ≡ m - 2 ^ i → b ≡ g i a → fold_set g (has m) 0 key_count a ≡ w → fold_set g (has n) 0 key_count b ≡ w
  fold-again g n a b w d f inv = rw (d, f, e) (sym (member-step g m a p h).fold ∙ inv)

pub fold_end : {S : Type 0} (g : ℕ → S → S) (m : ℕ) (a w : S) → m ≡ 0 → fold_set g (has m) 0 key_count a ≡ w → a ≡ w
fold_end g m a w e inv = sym (member-none g 0 key_count a) ∙ ap (λ (n : ℕ). fold_set g (has n) 0 key_count a) (sym e) ∙ inv
