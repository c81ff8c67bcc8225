-- Keys rank as prices do, as far as four bytes tell.
-- Assumes nothing.
use Rattle.std.proofs.Common.{◌≡◌, ℕ, zero, suc, ◌+◌, ◌-◌, ◌%◌, ◌^◌, ◌<◌, ◌≤◌, Bool, true, false, cond, eqb, ltb, ◌⊎◌, sym, refl, ◌∙◌, inl, inr, arith, ltb-false, ltb-true, le-ltb, lt-ltb, eq-eqb, ne_eqb, eqb-true, min}
use Rattle.std.proofs.Math.Nat.{min-eq_left, min-eq_right}
use borrow.Author.Tests.{eqb-false}
use Rattle.ranking.specs.declared.Side.{Side}
use Rattle.ranking.specs.declared.Side.TheVariants.{Bid, Offer}
use Rattle.ranking.specs.code.Choice.{rank_of}
use Rattle.quote.specs.declared.Level.{Level}
use Rattle.quote.specs.Quote.{admits}
use Rattle.keys.specs.Keys.{full_key, short_of, key_of, level_key, side_key, floor_of, bar_of}

-- ---- a short price

pub short-below : (p : ℕ) → p < full_key → p ≡ short_of p
unfolding short_of
short-below p h = rw (lt-ltb p full_key h)

pub short-full : (p : ℕ) → full_key ≤ p → full_key ≡ short_of p
unfolding short_of
short-full p h = rw (le-ltb p full_key h)

-- the lesser of a price and the highest number
pub short-min : (p r : ℕ) → r ≡ min p full_key → r ≡ short_of p
unfolding short_of
short-min p r e = e ∙ go (ltb p full_key) refl
  where
    go : (t : Bool) → ltb p full_key ≡ t → min p full_key ≡ cond t p full_key
    go true h = min-eq_left (omega (arith, ltb-true p full_key h))
    go false h = min-eq_right (omega (arith, ltb-false p full_key h))

-- which of the two it is
data Short (p : ℕ) : Type 0 where
  below : p < full_key → short_of p ≡ p → Short p
  full : full_key ≤ p → short_of p ≡ full_key → Short p

short : (p : ℕ) → Short p
short p = go (ltb p full_key) refl
  where
    go : (t : Bool) → ltb p full_key ≡ t → Short p
    go true e = below (ltb-true p full_key e) (sym (short-below p (ltb-true p full_key e)))
    go false e = full (ltb-false p full_key e) (sym (short-full p (ltb-false p full_key e)))

-- ---- a key

pub key-bid : (s : Side) (p z : ℕ) → s ≡ Bid → z ≡ short_of p → z ≡ key_of s p
unfolding key_of
key-bid s p z e h = rw e h

-- what the machine's subtraction gives
pub key-offer : (s : Side) (p z r : ℕ) → s ≡ Offer → z ≡ short_of p → r < 2 ^ 32 → (r + z) % 2 ^ 32 ≡ 0 → r ≡ key_of s p
unfolding key_of
key-offer s p z r e h k w = rw (e, ← h) (go p (short p) h)
  where
    go : (p : ℕ) → Short p → z ≡ short_of p → r ≡ cond (eqb p 0) 0 (4294967296 - z)
    go zero (below a b) h = let c : z ≡ 0 = h ∙ b in omega (arith, c)
    go zero (full a b) h = absurd (omega arith)
    go (suc p) (below a b) h = let c : z ≡ suc p = h ∙ b in rw (ne_eqb (suc p) 0 (λ e. omega arith)) (omega (arith, c))
    go (suc p) (full a b) h = let c : z ≡ full_key = h ∙ b in rw (ne_eqb (suc p) 0 (λ e. omega arith)) (omega (arith, c))

pub key-none : (s : Side) → key_of s 0 ≡ 0
unfolding key_of short_of
key-none Bid = refl
key-none Offer = refl

-- a price, its side's rank and its key
offer-none : rank_of Offer 0 ≡ 0
unfolding rank_of
offer-none = refl

offer-rank : (p : ℕ) → (p ≡ 0 → ⊥) → rank_of Offer p ≡ 18446744073709551616 - p
unfolding rank_of
offer-rank p n = rw (ne_eqb p 0 n)

offer-key : (p : ℕ) → (p ≡ 0 → ⊥) → key_of Offer p ≡ 4294967296 - short_of p
unfolding key_of
offer-key p n = rw (ne_eqb p 0 n)

bid-rank : (p : ℕ) → rank_of Bid p ≡ p
unfolding rank_of
bid-rank p = refl

bid-key : (p : ℕ) → key_of Bid p ≡ short_of p
unfolding key_of
bid-key p = refl

pub key-some : (s : Side) (p : ℕ) → (p ≡ 0 → ⊥) → 0 < key_of s p
key-some Bid p n = rw (bid-key p) (go (short p))
  where
    go : Short p → 0 < short_of p
    go (below a b) = omega (arith, b, n)
    go (full a b) = omega (arith, b)
key-some Offer p n = rw (offer-key p n) (go (short p))
  where
    go : Short p → 0 < 4294967296 - short_of p
    go (below a b) = omega (arith, b)
    go (full a b) = omega (arith, b)

-- ---- the lowest rank that has a key

pub floor-in : (s : Side) (p t : ℕ) → p < 2 ^ 64 → 0 < t → key_of s p ≡ t → floor_of s t ≤ rank_of s p
unfolding floor_of
floor-in Bid p t h k e = rw (bid-rank p) (go (short p) (sym (bid-key p) ∙ e))
  where
    go : Short p → short_of p ≡ t → t ≤ p
    go (below a b) e = omega (arith, b, e)
    go (full a b) e = omega (arith, b, e)
floor-in Offer zero t h k e = absurd (omega (arith, key-none Offer, e))
floor-in Offer (suc p) t h k e =
    let n : suc p ≡ 0 → ⊥ = λ z. omega arith in
    rw (offer-rank (suc p) n) (go (short (suc p)) (eqb t 1) refl (sym (offer-key (suc p) n) ∙ e))
  where
    go : Short (suc p) → (u : Bool) → eqb t 1 ≡ u → 4294967296 - short_of (suc p) ≡ t → cond u 1 (18446744069414584320 + t) ≤ 18446744073709551616 - suc p
    go x true f e = omega arith
    go (below a b) false f e = omega (arith, b, e)
    go (full a b) false f e = absurd (eqb-false t 1 f (omega (arith, b, e)))

pub floor-out : (s : Side) (p t : ℕ) → p < 2 ^ 64 → t ≤ full_key → key_of s p < t → rank_of s p < floor_of s t
unfolding floor_of
floor-out Bid p t h m k = rw (bid-rank p) (go (short p) (rw (← bid-key p) k))
  where
    go : Short p → short_of p < t → p < t
    go (below a b) k = omega (arith, b)
    go (full a b) k = absurd (omega (arith, b))
floor-out Offer zero t h m k = rw offer-none (go (eqb t 1))
  where
    go : (u : Bool) → 0 < cond u 1 (18446744069414584320 + t)
    go true = omega arith
    go false = omega arith
floor-out Offer (suc p) t h m k =
    let n : suc p ≡ 0 → ⊥ = λ z. omega arith in
    rw (offer-rank (suc p) n) (go (short (suc p)) (eqb t 1) refl (rw (← offer-key (suc p) n) k))
  where
    go : Short (suc p) → (u : Bool) → eqb t 1 ≡ u → 4294967296 - short_of (suc p) < t → 18446744073709551616 - suc p < cond u 1 (18446744069414584320 + t)
    go (below a b) true f e = absurd (omega (arith, b, eqb-true t 1 f))
    go (full a b) true f e = absurd (omega (arith, b, eqb-true t 1 f))
    go (below a b) false f e = omega (arith, b)
    go (full a b) false f e = omega (arith, b)

-- ---- the highest key that no price beyond another has

bar-of : (s : Side) (q : ℕ) → Short q → (q < full_key × (bar_of s q ≡ key_of s q)) ⊎ (full_key ≤ q × (bar_of s q ≡ key_of s q - 1))
unfolding bar_of
bar-of s q (below a b) = inl (a, rw (lt-ltb q full_key a))
bar-of s q (full a b) = inr (a, rw (le-ltb q full_key a))

bar-none : bar_of Offer 0 ≡ key_of Offer 0
unfolding bar_of
bar-none = refl

pub bar-behind : (s : Side) (p q : ℕ) → p < 2 ^ 64 → q < 2 ^ 64 → key_of s p ≤ bar_of s q → rank_of s p ≤ rank_of s q
bar-behind Bid p q h k e = rw (bid-rank p, bid-rank q) (go (short p) (short q) (bar-of Bid q (short q)))
  where
    go : Short p → Short q → (q < full_key × (bar_of Bid q ≡ key_of Bid q)) ⊎ (full_key ≤ q × (bar_of Bid q ≡ key_of Bid q - 1)) → p ≤ q
    go (below a b) (below c d) (inl x) = omega (arith, b, d, e, x.1, bid-key p, bid-key q)
    go (full a b) (below c d) (inl x) = absurd (omega (arith, b, d, e, x.1, bid-key p, bid-key q))
    go x (full c d) (inl y) = absurd (omega (arith, y.0))
    go x (below c d) (inr y) = absurd (omega (arith, y.0))
    go (below a b) (full c d) (inr y) = omega arith
    go (full a b) (full c d) (inr y) = absurd (omega (arith, b, d, e, y.1, bid-key p, bid-key q))
bar-behind Offer zero q h k e = rw offer-none (omega arith)
bar-behind Offer (suc p) zero h k e = absurd (omega (arith, e, key-some Offer (suc p) (λ z. omega arith), key-none Offer, bar-none))
bar-behind Offer (suc p) (suc q) h k e =
    let n : suc p ≡ 0 → ⊥ = λ z. omega arith in
    let m : suc q ≡ 0 → ⊥ = λ z. omega arith in
    rw (offer-rank (suc p) n, offer-rank (suc q) m) (go (short (suc p)) (short (suc q)) (bar-of Offer (suc q) (short (suc q))) (offer-key (suc p) n) (offer-key (suc q) m))
  where
    go : Short (suc p) → Short (suc q) → (suc q < full_key × (bar_of Offer (suc q) ≡ key_of Offer (suc q))) ⊎ (full_key ≤ suc q × (bar_of Offer (suc q) ≡ key_of Offer (suc q) - 1))
        → key_of Offer (suc p) ≡ 4294967296 - short_of (suc p) → key_of Offer (suc q) ≡ 4294967296 - short_of (suc q) → 18446744073709551616 - suc p ≤ 18446744073709551616 - suc q
    go (below a b) (below c d) (inl x) ep eq = omega (arith, b, d, e, x.1, ep, eq)
    go (full a b) (below c d) (inl x) ep eq = omega arith
    go x (full c d) (inl y) ep eq = absurd (omega (arith, y.0))
    go x (below c d) (inr y) ep eq = absurd (omega (arith, y.0))
    go (below a b) (full c d) (inr y) ep eq = absurd (omega (arith, b, d, e, y.1, ep, eq))
    go (full a b) (full c d) (inr y) ep eq = absurd (omega (arith, b, d, e, y.1, ep, eq))

-- ---- what the code's steps give

pub level-none : (s : Side) (l : Level) → l.size ≡ 0 → 0 ≡ level_key s l
unfolding level_key
level-none s l e = rw (eq-eqb l.size 0 e)

pub level-some : (s : Side) (l : Level) (k : ℕ) → (l.size ≡ 0 → ⊥) → k ≡ key_of s l.price → k ≡ level_key s l
unfolding level_key
level-some s l k n e = rw (ne_eqb l.size 0 n) e

pub side-admitted : (s : Side) (c : ℕ) (l : Level) (t : Bool) (k : ℕ) → t ≡ admits s c → t ≡ true → k ≡ level_key s l → k ≡ side_key s c l
unfolding side_key
side-admitted s c l t k e h f = rw (← e, h) f

pub side-not : (s : Side) (c : ℕ) (l : Level) (t : Bool) → t ≡ admits s c → t ≡ false → 0 ≡ side_key s c l
unfolding side_key
side-not s c l t e h = rw (← e, h)

pub bar-below : (s : Side) (p k : ℕ) → k ≡ key_of s p → p < full_key → k ≡ bar_of s p
unfolding bar_of
bar-below s p k e h = rw (lt-ltb p full_key h) e

pub bar-full : (s : Side) (p k : ℕ) → k ≡ key_of s p → full_key ≤ p → k - 1 ≡ bar_of s p
unfolding bar_of
bar-full s p k e h = rw (le-ltb p full_key h, ← e)

pub full-some : (s : Side) (p k : ℕ) → k ≡ key_of s p → full_key ≤ p → 1 ≤ k
full-some s p k e h = omega (arith, e, key-some s p (λ z. omega arith))
