-- The allowance under two blocks of different lines: if the second is not refused behind the first, it is not refused before it, nor the first behind it.
-- Assumes nothing.
use Prim.Native.Nat.{ℕ, ◌+◌, ◌-◌, ◌≤◌, ◌<◌}
use mathlib.Core.Path.{◌≡◌, refl, sym, ap, ◌∙◌}
use mathlib.Core.Bool.{Bool, true, false, ◌&&◌, cond}
use mathlib.Core.List.{List}
use native.Mathlib.Omega.{arith}
use lib.Dec.{eqb, ltb}
use lib.ListN.{length, set}
use lib.Seq.{get_or-set_other}
use borrow.Author.Tests.{lt-leb, leb-false, ltb-true, ltb-false}
use Rattle.lists.specs.Lists.{at}
use Rattle.lists.proofs.Tests.{clash}
use Rattle.allowance.specs.Allowance.{Allowance, share_count, spare_charged, spare, share_used, spare_used, is_used_up, charged}
use Rattle.allowance.proofs.ChargeLaws.{spare-step}

-- something is left for line i: of its share, or of the spare
data Left (a : Allowance) (i : ℕ) : Type 0 where
  share : at a.charges i < at a.shares i → Left a i
  spared : spare_charged a.shares a.charges < spare a → Left a i

left-of : (a : Allowance) (i : ℕ) → share_used a i && spare_used a ≡ false → Left a i
left-of a i = go (share_used a i) refl (spare_used a) refl
  where
    go : (s : Bool) → share_used a i ≡ s → (t : Bool) → spare_used a ≡ t → s && t ≡ false → Left a i
    go false e t f z = share (leb-false (at a.shares i) (at a.charges i) e)
    go true e false f z = spared (leb-false (spare a) (spare_charged a.shares a.charges) f)
    go true e true f z = clash z

of_left : (a : Allowance) (i : ℕ) → Left a i → share_used a i && spare_used a ≡ false
of_left a i (share h) = ap (λ (t : Bool). t && spare_used a) (lt-leb (at a.shares i) (at a.charges i) h)
of_left a i (spared h) = ap (λ (t : Bool). share_used a i && t) (lt-leb (spare a) (spare_charged a.shares a.charges) h) ∙ go (share_used a i)
  where
    go : (t : Bool) → t && false ≡ false
    go true = refl
    go false = refl

module _ (a : Allowance) (ls : length a.shares ≡ share_count) (lc : length a.charges ≡ share_count) where
  -- the charges with one more of line i
  abbrev more : ℕ → List ℕ
  more i = set a.charges i (at a.charges i + 1)

  abbrev plus : ℕ → Allowance
  plus i = record { blocks = a.blocks; shares = a.shares; charges = more i }

  step : (i : ℕ) → i < share_count
      → spare_charged a.shares (more i) + (at a.charges i - at a.shares i) ≡ spare_charged a.shares a.charges + (at a.charges i + 1 - at a.shares i)
  step i h = let g : i < length a.shares = omega (arith, ls) in spare-step a.shares a.charges i g (lc ∙ sym ls)

  other : (i j : ℕ) → (i ≡ j → ⊥) → at (more i) j ≡ at a.charges j
  other i j d = get_or-set_other a.charges i j (at a.charges i + 1) 0 (λ e. d (sym e))

  module _ (i j : ℕ) (h : i < share_count) (k : j < share_count) (d : i ≡ j → ⊥) where
    before : Left (plus i) j → Left a j
    before (share p) = share (omega (arith, p, other i j d))
    before (spared p) = spared (omega (arith, p, step i h))

    swap : Left a i → Left (plus i) j → Left (plus j) i
    swap (share p) q = share (omega (arith, p, other j i (λ e. d (sym e))))
    swap (spared p) (share q) = spared (omega (arith, p, q, other i j d, step j k))
    swap (spared p) (spared q) = go (ltb (at a.charges i) (at a.shares i)) refl
      where
        go : (t : Bool) → ltb (at a.charges i) (at a.shares i) ≡ t → Left (plus j) i
        go true e = share (omega (arith, ltb-true (at a.charges i) (at a.shares i) e, other j i (λ e. d (sym e))))
        go false e = spared (omega (arith, q, ltb-false (at a.charges i) (at a.shares i) e, step i h, step j k))

    -- what is not used up behind a charge of another line was not used up before it
    pub used-before : is_used_up (charged a i) j ≡ false → is_used_up a j ≡ false
    unfolding is_used_up charged
    used-before = go (eqb a.blocks 0) refl
      where
        go : (t : Bool) → eqb a.blocks 0 ≡ t → is_used_up (cond t a (plus i)) j ≡ false → cond t false (share_used a j && spare_used a) ≡ false
        go true e p = refl
        go false e p = of_left a j (before (left-of (plus i) j (rw e at p)))

    -- if both can be charged in one order, they can be in the other
    pub used-swap : is_used_up a i ≡ false → is_used_up (charged a i) j ≡ false → is_used_up (charged a j) i ≡ false
    unfolding is_used_up charged
    used-swap = go (eqb a.blocks 0) refl
      where
        go : (t : Bool) → eqb a.blocks 0 ≡ t → cond t false (share_used a i && spare_used a) ≡ false → is_used_up (cond t a (plus i)) j ≡ false → is_used_up (cond t a (plus j)) i ≡ false
        go true e p q = rw e
        go false e p q = rw e (of_left (plus j) i (swap (left-of a i p) (left-of (plus i) j (rw e at q))))
