-- Changes of a list of bytes that write one region and read nothing else: two of them apart commute. A region is any set of places, so that what belongs
-- together need not stand together.
-- Assumes nothing.
use Prim.Native.Nat.{ℕ, zero, suc, ◌+◌, ◌-◌, ◌≤◌, ◌<◌}
use mathlib.Core.Path.{◌≡◌, refl, sym, ap, ◌∙◌}
use mathlib.Core.Bool.{Bool, true, false, ◌&&◌}
use mathlib.Core.List.{List, ◌++◌}
use native.Mathlib.Omega.{arith}
use lib.Dec.{leb, ltb}
use lib.ListN.{length}
use borrow.Author.Tests.{le-leb, lt-ltb, leb-true, ltb-true, leb-false, ltb-false}
use Rattle.field.specs.Field.{part, splice}
use Rattle.field.proofs.Laws.{part_join, part-all, part-splice, part-before, part-behind, length-splice}
use Rattle.lists.proofs.Tests.{clash, and-true}

-- a set of places
abbrev pub Region : Type 0
Region = ℕ → Bool

-- the w places from a on
abbrev pub within : ℕ → ℕ → Region
within a w i = leb a i && ltb i (a + w)

pub in_within : (a w i : ℕ) → a ≤ i → i < a + w → within a w i ≡ true
in_within a w i l h = rw (le-leb a i l, lt-ltb i (a + w) h)

pub of-within : (a w i : ℕ) → within a w i ≡ true → (a ≤ i) × (i < a + w)
of-within a w i e = let r = and-true (leb a i) (ltb i (a + w)) e in (leb-true a i r.0, ltb-true i (a + w) r.1)

pub not-true : (t : Bool) → (t ≡ true → ⊥) → t ≡ false
not-true true f = absurd (f refl)
not-true false f = refl

-- no place is in both
abbrev pub Apart : Region → Region → Type 0
Apart R S = (i : ℕ) → R i ≡ true → S i ≡ true → ⊥

-- the w places from a on are in it
abbrev pub Covers : Region → ℕ → ℕ → Type 0
Covers R a w = (i : ℕ) → a ≤ i → i < a + w → R i ≡ true

pub within-apart : (a v b w : ℕ) → a + v ≤ b → Apart (within a v) (within b w)
within-apart a v b w h i x y = omega (arith, (of-within a v i x).1, (of-within b w i y).0)

-- two lists read alike at each place of a region
abbrev pub Alike : Region → List ℕ → List ℕ → Type 0
Alike R p q = (i : ℕ) → R i ≡ true → part p i 1 ≡ part q i 1

module _ (R : Region) (p q : List ℕ) (a : Alike R p q) where
  -- so they do over every stretch of it
  pub stretch : (w i : ℕ) → Covers R i w → part p i w ≡ part q i w
  unfolding part
  stretch zero i c = refl
  stretch (suc w) i c =
      let e : 1 + w ≡ suc w = omega arith in
      let r : part p i (1 + w) ≡ part q i (1 + w) =
      part_join p i 1 w ∙ (λ k. a i (c i (omega arith) (omega arith)) k ++ stretch w (i + 1) (λ j l h. c j (omega arith) (omega arith)) k) ∙ sym (part_join q i 1 w) in
      ap (part p i) (sym e) ∙ r ∙ ap (part q i) e

-- lists of one length that read alike everywhere are equal
same-list : (n : ℕ) (p q : List ℕ) → length p ≡ n → length q ≡ n → ((i : ℕ) → part p i 1 ≡ part q i 1) → p ≡ q
same-list n p q v w a =
    sym (part-all p) ∙ ap (part p 0) v ∙ stretch (λ i. true) p q (λ i e. a i) n 0 (λ i l h. refl) ∙ ap (part q 0) (sym w) ∙ part-all q

-- ---- changes and readings of lists of n bytes

-- it reads the region alone
abbrev pub Reads : {A : Type 0} → ℕ → Region → (List ℕ → A) → Type 0
Reads n R f = (p q : List ℕ) → length p ≡ n → length q ≡ n → Alike R p q → f p ≡ f q

-- a stretch is read
pub part-read : (n a w : ℕ) → Reads n (within a w) (λ p. part p a w)
part-read n a w p q u v k = stretch (within a w) p q k w a (in_within a w)

-- it writes the region alone, by what stands in the region alone
pub record Local (n : ℕ) (R : Region) (g : List ℕ → List ℕ) : Type 0 where
  pub size : (p : List ℕ) → length p ≡ n → length (g p) ≡ n
  pub outside : (p : List ℕ) → length p ≡ n → (i : ℕ) → R i ≡ false → part (g p) i 1 ≡ part p i 1
  pub inside : (p q : List ℕ) → length p ≡ n → length q ≡ n → Alike R p q → Alike R (g p) (g q)

-- nothing is written
pub local-none : (n : ℕ) (R : Region) → Local n R (λ p. p)
local-none n R = record { size = λ p w. w; outside = λ p w i o. refl; inside = λ p q v w a. a }

-- one after another
pub local-then : (n : ℕ) (R : Region) (g h : List ℕ → List ℕ) → Local n R g → Local n R h → Local n R (λ p. h (g p))
local-then n R g h x y =
    record {
      size = λ p w. y.size (g p) (x.size p w);
      outside = λ p w i o. y.outside (g p) (x.size p w) i o ∙ x.outside p w i o;
      inside = λ p q v w a. y.inside (g p) (g q) (x.size p v) (x.size q w) (x.inside p q v w a);
    }

-- in a wider region
pub local-wider : (n : ℕ) (R S : Region) (g : List ℕ → List ℕ) → ((i : ℕ) → R i ≡ true → S i ≡ true) → Local n R g → Local n S g
local-wider n R S g c x =
    record {
      size = x.size;
      outside = λ p w i o. x.outside p w i (not-true (R i) (λ e. clash (sym (c i e) ∙ o)));
      inside = λ p q v w a i s. go p q v w a i s (R i) refl;
    }
  where
    go : (p q : List ℕ) → length p ≡ n → length q ≡ n → Alike S p q → (i : ℕ) → S i ≡ true → (t : Bool) → R i ≡ t → part (g p) i 1 ≡ part (g q) i 1
    go p q v w a i s true e = x.inside p q v w (λ j r. a j (c j r)) i e
    go p q v w a i s false e = x.outside p v i e ∙ a i s ∙ sym (x.outside q w i e)

-- a change chosen by what the region says
pub local-choose : {X : Type 0} (n : ℕ) (R : Region) (h : X → List ℕ → List ℕ) (f : List ℕ → X) → Reads n R f
    → ((p : List ℕ) → Local n R (h (f p))) → Local n R (λ p. h (f p) p)
local-choose n R h f same each =
    record {
      size = λ p w. (each p).size p w;
      outside = λ p w i o. (each p).outside p w i o;
      inside = λ p q v w a i r. (each p).inside p q v w a i r ∙ (λ k. part (h (same p q v w a k) q) i 1);
    }

-- before a place, in the w places from it on, or behind them
data Where (a w i : ℕ) : Type 0 where
  before : i + 1 ≤ a → Where a w i
  among : a ≤ i → i < a + w → Where a w i
  behind : a + w ≤ i → Where a w i

locate : (a w i : ℕ) → Where a w i
locate a w i = go (leb a i) refl (ltb i (a + w)) refl
  where
    go : (s : Bool) → leb a i ≡ s → (t : Bool) → ltb i (a + w) ≡ t → Where a w i
    go false e t f = before (omega (arith, leb-false a i e))
    go true e true f = among (leb-true a i e) (ltb-true i (a + w) f)
    go true e false f = behind (ltb-false i (a + w) f)

-- w bytes written in the region, which depend on the region alone
pub local-splice : (n : ℕ) (R : Region) (a w : ℕ) (f : List ℕ → List ℕ) → a + w ≤ n → Covers R a w
    → ((p : List ℕ) → length p ≡ n → length (f p) ≡ w) → Reads n R f → Local n R (λ p. splice p a (f p))
local-splice n R a w f top c wide same =
    record {
      size = λ p v. length-splice p a (f p) (omega (arith, wide p v)) ∙ v;
      outside = λ p v i o. out p v i o (locate a w i);
      inside = λ p q v u k i r. go p q v u k i r (locate a w i);
    }
  where
    out : (p : List ℕ) → length p ≡ n → (i : ℕ) → R i ≡ false → Where a w i → part (splice p a (f p)) i 1 ≡ part p i 1
    out p v i o (before h) = part-before p a (f p) i 1 (omega arith) h
    out p v i o (among l h) = clash (sym (c i l h) ∙ o)
    out p v i o (behind h) = part-behind p a (f p) i 1 (omega (arith, wide p v))

    go : (p q : List ℕ) → length p ≡ n → length q ≡ n → Alike R p q → (i : ℕ) → R i ≡ true → Where a w i → part (splice p a (f p)) i 1 ≡ part (splice q a (f q)) i 1
    go p q v u k i r (before h) = part-before p a (f p) i 1 (omega arith) h ∙ k i r ∙ sym (part-before q a (f q) i 1 (omega arith) h)
    go p q v u k i r (among l h) =
        let e : a + (i - a) ≡ i = omega arith in
        ap (λ (j : ℕ). part (splice p a (f p)) j 1) (sym e)
        ∙ part-splice p a (f p) (i - a) 1 (omega arith) (omega (arith, wide p v))
        ∙ ap (λ (z : List ℕ). part z (i - a) 1) (same p q v u k)
        ∙ sym (part-splice q a (f q) (i - a) 1 (omega arith) (omega (arith, wide q u)))
        ∙ ap (λ (j : ℕ). part (splice q a (f q)) j 1) e
    go p q v u k i r (behind h) = part-behind p a (f p) i 1 (omega (arith, wide p v)) ∙ k i r ∙ sym (part-behind q a (f q) i 1 (omega (arith, wide q u)))

-- ---- regions apart

-- what is read apart from a change stays
pub local-reads : {A : Type 0} (n : ℕ) (R S : Region) (g : List ℕ → List ℕ) (f : List ℕ → A) → Local n R g → Reads n S f → Apart R S
    → (p : List ℕ) → length p ≡ n → f (g p) ≡ f p
local-reads n R S g f x y d p w = y (g p) p (x.size p w) w (λ i s. x.outside p w i (not-true (R i) (λ r. d i r s)))

module _ (n : ℕ) (R S : Region) (g h : List ℕ → List ℕ) (x : Local n R g) (y : Local n S h) (d : Apart R S) (p : List ℕ) (w : length p ≡ n) where
  swap_at : (i : ℕ) (s : Bool) → R i ≡ s → (t : Bool) → S i ≡ t → part (g (h p)) i 1 ≡ part (h (g p)) i 1
  swap_at i true e t f =
      x.inside (h p) p (y.size p w) w (λ j r. y.outside p w j (not-true (S j) (d j r))) i e
      ∙ sym (y.outside (g p) (x.size p w) i (not-true (S i) (d i e)))
  swap_at i false e true f =
      x.outside (h p) (y.size p w) i e
      ∙ sym (y.inside (g p) p (x.size p w) w (λ j s. x.outside p w j (not-true (R j) (λ r. d j r s))) i f)
  swap_at i false e false f = x.outside (h p) (y.size p w) i e ∙ y.outside p w i f ∙ sym (y.outside (g p) (x.size p w) i f ∙ x.outside p w i e)

  -- two changes apart, in either order
  pub local-swap : g (h p) ≡ h (g p)
  local-swap = same-list n (g (h p)) (h (g p)) (x.size (h p) (y.size p w)) (y.size (g p) (x.size p w)) (λ i. swap_at i (R i) refl (S i) refl)
