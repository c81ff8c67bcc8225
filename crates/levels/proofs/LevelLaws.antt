-- Levels of a side: best first with no price twice, at most four, their numbers fit. Items and parts keep that.
-- Assumes nothing.
use Prim.Native.Nat.{ℕ, suc, ◌≤◌, ◌<◌}
use mathlib.Core.Path.{◌≡◌, refl, sym, ap}
use mathlib.Core.Bool.{Bool, true, false, cond}
use mathlib.Core.List.{List, [], ◌∷◌}
use Rattle.std.specs.Prelude.{Option, None, Some}
use native.Mathlib.Omega.{arith}
use borrow.Author.Tests.{ltb-true, ltb-false, lt-ltb, eqb-true, eqb-false, ne_eqb}
use lib.Dec.{ltb, eqb}
use lib.ListN.{length}
use Rattle.lists.specs.Lists.{bind_option, map_option, or_else}
use Rattle.lists.proofs.Tests.{clash}
use Rattle.ranking.specs.declared.Side.{Side}
use Rattle.ranking.specs.declared.Side.TheVariants.{Bid, Offer}
use Rattle.ranking.specs.Ranking.{ahead}
use Rattle.quote.specs.declared.Level.{Level}
use Rattle.quote.specs.Quote.{LevelFits}
use Rattle.levels.specs.declared.Item.{Item}
use Rattle.levels.specs.Levels.{Standing, no_levels, Odd, without, insert, item_on, items_on, clears, cleared_by, odd_on, empty_cell}
use Rattle.levels.specs.code.Cells.{level_of}

-- ---- what holds of the levels of a side

-- every level is behind the price p
abbrev pub Behind : Side → ℕ → List Level → Type 0
Behind s p [] = Unit {0}
Behind s p (x ∷ xs) = (ahead s p x.price ≡ true) × Behind s p xs

-- best first, no price twice, none empty
abbrev pub Ranked : Side → List Level → Type 0
Ranked s [] = Unit {0}
Ranked s (x ∷ xs) = (empty_cell x ≡ false) × Behind s x.price xs × Ranked s xs

abbrev pub Fit : List Level → Type 0
Fit [] = Unit {0}
Fit (x ∷ xs) = LevelFits x × Fit xs

-- no level has the price p
abbrev pub Lacks : ℕ → List Level → Type 0
Lacks p [] = Unit {0}
Lacks p (x ∷ xs) = (x.price ≡ p → ⊥) × Lacks p xs

pub record SideGood (s : Side) (ls : List Level) : Type 0 where
  pub ranked : Ranked s ls
  pub fit : Fit ls
  pub short : length ls ≤ 4

pub record LevelsGood (v : Standing) : Type 0 where
  pub bids : SideGood Bid v.bids
  pub offers : SideGood Offer v.offers

pub empty-good : (s : Side) → SideGood s []
empty-good s = record { ranked = tt; fit = tt; short = omega arith }

pub none-good : LevelsGood no_levels
none-good = record { bids = empty-good Bid; offers = empty-good Offer }

pub cell-priced : (x : Level) → empty_cell x ≡ false → eqb x.price 0 ≡ false
cell-priced x e = go (eqb x.price 0) e
  where
    go : (t : Bool) → cond t true (eqb x.size 0) ≡ false → t ≡ false
    go true e = clash e
    go false e = refl

-- ---- which price goes first

pub ahead-trans : (s : Side) (p q r : ℕ) → ahead s p q ≡ true → ahead s q r ≡ true → ahead s p r ≡ true
ahead-trans Bid p q r e f = lt-ltb r p (omega (arith, ltb-true q p e, ltb-true r q f))
ahead-trans Offer p q r e f = lt-ltb p r (omega (arith, ltb-true p q e, ltb-true q r f))

pub ahead-else : (s : Side) (p q : ℕ) → ahead s p q ≡ false → (q ≡ p → ⊥) → ahead s q p ≡ true
ahead-else Bid p q e n = lt-ltb p q (omega (arith, ltb-false q p e, n))
ahead-else Offer p q e n = lt-ltb q p (omega (arith, ltb-false p q e, n))

pub ahead_apart : (s : Side) (p q : ℕ) → ahead s p q ≡ true → p ≡ q → ⊥
ahead_apart Bid p q e z = omega (arith, ltb-true q p e)
ahead_apart Offer p q e z = omega (arith, ltb-true p q e)

pub behind-trans : (s : Side) (p q : ℕ) (xs : List Level) → ahead s p q ≡ true → Behind s q xs → Behind s p xs
behind-trans s p q [] e b = tt
behind-trans s p q (x ∷ xs) e b = (ahead-trans s p q x.price e b.0, behind-trans s p q xs e b.1)

-- what is behind a price lacks it
pub behind-lacks : (s : Side) (p : ℕ) (xs : List Level) → Behind s p xs → Lacks p xs
behind-lacks s p [] b = tt
behind-lacks s p (x ∷ xs) b = ((λ e. ahead_apart s p x.price b.0 (sym e)), behind-lacks s p xs b.1)

-- ---- a price taken out

module _ (p : ℕ) where
  pub without-elim : (P : List Level → Type 0) (x : Level) (xs : List Level) → (x.price ≡ p → P (without p xs)) → ((x.price ≡ p → ⊥) → P (x ∷ without p xs)) → P (without p (x ∷ xs))
  unfolding without
  without-elim P x xs hit miss = go (eqb x.price p) refl
    where
      go : (t : Bool) → eqb x.price p ≡ t → P (cond t (without p xs) (x ∷ without p xs))
      go true e = hit (eqb-true x.price p e)
      go false e = miss (eqb-false x.price p e)

  pub without-lacks : (xs : List Level) → Lacks p (without p xs)
  unfolding without
  without-lacks [] = tt
  without-lacks (x ∷ xs) = without-elim (Lacks p) x xs (λ e. without-lacks xs) (λ e. (e, without-lacks xs))

  -- nothing to take out
  pub without-none : (xs : List Level) → Lacks p xs → without p xs ≡ xs
  unfolding without
  without-none [] l = refl
  without-none (x ∷ xs) l = rw (ne_eqb x.price p l.0) (ap (λ (z : List Level). x ∷ z) (without-none xs l.1))

  pub without-short : (xs : List Level) → length (without p xs) ≤ length xs
  unfolding without
  without-short [] = omega arith
  without-short (x ∷ xs) =
      let n : length (without p xs) ≤ length xs = without-short xs in
      without-elim (λ l. length l ≤ suc (length xs)) x xs (λ e. omega arith) (λ e. omega arith)

  pub without-fit : (xs : List Level) → Fit xs → Fit (without p xs)
  unfolding without
  without-fit [] f = tt
  without-fit (x ∷ xs) f = without-elim Fit x xs (λ e. without-fit xs f.1) (λ e. (f.0, without-fit xs f.1))

  module _ (s : Side) where
    pub without-behind : (q : ℕ) (xs : List Level) → Behind s q xs → Behind s q (without p xs)
    unfolding without
    without-behind q [] b = tt
    without-behind q (x ∷ xs) b = without-elim (Behind s q) x xs (λ e. without-behind q xs b.1) (λ e. (b.0, without-behind q xs b.1))

    pub without-ranked : (xs : List Level) → Ranked s xs → Ranked s (without p xs)
    unfolding without
    without-ranked [] r = tt
    without-ranked (x ∷ xs) r = without-elim (Ranked s) x xs (λ e. without-ranked xs r.2) (λ e. (r.0, without-behind x.price xs r.1, without-ranked xs r.2))

-- ---- a level put in

module _ (s : Side) (y : Level) where
  pub insert-elim : (P : List Level → Type 0) (x : Level) (xs : List Level)
      → (ahead s y.price x.price ≡ true → P (y ∷ x ∷ xs)) → (ahead s y.price x.price ≡ false → P (x ∷ insert s y xs)) → P (insert s y (x ∷ xs))
  unfolding insert
  insert-elim P x xs hit miss = go (ahead s y.price x.price) refl
    where
      go : (t : Bool) → ahead s y.price x.price ≡ t → P (cond t (y ∷ x ∷ xs) (x ∷ insert s y xs))
      go true e = hit e
      go false e = miss e

  -- in front of what is behind it
  pub insert-front : (xs : List Level) → Behind s y.price xs → insert s y xs ≡ y ∷ xs
  unfolding insert
  insert-front [] b = refl
  insert-front (x ∷ xs) b = rw b.0

  pub insert-length : (xs : List Level) → length (insert s y xs) ≡ suc (length xs)
  unfolding insert
  insert-length [] = refl
  insert-length (x ∷ xs) = insert-elim (λ l. length l ≡ suc (suc (length xs))) x xs (λ e. refl) (λ e. ap suc (insert-length xs))

  pub insert-fit : (xs : List Level) → LevelFits y → Fit xs → Fit (insert s y xs)
  unfolding insert
  insert-fit [] f g = (f, tt)
  insert-fit (x ∷ xs) f g = insert-elim Fit x xs (λ e. (f, (g.0, g.1))) (λ e. (g.0, insert-fit xs f g.1))

  pub insert-behind : (p : ℕ) (xs : List Level) → ahead s p y.price ≡ true → Behind s p xs → Behind s p (insert s y xs)
  unfolding insert
  insert-behind p [] a b = (a, tt)
  insert-behind p (x ∷ xs) a b = insert-elim (Behind s p) x xs (λ e. (a, (b.0, b.1))) (λ e. (b.0, insert-behind p xs a b.1))

  pub insert-ranked : (xs : List Level) → empty_cell y ≡ false → Lacks y.price xs → Ranked s xs → Ranked s (insert s y xs)
  unfolding insert
  insert-ranked [] z l r = (z, tt, tt)
  insert-ranked (x ∷ xs) z l r =
      insert-elim (Ranked s) x xs
      (λ e. (z, (e, behind-trans s y.price x.price xs e r.1), r))
      (λ e. (r.0, insert-behind x.price xs (ahead-else s y.price x.price e l.0) r.1, insert-ranked xs z l.1 r.2))

-- ---- one item

pub none-some : {A B : Type 0} (a : A) → None ≡ Some a → B
none-some a e = clash (cc)

module _ (s : Side) (t : ℕ) (i : Item) (ls : List Level) where
  -- an item that is taken removes its price, or puts it in where at most three others stand
  pub item-elim : (P : List Level → Type 0) (ms : List Level) → item_on s t i ls ≡ Some ms
      → (eqb i.shares 0 ≡ true → P (without i.price ls))
      → (eqb i.shares 0 ≡ false → length (without i.price ls) < 4 → P (insert s (level_of t i) (without i.price ls))) → P ms
  unfolding item_on
  item-elim P ms e hit miss = go (eqb i.shares 0) refl (ltb (length (without i.price ls)) 4) refl e
    where
      go : (a : Bool) → eqb i.shares 0 ≡ a → (b : Bool) → ltb (length (without i.price ls)) 4 ≡ b
          → cond a (Some (without i.price ls)) (cond b (Some (insert s (level_of t i) (without i.price ls))) None) ≡ Some ms → P ms
      go true x b w e = let q : without i.price ls ≡ ms = cc in rw (sym q) (hit x)
      go false x true w e = let q : insert s (level_of t i) (without i.price ls) ≡ ms = cc in rw (sym q) (miss x (ltb-true (length (without i.price ls)) 4 w))
      go false x false w e = none-some ms e

  module _ (ms : List Level) (e : item_on s t i ls ≡ Some ms) where
    pub item-short : length ls ≤ 4 → length ms ≤ 4
    item-short h =
        item-elim (λ l. length l ≤ 4) ms e (λ z. omega (arith, without-short i.price ls)) (λ z n. omega (arith, insert-length s (level_of t i) (without i.price ls)))

    pub item-fit : LevelFits (level_of t i) → Fit ls → Fit ms
    item-fit f g =
        item-elim Fit ms e (λ z. without-fit i.price ls g) (λ z n. insert-fit s (level_of t i) (without i.price ls) f (without-fit i.price ls g))

    pub item-ranked : eqb i.price 0 ≡ false → Ranked s ls → Ranked s ms
    item-ranked p r =
        item-elim (Ranked s) ms e (λ z. without-ranked i.price s ls r)
        (λ z n. insert-ranked s (level_of t i) (without i.price ls) (rw (p, z)) (without-lacks i.price ls) (without-ranked i.price s ls r))

-- an item with a price, whose numbers fit
pub record ItemGood (t : ℕ) (i : Item) : Type 0 where
  pub priced : eqb i.price 0 ≡ false
  pub fits : LevelFits (record { price = i.price; size = i.shares; time = t })

abbrev pub ItemsGood : ℕ → List Item → Type 0
ItemsGood t [] = Unit {0}
ItemsGood t (i ∷ is) = ItemGood t i × ItemsGood t is

pub item-good : (s : Side) (t : ℕ) (i : Item) (ls ms : List Level) → ItemGood t i → SideGood s ls → item_on s t i ls ≡ Some ms → SideGood s ms
item-good s t i ls ms g k e = record {
  ranked = item-ranked s t i ls ms e g.priced k.ranked;
  fit = item-fit s t i ls ms e g.fits k.fit;
  short = item-short s t i ls ms e k.short;
}

pub items-good : (s : Side) (t : ℕ) (is : List Item) (ls ms : List Level) → ItemsGood t is → SideGood s ls → items_on s t is ls ≡ Some ms → SideGood s ms
unfolding items_on
items-good s t [] ls ms g k e = let q : ls ≡ ms = cc in rw (sym q) k
items-good s t (i ∷ is) ls ms g k e = go (item_on s t i ls) refl (λ l. items-good s t is l ms g.1) e
  where
    go : (o : Option (List Level)) → item_on s t i ls ≡ o → ((l : List Level) → SideGood s l → items_on s t is l ≡ Some ms → SideGood s ms) → bind_option o (items_on s t is) ≡ Some ms → SideGood s ms
    go None x down e = none-some ms e
    go (Some l) x down e = down l (item-good s t i ls l g.0 k x) e

-- ---- the part

pub cleared-elim : (P : List Level → Type 0) (mark : ℕ) (s : Side) (ls : List Level) → P [] → P ls → P (cleared_by mark s ls)
unfolding cleared_by
cleared-elim P mark s ls e k = go (clears mark s)
  where
    go : (t : Bool) → P (cond t [] ls)
    go true = e
    go false = k

pub record OddGood (o : Odd) : Type 0 where
  pub bids : ItemsGood o.time o.bids
  pub offers : ItemsGood o.time o.offers

-- a part keeps both sides good
pub odd-good : (o : Odd) (v w : Standing) → OddGood o → LevelsGood v → odd_on o v ≡ Some w → LevelsGood w
unfolding odd_on
odd-good o v w g k e = go (items_on Bid o.time o.bids (cleared_by o.mark Bid v.bids)) refl (items_on Offer o.time o.offers (cleared_by o.mark Offer v.offers)) refl e
  where
    go : (x : Option (List Level)) → items_on Bid o.time o.bids (cleared_by o.mark Bid v.bids) ≡ x
        → (y : Option (List Level)) → items_on Offer o.time o.offers (cleared_by o.mark Offer v.offers) ≡ y
        → bind_option x (λ b. map_option (λ a. record { bids = b; offers = a }) y) ≡ Some w → LevelsGood w
    go None x y f e = none-some w e
    go (Some b) x None f e = none-some w e
    go (Some b) x (Some a) f e =
        let q : ◌≡◌ {A = Standing} (record { bids = b; offers = a }) w = cc in
        rw (sym q)
        (record {
          bids = items-good Bid o.time o.bids (cleared_by o.mark Bid v.bids) b g.bids (cleared-elim (SideGood Bid) o.mark Bid v.bids (empty-good Bid) k.bids) x;
          offers = items-good Offer o.time o.offers (cleared_by o.mark Offer v.offers) a g.offers (cleared-elim (SideGood Offer) o.mark Offer v.offers (empty-good Offer) k.offers) f;
        })

pub odd-good-levels : (o : Odd) (v : Standing) → OddGood o → LevelsGood v → LevelsGood (or_else (odd_on o v) v)
odd-good-levels o v g k = go (odd_on o v) refl
  where
    go : (x : Option Standing) → odd_on o v ≡ x → LevelsGood (or_else x v)
    go None e = k
    go (Some w) e = odd-good o v w g k e
