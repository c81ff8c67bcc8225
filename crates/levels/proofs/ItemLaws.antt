-- What an item means, by the level that stands at a price: the one taken stands, every other price keeps its level, zero shares leave none.
-- That at most four stand, best first and with no price twice, is `item-short` and `item-ranked` of `LevelLaws.antt`.
-- Assumes nothing.
use Prim.Native.Nat.{ℕ, ◌≤◌}
use mathlib.Core.Path.{◌≡◌, refl, sym, ap, ◌∙◌}
use mathlib.Core.Bool.{Bool, true, false, cond}
use mathlib.Core.List.{List, [], ◌∷◌}
use Rattle.std.specs.Prelude.{Option, None, Some}
use borrow.Author.Tests.{eq-eqb, ne_eqb, ltb-false}
use lib.Dec.{ltb, eqb}
use lib.ListN.{length}
use Rattle.lists.proofs.Tests.{clash}
use Rattle.ranking.specs.declared.Side.{Side}
use Rattle.quote.specs.declared.Level.{Level}
use Rattle.levels.specs.declared.Item.{Item}
use Rattle.levels.specs.Levels.{without, insert, item_on}
use Rattle.levels.specs.code.Cells.{level_of}
use Rattle.levels.proofs.LevelLaws.{Lacks, none-some, without-elim, without-lacks, without-none, insert-elim, item-elim}

-- the level of a price
unfoldable pub level_at : ℕ → List Level → Option Level
level_at p [] = None
level_at p (x ∷ xs) = cond (eqb x.price p) (Some x) (level_at p xs)

at-lacks : (p : ℕ) (xs : List Level) → Lacks p xs → level_at p xs ≡ None
unfolding level_at
at-lacks p [] l = refl
at-lacks p (x ∷ xs) l = rw (ne_eqb x.price p l.0) (at-lacks p xs l.1)

at-without : (p q : ℕ) (xs : List Level) → (q ≡ p → ⊥) → level_at q (without p xs) ≡ level_at q xs
unfolding level_at without
at-without p q [] n = refl
at-without p q (x ∷ xs) n =
    without-elim p (λ l. level_at q l ≡ level_at q (x ∷ xs)) x xs
    (λ e. rw (ne_eqb x.price q (λ f. n (sym f ∙ e))) (at-without p q xs n))
    (λ e. ap (cond (eqb x.price q) (Some x)) (at-without p q xs n))

module _ (s : Side) (y : Level) where
  at-insert : (xs : List Level) → Lacks y.price xs → level_at y.price (insert s y xs) ≡ Some y
  unfolding level_at insert
  at-insert [] l = rw (eq-eqb y.price y.price refl)
  at-insert (x ∷ xs) l =
      insert-elim s y (λ m. level_at y.price m ≡ Some y) x xs
      (λ e. rw (eq-eqb y.price y.price refl))
      (λ e. rw (ne_eqb x.price y.price l.0) (at-insert xs l.1))

  at-beside : (q : ℕ) (xs : List Level) → (q ≡ y.price → ⊥) → level_at q (insert s y xs) ≡ level_at q xs
  unfolding level_at insert
  at-beside q [] n = rw (ne_eqb y.price q (λ e. n (sym e)))
  at-beside q (x ∷ xs) n =
      insert-elim s y (λ m. level_at q m ≡ level_at q (x ∷ xs)) x xs
      (λ e. rw (ne_eqb y.price q (λ e. n (sym e))))
      (λ e. ap (cond (eqb x.price q) (Some x)) (at-beside q xs n))

module _ (s : Side) (t : ℕ) (i : Item) (ls : List Level) where
  module _ (ms : List Level) (e : item_on s t i ls ≡ Some ms) where
    -- an item with shares that is taken stands with its shares and its time
    pub at_same : eqb i.shares 0 ≡ false → level_at i.price ms ≡ Some (level_of t i)
    at_same n =
        item-elim s t i ls (λ l. level_at i.price l ≡ Some (level_of t i)) ms e
        (λ z. clash (sym z ∙ n)) (λ z h. at-insert s (level_of t i) (without i.price ls) (without-lacks i.price ls))

    -- zero shares leave no level of that price
    pub at_zero : eqb i.shares 0 ≡ true → level_at i.price ms ≡ None
    at_zero n =
        item-elim s t i ls (λ l. level_at i.price l ≡ None) ms e
        (λ z. at-lacks i.price (without i.price ls) (without-lacks i.price ls)) (λ z h. clash (sym n ∙ z))

    -- every other price keeps its level
    pub at_other : (q : ℕ) → (q ≡ i.price → ⊥) → level_at q ms ≡ level_at q ls
    at_other q n =
        item-elim s t i ls (λ l. level_at q l ≡ level_at q ls) ms e
        (λ z. at-without i.price q ls n)
        (λ z h. at-beside s (level_of t i) q (without i.price ls) n ∙ at-without i.price q ls n)

  -- 64 means that four other prices stand: neither a removal, nor a known price, nor a side of three is refused
  pub item_refused : item_on s t i ls ≡ None → (eqb i.shares 0 ≡ false) × (4 ≤ length (without i.price ls))
  unfolding item_on
  item_refused e = go (eqb i.shares 0) refl (ltb (length (without i.price ls)) 4) refl e
    where
      go : (a : Bool) → eqb i.shares 0 ≡ a → (b : Bool) → ltb (length (without i.price ls)) 4 ≡ b
          → cond a (Some (without i.price ls)) (cond b (Some (insert s (level_of t i) (without i.price ls))) None) ≡ None → (eqb i.shares 0 ≡ false) × (4 ≤ length (without i.price ls))
      go true x b w e = none-some (without i.price ls) (sym e)
      go false x true w e = none-some (insert s (level_of t i) (without i.price ls)) (sym e)
      go false x false w e = (x, ltb-false (length (without i.price ls)) 4 w)

  -- zero shares of an unknown price do nothing
  pub item-nothing : eqb i.shares 0 ≡ true → Lacks i.price ls → item_on s t i ls ≡ Some ls
  unfolding item_on
  item-nothing z l = rw (z, without-none i.price ls l)
