-- The definitions of `Cells.antt` as the code meets them: what a call returned stands as a variable, with an equation.
-- Assumes nothing.
use Prim.Native.Nat.{ℕ, zero, suc, ◌+◌, ◌*◌, ◌-◌, ◌≤◌, ◌<◌}
use mathlib.Core.Path.{◌≡◌, refl, sym, ap, ◌∙◌}
use mathlib.Core.Bool.{Bool, true, false, cond}
use mathlib.Core.List.{List, [], ◌∷◌, ◌++◌, map, append_assoc, append-nil}
use native.Mathlib.Omega.{arith}
use borrow.Author.Tests.{eq-eqb, ne_eqb, lt-ltb, le-ltb, ltb-true, ltb-false}
use lib.Dec.{eqb, ltb, lit≤}
use lib.ListN.{set, length, get_or, take, drop, length-map}
use Rattle.std.specs.List.{list_any}
use Rattle.std.proofs.lemmas.List.{at_drop_more, take_all, drop_all, take_more_set}
use Rattle.std.specs.Prelude.{◌||◌}
use native.Mathlib.Numerals.{unary_clauses}
use lib.Seq.{drop-drop, take-take}
use Rattle.field.specs.Field.{part, splice}
use Rattle.field.specs.Low.{le_bytes}
use Rattle.field.proofs.Laws.{part-part, splice-join}
use Rattle.lists.proofs.Tests.{Cut, equal, apart, cut}
use Rattle.ranking.specs.declared.Side.{Side}
use Rattle.ranking.specs.declared.Side.TheVariants.{Bid, Offer}
use Rattle.ranking.specs.code.Choice.{rank_of}
use Rattle.quote.specs.declared.Level.{Level}
use Rattle.quote.specs.Quote.{no_level, level_in, level_bytes, level_length}
use Rattle.levels.specs.declared.Levels.{Levels}
use Rattle.levels.specs.declared.Item.{Item}
use Rattle.levels.specs.declared.Pair.{Pair}
use Rattle.numbers.specs.declared.Rejection.TheVariants.{FifthLevel}
use Rattle.std.specs.Prelude.{Ok, Err}
use Rattle.levels.specs.Levels.{cells_in, side_in, side_length}
use Rattle.levels.specs.code.Cells.{cells_of, joined_levels, leads, standing, standing_behind, ordered_of, kept_of, over_of, without_of, holds_of, replaced_of, level_of, with_item}
use Rattle.levels.proofs.ReadingLaws.{read-four}

-- the length of an array of structs, as owning it tells
pub length-of-map : {A B : Type 0} (f : A → B) (l : List A) (n : ℕ) → length (map f l) ≡ n → length l ≡ n
length-of-map f l n e = sym (length-map l f) ∙ e

pub as-four : {A : Type 0} (ls : List A) (d : A) → length ls ≡ 4 → ls ≡ get_or ls 0 d ∷ get_or ls 1 d ∷ get_or ls 2 d ∷ get_or ls 3 d ∷ []
as-four [] d n = absurd (omega arith)
as-four (a ∷ []) d n = absurd (omega arith)
as-four (a ∷ b ∷ []) d n = absurd (omega arith)
as-four (a ∷ b ∷ c ∷ []) d n = absurd (omega arith)
as-four (a ∷ b ∷ c ∷ e ∷ []) d n = refl
as-four (a ∷ b ∷ c ∷ e ∷ f ∷ ls) d n = absurd (omega arith)

-- a test that was taken, or left
pub when_true : {A : Type 0} (t : Bool) (a b : A) → t ≡ true → a ≡ cond t a b
when_true t a b e = rw e

pub when_false : {A : Type 0} (t : Bool) (a b : A) → t ≡ false → b ≡ cond t a b
when_false t a b e = rw e

-- the higher rank goes first: of prices of 64 bits
leads-rank : (s : Side) (p q : ℕ) → p < 18446744073709551616 → q < 18446744073709551616 → ltb (rank_of s q) (rank_of s p) ≡ leads s p q
unfolding leads rank_of
leads-rank s p q h k = side s (cut p 0) (cut q 0)
  where
    flip : (b : Bool) → ltb p q ≡ b → ltb (18446744073709551616 - q) (18446744073709551616 - p) ≡ b
    flip true e = let l : p < q = ltb-true p q e in lt-ltb (18446744073709551616 - q) (18446744073709551616 - p) (omega arith)
    flip false e = let l : q ≤ p = ltb-false p q e in le-ltb (18446744073709551616 - q) (18446744073709551616 - p) (omega arith)

    side : (s : Side) → Cut p 0 → Cut q 0 → ltb (rank_of s q) (rank_of s p) ≡ leads s p q
    side Bid (equal t e) c = rw t (le-ltb q p (omega arith))
    side Bid (apart t e) (equal u f) = rw (t, u) (lt-ltb q p (omega arith))
    side Bid (apart t e) (apart u f) = rw (t, u)
    side Offer (equal t e) c = rw t (le-ltb (rank_of Offer q) 0 (omega arith))
    side Offer (apart t e) (equal u f) = rw (t, u) (lt-ltb 0 (18446744073709551616 - p) (omega arith))
    side Offer (apart t e) (apart u f) = rw (t, u) (flip (ltb p q) refl)

pub ahead-is : (s : Side) (p q a b : ℕ) → a ≡ rank_of s q → b ≡ rank_of s p → p < 18446744073709551616 → q < 18446744073709551616 → ltb a b ≡ leads s p q
ahead-is s p q a b e f h k = rw (e, f) (leads-rank s p q h k)

-- ---- cells one by one

pub holds-any : (p : ℕ) (ls : List Level) → list_any (λ y. eqb y.price p) ls ≡ holds_of p ls
unfolding holds_of
holds-any p [] = refl
holds-any p (y ∷ ys) = go (eqb y.price p) (holds-any p ys)
  where
    go : (t : Bool) {a b : Bool} → a ≡ b → t || a ≡ cond t true b
    go true e = refl
    go false e = e

drop-past : (xs : List Level) (i : ℕ) (v : Level) → drop (i + 1) (set xs i v) ≡ drop (i + 1) xs
drop-past [] i v = refl
drop-past (x ∷ xs) zero v = refl
drop-past (x ∷ xs) (suc i) v = simp unary_clauses (simp unary_clauses at (drop-past xs i v))

-- a cell written: those before it, then it, then those behind it
written : (xs : List Level) (i : ℕ) (v : Level) (zs : List Level) → i < length xs → take (i + 1) (set xs i v) ++ zs ≡ take i xs ++ v ∷ zs
written xs i v zs h = rw (take_more_set xs i v h) (append_assoc (take i xs) (v ∷ []) zs)

module _ (xs : List Level) (i : ℕ) (d : Level) (h : i < length xs) (w : List Level) where
  -- what is done at cell i and what remains give what remained before it
  unread : (v : Level) → drop (i + 1) (set xs i v) ≡ drop (i + 1) xs
  unread v = drop-past xs i v

  pub replaced-step : (x v : Level) → take i xs ++ replaced_of x (drop i xs) ≡ w → v ≡ cond (eqb (get_or xs i d).price x.price) x (get_or xs i d)
      → take (i + 1) (set xs i v) ++ replaced_of x (drop (i + 1) (set xs i v)) ≡ w
  unfolding replaced_of
  replaced-step x v e q =
      rw (unread v, written xs i v (replaced_of x (drop (i + 1) xs)) h)
      (sym (at_drop_more (λ (zs : List Level). take i xs ++ replaced_of x zs) xs i d h ∙ rw (← q)) ∙ e)

  module _ (s : Side) (x : Level) (p : Pair) (e : p ≡ ordered_of s x (get_or xs i d)) where
    pub kept-step : take i xs ++ kept_of s x (drop i xs) ≡ w → take (i + 1) (set xs i p.first) ++ kept_of s p.second (drop (i + 1) (set xs i p.first)) ≡ w
    unfolding kept_of
    kept-step q =
        rw (unread p.first, written xs i p.first (kept_of s p.second (drop (i + 1) xs)) h)
        (sym (at_drop_more (λ (zs : List Level). take i xs ++ kept_of s x zs) xs i d h ∙ rw (← e)) ∙ q)

    pub over-step : (o : Level) → over_of s x (drop i xs) ≡ o → over_of s p.second (drop (i + 1) (set xs i p.first)) ≡ o
    unfolding over_of
    over-step o q = rw (unread p.first) (sym (at_drop_more (over_of s x) xs i d h ∙ ap (λ (t : Pair). over_of s t.second (drop (i + 1) xs)) (sym e)) ∙ q)

module _ (xs : List Level) (i : ℕ) (h : length xs ≤ i) where
  -- nothing remains
  pub replaced-all : (x : Level) (w : List Level) → take i xs ++ replaced_of x (drop i xs) ≡ w → xs ≡ w
  unfolding replaced_of
  replaced-all x w e = sym (rw (take_all i xs h, drop_all i xs h) (append-nil xs)) ∙ e

  pub kept-all : (s : Side) (x : Level) (w : List Level) → take i xs ++ kept_of s x (drop i xs) ≡ w → xs ≡ w
  unfolding kept_of
  kept-all s x w e = sym (rw (take_all i xs h, drop_all i xs h) (append-nil xs)) ∙ e

  pub over-all : (s : Side) (x o : Level) → over_of s x (drop i xs) ≡ o → x ≡ o
  unfolding over_of
  over-all s x o e = sym (ap (over_of s x) (drop_all i xs h)) ∙ e

regroup : (a b c e : List ℕ) → a ++ b ++ c ++ e ≡ a ++ (b ++ (c ++ (e ++ [])))
regroup a b c e = simp (append_assoc, append-nil)

module _ (ls : List Level) (d : Level) (n : length ls ≡ 4) where
  pub without_is : (p : ℕ) (g0 g1 g2 g3 : Bool) (m0 m1 m2 m3 : Level)
      → g0 ≡ eqb (get_or ls 0 d).price p → g1 ≡ cond g0 true (eqb (get_or ls 1 d).price p) → g2 ≡ cond g1 true (eqb (get_or ls 2 d).price p) → g3 ≡ cond g2 true (eqb (get_or ls 3 d).price p)
      → m0 ≡ cond g0 (get_or ls 1 d) (get_or ls 0 d) → m1 ≡ cond g1 (get_or ls 2 d) (get_or ls 1 d) → m2 ≡ cond g2 (get_or ls 3 d) (get_or ls 2 d) → m3 ≡ cond g3 no_level (get_or ls 3 d)
      → m0 ∷ m1 ∷ m2 ∷ m3 ∷ [] ≡ without_of false p ls
  unfolding without_of
  without_is p g0 g1 g2 g3 m0 m1 m2 m3 a0 a1 a2 a3 b0 b1 b2 b3 =
      sym (ap (without_of false p) (as-four ls d n) ∙ rw (← a0, ← a1, ← a2, ← a3, ← b0, ← b1, ← b2, ← b3))

  -- four cells written in a row
  pub put_is : (p : List ℕ) (at : ℕ) →
      splice (splice (splice (splice p at (level_bytes (get_or ls 0 d))) (at + level_length) (level_bytes (get_or ls 1 d))) (at + 2 * level_length) (level_bytes (get_or ls 2 d))) (at + 3 * level_length) (level_bytes (get_or ls 3 d)) ≡ splice p at (joined_levels ls)
  unfolding joined_levels level_bytes le_bytes
  put_is p at =
      rw (splice-join p at level_length _ _ refl, splice-join p at (2 * level_length) _ _ refl, splice-join p at (3 * level_length) _ _ refl)
      (ap (splice p at) (regroup (level_bytes (get_or ls 0 d)) (level_bytes (get_or ls 1 d)) (level_bytes (get_or ls 2 d)) (level_bytes (get_or ls 3 d)) ∙ sym (ap joined_levels (as-four ls d n))))

  pub put_four : (p q0 q1 q2 q3 : List ℕ) (at : ℕ) → q0 ≡ splice p at (level_bytes (get_or ls 0 d)) → q1 ≡ splice q0 (at + level_length) (level_bytes (get_or ls 1 d))
      → q2 ≡ splice q1 (at + 2 * level_length) (level_bytes (get_or ls 2 d)) → q3 ≡ splice q2 (at + 3 * level_length) (level_bytes (get_or ls 3 d)) → q3 ≡ splice p at (joined_levels ls)
  put_four p q0 q1 q2 q3 at e0 e1 e2 e3 = rw (e3, e2, e1, e0) (put_is p at)

-- the four cells of a part of a page
cells-at : (p : List ℕ) (at : ℕ) → cells_in 4 (part p at side_length) ≡ level_in (part p at level_length) ∷ level_in (part p (at + level_length) level_length) ∷ level_in (part p (at + 2 * level_length) level_length) ∷ level_in (part p (at + 3 * level_length) level_length) ∷ []
unfolding cells_in part
cells-at p at =
    let b : List ℕ = take side_length (drop at p) in
    let c0 : take level_length b ≡ take level_length (drop at p) = take-take level_length side_length (drop at p) (lit≤ tt) in
    let c1 : take level_length (drop level_length b) ≡ take level_length (drop (at + level_length) p) = part-part p at side_length level_length level_length (lit≤ tt) in
    let c2 : take level_length (drop level_length (drop level_length b)) ≡ take level_length (drop (at + 2 * level_length) p) = ap (take level_length) (drop-drop level_length level_length b) ∙ part-part p at side_length (2 * level_length) level_length (lit≤ tt) in
    let c3 : take level_length (drop level_length (drop level_length (drop level_length b))) ≡ take level_length (drop (at + 3 * level_length) p) =
    ap (λ (l : List ℕ). take level_length (drop level_length l)) (drop-drop level_length level_length b) ∙ ap (take level_length) (drop-drop level_length (2 * level_length) b) ∙ part-part p at side_length (3 * level_length) level_length (lit≤ tt) in
    λ i. level_in (c0 i) ∷ level_in (c1 i) ∷ level_in (c2 i) ∷ level_in (c3 i) ∷ []

pub read_is : (s : Side) (p : List ℕ) (at : ℕ) (a b c e w x y z : Level)
    → a ≡ level_in (part p at level_length) → b ≡ level_in (part p (at + level_length) level_length) → c ≡ level_in (part p (at + 2 * level_length) level_length) → e ≡ level_in (part p (at + 3 * level_length) level_length)
    → w ≡ standing a → x ≡ standing_behind s w b → y ≡ standing_behind s x c → z ≡ standing_behind s y e
    → w ∷ x ∷ y ∷ z ∷ [] ≡ cells_of (side_in s (part p at side_length))
unfolding side_in
read_is s p at a b c e w x y z ea eb ec ee ew ex ey ez =
    rw (cells-at p at, ← ea, ← eb, ← ec, ← ee, ← read-four s a b c e, ← ew, ← ex, ← ey, ← ez)

-- ---- one item

module _ (s : Side) (t : ℕ) (i : Item) (l r : Levels) where
  pub item-zero : i.shares ≡ 0 → r.cells ≡ without_of false i.price l.cells → Ok r ≡ with_item s t i l
  unfolding with_item
  item-zero e f = rw (eq-eqb i.shares 0 e, ← f)

  module _ (k : Bool) (h : i.shares ≡ 0 → ⊥) (eh : k ≡ holds_of i.price l.cells) where
    pub item-known : k ≡ true → r.cells ≡ replaced_of (level_of t i) l.cells → Ok r ≡ with_item s t i l
    unfolding with_item
    item-known e f = rw (ne_eqb i.shares 0 h, ← eh, e, ← f)

    module _ (over : Level) (e : k ≡ false) (ek : r.cells ≡ kept_of s (level_of t i) l.cells) (eo : over ≡ over_of s (level_of t i) l.cells) where
      pub item-added : over.price ≡ 0 → Ok r ≡ with_item s t i l
      unfolding with_item
      item-added q = rw (ne_eqb i.shares 0 h, ← eh, e, ← eo, eq-eqb over.price 0 q, ← ek)

      pub item-full : (over.price ≡ 0 → ⊥) → Err (record { by = FifthLevel; levels = l }) ≡ with_item s t i l
      unfolding with_item
      item-full q = rw (ne_eqb i.shares 0 h, ← eh, e, ← eo, ne_eqb over.price 0 q)
