-- On the cells of levels, what `Cells.antt` says of cells is what `Levels.antt` says of levels.
-- Assumes nothing.
use Prim.Native.Nat.{ℕ, zero, suc, ◌≤◌, ◌<◌}
use mathlib.Core.Path.{◌≡◌, refl, sym, ap, ◌∙◌}
use mathlib.Core.Bool.{Bool, true, false, cond}
use mathlib.Core.List.{List, [], ◌∷◌}
use Rattle.std.specs.Prelude.{Option, None, Some, Result, Err}
use native.Mathlib.Omega.{arith}
use borrow.Author.Tests.{ltb-true, ltb-false, lt-ltb, le-ltb, eqb-false, ne_eqb}
use lib.Dec.{ltb, eqb}
use lib.ListN.{length}
use Rattle.lists.proofs.Tests.{Cut, equal, apart, cut, clash}
use Rattle.ranking.specs.declared.Side.{Side}
use Rattle.ranking.specs.declared.Side.TheVariants.{Bid, Offer}
use Rattle.ranking.specs.Ranking.{ahead}
use Rattle.quote.specs.declared.Level.{Level}
use Rattle.quote.specs.Quote.{no_level}
use Rattle.levels.specs.declared.Levels.{Levels}
use Rattle.levels.specs.declared.Item.{Item}
use Rattle.levels.specs.declared.Pair.{Pair}
use Rattle.levels.specs.declared.Rejected.{Rejected}
use Rattle.numbers.specs.declared.Rejection.TheVariants.{FifthLevel}
use Rattle.levels.specs.Levels.{without, insert, item_on, empty_cell, ranked}
use Rattle.levels.specs.code.Cells.{padded_cells, cells_of, leads, standing, standing_behind, ordered_of, kept_of, over_of, head_or, without_of, holds_of, replaced_of, passed, level_of, with_item}
use Rattle.levels.proofs.LevelLaws.{Behind, Ranked, Lacks, cell-priced, behind-lacks, without-none, without-short, insert-front}

-- ---- which price goes first

leads-ahead : (s : Side) (p q : ℕ) → eqb p 0 ≡ false → eqb q 0 ≡ false → leads s p q ≡ ahead s p q
unfolding leads
leads-ahead s p q e f = rw (e, f)

leads-none : (s : Side) (p : ℕ) → eqb p 0 ≡ false → leads s p 0 ≡ true
unfolding leads
leads-none s p e = rw e

ahead-not : (s : Side) (p q : ℕ) → ahead s p q ≡ true → ahead s q p ≡ false
ahead-not Bid p q e = le-ltb p q (omega (arith, ltb-true q p e))
ahead-not Offer p q e = le-ltb q p (omega (arith, ltb-true p q e))

-- ---- any cells, as they are read

read_behind : Side → Level → List Level → List Level
read_behind s y [] = []
read_behind s y (x ∷ xs) = standing_behind s y x ∷ read_behind s (standing_behind s y x) xs

read_none : (s : Side) (xs : List Level) → read_behind s no_level xs ≡ padded_cells (length xs) []
unfolding read_behind standing_behind leads padded_cells
read_none s [] = refl
read_none s (x ∷ xs) = ap (λ (l : List Level). no_level ∷ l) (read_none s xs)

read-behind : (s : Side) (y : Level) (xs : List Level) → eqb y.price 0 ≡ false → read_behind s y xs ≡ padded_cells (length xs) (ranked s (Some y) xs)
unfolding read_behind standing_behind standing padded_cells ranked
read-behind s y [] z = refl
read-behind s y (x ∷ xs) z = go (read-behind s x xs) (empty_cell x) refl (leads s y.price x.price) refl
  where
    none_here : (b : Bool) → cond b no_level no_level ≡ no_level
    none_here true = refl
    none_here false = refl

    go : (eqb x.price 0 ≡ false → read_behind s x xs ≡ padded_cells (length xs) (ranked s (Some x) xs)) → (a : Bool) → empty_cell x ≡ a → (b : Bool) → leads s y.price x.price ≡ b
        → cond b (cond a no_level x) no_level ∷ read_behind s (cond b (cond a no_level x) no_level) xs
        ≡ padded_cells (suc (length xs)) (cond a [] (cond (ahead s y.price x.price) (x ∷ ranked s (Some x) xs) []))
    go down true e b f = rw (none_here b) (ap (λ (l : List Level). no_level ∷ l) (read_none s xs))
    go down false e true f = rw (sym (leads-ahead s y.price x.price z (cell-priced x e)) ∙ f) (ap (λ (l : List Level). x ∷ l) (down (cell-priced x e)))
    go down false e false f = rw (sym (leads-ahead s y.price x.price z (cell-priced x e)) ∙ f) (ap (λ (l : List Level). no_level ∷ l) (read_none s xs))

pub read-four : (s : Side) (a b c d : Level)
    → (let x = standing a in let y = standing_behind s x b in let z = standing_behind s y c in x ∷ y ∷ z ∷ standing_behind s z d ∷ []) ≡ cells_of (ranked s None (a ∷ b ∷ c ∷ d ∷ []))
unfolding read_behind standing ranked padded_cells
read-four s a b c d = go (empty_cell a) refl
  where
    go : (t : Bool) → empty_cell a ≡ t → cond t no_level a ∷ read_behind s (cond t no_level a) (b ∷ c ∷ d ∷ []) ≡ padded_cells 4 (cond t [] (a ∷ ranked s (Some a) (b ∷ c ∷ d ∷ [])))
    go true e = ap (λ (l : List Level). no_level ∷ l) (read_none s (b ∷ c ∷ d ∷ []))
    go false e = ap (λ (l : List Level). a ∷ l) (read-behind s a (b ∷ c ∷ d ∷ []) (cell-priced a e))

-- ---- a price taken out

module _ (p : ℕ) where
  without-lacking : (ys : List Level) → Lacks p ys → without_of false p ys ≡ ys
  unfolding without_of
  without-lacking [] l = refl
  without-lacking (y ∷ ys) l = rw (ne_eqb y.price p l.0) (ap (λ (z : List Level). y ∷ z) (without-lacking ys l.1))

  -- those behind move up
  moved : (k : ℕ) (xs : List Level) → length xs ≤ k → head_or (padded_cells k xs) ∷ without_of true p (padded_cells k xs) ≡ padded_cells (suc k) xs
  unfolding without_of padded_cells
  moved zero [] h = refl
  moved zero (x ∷ xs) h = absurd (omega arith)
  moved (suc k) [] h = ap (λ (z : List Level). no_level ∷ z) (moved k [] (omega arith))
  moved (suc k) (x ∷ xs) h = ap (λ (z : List Level). x ∷ z) (moved k xs (omega arith))

  -- ---- a known price

  holds-lacking : (ys : List Level) → Lacks p ys → holds_of p ys ≡ false
  unfolding holds_of
  holds-lacking [] l = refl
  holds-lacking (y ∷ ys) l = rw (ne_eqb y.price p l.0) (holds-lacking ys l.1)

  lacks-holds : (ls : List Level) → holds_of p ls ≡ false → Lacks p ls
  unfolding holds_of
  lacks-holds [] e = tt
  lacks-holds (x ∷ xs) e = go (eqb x.price p) refl e (lacks-holds xs)
    where
      go : (t : Bool) → eqb x.price p ≡ t → cond t true (holds_of p xs) ≡ false → (holds_of p xs ≡ false → Lacks p xs) → Lacks p (x ∷ xs)
      go true f e d = clash e
      go false f e d = (eqb-false x.price p f, d e)

  held-shorter : (ls : List Level) → holds_of p ls ≡ true → length (without p ls) < length ls
  unfolding holds_of without
  held-shorter [] e = clash (sym e)
  held-shorter (x ∷ xs) e = go (eqb x.price p) e (held-shorter xs)
    where
      go : (t : Bool) → cond t true (holds_of p xs) ≡ true → (holds_of p xs ≡ true → length (without p xs) < length xs) → length (cond t (without p xs) (x ∷ without p xs)) < suc (length xs)
      go true e d = omega (arith, without-short p xs)
      go false e d = omega (arith, d e)

  -- a price that is held behind another
  held-behind : (s : Side) (q : ℕ) (xs : List Level) → Behind s q xs → holds_of p xs ≡ true → ahead s q p ≡ true
  unfolding holds_of
  held-behind s q [] b e = clash (sym e)
  held-behind s q (x ∷ xs) b e = go (cut x.price p) e (held-behind s q xs b.1)
    where
      go : Cut x.price p → cond (eqb x.price p) true (holds_of p xs) ≡ true → (holds_of p xs ≡ true → ahead s q p ≡ true) → ahead s q p ≡ true
      go (equal t e) f d = rw e at b.0
      go (apart t e) f d = d (rw t at f)

  -- ---- the same on cells: a price is none of the empty ones

  module _ (n : p ≡ 0 → ⊥) where
    lacks-cells : (k : ℕ) (ls : List Level) → Lacks p ls → Lacks p (padded_cells k ls)
    unfolding padded_cells
    lacks-cells zero ls l = tt
    lacks-cells (suc k) [] l = ((λ e. n (sym e)), lacks-cells k [] tt)
    lacks-cells (suc k) (x ∷ xs) l = (l.0, lacks-cells k xs l.1)

    without-cells : (s : Side) (k : ℕ) (ls : List Level) → length ls ≤ k → Ranked s ls → without_of false p (padded_cells k ls) ≡ padded_cells k (without p ls)
    unfolding without_of padded_cells without
    without-cells s k [] h r = without-lacking (padded_cells k []) (lacks-cells k [] tt)
    without-cells s zero (x ∷ xs) h r = absurd (omega arith)
    without-cells s (suc k) (x ∷ xs) h r = go (cut x.price p) (without-cells s k xs (omega arith) r.2)
      where
        go : Cut x.price p → without_of false p (padded_cells k xs) ≡ padded_cells k (without p xs) → without_of false p (padded_cells (suc k) (x ∷ xs)) ≡ padded_cells (suc k) (without p (x ∷ xs))
        go (equal t e) d = rw (t, without-none p xs (behind-lacks s p xs (rw e at r.1))) (moved k xs (omega arith))
        go (apart t e) d = rw (t, d)

    holds-cells : (k : ℕ) (ls : List Level) → length ls ≤ k → holds_of p (padded_cells k ls) ≡ holds_of p ls
    unfolding holds_of padded_cells
    holds-cells k [] h = holds-lacking (padded_cells k []) (lacks-cells k [] tt)
    holds-cells zero (x ∷ xs) h = absurd (omega arith)
    holds-cells (suc k) (x ∷ xs) h = ap (cond (eqb x.price p) true) (holds-cells k xs (omega arith))

module _ (s : Side) (x : Level) (n : x.price ≡ 0 → ⊥) where
  replaced-lacking : (ys : List Level) → Lacks x.price ys → replaced_of x ys ≡ ys
  unfolding replaced_of
  replaced-lacking [] l = refl
  replaced-lacking (y ∷ ys) l = rw (ne_eqb y.price x.price l.0) (ap (λ (z : List Level). y ∷ z) (replaced-lacking ys l.1))

  replaced-cells : (k : ℕ) (ls : List Level) → length ls ≤ k → Ranked s ls → holds_of x.price ls ≡ true → replaced_of x (padded_cells k ls) ≡ padded_cells k (insert s x (without x.price ls))
  unfolding replaced_of padded_cells holds_of without insert
  replaced-cells k [] h r e = clash (sym e)
  replaced-cells zero (y ∷ ys) h r e = absurd (omega arith)
  replaced-cells (suc k) (y ∷ ys) h r e = go (cut y.price x.price) e (replaced-cells k ys (omega arith) r.2)
    where
      go : Cut y.price x.price → cond (eqb y.price x.price) true (holds_of x.price ys) ≡ true
          → (holds_of x.price ys ≡ true → replaced_of x (padded_cells k ys) ≡ padded_cells k (insert s x (without x.price ys)))
          → replaced_of x (padded_cells (suc k) (y ∷ ys)) ≡ padded_cells (suc k) (insert s x (without x.price (y ∷ ys)))
      go (equal t e) f d =
          let b : Behind s x.price ys = rw e at r.1 in
          let l : Lacks x.price ys = behind-lacks s x.price ys b in
          rw (t, without-none x.price ys l, insert-front s x ys b, replaced-lacking (padded_cells k ys) (lacks-cells x.price n k ys l))
      go (apart t e) f d =
          let g : holds_of x.price ys ≡ true = rw t at f in
          rw (t, ahead-not s y.price x.price (held-behind x.price s y.price ys r.1 g), d g)

-- ---- a new price

none_kept : (s : Side) (k : ℕ) → kept_of s no_level (padded_cells k []) ≡ padded_cells k []
unfolding kept_of ordered_of leads padded_cells
none_kept s zero = refl
none_kept s (suc k) = ap (λ (z : List Level). no_level ∷ z) (none_kept s k)

none_over : (s : Side) (k : ℕ) → over_of s no_level (padded_cells k []) ≡ no_level
unfolding over_of ordered_of leads padded_cells
none_over s zero = refl
none_over s (suc k) = none_over s k

over-step : (s : Side) (x y : Level) (ys : List Level) (t : Bool) → leads s x.price y.price ≡ t
    → over_of s x (y ∷ ys) ≡ over_of s (cond {A = Pair} t (record { first = x; second = y }) (record { first = y; second = x })).second ys
unfolding over_of ordered_of
over-step s x y ys t e = ap (λ (b : Bool). over_of s (cond {A = Pair} b (record { first = x; second = y }) (record { first = y; second = x })).second ys) e

kept-cells : (s : Side) (x : Level) (k : ℕ) (ls : List Level) → eqb x.price 0 ≡ false → length ls < k → Ranked s ls
    → (kept_of s x (padded_cells k ls) ≡ padded_cells k (insert s x ls)) × (over_of s x (padded_cells k ls) ≡ no_level)
unfolding kept_of ordered_of padded_cells insert
kept-cells s x zero ls n h r = absurd (omega arith)
kept-cells s x (suc k) [] n h r = (rw (leads-none s x.price n) (ap (λ (z : List Level). x ∷ z) (none_kept s k)), over-step s x no_level (padded_cells k []) true (leads-none s x.price n) ∙ none_over s k)
kept-cells s x (suc k) (y ∷ ys) n h r =
    go (ahead s x.price y.price) (leads-ahead s x.price y.price n (cell-priced y r.0))
    (kept-cells s y k ys (cell-priced y r.0) (omega arith) r.2) (kept-cells s x k ys n (omega arith) r.2)
  where
    go : (t : Bool) → leads s x.price y.price ≡ t
        → (kept_of s y (padded_cells k ys) ≡ padded_cells k (insert s y ys)) × (over_of s y (padded_cells k ys) ≡ no_level)
        → (kept_of s x (padded_cells k ys) ≡ padded_cells k (insert s x ys)) × (over_of s x (padded_cells k ys) ≡ no_level)
        → (kept_of s x (y ∷ padded_cells k ys) ≡ padded_cells (suc k) (cond t (x ∷ y ∷ ys) (y ∷ insert s x ys))) × (over_of s x (y ∷ padded_cells k ys) ≡ no_level)
    go true e a b = (rw e (ap (λ (z : List Level). x ∷ z) (a.0 ∙ ap (padded_cells k) (insert-front s y ys r.1))), over-step s x y (padded_cells k ys) true e ∙ a.1)
    go false e a b = (rw e (ap (λ (z : List Level). y ∷ z) b.0), over-step s x y (padded_cells k ys) false e ∙ b.1)

-- where all cells are taken, a level falls out
over-full : (s : Side) (x : Level) (k : ℕ) (ls : List Level) → eqb x.price 0 ≡ false → k ≤ length ls → Ranked s ls → eqb (over_of s x (padded_cells k ls)).price 0 ≡ false
unfolding over_of padded_cells
over-full s x zero ls n h r = n
over-full s x (suc k) [] n h r = absurd (omega arith)
over-full s x (suc k) (y ∷ ys) n h r = go (leads s x.price y.price) refl (over-full s y k ys (cell-priced y r.0) (omega arith) r.2) (over-full s x k ys n (omega arith) r.2)
  where
    go : (t : Bool) → leads s x.price y.price ≡ t → eqb (over_of s y (padded_cells k ys)).price 0 ≡ false → eqb (over_of s x (padded_cells k ys)).price 0 ≡ false
        → eqb (over_of s x (y ∷ padded_cells k ys)).price 0 ≡ false
    go true e a b = rw (over-step s x y (padded_cells k ys) true e) a
    go false e a b = rw (over-step s x y (padded_cells k ys) false e) b

-- ---- one item

-- the levels after an item or a part as cells, or the rejection with the old ones
abbrev pub side_answer : Levels → Option (List Level) → Result Levels Rejected
side_answer old None = Err (record { by = FifthLevel; levels = old })
side_answer old (Some ms) = passed (cells_of ms)

module _ (s : Side) (t : ℕ) where
  item-new : (i : Item) (ls : List Level) → eqb i.price 0 ≡ false → Ranked s ls → (b : Bool) → ltb (length ls) 4 ≡ b
      → cond (eqb (over_of s (level_of t i) (cells_of ls)).price 0) (passed (kept_of s (level_of t i) (cells_of ls))) (Err (record { by = FifthLevel; levels = record { cells = cells_of ls } }))
      ≡ side_answer (record { cells = cells_of ls }) (cond b (Some (insert s (level_of t i) ls)) None)
  item-new i ls n r true f =
      let k : (kept_of s (level_of t i) (cells_of ls) ≡ cells_of (insert s (level_of t i) ls)) × (over_of s (level_of t i) (cells_of ls) ≡ no_level) =
      kept-cells s (level_of t i) 4 ls n (ltb-true (length ls) 4 f) r in
      rw (k.1, k.0)
  item-new i ls n r false f = rw (over-full s (level_of t i) 4 ls n (ltb-false (length ls) 4 f) r)

  pub item-cells : (i : Item) (ls : List Level) → eqb i.price 0 ≡ false → length ls ≤ 4 → Ranked s ls → with_item s t i (record { cells = cells_of ls }) ≡ side_answer (record { cells = cells_of ls }) (item_on s t i ls)
  unfolding with_item item_on
  item-cells i ls n h r = rw (holds-cells i.price z 4 ls h) (go (eqb i.shares 0) (holds_of i.price ls) refl)
    where
      z : i.price ≡ 0 → ⊥
      z = eqb-false i.price 0 n

      go : (a b : Bool) → holds_of i.price ls ≡ b
          → cond a (passed (without_of false i.price (cells_of ls)))
          (cond b (passed (replaced_of (level_of t i) (cells_of ls)))
          (cond (eqb (over_of s (level_of t i) (cells_of ls)).price 0) (passed (kept_of s (level_of t i) (cells_of ls))) (Err (record { by = FifthLevel; levels = record { cells = cells_of ls } }))))
          ≡ side_answer (record { cells = cells_of ls }) (cond a (Some (without i.price ls)) (cond (ltb (length (without i.price ls)) 4) (Some (insert s (level_of t i) (without i.price ls))) None))
      go true b f = ap passed (without-cells i.price z s 4 ls h r)
      go false true f =
          rw (lt-ltb (length (without i.price ls)) 4 (omega (arith, held-shorter i.price ls f)))
          (ap passed (replaced-cells s (level_of t i) z 4 ls h r f))
      go false false f = rw (without-none i.price ls (lacks-holds i.price ls f)) (item-new i ls n r (ltb (length ls) 4) refl)
