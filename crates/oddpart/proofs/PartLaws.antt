-- The odd part as the code meets it: its checks, and the items of a side. One law for each return.
-- Assumes nothing.
use Prim.Native.Nat.{ℕ, zero, suc, ◌+◌, ◌-◌, ◌≤◌, ◌<◌}
use mathlib.Core.Path.{◌≡◌, refl, sym, ap, ◌∙◌}
use mathlib.Core.Bool.{Bool, true, false, not, ◌&&◌, ◌||◌, cond}
use mathlib.Core.List.{List, [], ◌∷◌, ◌++◌}
use mathlib.Core.Logic.{◌⊎◌, inl, inr}
use native.Mathlib.Omega.{arith}
use native.Mathlib.Nat.{sub-zero, add-zero}
use borrow.Author.Tests.{eq-eqb, ne_eqb, le-leb, lt-leb}
use lib.Dec.{eqb, leb}
use lib.ListN.{length}
use Rattle.lists.specs.Lists.{member}
use Rattle.lists.proofs.Searches.{less_one}
use Rattle.ranking.specs.declared.Side.{Side}
use Rattle.ranking.specs.declared.Side.TheVariants.{Bid, Offer}
use Rattle.quote.specs.declared.Level.{Level}
use Rattle.quote.specs.Quote.{no_level}
use Rattle.levels.specs.declared.Levels.{Levels}
use Rattle.levels.specs.declared.Item.{Item}
use Rattle.levels.specs.declared.Rejected.{Rejected}
use Rattle.std.specs.Prelude.{Result, Ok, Err}
use Rattle.levels.specs.Levels.{clears, cleared_by, named, touches, items_bad, odd_bad, item_at, items_from, odd_in, clear_marks}
use Rattle.levels.specs.code.Cells.{padded_cells, cells_of, with_item}
use Rattle.oddpart.specs.code.Part.{on_pass, touched_by, start_of, with_items, with_part}

-- ---- checks 62 and 63, item by item: what remains from item i on gives what the whole gives

module _ (lot n : ℕ) (s : List ℕ) (w : ℕ) where
  pub judge-start : items_bad lot (items_from s 0 (n - 0)) ≡ items_bad lot (items_from s 0 n)
  judge-start = simp sub-zero

  module _ (i : ℕ) (h : i < n) (inv : items_bad lot (items_from s i (n - i)) ≡ w) (it : Item) (a : it ≡ item_at s i) where
    step : items_bad lot (items_from s i (n - i)) ≡ cond (eqb it.price 0) 62 (cond (leb lot it.shares) 63 (items_bad lot (items_from s (i + 1) (n - (i + 1)))))
    unfolding items_bad items_from
    step = rw (less_one n i h, ← a)

    pub judge-price : it.price ≡ 0 → 62 ≡ w
    judge-price e = rw (← inv, step, eq-eqb it.price 0 e)

    pub judge-shares : (it.price ≡ 0 → ⊥) → lot ≤ it.shares → 63 ≡ w
    judge-shares e l = rw (← inv, step, ne_eqb it.price 0 e, le-leb lot it.shares l)

    pub judge-again : (it.price ≡ 0 → ⊥) → it.shares < lot → items_bad lot (items_from s (i + 1) (n - (i + 1))) ≡ w
    judge-again e l = sym (step ∙ rw (ne_eqb it.price 0 e, lt-leb lot it.shares l)) ∙ inv

  pub judge-end : (i : ℕ) → n ≤ i → items_bad lot (items_from s i (n - i)) ≡ w → 0 ≡ w
  unfolding items_bad items_from
  judge-end i h inv = let e : n - i ≡ 0 = omega arith in rw e at inv

-- ---- the checks of a part, in their order

pub length-items : (s : List ℕ) (i n : ℕ) → length (items_from s i n) ≡ n
unfolding items_from
length-items s i zero = refl
length-items s i (suc n) = ap suc (length-items s (i + 1) n)

items-join : (s : List ℕ) (i j m n : ℕ) → i + m ≡ j → items_from s i m ++ items_from s j n ≡ items_from s i (m + n)
unfolding items_from
items-join s i j zero n e =
    let z : j ≡ i = omega arith in
    let k : 0 + n ≡ n = omega arith in
    rw (z, k)
items-join s i j (suc m) n e =
    let k : suc m + n ≡ suc (m + n) = omega arith in
    rw k (ap (λ (l : List Item). item_at s i ∷ l) (items-join s (i + 1) j m n (omega arith)))

module _ (mark bids offers lot : ℕ) (s : List ℕ) where
  counts : ℕ → ℕ → ℕ
  counts b o = cond (leb b 4 && leb o 4) (items_bad lot (items_from s 0 (bids + offers))) 61

  bad-is : odd_bad lot (odd_in mark bids offers 0 s) ≡ cond (member clear_marks mark) (counts bids offers) 60
  unfolding odd_bad odd_in counts
  bad-is = rw (length-items s 0 bids, length-items s bids offers, items-join s 0 bids bids offers (omega arith))

  pub part-60 : member clear_marks mark ≡ false → 60 ≡ odd_bad lot (odd_in mark bids offers 0 s)
  part-60 m = rw (bad-is, m)

  module _ (m : member clear_marks mark ≡ true) where
    pub part-61 : (4 < bids) ⊎ ((bids ≤ 4) × (4 < offers)) → 61 ≡ odd_bad lot (odd_in mark bids offers 0 s)
    unfolding counts
    part-61 (inl b) = rw (bad-is, m, lt-leb bids 4 b)
    part-61 (inr h) = rw (bad-is, m, le-leb bids 4 h.0, lt-leb offers 4 h.1)

    pub part-items : bids ≤ 4 → offers ≤ 4 → items_bad lot (items_from s 0 (bids + offers)) ≡ odd_bad lot (odd_in mark bids offers 0 s)
    unfolding counts
    part-items b o = rw (bad-is, m, le-leb bids 4 b, le-leb offers 4 o)

-- ---- the items of a side: what remains from item i on gives what the whole gives

module _ (sd : Side) (t : ℕ) (s : List ℕ) (from n : ℕ) where
  pub items-start : (l : Levels) → with_items sd t (items_from s (from + 0) (n - 0)) l ≡ with_items sd t (items_from s from n) l
  items-start l = simp (sub-zero, add-zero)

  module _ (w : Result Levels Rejected) (l : Levels) where
    module _ (i : ℕ) (h : i < n) (inv : with_items sd t (items_from s (from + i) (n - i)) l ≡ w) (it : Item) (a : it ≡ item_at s (from + i)) (ch : Result Levels Rejected) (e : ch ≡ with_item sd t it l) where
      items-step : with_items sd t (items_from s (from + i) (n - i)) l ≡ on_pass ch (with_items sd t (items_from s (from + i + 1) (n - (i + 1))))
      unfolding with_items items_from
      items-step = rw (less_one n i h, ← a, ← e)

      pub items-rejected : (x : Rejected) → ch ≡ Err x → Err x ≡ w
      items-rejected x r = sym (items-step ∙ rw r) ∙ inv

      pub items-again : (k : Levels) → ch ≡ Ok k → with_items sd t (items_from s (from + (i + 1)) (n - (i + 1))) k ≡ w
      items-again k r =
          let j : from + (i + 1) ≡ from + i + 1 = omega arith in
          rw j (sym (items-step ∙ rw r) ∙ inv)

    pub items-end : (i : ℕ) → n ≤ i → with_items sd t (items_from s (from + i) (n - i)) l ≡ w → Ok l ≡ w
    unfolding with_items items_from
    items-end i h inv =
        let e : n - i ≡ 0 = omega arith in
        rw e at inv

pub part-is : (sd : Side) (mark t : ℕ) (is : List Item) (ls : List Level) (l : Levels) → l ≡ start_of mark sd ls → with_items sd t is l ≡ with_part sd mark t is ls
unfolding with_part
part-is sd mark t is ls l e = rw e

-- ---- whether a side is touched, and what it starts with

named-items : (b : List ℕ) (i n : ℕ) → named (items_from b i n) ≡ not (eqb n 0)
unfolding items_from
named-items b i zero = refl
named-items b i (suc n) = rw (ne_eqb (suc n) 0 (λ e. omega arith))

module _ (mark bids offers t : ℕ) (b : List ℕ) where
  pub touches-bids : touched_by mark Bid bids ≡ touches (odd_in mark bids offers t b) Bid
  unfolding touches odd_in
  touches-bids = rw (named-items b 0 bids)

  pub touches-offers : touched_by mark Offer offers ≡ touches (odd_in mark bids offers t b) Offer
  unfolding touches odd_in
  touches-offers = rw (named-items b bids offers)

pub touched-cleared : (c d : Bool) → c ≡ true → true ≡ c || d
touched-cleared c d e = rw e

pub touched-named : (c d : Bool) → c ≡ false → d ≡ c || d
touched-named c d e = rw e

module _ (mark : ℕ) (s : Side) (ls : List Level) where
  pub start-cleared : clears mark s ≡ true → record { cells = no_level ∷ no_level ∷ no_level ∷ no_level ∷ [] } ≡ start_of mark s ls
  unfolding start_of cleared_by padded_cells
  start-cleared e = rw e

  pub start-read : (l : Levels) → clears mark s ≡ false → l.cells ≡ cells_of ls → l ≡ start_of mark s ls
  unfolding start_of cleared_by
  start-read l e f = rw e (λ i. record { cells = f i })
