-- The makers' cells, as the loop over them goes: one law for each `return`, what a call returned being a variable with an equation.
-- Assumes nothing.
use Prim.Native.Nat.{ℕ, zero, suc, ◌+◌, ◌-◌, ◌^◌, ◌≤◌, ◌<◌}
use mathlib.Core.Path.{◌≡◌, refl, sym, ap, ap₂, ◌∙◌}
use mathlib.Core.Bool.{Bool, true, false, not, ◌&&◌, cond}
use mathlib.Core.List.{List}
use Rattle.std.specs.Prelude.{Option, None, Some}
use native.Mathlib.Omega.{arith}
use lib.Dec.{eqb, ltb}
use borrow.Author.Tests.{eqb-true, eq-eqb, ne_eqb, lt-ltb, le-ltb, ltb-true, ltb-false}
use Rattle.field.specs.Field.{field}
use Rattle.field.specs.Low.{low}
use Rattle.lists.specs.Lists.{member}
use Rattle.lists.proofs.Tests.{clash}
use Rattle.ranking.specs.declared.Side.{Side}
use Rattle.ranking.specs.declared.Side.TheVariants.{Bid, Offer}
use Rattle.ranking.specs.declared.Candidate.{Candidate}
use Rattle.ranking.specs.declared.Compared.{Compared}
use Rattle.ranking.specs.declared.Sides.{Sides}
use Rattle.ranking.specs.Held.{no_candidate, or_none, no_sides}
use Rattle.ranking.specs.code.Choice.{rank_of, live, by_rest, by_rank, choose, step_sides, sides_from}
use Rattle.ranking.proofs.ChoiceLaws.{rank-zero, rank-some, rank-more, rank-tie, rest-size, rest-earlier, rest-later, rest-name, choose-priceless, choose-sizeless, choose-by, choose-behind, choose-live}
use Rattle.quote.specs.Quote.{admits, counts, candidate_of}
use Rattle.quote.proofs.QuoteLaws.{level-at}
use Rattle.page.specs.Layout.{maker_count, cell_at, in_quote}
use Rattle.text.specs.Form.{name_length}
use Rattle.walk.specs.declared.BestCell.{BestCell}
use Rattle.walk.specs.code.Walk.{asked, maker_at}
use Rattle.walk.specs.code.Cells.{in_cell, cell_as, best_cell, Kept, goes_before}
use Rattle.walk.proofs.ReadLaws.{quote-side, quote-condition}
use Rattle.walk.proofs.StepLaws.{maker-r, maker-free, sides-read}

-- a rank of a rank is the price again
pub rank-back : (s : Side) (p : ℕ) → p < 2 ^ 64 → rank_of s (rank_of s p) ≡ p
unfolding rank_of
rank-back Bid p h = refl
rank-back Offer zero h = refl
rank-back Offer (suc p) h =
    let n : 18446744073709551616 - suc p ≡ 0 → ⊥ = λ e. omega arith in
    rw (ne_eqb (suc p) 0 (λ e. omega arith), ne_eqb (18446744073709551616 - suc p) 0 n) (omega arith)

-- ---- a cell of condition R is the candidate that its numbers are, if they count

module _ (p : List ℕ) (k : ℕ) (e : field p (cell_at k + name_length) 1 ≡ 82) where
  maker-live : (s : Side) → maker_at p s k ≡ live (cell_as p s k)
  unfolding maker_at candidate_of counts live cell_as in_cell admits member
  maker-live s =
      maker-r p (cell_at k) s e
      ∙ rw (← quote-side p (cell_at k + name_length) s, level-at p (cell_at k + name_length + in_quote s), ← quote-condition p (cell_at k + name_length), e)
      (go (low p (cell_at k + name_length + in_quote s) 8) (low p (cell_at k + name_length + in_quote s + 8) 4))
    where
      cell : ℕ → ℕ → Candidate
      cell v z = record { name = field p (cell_at k) 4; price = v; size = z; time = low p (cell_at k + name_length + in_quote s + 12) 8; condition = 82 }

      go : (v z : ℕ) → cond (ltb 0 v && ltb 0 z && true) (Some (cell v z)) None ≡ cond (eqb v 0) None (cond (eqb z 0) None (Some (cell v z)))
      go zero z = refl
      go (suc v) zero = rw (lt-ltb 0 (suc v) (omega arith), ne_eqb (suc v) 0 (λ e. omega arith))
      go (suc v) (suc z) = rw (lt-ltb 0 (suc v) (omega arith), ne_eqb (suc v) 0 (λ e. omega arith), lt-ltb 0 (suc z) (omega arith), ne_eqb (suc z) 0 (λ e. omega arith))

  pub cell-chosen : (s : Side) (b : Candidate) → choose s b (cell_as p s k) ≡ choose s b (asked (maker_at p) s k)
  cell-chosen s b = choose-live s b (cell_as p s k) ∙ ap (λ (o : Option Candidate). choose s b (or_none o)) (sym (maker-live s))

-- ---- is_before

module _ (p : List ℕ) (s : Side) (k z : ℕ) (b : BestCell) where
  abbrev new : Candidate
  new = in_cell p s k (rank_of s b.rank) z

  abbrev old : Candidate
  old = in_cell p s b.cell (rank_of s b.rank) b.size

  pub before-size : (z ≡ b.size → ⊥) → ltb b.size z ≡ goes_before p s k z b
  unfolding goes_before in_cell
  before-size n = ap (λ (c : Compared). c.ahead) (rest-size new old n)

  module _ (h : b.size ≤ z) (l : z ≤ b.size) (i j o t u : ℕ) (ei : i ≡ cell_at k) (ej : j ≡ cell_at b.cell) (eo : o ≡ in_quote s)
      (et : t ≡ low p (i + name_length + o + 12) 8) (eu : u ≡ low p (j + name_length + o + 12) 8)
    where
      time-new : t ≡ low p (cell_at k + name_length + in_quote s + 12) 8
      time-new = rw (← ei, ← eo) et

      time-old : u ≡ low p (cell_at b.cell + name_length + in_quote s + 12) 8
      time-old = rw (← ej, ← eo) eu

      pub before-name : (n m : ℕ) → n ≡ field p i 4 → m ≡ field p j 4 → t ≡ u → ltb n m ≡ goes_before p s k z b
      unfolding goes_before in_cell
      before-name n m en em e =
          rw (en, em, ei, ej) (ap (λ (c : Compared). c.ahead) (rest-name new old l h (omega (arith, e, time-new, time-old)) (omega (arith, e, time-new, time-old))))

      pub before-time : (t ≡ u → ⊥) → ltb t u ≡ goes_before p s k z b
      unfolding goes_before in_cell
      before-time n = go (ltb t u) refl
        where
          go : (v : Bool) → ltb t u ≡ v → v ≡ (by_rest new old).ahead
          go true e = ap (λ (c : Compared). c.ahead) (rest-earlier new old l h (omega (arith, ltb-true t u e, time-new, time-old)))
          go false e = ap (λ (c : Compared). c.ahead) (rest-later new old l h (omega (arith, n, ltb-false t u e, time-new, time-old)))

-- ---- the best so far

module _ (p : List ℕ) (s : Side) (b : BestCell) where
  pub best_none : b.size ≡ 0 → no_candidate ≡ best_cell p s b
  unfolding best_cell
  best_none e = rw (eq-eqb b.size 0 e)

  best-some : (b.size ≡ 0 → ⊥) → in_cell p s b.cell (rank_of s b.rank) b.size ≡ best_cell p s b
  unfolding best_cell
  best-some n = rw (ne_eqb b.size 0 n)

  pub best-read : (b.size ≡ 0 → ⊥) → (a o n v t : ℕ) → a ≡ cell_at b.cell → o ≡ in_quote s → n ≡ field p a 4 → v ≡ rank_of s b.rank → t ≡ low p (a + name_length + o + 12) 8
      → record { name = n; price = v; size = b.size; time = t; condition = 82 } ≡ best_cell p s b
  unfolding in_cell
  best-read h a o n v t ea eo en ev et = rw (en, ev, et, ea, eo) (best-some h)

  best-rank : b.rank < 2 ^ 64 → (b.size ≡ 0 → b.rank ≡ 0) → rank_of s (best_cell p s b).price ≡ b.rank
  unfolding best_cell in_cell
  best-rank h n = go (eqb b.size 0) refl
    where
      go : (t : Bool) → eqb b.size 0 ≡ t → rank_of s (cond {A = Candidate} t no_candidate (in_cell p s b.cell (rank_of s b.rank) b.size)).price ≡ b.rank
      go true e = rank-zero s ∙ sym (n (eqb-true b.size 0 e))
      go false e = rank-back s b.rank h

-- ---- with_cell

flip : (t v : Bool) → not t ≡ not v → t ≡ v
flip true true e = refl
flip true false e = clash (sym e)
flip false true e = clash e
flip false false e = refl

module _ (p : List ℕ) (s : Side) (k a o : ℕ) (ea : a ≡ cell_at k) (eo : o ≡ in_quote s) where
  pub price-read : (v : ℕ) → v ≡ low p (a + name_length + o) 8 → v ≡ (cell_as p s k).price
  unfolding cell_as in_cell
  price-read v e = rw (← ea, ← eo) e

  pub size-read : (z : ℕ) → z ≡ low p (a + name_length + o + 8) 4 → z ≡ (cell_as p s k).size
  unfolding cell_as in_cell
  size-read z e = rw (← ea, ← eo) e

-- what is known of cell k before its size is read: its price v, which ranks r, beside the best so far
pub record Priced (p : List ℕ) (s : Side) (k : ℕ) (b : BestCell) (v r : ℕ) : Type 0 where
  pub kept : Kept b
  pub held : b.rank < 2 ^ 64
  pub cell : k < maker_count
  pub fits : v < 2 ^ 64
  pub price : v ≡ (cell_as p s k).price
  pub rank : r ≡ rank_of s v

module _ (p : List ℕ) (s : Side) (k : ℕ) (b : BestCell) (v r : ℕ) (g : Priced p s k b v r) where
  abbrev Step : BestCell → Type 0
  Step w = (Kept w) × (best_cell p s w ≡ choose s (best_cell p s b) (cell_as p s k))

  cell-rank : rank_of s (cell_as p s k).price ≡ r
  cell-rank = ap (rank_of s) (sym g.price) ∙ sym g.rank

  held-rank : rank_of s (best_cell p s b).price ≡ b.rank
  held-rank = best-rank p s b g.held g.kept.1

  pub cell-behind : r < b.rank → Step b
  cell-behind h = (g.kept, choose-behind s (best_cell p s b) (cell_as p s k) true (rw (cell-rank, held-rank) (sym (lt-ltb r b.rank h))) refl)

  pub cell-priceless : v ≡ 0 → Step b
  cell-priceless e = (g.kept, choose-priceless s (best_cell p s b) (cell_as p s k) (sym g.price ∙ e))

  module _ (z : ℕ) (ez : z ≡ (cell_as p s k).size) where
    pub cell-sizeless : z ≡ 0 → Step b
    cell-sizeless e = (g.kept, choose-sizeless s (best_cell p s b) (cell_as p s k) (sym ez ∙ e))

    module _ (nz : z ≡ 0 → ⊥) where
      chosen : (c : Compared) → (v ≡ 0 → ⊥) → c ≡ by_rank s (cell_as p s k) (best_cell p s b) → (t : Bool) → c.ahead ≡ t
          → cond t (cell_as p s k) (best_cell p s b) ≡ choose s (best_cell p s b) (cell_as p s k)
      chosen c nv e t h = choose-by s (best_cell p s b) (cell_as p s k) c (λ q. nv (g.price ∙ q)) (λ q. nz (ez ∙ q)) e t h

      -- what is kept of the cell
      abbrev taken : BestCell
      taken = record { rank = r; size = z; cell = k }

      taken-kept : Kept taken
      taken-kept = (g.cell, λ e. absurd (nz e))

      cell-taken : best_cell p s taken ≡ cell_as p s k
      unfolding cell_as in_cell
      cell-taken =
          sym (best-some p s taken nz)
          ∙ λ i. record { name = field p (cell_at k) 4; price = back i; size = ez i; time = low p (cell_at k + name_length + in_quote s + 12) 8; condition = 82 }
        where
          back : rank_of s r ≡ (cell_as p s k).price
          back = ap (rank_of s) g.rank ∙ rank-back s v g.fits ∙ g.price

      pub cell-ahead : b.rank ≤ r → (r ≡ b.rank → ⊥) → Step taken
      cell-ahead h n =
          let l : b.rank < r = omega (arith, h, n) in
          let nv : v ≡ 0 → ⊥ = λ e. omega (arith, l, g.rank ∙ ap (rank_of s) e ∙ rank-zero s) in (
            taken-kept,
            cell-taken ∙ chosen _ nv (rank-more s (cell_as p s k) (best_cell p s b) _ refl true (rw (cell-rank, held-rank) (sym (lt-ltb b.rank r l))) refl) true refl,
          )

      -- the same price: the rest decides
      module _ (e : r ≡ b.rank) (nv : v ≡ 0 → ⊥) (t : Bool) (et : t ≡ goes_before p s k z b) where
        some-held : b.size ≡ 0 → ⊥
        some-held q = omega (arith, rank-some s v nv g.fits, g.rank, e, g.kept.1 q)

        same-price : in_cell p s k (rank_of s b.rank) z ≡ cell_as p s k
        same-price = ap (λ (q : ℕ). in_cell p s k (rank_of s q) z) (sym e) ∙ best-some p s taken nz ∙ cell-taken

        rest-ahead : (by_rest (cell_as p s k) (best_cell p s b)).ahead ≡ t
        unfolding goes_before
        rest-ahead = ap₂ (λ (x y : Candidate). (by_rest x y).ahead) (sym same-price) (sym (best-some p s b some-held)) ∙ sym et

        by-rest : by_rest (cell_as p s k) (best_cell p s b) ≡ by_rank s (cell_as p s k) (best_cell p s b)
        by-rest =
            rank-tie s (cell_as p s k) (best_cell p s b) false (rw (cell-rank, held-rank) (sym (le-ltb r b.rank (omega (arith, e))))) false
            (rw (cell-rank, held-rank) (sym (le-ltb b.rank r (omega (arith, e))))) _ refl refl refl

        pub cell-after : not t ≡ true → Step b
        cell-after h = (g.kept, chosen _ nv by-rest false (rest-ahead ∙ flip t false h))

        pub cell-before : not t ≡ false → Step taken
        cell-before h = (taken-kept, cell-taken ∙ chosen _ nv by-rest true (rest-ahead ∙ flip t true h))

-- ---- walk_makers

abbrev pub held_sides : List ℕ → BestCell → BestCell → Sides Candidate
held_sides p b o = record { bid = best_cell p Bid b; offer = best_cell p Offer o }

-- both sides after cell k, of b and o before it
abbrev pub Next : List ℕ → ℕ → BestCell → BestCell → BestCell → BestCell → Type 0
Next p k b o w x = (Kept w) × (Kept x) × (held_sides p w x ≡ step_sides (asked (maker_at p)) k (held_sides p b o))

pub cells-start : (p : List ℕ) → sides_from (asked (maker_at p)) 0 maker_count (held_sides p (record { rank = 0; size = 0; cell = 0 }) (record { rank = 0; size = 0; cell = 0 })) ≡ sides_from (asked (maker_at p)) 0 maker_count no_sides
unfolding best_cell
cells-start p = refl

module _ (p : List ℕ) (k : ℕ) (b o : BestCell) (a : ℕ) (ea : a ≡ cell_at k) (c : ℕ) (ec : c ≡ field p (a + name_length) 1) where
  pub cells-read : (w x : BestCell) → c ≡ 82
      → (Kept w) × (best_cell p Bid w ≡ choose Bid (best_cell p Bid b) (cell_as p Bid k))
      → (Kept x) × (best_cell p Offer x ≡ choose Offer (best_cell p Offer o) (cell_as p Offer k)) → (y z : BestCell) → y ≡ w → z ≡ x → Next p k b o y z
  cells-read w x e f g y z ey ez =
      rw (ey, ez) (
        f.0,
        g.0,
        sides-read (asked (maker_at p)) k (held_sides p b o) (best_cell p Bid w) (best_cell p Offer x) (f.1 ∙ cell-chosen p k is-r Bid (best_cell p Bid b)) (g.1 ∙ cell-chosen p k is-r Offer (best_cell p Offer o)),
      )
    where
      is-r : field p (cell_at k + name_length) 1 ≡ 82
      is-r = rw (← ea, ← ec) e

  pub cells_free : (c ≡ 82 → ⊥) → Kept b → Kept o → (y z : BestCell) → y ≡ b → z ≡ o → Next p k b o y z
  cells_free n kb ko y z ey ez = rw (ey, ez) (kb, ko, maker-free p k (held_sides p b o) a ea c ec n)

pub cells-end : (p : List ℕ) (b o : BestCell) (w : Sides Candidate) (x y : Candidate) → held_sides p b o ≡ w → x ≡ best_cell p Bid b → y ≡ best_cell p Offer o → record { bid = x; offer = y } ≡ w
cells-end p b o w x y e f g = (λ i. record { bid = f i; offer = g i }) ∙ e
