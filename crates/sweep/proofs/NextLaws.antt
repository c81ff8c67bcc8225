-- A step's search as the code makes it: one law for each `return`, what a call returned being a variable with an equation.
-- Assumes nothing.
use Prim.Native.Nat.{ℕ, ◌+◌, ◌-◌, ◌≤◌, ◌<◌}
use mathlib.Core.Path.{◌≡◌, refl, sym, ap, ◌∙◌}
use mathlib.Core.Bool.{Bool, true, false, cond}
use mathlib.Core.List.{List}
use Rattle.std.specs.Prelude.{Option, None, Some}
use native.Mathlib.Omega.{arith}
use lib.Dec.{eqb, leb}
use borrow.Author.Tests.{eq-eqb, ne_eqb, leb-true, leb-false}
use Rattle.field.specs.Field.{Bytes, part, field}
use Rattle.field.specs.Ascii.{A, D, S}
use Rattle.lists.specs.Lists.{map_option, bind_option, collect}
use Rattle.lists.proofs.Searches.{less_one}
use Rattle.ranking.specs.declared.Side.{Side}
use Rattle.ranking.specs.declared.Candidate.{Candidate}
use Rattle.ranking.specs.declared.Compared.{Compared}
use Rattle.ranking.specs.Ranking.{better, best}
use Rattle.ranking.specs.Held.{no_candidate, or_none}
use Rattle.ranking.specs.code.Choice.{live, by_rank, choose, best_from}
use Rattle.ranking.proofs.ChoiceLaws.{choose-none, choose-live}
use Rattle.ranking.proofs.Bridge.{OrCounting, live_back, side-best}
use Rattle.quote.specs.Quote.{candidate_of, quote_in, quote_length}
use Rattle.text.specs.Form.{name_length}
use Rattle.entries.specs.Entries.{letters, as_d, finra_best, letter_candidate, candidates}
use Rattle.page.specs.Page.{quotes_in, makers_in, occupied}
use Rattle.page.specs.Layout.{cell_at, maker_count, letter_count}
use Rattle.walk.specs.code.Walk.{asked, maker_at}
use Rattle.walk.proofs.StepLaws.{maker-r, maker-other}
use Rattle.walk.proofs.WalkLaws.{maker-counts, letter-counts, finra-counts, finra-is}
use Rattle.protection.specs.Protection.{page_candidates}
use Rattle.std.proofs.Common.{min}
use Rattle.std.proofs.Math.Nat.{min-eq_left, min-eq_right, min-le_left}
use Rattle.sweep.specs.Sweep.{least}
use Rattle.sweep.specs.code.Next.{follows, if_next, next_at}

-- ---- a maker

module _ (s : Side) (p : List ℕ) (k a : ℕ) (ea : a ≡ cell_at k) (c : ℕ) (ec : c ≡ field p (a + name_length) 1) where
  pub maker-read : (n : ℕ) (r : Candidate) → c ≡ 82 → n ≡ field p a 4 → r ≡ or_none (candidate_of s n (quote_in (part p (a + name_length) quote_length))) → r ≡ or_none (maker_at p s k)
  unfolding maker_at
  maker-read n r e en er = er ∙ rw (en, ← ea) (ap or_none (sym (maker-r p a s (sym ec ∙ e))))

  pub maker-free : (c ≡ 82 → ⊥) → no_candidate ≡ or_none (maker_at p s k)
  unfolding maker_at
  maker-free n = rw (← ea) (ap or_none (sym (maker-other p a s (λ e. n (ec ∙ e)))))

-- ---- a loop over candidates: what remains gives what the whole gives

module _ (s : Side) (c : ℕ → Candidate) (n : ℕ) where
  best-step : (i : ℕ) (b : Candidate) → i < n → best_from s c i (n - i) b ≡ best_from s c (i + 1) (n - (i + 1)) (choose s b (c i))
  unfolding best_from
  best-step i b h = rw (less_one n i h)

  pub best-again : (w : Candidate) (i : ℕ) (b r : Candidate) → i < n → best_from s c i (n - i) b ≡ w → r ≡ choose s b (c i) → best_from s c (i + 1) (n - (i + 1)) r ≡ w
  best-again w i b r h inv e = rw e (sym (best-step i b h) ∙ inv)

  pub best-end : (w : Candidate) (i : ℕ) (b : Candidate) → n ≤ i → best_from s c i (n - i) b ≡ w → b ≡ w
  unfolding best_from
  best-end w i b h inv =
      let e : n - i ≡ 0 = omega arith in
      rw e at inv

pub chosen : (s : Side) (b x r : Candidate) (o : Option Candidate) → live x ≡ o → r ≡ choose s b x → r ≡ choose s b (or_none o)
chosen s b x r o e h = h ∙ choose-live s b x ∙ ap (λ (o : Option Candidate). choose s b (or_none o)) e

pub finra-found : (p : List ℕ) → Bytes p → (s : Side) (r : Candidate) → r ≡ best_from s (asked (maker_at p) s) 0 maker_count no_candidate → r ≡ or_none (finra_best (occupied (makers_in p)) s)
finra-found p b s r e = e ∙ side-best s (maker_at p s) (maker-counts p b s) 0 maker_count ∙ ap or_none (finra-is p b s)

-- ---- a letter

-- it has no candidate, or one that counts
pub page-counts : (p : List ℕ) → Bytes p → (s : Side) (l : ℕ) → OrCounting (page_candidates p s l)
unfolding page_candidates candidates
page-counts p b s l = letter-counts p b s (finra_best (occupied (makers_in p)) s) l (finra-counts p b s)

as-d-live : (o : Option Candidate) → OrCounting o → live (as_d (or_none o)) ≡ map_option as_d o
unfolding as_d live
as-d-live None h = refl
as-d-live (Some c) h = rw (ne_eqb c.price 0 h.price, ne_eqb c.size 0 h.size)

module _ (p : List ℕ) (s : Side) where
  pub letter-d : Bytes p → (f : Candidate) → f ≡ or_none (finra_best (occupied (makers_in p)) s) → (l : ℕ) (r : Candidate) → l ≡ D → r ≡ as_d f → live r ≡ page_candidates p s l
  unfolding page_candidates candidates letter_candidate
  letter-d b f ef l r e er = ap live (er ∙ ap as_d ef) ∙ as-d-live (finra_best (occupied (makers_in p)) s) (finra-counts p b s) ∙ rw e

  pub letter-s : (l : ℕ) → l ≡ S → live no_candidate ≡ page_candidates p s l
  unfolding page_candidates candidates letter_candidate live
  letter-s l e = rw e

  other-is : (l : ℕ) → (l ≡ D → ⊥) → (l ≡ S → ⊥) → candidate_of s l (quotes_in p l) ≡ page_candidates p s l
  unfolding page_candidates candidates letter_candidate
  other-is l n m = rw (ne_eqb l D n, ne_eqb l S m)

  pub letter-other : Bytes p → (l : ℕ) (r : Candidate) → (l ≡ D → ⊥) → (l ≡ S → ⊥) → r ≡ or_none (candidate_of s l (quotes_in p l)) → live r ≡ page_candidates p s l
  letter-other b l r n m er = ap live (er ∙ ap or_none (other-is l n m)) ∙ live_back (page_candidates p s l) (page-counts p b s l)

-- ---- behind the last one used

pub follows-none : (s : Side) (last x : Candidate) → last.price ≡ 0 → true ≡ follows s last x
unfolding follows
follows-none s last x e = rw (eq-eqb last.price 0 e)

pub follows_by : (s : Side) (last x : Candidate) (r : Compared) → (last.price ≡ 0 → ⊥) → r ≡ by_rank s last x → r.ahead ≡ follows s last x
unfolding follows
follows_by s last x r n e = rw (ne_eqb last.price 0 n) (ap (λ (c : Compared). c.ahead) e)

module _ (s : Side) (last b x : Candidate) (t : Bool) (et : t ≡ follows s last x) where
  -- what counts and follows
  kept : bind_option (live x) (if_next s last) ≡ cond t (live x) None
  unfolding live
  kept = go (eqb x.price 0) (eqb x.size 0)
    where
      still : (v : Bool) → ◌≡◌ {A = Option Candidate} None (cond v None None)
      still true = refl
      still false = refl

      go : (p z : Bool) → bind_option (cond p None (cond z None (Some x))) (if_next s last) ≡ cond t (cond p None (cond z None (Some x))) None
      go true z = still t
      go false true = still t
      go false false = ap (λ (v : Bool). cond v (Some x) None) (sym et)

  pub next-taken : (r : Candidate) → t ≡ true → r ≡ choose s b x → r ≡ choose s b (or_none (bind_option (live x) (if_next s last)))
  next-taken r h e = chosen s b x r (live x) refl e ∙ ap (λ (o : Option Candidate). choose s b (or_none o)) (sym (kept ∙ ap (λ (v : Bool). cond v (live x) None) h))

  pub next-passed : t ≡ false → b ≡ choose s b (or_none (bind_option (live x) (if_next s last)))
  next-passed h = choose-none s b ∙ ap (λ (o : Option Candidate). choose s b (or_none o)) (sym (kept ∙ ap (λ (v : Bool). cond v (live x) None) h))

-- ---- the best that follows

pub next-chosen : (p : List ℕ) (s : Side) (last b x r : Candidate) (l : ℕ) → live x ≡ page_candidates p s l → r ≡ choose s b (or_none (bind_option (live x) (if_next s last)))
    → r ≡ choose s b (or_none (next_at p s last l))
unfolding next_at
next-chosen p s last b x r l e h = h ∙ ap (λ (o : Option Candidate). choose s b (or_none (bind_option o (if_next s last)))) e

module _ (p : List ℕ) (b : Bytes p) (s : Side) where
  pub next-counts : (last : Candidate) (l : ℕ) → OrCounting (next_at p s last l)
  unfolding next_at
  next-counts last l = go (page_candidates p s l) (page-counts p b s l)
    where
      go : (o : Option Candidate) → OrCounting o → OrCounting (bind_option o (if_next s last))
      go None h = tt
      go (Some c) h = one (follows s last c)
        where
          one : (t : Bool) → OrCounting (cond t (Some c) None)
          one true = h
          one false = tt

  pub next-found : (last r : Candidate) → r ≡ best_from s (λ l. or_none (next_at p s last l)) A letter_count no_candidate → r ≡ or_none (best (better s) (collect (next_at p s last) letters))
  unfolding letters
  next-found last r e = e ∙ side-best s (next_at p s last) (next-counts last) A letter_count

-- ---- the lots of a step

-- the lesser of two as the library gives it
pub least-min : (a b r : ℕ) → r ≡ min a b → (r ≡ least a b) × (r ≤ a)
least-min a b r e = (e ∙ go (leb a b) refl, omega (arith, e, min-le_left a b))
  where
    go : (t : Bool) → leb a b ≡ t → min a b ≡ cond t a b
    go true h = min-eq_left (leb-true a b h)
    go false h = min-eq_right (omega (arith, leb-false a b h))
