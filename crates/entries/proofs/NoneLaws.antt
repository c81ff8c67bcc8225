-- No quotes, makers and levels give six entries of none.
-- Assumes nothing.
use Prim.Native.Nat.{ℕ}
use mathlib.Core.Path.{◌≡◌, refl, ap, fun_ext}
use mathlib.Core.Bool.{Bool, true, false, cond}
use mathlib.Core.List.{List, [], ◌∷◌}
use Rattle.std.specs.Prelude.{Option, None}
use lib.Dec.{eqb}
use Rattle.lists.specs.Lists.{collect, gather}
use Rattle.ranking.specs.declared.Side.{Side}
use Rattle.ranking.specs.declared.Side.TheVariants.{Bid, Offer}
use Rattle.ranking.specs.declared.Candidate.{Candidate}
use Rattle.ranking.specs.Ranking.{better, best, why_ahead}
use Rattle.quote.specs.declared.Quote.{Quote}
use Rattle.quote.specs.Quote.{no_quote, counts, candidate_of}
use Rattle.levels.specs.Levels.{no_levels, side_levels}
use Rattle.entries.specs.Entries.{letters, finra_best, letter_candidate, national_best, national_reason, odd_candidate, ranks, letter_levels, odd_best, entries_by, entries_of, no_best}
use Rattle.entries.specs.Publication.{no_entries, publication}
use Rattle.field.specs.Ascii.{D, S}

pub none-published : publication no_best ≡ no_entries
unfolding publication no_entries
none-published = refl

-- ---- no quotes, makers and levels

collect-none : {A B : Type 0} (f : A → Option B) → ((a : A) → f a ≡ None) → (xs : List A) → collect f xs ≡ []
collect-none f h [] = refl
collect-none f h (x ∷ xs) = rw (h x) (collect-none f h xs)

gather_none : {A B : Type 0} (f : A → List B) → ((a : A) → f a ≡ []) → (xs : List A) → gather f xs ≡ []
gather_none f h [] = refl
gather_none f h (x ∷ xs) = rw (h x) (gather_none f h xs)

pub no-candidate : (s : Side) (l : ℕ) → candidate_of s l no_quote ≡ None
unfolding candidate_of counts
no-candidate Bid l = refl
no-candidate Offer l = refl

no-letter : (s : Side) (l : ℕ) → letter_candidate s (λ l. no_quote) None l ≡ None
unfolding letter_candidate
no-letter s l = rw (no-candidate s l) (go (eqb l D) (eqb l S))
  where
    go : (t u : Bool) → cond {A = Option Candidate} t None (cond u None None) ≡ None
    go true u = refl
    go false true = refl
    go false false = refl

no-levels : (s : Side) (quotes : ℕ → Quote) (fb : Option Candidate) (l : ℕ) → letter_levels s quotes fb (λ l. no_levels) l ≡ []
unfolding letter_levels
no-levels s quotes fb l = go (eqb l S) (ranks s quotes fb l) s
  where
    go : (t u : Bool) (s : Side) → cond t [] (cond u (side_levels s no_levels) []) ≡ []
    go true u s = refl
    go false true Bid = refl
    go false true Offer = refl
    go false false s = refl

pub none-entries : entries_of (λ l. no_quote) [] (λ l. no_levels) ≡ no_best
unfolding entries_of entries_by finra_best national_best national_reason why_ahead odd_best
none-entries =
    λ i.
    record {
      national = fun_ext (λ s. ap (best (better s)) (collect-none (letter_candidate s (λ l. no_quote) None) (no-letter s) letters)) i;
      reason = fun_ext (λ s. ap (why_ahead s) (collect-none (letter_candidate s (λ l. no_quote) None) (no-letter s) letters)) i;
      finra = λ s. None;
      odd =
          fun_ext (λ s.
          ap (best (better s))
          (gather_none (λ l. collect (odd_candidate s (national_best (λ l. no_quote) (finra_best []) s) l) (letter_levels s (λ l. no_quote) (finra_best [] s) (λ l. no_levels) l))
          (λ l. ap (collect (odd_candidate s (national_best (λ l. no_quote) (finra_best []) s) l)) (no-levels s (λ l. no_quote) (finra_best [] s) l)) letters)) i;
    }
