-- The two languages agree: the running choice over candidates, price 0 being none, finds the best of the list of those that count.
-- Assumes nothing.
use Rattle.std.proofs.Common.{◌≡◌, ℕ, zero, suc, ◌+◌, ◌-◌, ◌^◌, ◌<◌, ◌≤◌, Bool, true, false, cond, eqb, ltb, List, [], ◌∷◌, sym, refl, ap, ◌∙◌, add-one, arith, ltb-false, ltb-true, le-ltb, lt-ltb, ne_eqb}
use mathlib.Core.Path.{fun_ext}
use Rattle.std.specs.Prelude.{Option, None, Some}
use borrow.Author.Tests.{eqb-false}
use Rattle.lists.specs.Lists.{collect, range}
use Rattle.ranking.specs.declared.Side.{Side}
use Rattle.ranking.specs.declared.Side.TheVariants.{Bid, Offer}
use Rattle.ranking.specs.declared.Candidate.{Candidate}
use Rattle.ranking.specs.declared.Reason.TheVariants.{Price}
use Rattle.ranking.specs.declared.Compared.{Compared}
use Rattle.ranking.specs.Ranking.{ahead, compared_by, lower, higher, by_price, compared, better, best}
use Rattle.ranking.specs.Held.{no_candidate, or_none}
use Rattle.ranking.specs.code.Choice.{rank_of, live, by_rest, by_rank, beats, choose, best_from}
use Rattle.ranking.proofs.OrderLaws.{either, best-cons, either-either}
use Rattle.ranking.proofs.RankingLaws.{better-weak}
use Rattle.ranking.proofs.ChoiceLaws.{rank-zero, rank-some, rank-more, choose-by, choose-none, choose-live}

-- ---- ranks and prices

ltb-flip : (n p q : ℕ) → p < n → q < n → ltb (n - q) (n - p) ≡ ltb p q
ltb-flip n p q h k = go (ltb p q) refl
  where
    go : (t : Bool) → ltb p q ≡ t → ltb (n - q) (n - p) ≡ t
    go true e = let l : p < q = ltb-true p q e in lt-ltb (n - q) (n - p) (omega arith)
    go false e = let l : q ≤ p = ltb-false p q e in le-ltb (n - q) (n - p) (omega arith)

-- of two prices below 2^64 the one ranks higher that is better
pub rank-ahead : (s : Side) (p q : ℕ) → (p ≡ 0 → ⊥) → (q ≡ 0 → ⊥) → p < 2 ^ 64 → q < 2 ^ 64 → ltb (rank_of s q) (rank_of s p) ≡ ahead s p q
unfolding rank_of
rank-ahead Bid p q n m h k = refl
rank-ahead Offer p q n m h k = rw (ne_eqb p 0 n, ne_eqb q 0 m) (ltb-flip 18446744073709551616 p q h k)

-- ---- the comparison

-- of two candidates with prices it is that of the rules
module _ (s : Side) (x b : Candidate) (p : x.price ≡ 0 → ⊥) (q : b.price ≡ 0 → ⊥) (h : x.price < 2 ^ 64) (k : b.price < 2 ^ 64) where
  pub rank-compared : by_rank s x b ≡ compared s x b
  unfolding by_rank by_rest compared compared_by by_price higher lower
  rank-compared = rw (rank-ahead s x.price b.price p q h k, rank-ahead s b.price x.price q p k h)

  pub beats-better : (x.size ≡ 0 → ⊥) → beats s x b ≡ better s x b
  unfolding beats better
  beats-better z = rw (ne_eqb x.price 0 p, ne_eqb x.size 0 z) (ap (λ (c : Compared). c.ahead) rank-compared)

  choose-better : (x.size ≡ 0 → ⊥) → choose s b x ≡ cond (better s x b) x b
  unfolding choose
  choose-better z = ap (λ (t : Bool). cond t x b) (beats-better z)

-- ---- one candidate more

-- none, or one that counts, its price below 2^64
pub record Counting (c : Candidate) : Type 0 where
  pub price : c.price ≡ 0 → ⊥
  pub size : c.size ≡ 0 → ⊥
  pub fits : c.price < 2 ^ 64

abbrev pub OrCounting : Option Candidate → Type 0
OrCounting None = Unit {0}
OrCounting (Some c) = Counting c

pub live-counts : (c : Candidate) → c.price < 2 ^ 64 → OrCounting (live c)
unfolding live
live-counts c h = go (eqb c.price 0) refl (eqb c.size 0) refl
  where
    go : (t : Bool) → eqb c.price 0 ≡ t → (u : Bool) → eqb c.size 0 ≡ u → OrCounting (cond t None (cond u None (Some c)))
    go true e u f = tt
    go false e true f = tt
    go false e false f = record { price = eqb-false c.price 0 e; size = eqb-false c.size 0 f; fits = h }

pub live_back : (o : Option Candidate) → OrCounting o → live (or_none o) ≡ o
unfolding live
live_back None k = refl
live_back (Some c) k = rw (ne_eqb c.price 0 k.price, ne_eqb c.size 0 k.size)

either-counts : (s : Side) (a b : Option Candidate) → OrCounting a → OrCounting b → OrCounting (either (better s) a b)
either-counts s None b h k = k
either-counts s (Some x) None h k = h
either-counts s (Some x) (Some y) h k = go (better s y x)
  where
    go : (t : Bool) → Counting (cond t y x)
    go true = k
    go false = h

choose-counting : (s : Side) (o : Option Candidate) (x : Candidate) → OrCounting o → Counting x → choose s (or_none o) x ≡ or_none (either (better s) o (Some x))
choose-counting s None x h k =
    sym (choose-by s no_candidate x (record { ahead = true; by = Price }) k.price k.size first-ahead true refl)
  where
    first-ahead : record { ahead = true; by = Price } ≡ by_rank s x no_candidate
    first-ahead =
        rank-more s x no_candidate (ltb (rank_of s x.price) (rank_of s 0)) refl (ltb (rank_of s 0) (rank_of s x.price)) refl
        (rw (rank-zero s) (lt-ltb 0 (rank_of s x.price) (rank-some s x.price k.price k.fits)))
choose-counting s (Some c) x h k = choose-better s x c k.price h.price k.fits h.fits k.size

pub choose-either : (s : Side) (o : Option Candidate) (x : Candidate) → OrCounting o → x.price < 2 ^ 64 → choose s (or_none o) x ≡ or_none (either (better s) o (live x))
choose-either s o x h k = choose-live s (or_none o) x ∙ go o h (live x) (live-counts x k)
  where
    go : (o : Option Candidate) → OrCounting o → (y : Option Candidate) → OrCounting y → choose s (or_none o) (or_none y) ≡ or_none (either (better s) o y)
    go None h None k = sym (choose-none s no_candidate)
    go (Some c) h None k = sym (choose-none s c)
    go o h (Some y) k = choose-counting s o y h k

-- ---- the loop

module _ (s : Side) (c : ℕ → Candidate) (fits : (j : ℕ) → (c j).price < 2 ^ 64) where
  abbrev counting : ℕ → ℕ → List Candidate
  counting i k = collect (λ j. live (c j)) (range k i)

  best-with : (k i : ℕ) (o : Option Candidate) → OrCounting o → best_from s c i k (or_none o) ≡ or_none (either (better s) o (best (better s) (counting i k)))
  unfolding best_from
  best-with zero i None h = refl
  best-with zero i (Some x) h = refl
  best-with (suc k) i o h =
      let n : OrCounting (either (better s) o (live (c i))) = either-counts s o (live (c i)) h (live-counts (c i) (fits i)) in
      ap (best_from s c (i + 1) k) (choose-either s o (c i) h (fits i))
      ∙ best-with k (i + 1) (either (better s) o (live (c i))) n
      ∙ ap or_none
      (ap (λ (j : ℕ). either (better s) (either (better s) o (live (c i))) (best (better s) (counting j k))) (add-one i)
      ∙ either-either (better s) (better-weak s) o (live (c i)) (best (better s) (counting (suc i) k))
      ∙ ap (either (better s) o) (sym (best-cons (better s) (live (c i)) (counting (suc i) k))))

  -- the k candidates from the i-th on
  pub best-from : (i k : ℕ) → best_from s c i k no_candidate ≡ or_none (best (better s) (collect (λ j. live (c j)) (range k i)))
  best-from i k = best-with k i None tt

pub fits_or : (o : Option Candidate) → OrCounting o → (or_none o).price < 2 ^ 64
fits_or None k = omega arith
fits_or (Some c) k = k.fits

-- the same of what is none or counts
pub side-best : (s : Side) (f : ℕ → Option Candidate) → ((j : ℕ) → OrCounting (f j)) → (i k : ℕ)
    → best_from s (λ j. or_none (f j)) i k no_candidate ≡ or_none (best (better s) (collect f (range k i)))
side-best s f counts i k =
    best-from s (λ j. or_none (f j)) (λ j. fits_or (f j) (counts j)) i k
    ∙ ap (λ (g : ℕ → Option Candidate). or_none (best (better s) (collect g (range k i)))) (fun_ext (λ j. live_back (f j) (counts j)))

-- the best of candidates that count counts
pub best-counts : {A : Type 0} (s : Side) (f : A → Option Candidate) → ((a : A) → OrCounting (f a)) → (xs : List A) → OrCounting (best (better s) (collect f xs))
best-counts s f h [] = tt
best-counts s f h (x ∷ xs) =
    rw (best-cons (better s) (f x) (collect f xs)) (either-counts s (f x) (best (better s) (collect f xs)) (h x) (best-counts s f h xs))
