-- The time of a side (document 02, T-02): the page's rule, from one quote to the next, gives the time of the reviewer's run.
-- Assumes nothing.
use Prim.Native.Nat.{ℕ}
use mathlib.Core.Path.{◌≡◌, refl, sym, ap, ◌∙◌, fun_ext}
use mathlib.Core.Bool.{Bool, true, false, not, ◌&&◌, cond}
use mathlib.Core.List.{List, [], ◌∷◌, map}
use Rattle.std.specs.Prelude.{Option, None, Some}
use native.Mathlib.Omega.{arith}
use lib.Dec.{eqb, leb, ltb}
use borrow.Author.Tests.{le-ltb, lt-ltb, leb-true, leb-false, ne_eqb}
use Rattle.lists.specs.Lists.{map_option, or_else, collect, gather}
use Rattle.lists.proofs.Tests.{Cut, equal, apart, cut}
use Rattle.field.specs.Ascii.{D, S}
use Rattle.ranking.specs.declared.Side.{Side}
use Rattle.ranking.specs.declared.Side.TheVariants.{Bid, Offer}
use Rattle.ranking.specs.declared.Candidate.{Candidate}
use Rattle.ranking.specs.Ranking.{better, best, why_ahead}
use Rattle.quote.specs.declared.Level.{Level}
use Rattle.quote.specs.declared.Quote.{Quote}
use Rattle.quote.specs.Quote.{no_quote, side_of, admits, counts, with_condition, with_time, with_times, time_kept, quote_over, level_candidate, candidate_of}
use Rattle.levels.specs.Levels.{Standing, side_levels}
use Rattle.entries.specs.Entries.{letters, as_d, letter_candidate, nationals, national_best, national_reason, odd_candidate, ranks, letter_levels, odd_best, entries_by}
use Rattle.makers.specs.Makers.{maker_over}
use Rattle.review.specs.Runs.{latest_run, first_time, run_time, latest}
use Rattle.review.specs.Reviewer.{standing_maker}

-- ---- one quote more

-- a size that doesn't rise is no larger
not-rising : (a b : ℕ) → not (ltb b a) ≡ leb a b
not-rising a b = go (leb a b) refl
  where
    go : (t : Bool) → leb a b ≡ t → not (ltb b a) ≡ t
    go true e = rw (le-ltb b a (leb-true a b e))
    go false e = rw (lt-ltb b a (leb-false a b e))

first_alone : (x : Level) → first_time (x ∷ []) ≡ x.time
unfolding first_time
first_alone x = refl

first-behind : (x y : Level) (ys : List Level) → first_time (x ∷ latest_run (y ∷ ys)) ≡ first_time (latest_run (y ∷ ys))
unfolding first_time latest_run
first-behind x y [] = refl
first-behind x y (z ∷ zs) = refl

run_step : (x y : Level) (ys : List Level) → time_kept (with_time (first_time (latest_run (y ∷ ys))) y) x ≡ first_time (latest_run (x ∷ y ∷ ys))
unfolding time_kept latest_run
run_step x y ys =
    go (eqb x.price y.price && leb x.size y.size)
    ∙ ap (λ (t : Bool). first_time (x ∷ cond (eqb x.price y.price && t) (latest_run (y ∷ ys)) [])) (sym (not-rising x.size y.size))
  where
    go : (t : Bool) → cond t (first_time (latest_run (y ∷ ys))) x.time ≡ first_time (x ∷ cond t (latest_run (y ∷ ys)) [])
    go true = sym (first-behind x y ys)
    go false = sym (first_alone x)

times-side : (s : Side) (t : Side → ℕ) (q : Quote) → side_of s (with_times t q) ≡ with_time (t s) (side_of s q)
unfolding with_times
times-side Bid t q = refl
times-side Offer t q = refl

-- the quote over the newest one is the newest, each side with the time of its run
run-over : (q r : Quote) (rs : List Quote) → quote_over (with_times (run_time (r ∷ rs)) r) q ≡ with_times (run_time (q ∷ r ∷ rs)) q
unfolding quote_over
run-over q r rs =
    ap (λ (t : Side → ℕ). with_times t q)
    (fun_ext (λ s. ap (λ (y : Level). time_kept y (side_of s q)) (times-side s (run_time (r ∷ rs)) r) ∙ run_step (side_of s q) (side_of s r) (map (side_of s) rs)))

-- the condition plays no part
over-marked : (c : ℕ) (r q : Quote) → quote_over (with_condition c r) q ≡ quote_over r q
unfolding quote_over with_times with_condition
over-marked c r q = refl

-- ---- makers: over the quote that stands in the cell

pub over-latest : (m : ℕ) (c : ℕ → ℕ) (qs : List Quote) (q : Quote) → maker_over (map_option (standing_maker m c) (latest qs)) q ≡ with_times (run_time (q ∷ qs)) q
unfolding with_times latest_run first_time
over-latest m c [] q = refl
over-latest m c (r ∷ rs) q = over-marked (c r.condition) (with_times (run_time (r ∷ rs)) r) q ∙ run-over q r rs

-- ---- letters: a page has zeros where no quote stood. The time of a side 0 and 0 is never seen

-- the quote of a page after these quotes
unfoldable pub held : List Quote → Quote
held [] = no_quote
held (q ∷ qs) = quote_over (held qs) q

held_none : (s : Side) (q : Quote) → ((side_of s q).price ≡ 0 → ⊥) → time_kept (side_of s (held [])) (side_of s q) ≡ run_time (q ∷ []) s
unfolding held time_kept latest_run first_time
held_none Bid q n = rw (ne_eqb q.bid.price 0 n)
held_none Offer q n = rw (ne_eqb q.offer.price 0 n)

held-side : (s : Side) (q : Quote) (qs : List Quote) → side_of s (held (q ∷ qs)) ≡ with_time (time_kept (side_of s (held qs)) (side_of s q)) (side_of s q)
unfolding held quote_over
held-side s q qs = times-side s (λ k. time_kept (side_of k (held qs)) (side_of k q)) q

-- the time that stood plays no part at another price
moved : (x y : Level) (k : ℕ) → eqb x.price y.price ≡ false → time_kept (with_time k y) x ≡ x.time
unfolding time_kept
moved x y k t = rw t

held-time : (s : Side) (q : Quote) (qs : List Quote) → ((side_of s q).price ≡ 0 → ⊥) → time_kept (side_of s (held qs)) (side_of s q) ≡ run_time (q ∷ qs) s
held-time s q [] n = held_none s q n
held-time s q (r ∷ rs) n =
    ap (λ (y : Level). time_kept y (side_of s q)) (held-side s r rs)
    ∙ go (cut (side_of s q).price (side_of s r).price) (held-time s r rs)
    ∙ run_step (side_of s q) (side_of s r) (map (side_of s) rs)
  where
    go : Cut (side_of s q).price (side_of s r).price → (((side_of s r).price ≡ 0 → ⊥) → time_kept (side_of s (held rs)) (side_of s r) ≡ run_time (r ∷ rs) s)
        → time_kept (with_time (time_kept (side_of s (held rs)) (side_of s r)) (side_of s r)) (side_of s q) ≡ time_kept (with_time (run_time (r ∷ rs) s) (side_of s r)) (side_of s q)
    go (equal t e) down = ap (λ (k : ℕ). time_kept (with_time k (side_of s r)) (side_of s q)) (down (λ z. n (e ∙ z)))
    go (apart t e) down = moved (side_of s q) (side_of s r) (time_kept (side_of s (held rs)) (side_of s r)) t ∙ sym (moved (side_of s q) (side_of s r) (run_time (r ∷ rs) s) t)

-- a side that has a price has the time of the first quote of its latest run
pub time-of-run : (s : Side) (q : Quote) (qs : List Quote) → ((side_of s q).price ≡ 0 → ⊥) → (side_of s (held (q ∷ qs))).time ≡ run_time (q ∷ qs) s
time-of-run s q qs n = ap (λ (y : Level). y.time) (held-side s q qs) ∙ held-time s q qs n

-- a candidate's time is that of its side, and only of a side that counts
times-candidate : (s : Side) (n : ℕ) (t : Side → ℕ) (q : Quote)
    → candidate_of s n (with_times t q)
    ≡ cond (ltb 0 (side_of s q).price && ltb 0 (side_of s q).size && admits s q.condition) (Some (level_candidate n q.condition (with_time (t s) (side_of s q)))) None
unfolding candidate_of counts with_times
times-candidate Bid n t q = refl
times-candidate Offer n t q = refl

same-candidate : (s : Side) (n : ℕ) (t u : Side → ℕ) (q : Quote) → (((side_of s q).price ≡ 0 → ⊥) → t s ≡ u s) → candidate_of s n (with_times t q) ≡ candidate_of s n (with_times u q)
same-candidate s n t u q e = times-candidate s n t q ∙ go (cut (side_of s q).price 0) ∙ sym (times-candidate s n u q)
  where
    seen : ℕ → Option Candidate
    seen k = cond (ltb 0 (side_of s q).price && ltb 0 (side_of s q).size && admits s q.condition) (Some (level_candidate n q.condition (with_time k (side_of s q)))) None

    go : Cut (side_of s q).price 0 → seen (t s) ≡ seen (u s)
    go (equal x z) = rw (le-ltb 0 (side_of s q).price (omega arith))
    go (apart x z) = ap seen (e z)

held-candidate : (s : Side) (n : ℕ) (qs : List Quote) → candidate_of s n (held qs) ≡ candidate_of s n (or_else (latest qs) no_quote)
unfolding held quote_over
held-candidate s n [] = refl
held-candidate s n (q ∷ qs) = same-candidate s n (λ k. time_kept (side_of k (held qs)) (side_of k q)) (run_time (q ∷ qs)) q (held-time s q qs)

-- so each letter's candidate is the same
pub held-letter : (rounds : ℕ → List Quote) (s : Side) (fb : Option Candidate) (l : ℕ) → letter_candidate s (λ k. held (rounds k)) fb l ≡ letter_candidate s (λ k. or_else (latest (rounds k)) no_quote) fb l
unfolding letter_candidate
held-letter rounds s fb l = ap (λ (o : Option Candidate). cond (eqb l D) (map_option as_d fb) (cond (eqb l S) None o)) (held-candidate s l (rounds l))

-- and what is worked out from the national candidates: the best of them, and what put it ahead
held-nationals : {A : Type 0} (f : Side → List Candidate → A) (rounds : ℕ → List Quote) (fb : Side → Option Candidate)
    → ◌≡◌ {A = Side → A} (λ s. f s (nationals (λ l. held (rounds l)) fb s)) (λ s. f s (nationals (λ l. or_else (latest (rounds l)) no_quote) fb s))
held-nationals f rounds fb = fun_ext (λ s. ap (λ (g : ℕ → Option Candidate). f s (collect g letters)) (fun_ext (held-letter rounds s (fb s))))

held-national : (rounds : ℕ → List Quote) (fb : Side → Option Candidate) → national_best (λ l. held (rounds l)) fb ≡ national_best (λ l. or_else (latest (rounds l)) no_quote) fb
unfolding national_best
held-national = held-nationals (λ s. best (better s))

held-reason : (rounds : ℕ → List Quote) (fb : Side → Option Candidate) → national_reason (λ l. held (rounds l)) fb ≡ national_reason (λ l. or_else (latest (rounds l)) no_quote) fb
unfolding national_reason
held-reason = held-nationals why_ahead

-- the condition is that of the newest quote, so the same levels rank (T-07)
held-condition : (qs : List Quote) → (held qs).condition ≡ (or_else (latest qs) no_quote).condition
unfolding held quote_over with_times
held-condition [] = refl
held-condition (q ∷ qs) = refl

held-ranks : (rounds : ℕ → List Quote) (s : Side) (o : Option Candidate) (l : ℕ) → ranks s (λ l. held (rounds l)) o l ≡ ranks s (λ l. or_else (latest (rounds l)) no_quote) o l
unfolding ranks
held-ranks rounds s o l = rw (held-condition (rounds l))

held-odd : (rounds : ℕ → List Quote) (fb : Side → Option Candidate) (levels : ℕ → Standing) (nb : Side → Option Candidate)
    → odd_best (λ l. held (rounds l)) fb levels nb ≡ odd_best (λ l. or_else (latest (rounds l)) no_quote) fb levels nb
unfolding odd_best letter_levels
held-odd rounds fb levels nb = fun_ext (λ s.
    ap (λ (f : ℕ → Bool). best (better s) (gather (λ l. collect (odd_candidate s (nb s) l) (cond (eqb l S) [] (cond (f l) (side_levels s (levels l)) []))) letters))
    (fun_ext (λ l. held-ranks rounds s (fb s) l)))

-- and so the entries are
pub held-entries : (rounds : ℕ → List Quote) (fb : Side → Option Candidate) (levels : ℕ → Standing)
    → entries_by (λ l. held (rounds l)) fb levels ≡ entries_by (λ l. or_else (latest (rounds l)) no_quote) fb levels
unfolding entries_by
held-entries rounds fb levels =
    let n : national_best (λ l. held (rounds l)) fb ≡ national_best (λ l. or_else (latest (rounds l)) no_quote) fb = held-national rounds fb in
    let o : odd_best (λ l. held (rounds l)) fb levels (national_best (λ l. held (rounds l)) fb)
    ≡ odd_best (λ l. or_else (latest (rounds l)) no_quote) fb levels (national_best (λ l. or_else (latest (rounds l)) no_quote) fb) =
    ap (odd_best (λ l. held (rounds l)) fb levels) n ∙ held-odd rounds fb levels (national_best (λ l. or_else (latest (rounds l)) no_quote) fb) in
    λ i. record { national = n i; reason = held-reason rounds fb i; finra = fb; odd = o i }
