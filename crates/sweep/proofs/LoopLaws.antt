-- The loop over the steps: what is done and what remains give the order's result.
-- Assumes nothing.
use Prim.Native.Nat.{ℕ, zero, suc, ◌+◌, ◌*◌, ◌-◌, ◌%◌, ◌≤◌, ◌<◌}
use mathlib.Core.Path.{◌≡◌, refl, sym, ap, ◌∙◌}
use mathlib.Core.Bool.{Bool, true, false, cond}
use mathlib.Core.Logic.{inl, inr}
use mathlib.Core.List.{List, [], ◌∷◌, ◌++◌}
use Rattle.std.specs.Prelude.{Option, None, Some}
use native.Mathlib.Omega.{arith}
use lib.Dec.{eqb}
use lib.ListN.{length}
use borrow.Author.Tests.{ne_eqb}
use Rattle.field.specs.Field.{Bytes, be_bytes, part, splice}
use Rattle.field.proofs.Laws.{length-be_bytes, be_bytes-mod, splice-join, splice-part}
use Rattle.lists.specs.Lists.{collect, cons_option}
use Rattle.lists.proofs.Members.{In, in-collect}
use Rattle.lists.proofs.Searches.{less_one}
use Rattle.ranking.specs.declared.Side.{Side}
use Rattle.ranking.specs.declared.Candidate.{Candidate}
use Rattle.ranking.specs.declared.Compared.{Compared}
use Rattle.ranking.specs.Ranking.{better, best}
use Rattle.ranking.specs.Held.{no_candidate, or_none}
use Rattle.ranking.specs.code.Choice.{by_rank}
use Rattle.ranking.proofs.OrderLaws.{keep}
use Rattle.ranking.proofs.Bridge.{Counting, OrCounting, rank-compared, best-counts}
use Rattle.entries.specs.Entries.{letters}
use Rattle.page.specs.Page.{quotes_in, makers_in, occupied}
use Rattle.protection.specs.Protection.{page_candidates}
use Rattle.walk.proofs.OddLaws.{collect-bind}
use Rattle.sweep.specs.Sweep.{Step, least, step_on, play, listed, swept, filled, steps_most, step_length, steps_length, step_bytes, steps_bytes}
use Rattle.sweep.specs.code.Next.{follows, next_at, swept_from, swept_out}
use Rattle.sweep.proofs.LastLaws.{behind_last, play_from, play-from}
use Rattle.sweep.proofs.SweepLaws.{Lettered, candidates-lettered, listed-distinct}
use Rattle.sweep.proofs.NextLaws.{page-counts, next-counts}

-- ---- the bytes of a step

pub length-step : (x : Step) → length (step_bytes x) ≡ step_length
unfolding step_bytes be_bytes
length-step x = refl

nine : (n v : ℕ) → length (be_bytes 1 n ++ be_bytes 8 v) ≡ 9
unfolding be_bytes
nine n v = refl

-- three numbers written in a row are the step; the letter is one byte
pub put_three : (p : List ℕ) (at n v z : ℕ)
    → splice (splice (splice p at (be_bytes 1 (n % 256))) (at + 1) (be_bytes 8 v)) (at + 9) (be_bytes 4 z) ≡ splice p at (step_bytes (record { letter = n; price = v; lots = z }))
unfolding step_bytes
put_three p at n v z =
    rw (be_bytes-mod 1 n, splice-join p at 1 (be_bytes 1 n) (be_bytes 8 v) (length-be_bytes 1 n), splice-join p at 9 (be_bytes 1 n ++ be_bytes 8 v) (be_bytes 4 z) (nine n v))

-- ---- those that follow the last one used stand behind it

-- of two that count the comparison by ranks is that of the rules
by-rank : (s : Side) (a x : Candidate) → Counting a → Counting x → (by_rank s a x).ahead ≡ better s a x
unfolding better
by-rank s a x k c = ap (λ (r : Compared). r.ahead) (rank-compared s a x k.price c.price k.fits c.fits)

keep_all : (g : Candidate → Bool) → ((x : Candidate) → g x ≡ true) → (cs : List Candidate) → collect (keep g) cs ≡ cs
keep_all g h [] = refl
keep_all g h (c ∷ cs) = rw (h c) (ap (λ (l : List Candidate). c ∷ l) (keep_all g h cs))

keep_same : (g h : Candidate → Bool) (cs : List Candidate) → ((x : Candidate) → In x cs → g x ≡ h x) → collect (keep g) cs ≡ collect (keep h) cs
keep_same g h [] e = refl
keep_same g h (c ∷ cs) e = λ i. cons_option (cond (e c (inl refl) i) (Some c) None) (keep_same g h cs (λ x m. e x (inr m)) i)

module _ (p : List ℕ) (b : Bytes p) (s : Side) where
  -- every candidate of the page counts
  listed-counts : (x : Candidate) → In x (listed (page_candidates p s)) → Counting x
  listed-counts x m =
      let r = in-collect (page_candidates p s) x letters m in
      let k : OrCounting (page_candidates p s r.0) = page-counts p b s r.0 in
      rw r.2 at k

  follow-behind : (last : Candidate) (o : Option Candidate) → last ≡ or_none o → OrCounting o → collect (keep (follows s last)) (listed (page_candidates p s)) ≡ behind_last s o (listed (page_candidates p s))
  unfolding follows
  follow-behind last None e k = rw e (keep_all (λ x. true) (λ x. refl) (listed (page_candidates p s)))
  follow-behind last (Some a) e k =
      rw e
      (keep_same (follows s a) (better s a) (listed (page_candidates p s))
      (λ x m.
      let c : Counting x = listed-counts x m in
      rw (ne_eqb a.price 0 k.price) (by-rank s a x k c)))

  -- the best of those that follow
  pub next-behind : (last : Candidate) (o : Option Candidate) → last ≡ or_none o → OrCounting o → best (better s) (collect (next_at p s last) letters) ≡ best (better s) (behind_last s o (listed (page_candidates p s)))
  unfolding next_at
  next-behind last o e k = ap (best (better s)) (sym (collect-bind (page_candidates p s) (keep (follows s last)) letters) ∙ follow-behind last o e k)

  pub next-best-counts : (last : Candidate) → OrCounting (best (better s) (collect (next_at p s last) letters))
  next-best-counts last = best-counts s (next_at p s last) (next-counts p b s last) letters

-- ---- the loop

-- the last one used, or none
pub record Going (p : List ℕ) (s : Side) (lots : ℕ) (out₀ out : List ℕ) (wanted : ℕ) (last : Candidate) (i : ℕ) : Type 0 where
  pub low : i ≤ steps_most
  pub size : length out ≡ length out₀
  pub used : Option Candidate
  pub held : last ≡ or_none used
  pub counts : OrCounting used
  pub going : swept_from wanted i out (play_from s (listed (page_candidates p s)) (steps_most - i) wanted used) ≡ swept_out s lots (page_candidates p s) out₀

-- no steps to come
swept_none : (w i : ℕ) (out : List ℕ) → i * step_length ≤ length out → swept_from w i out [] ≡ record { steps = i; unfilled = w; out = out }
unfolding swept_from filled steps_bytes part
swept_none w i out h =
    let a : i + 0 ≡ i = omega arith in
    let c : w - 0 ≡ w = omega arith in
    λ j. record { steps = a j; unfilled = c j; out = splice-part out (i * step_length) 0 (omega arith) j }

-- one of them done
swept_step : (w i : ℕ) (out : List ℕ) (x : Step) (xs : List Step) → swept_from w i out (x ∷ xs) ≡ swept_from (w - x.lots) (i + 1) (splice out (i * step_length) (step_bytes x)) xs
unfolding swept_from filled steps_bytes
swept_step w i out x xs =
    let a : i + suc (length xs) ≡ i + 1 + length xs = omega arith in
    let c : w - (x.lots + filled xs) ≡ w - x.lots - filled xs = omega arith in
    let e : (i + 1) * step_length ≡ i * step_length + step_length = omega arith in
    λ j. record {
      steps = a j;
      unfilled = c j;
      out = (sym (splice-join out (i * step_length) step_length (step_bytes x) (steps_bytes xs) (length-step x)) ∙ ap (λ (n : ℕ). splice (splice out (i * step_length) (step_bytes x)) n (steps_bytes xs)) (sym e)) j;
    }

module _ (s : Side) (cs : List Candidate) where
  no_step : (w : ℕ) (o : Option Candidate) → play_from s cs 0 w o ≡ []
  unfolding play_from
  no_step w o = refl

  unwanted : (k : ℕ) (o : Option Candidate) → play_from s cs k 0 o ≡ []
  unfolding play_from
  unwanted zero o = refl
  unwanted (suc k) o = refl

  exhausted : (k w : ℕ) (o : Option Candidate) → best (better s) (behind_last s o cs) ≡ None → play_from s cs k w o ≡ []
  unfolding play_from
  exhausted zero w o e = refl
  exhausted (suc k) w o e = rw e (go (eqb w 0))
    where
      go : (t : Bool) → ◌≡◌ {A = List Step} (cond t [] []) []
      go true = refl
      go false = refl

  one-step : (k w : ℕ) (o : Option Candidate) (c : Candidate) → (w ≡ 0 → ⊥) → best (better s) (behind_last s o cs) ≡ Some c
      → play_from s cs (suc k) w o ≡ step_on w c ∷ play_from s cs k (w - least w c.size) (Some c)
  unfolding play_from
  one-step k w o c n e = rw (ne_eqb w 0 n, e)

pub page-lettered : (p : List ℕ) (s : Side) → Lettered (page_candidates p s)
unfolding page_candidates
page-lettered p s = candidates-lettered (quotes_in p) (occupied (makers_in p)) s

-- all steps to come
swept_all : (w : ℕ) (out : List ℕ) (xs : List Step) → swept_from w 0 out xs ≡ record { steps = length xs; unfilled = w - filled xs; out = splice out 0 (steps_bytes xs) }
unfolding swept_from
swept_all w out xs = let e : 0 + length xs ≡ length xs = omega arith in λ j. record { steps = e j; unfilled = w - filled xs; out = splice out 0 (steps_bytes xs) }

module _ (p : List ℕ) (b : Bytes p) (s : Side) (lots : ℕ) (out₀ : List ℕ) where
  start : swept_from lots 0 out₀ (play_from s (listed (page_candidates p s)) steps_most lots None) ≡ swept_out s lots (page_candidates p s) out₀
  unfolding swept_out swept
  start =
      ap (swept_from lots 0 out₀) (sym (play-from s (listed (page_candidates p s)) (listed-distinct (page_candidates p s) (page-lettered p s)) steps_most lots None))
      ∙ swept_all lots out₀ (play s steps_most lots (listed (page_candidates p s)))

  pub going_start : Going p s lots out₀ out₀ lots no_candidate 0
  going_start = record { low = omega arith; size = refl; used = None; held = refl; counts = tt; going = start }

  module _ (room : steps_length ≤ length out₀) (out : List ℕ) (wanted : ℕ) (last : Candidate) (i : ℕ) (g : Going p s lots out₀ out wanted last i) where
    rest-none : play_from s (listed (page_candidates p s)) (steps_most - i) wanted g.used ≡ [] → record { steps = i; unfilled = wanted; out = out } ≡ swept_out s lots (page_candidates p s) out₀
    rest-none e = sym (swept_none wanted i out (omega (arith, g.low, g.size))) ∙ ap (swept_from wanted i out) (sym e) ∙ g.going

    -- none wanted
    pub going-unwanted : wanted ≡ 0 → record { steps = i; unfilled = 0; out = out } ≡ swept_out s lots (page_candidates p s) out₀
    going-unwanted e =
        (λ j. record { steps = i; unfilled = sym e j; out = out })
        ∙ rest-none (ap (λ (w : ℕ). play_from s (listed (page_candidates p s)) (steps_most - i) w g.used) e ∙ unwanted s (listed (page_candidates p s)) (steps_most - i) g.used)

    -- the last step
    pub going_end : steps_most ≤ i → record { steps = steps_most; unfilled = wanted; out = out } ≡ swept_out s lots (page_candidates p s) out₀
    going_end h =
        let e : i ≡ steps_most = omega (arith, g.low) in
        let z : steps_most - i ≡ 0 = omega arith in
        (λ j. record { steps = sym e j; unfilled = wanted; out = out }) ∙ rest-none (rw z (no_step s (listed (page_candidates p s)) wanted g.used))

    module _ (x : Candidate) (ex : x ≡ or_none (best (better s) (collect (next_at p s last) letters))) where
      found-is : x ≡ or_none (best (better s) (behind_last s g.used (listed (page_candidates p s))))
      found-is = ex ∙ ap or_none (next-behind p b s last g.used g.held g.counts)

      found-counts : OrCounting (best (better s) (behind_last s g.used (listed (page_candidates p s))))
      found-counts = rw (← next-behind p b s last g.used g.held g.counts) (next-best-counts p b s last)

      -- no candidate is left
      pub going-exhausted : x.price ≡ 0 → record { steps = i; unfilled = wanted; out = out } ≡ swept_out s lots (page_candidates p s) out₀
      going-exhausted h = rest-none (exhausted s (listed (page_candidates p s)) (steps_most - i) wanted g.used (go (best (better s) (behind_last s g.used (listed (page_candidates p s)))) found-counts found-is))
        where
          go : (o : Option Candidate) → OrCounting o → x ≡ or_none o → o ≡ None
          go None k e = refl
          go (Some c) k e = absurd (k.price (ap (λ (y : Candidate). y.price) (sym e) ∙ h))

      -- a step
      pub going-again : (taken : ℕ) (next : List ℕ) → i < steps_most → (wanted ≡ 0 → ⊥) → (x.price ≡ 0 → ⊥) → taken ≡ least wanted x.size
          → length next ≡ length out → next ≡ splice out (i * step_length) (step_bytes (record { letter = x.name; price = x.price; lots = taken }))
          → Going p s lots out₀ next (wanted - taken) x (i + 1)
      going-again taken next h n v et len en = go (best (better s) (behind_last s g.used (listed (page_candidates p s)))) refl found-counts found-is
        where
          go : (o : Option Candidate) → best (better s) (behind_last s g.used (listed (page_candidates p s))) ≡ o → OrCounting o → x ≡ or_none o → Going p s lots out₀ next (wanted - taken) x (i + 1)
          go None e k ec = absurd (v (ap (λ (y : Candidate). y.price) ec))
          go (Some c) e k ec =
              let f : best (better s) (behind_last s g.used (listed (page_candidates p s))) ≡ Some x = e ∙ ap Some (sym ec) in
              record {
                low = omega arith;
                size = len ∙ g.size;
                used = Some x;
                held = refl;
                counts = rw ec k;
                going =
                    rw (en, et)
                    (sym (swept_step wanted i out (step_on wanted x) (play_from s (listed (page_candidates p s)) (steps_most - (i + 1)) (wanted - least wanted x.size) (Some x)))
                    ∙ ap (swept_from wanted i out)
                    (sym (ap (λ (k : ℕ). play_from s (listed (page_candidates p s)) k wanted g.used) (less_one steps_most i h) ∙ one-step s (listed (page_candidates p s)) (steps_most - (i + 1)) wanted g.used x n f))
                    ∙ g.going);
              }
