-- The best candidate not yet used, again and again: a walk down the candidates in order. And those not yet used are those behind the last one used.
-- Assumes nothing.
use Prim.Native.Nat.{ℕ, zero, suc, ◌+◌, ◌-◌, ◌≤◌, ◌<◌}
use mathlib.Core.Path.{◌≡◌, refl, sym, ap, subst, ◌∙◌}
use mathlib.Core.Bool.{Bool, true, false, cond}
use mathlib.Core.Logic.{inl, inr}
use mathlib.Core.List.{List, [], ◌∷◌}
use Rattle.std.specs.Prelude.{Option, None, Some}
use native.Mathlib.Omega.{arith}
use lib.Dec.{eqb}
use lib.ListN.{length}
use Rattle.lists.specs.Lists.{collect, cons_option}
use Rattle.lists.proofs.Tests.{clash, Cut, equal, apart, cut}
use Rattle.lists.proofs.Members.{In, Distinct}
use Rattle.ranking.specs.declared.Side.{Side}
use Rattle.ranking.specs.declared.Candidate.{Candidate}
use Rattle.ranking.specs.Ranking.{pick, better, best}
use Rattle.ranking.proofs.OrderLaws.{IsBest, best-is, chain, keep}
use Rattle.ranking.proofs.RankingLaws.{better-weak, better-not-ahead, better-tie}
use Rattle.sweep.specs.Sweep.{Step, least, step_on, without, play_by, play}
use Rattle.sweep.specs.Division.{total}
use Rattle.sweep.proofs.GreedyLaws.{not-ahead, walk, Sorted}

abbrev pub name_of : Candidate → ℕ
name_of c = c.name

-- one name, one candidate
pub one_name : (c d : Candidate) (cs : List Candidate) → Distinct name_of cs → In d cs → In c cs → d.name ≡ c.name → d ≡ c
one_name c d [] x m n e = absurd m
one_name c d (y ∷ ys) x (inl p) (inl q) e = p ∙ sym q
one_name c d (y ∷ ys) x (inl p) (inr n) e = absurd (x.0 c n (sym e ∙ ap name_of p))
one_name c d (y ∷ ys) x (inr m) (inl q) e = absurd (x.0 d m (e ∙ ap name_of q))
one_name c d (y ∷ ys) x (inr m) (inr n) e = one_name c d ys x.1 m n e

-- ---- one taken out

pub in_without : (n : ℕ) (d : Candidate) (cs : List Candidate) → In d (without n cs) → In d cs
unfolding without
in_without n d [] m = m
in_without n d (c ∷ cs) m = go (eqb c.name n) (in_without n d cs) m
  where
    go : (t : Bool) → (In d (without n cs) → In d cs) → In d (cond t (without n cs) (c ∷ without n cs)) → In d (c ∷ cs)
    go true down m = inr (down m)
    go false down (inl p) = inl p
    go false down (inr m) = inr (down m)

-- nobody else of that name is left
pub not-in-without : (n : ℕ) (d : Candidate) (cs : List Candidate) → In d (without n cs) → d.name ≡ n → ⊥
unfolding without
not-in-without n d [] m e = m
not-in-without n d (c ∷ cs) m e = go (cut c.name n) (λ k. not-in-without n d cs k e) m
  where
    go : Cut c.name n → (In d (without n cs) → ⊥) → In d (cond (eqb c.name n) (without n cs) (c ∷ without n cs)) → ⊥
    go (equal t f) down m = down (rw t at m)
    go (apart t f) down m = last (rw t at m)
      where
        last : In d (c ∷ without n cs) → ⊥
        last (inl p) = f (ap name_of (sym p) ∙ e)
        last (inr k) = down k

distinct_without : (n : ℕ) (cs : List Candidate) → Distinct name_of cs → Distinct name_of (without n cs)
unfolding without
distinct_without n [] d = tt
distinct_without n (c ∷ cs) d = go (eqb c.name n) (distinct_without n cs d.1)
  where
    go : (t : Bool) → Distinct name_of (without n cs) → Distinct name_of (cond t (without n cs) (c ∷ without n cs))
    go true r = r
    go false r = ((λ y m. d.0 y (in_without n y cs m)), r)

-- a name that nobody has
without-none : (n : ℕ) (cs : List Candidate) → ((d : Candidate) → In d cs → d.name ≡ n → ⊥) → without n cs ≡ cs
unfolding without
without-none n [] f = refl
without-none n (c ∷ cs) f = go (cut c.name n) (without-none n cs (λ d m. f d (inr m)))
  where
    go : Cut c.name n → without n cs ≡ cs → cond (eqb c.name n) (without n cs) (c ∷ without n cs) ≡ c ∷ cs
    go (equal t e) down = absurd (f c (inl refl) e)
    go (apart t e) down = rw t (ap (λ (l : List Candidate). c ∷ l) down)

module _ (f : Candidate → ℕ) (c : Candidate) where
  -- its share of a sum
  total-without : (cs : List Candidate) → In c cs → Distinct name_of cs → total f cs ≡ f c + total f (without c.name cs)
  unfolding without total
  total-without [] m d = absurd m
  total-without (x ∷ xs) (inl p) d =
      subst (λ (y : Candidate). total f (x ∷ xs) ≡ f y + total f (without y.name (x ∷ xs))) (sym p) (go (cut x.name x.name))
    where
      go : Cut x.name x.name → f x + total f xs ≡ f x + total f (cond (eqb x.name x.name) (without x.name xs) (x ∷ without x.name xs))
      go (equal t e) = rw (t, without-none x.name xs d.0)
      go (apart t e) = absurd (e refl)
  total-without (x ∷ xs) (inr m) d = go (cut x.name c.name) (total-without xs m d.1)
    where
      go : Cut x.name c.name → total f xs ≡ f c + total f (without c.name xs)
          → f x + total f xs ≡ f c + total f (cond (eqb x.name c.name) (without c.name xs) (x ∷ without c.name xs))
      go (equal t e) down = absurd (d.0 c m (sym e))
      go (apart t e) down = rw t (omega arith)

length-at-most : (n : ℕ) (cs : List Candidate) → length (without n cs) ≤ length cs
unfolding without
length-at-most n [] = omega arith
length-at-most n (c ∷ cs) = go (eqb c.name n) (length-at-most n cs)
  where
    go : (t : Bool) → length (without n cs) ≤ length cs → length (cond t (without n cs) (c ∷ without n cs)) ≤ length (c ∷ cs)
    go true h = omega arith
    go false h = omega arith

length_without : (c : Candidate) (cs : List Candidate) → In c cs → length (without c.name cs) < length cs
unfolding without
length_without c [] m = absurd m
length_without c (x ∷ xs) m = go m (cut x.name c.name) (λ k. length_without c xs k)
  where
    go : In c (x ∷ xs) → Cut x.name c.name → (In c xs → length (without c.name xs) < length xs)
        → length (cond (eqb x.name c.name) (without c.name xs) (x ∷ without c.name xs)) < length (x ∷ xs)
    go m (equal t e) down = rw t (omega (arith, length-at-most c.name xs))
    go (inl p) (apart t e) down = absurd (e (ap name_of (sym p)))
    go (inr m) (apart t e) down = rw t (omega (arith, down m))

-- ---- in order: the best, then the others in order

abbrev pub ranked_by : List Candidate → (List Candidate → List Candidate) → Option Candidate → List Candidate
ranked_by cs next None = []
ranked_by cs next (Some c) = c ∷ next (without c.name cs)

unfoldable pub ranked : Side → ℕ → List Candidate → List Candidate
ranked s zero cs = []
ranked s (suc k) cs = ranked_by cs (ranked s k) (best (better s) cs)

module _ (s : Side) where
  -- the steps are a walk down it
  pub play-walks : (k w : ℕ) (cs : List Candidate) → play s k w cs ≡ walk w (ranked s k cs)
  unfolding play ranked walk
  play-walks zero w cs = refl
  play-walks (suc k) w cs = go (best (better s) cs) (λ v ds. play-walks k v ds)
    where
      none-wanted : (t : Bool) → ◌≡◌ {A = List Step} (cond t [] []) []
      none-wanted true = refl
      none-wanted false = refl

      go : (o : Option Candidate) → ((v : ℕ) (ds : List Candidate) → play s k v ds ≡ walk v (ranked s k ds))
          → cond (eqb w 0) [] (play_by w cs (play s k) o) ≡ walk w (ranked_by cs (ranked s k) o)
      go None down = none-wanted (eqb w 0)
      go (Some c) down = ap (λ (l : List Step). cond (eqb w 0) [] (step_on w c ∷ l)) (down (w - least w c.size) (without c.name cs))

  -- the best of a list that is not empty
  abbrev pub top : Candidate → List Candidate → Candidate
  top x xs = pick (better s) x (best (better s) xs)

  pub is-top : (x : Candidate) (xs : List Candidate) → IsBest (better s) (x ∷ xs) (top x xs)
  is-top x xs = best-is (better s) (better-weak s) x xs

  pub in-ranked : (k : ℕ) (d : Candidate) (cs : List Candidate) → In d (ranked s k cs) → In d cs
  unfolding ranked
  in-ranked zero d cs m = absurd m
  in-ranked (suc k) d [] m = m
  in-ranked (suc k) d (x ∷ xs) (inl p) = subst (λ (y : Candidate). In y (x ∷ xs)) (sym p) (is-top x xs).member
  in-ranked (suc k) d (x ∷ xs) (inr m) = in_without (top x xs).name d (x ∷ xs) (in-ranked k d (without (top x xs).name (x ∷ xs)) m)

  -- no name twice
  pub ranked-distinct : (k : ℕ) (cs : List Candidate) → Distinct name_of (ranked s k cs)
  unfolding ranked
  ranked-distinct zero cs = tt
  ranked-distinct (suc k) [] = tt
  ranked-distinct (suc k) (x ∷ xs) =
      let c : Candidate = top x xs in
      let ds : List Candidate = without c.name (x ∷ xs) in
      ((λ y m e. not-in-without c.name y (x ∷ xs) (in-ranked k y ds m) e), ranked-distinct k ds)

  -- no later price is better
  pub ranked-sorted : (k : ℕ) (cs : List Candidate) → Sorted s (ranked s k cs)
  unfolding ranked
  ranked-sorted zero cs = tt
  ranked-sorted (suc k) [] = tt
  ranked-sorted (suc k) (x ∷ xs) =
      let c : Candidate = top x xs in
      let ds : List Candidate = without c.name (x ∷ xs) in (
        (λ d m. not-ahead s c.price d.price (better-not-ahead s d c ((is-top x xs).top d (in_without c.name d (x ∷ xs) (in-ranked k d ds m))))),
        ranked-sorted k ds,
      )

  -- with steps enough it has every candidate once: sums are those of the list
  pub ranked-total : (f : Candidate → ℕ) (k : ℕ) (cs : List Candidate) → length cs ≤ k → Distinct name_of cs → total f (ranked s k cs) ≡ total f cs
  unfolding ranked total
  ranked-total f zero [] h d = refl
  ranked-total f zero (x ∷ xs) h d = absurd (omega arith)
  ranked-total f (suc k) [] h d = refl
  ranked-total f (suc k) (x ∷ xs) h d =
      let c : Candidate = top x xs in
      let m : In c (x ∷ xs) = (is-top x xs).member in
      let ds : List Candidate = without c.name (x ∷ xs) in
      ap (λ (n : ℕ). f c + n) (ranked-total f k ds (omega (arith, length_without c (x ∷ xs) m)) (distinct_without c.name (x ∷ xs) d))
      ∙ sym (total-without f c (x ∷ xs) m d)

-- ---- those not yet used are those behind the last one used

-- those that a is better than
abbrev pub behind : Side → Candidate → List Candidate → List Candidate
behind s a cs = collect (keep (better s a)) cs

module _ (s : Side) where
  -- the best taken out leaves those behind it
  pub first-behind : (c : Candidate) (cs : List Candidate) → ((d : Candidate) → In d cs → better s d c ≡ false) → ((d : Candidate) → In d cs → d.name ≡ c.name → d ≡ c)
      → without c.name cs ≡ behind s c cs
  unfolding without
  first-behind c [] t o = refl
  first-behind c (x ∷ xs) t o = go (cut x.name c.name) (better s c x) refl (first-behind c xs (λ d m. t d (inr m)) (λ d m. o d (inr m)))
    where
      go : Cut x.name c.name → (r : Bool) → better s c x ≡ r → without c.name xs ≡ behind s c xs
          → cond (eqb x.name c.name) (without c.name xs) (x ∷ without c.name xs) ≡ cons_option (cond r (Some x) None) (behind s c xs)
      go (equal p e) true f down = clash (sym f ∙ ap (better s c) (o x (inl refl) e) ∙ ap (λ (z : Candidate). better s z c) (sym (o x (inl refl) e)) ∙ t x (inl refl))
      go (equal p e) false f down = rw p down
      go (apart p e) true f down = rw p (ap (λ (l : List Candidate). x ∷ l) down)
      go (apart p e) false f down = absurd (e (better-tie s x c (t x (inl refl)) f))

  -- behind one that is behind another
  pub next-behind : (a c : Candidate) (cs : List Candidate) → better s a c ≡ true → behind s c (behind s a cs) ≡ behind s c cs
  next-behind a c [] e = refl
  next-behind a c (x ∷ xs) e = go (better s a x) refl (better s c x) refl (next-behind a c xs e)
    where
      go : (p : Bool) → better s a x ≡ p → (q : Bool) → better s c x ≡ q → behind s c (behind s a xs) ≡ behind s c xs
          → behind s c (cons_option (cond p (Some x) None) (behind s a xs)) ≡ cons_option (cond q (Some x) None) (behind s c xs)
      go true f true g down = rw g (ap (λ (l : List Candidate). x ∷ l) down)
      go true f false g down = rw g down
      go false f true g down = clash (sym (chain (better s) (better-weak s) a c x e g) ∙ f)
      go false f false g down = down
