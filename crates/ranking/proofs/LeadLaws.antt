-- No second best is kept: of the losers' comparisons with the leader the latest counts, and a new leader's is its comparison with the old one. So the leader
-- so far and what put it ahead are, at the end of a list, the best of the list and `why_ahead`.
-- Assumes nothing.
use Rattle.std.proofs.Common.{◌≡◌, ℕ, zero, suc, ◌+◌, ◌<◌, ◌≤◌, Bool, true, false, cond, eqb, ltb, List, [], ◌∷◌, ◌++◌, sym, refl, ap, ◌∙◌, inl, inr, append_assoc, append-nil, add-one, arith, ltb-false, le-ltb, eq-eqb, ne_eqb}
use Rattle.std.specs.Prelude.{Option, None, Some}
use Rattle.lists.specs.Lists.{map_option, cons_option, collect, range}
use Rattle.lists.proofs.Tests.{clash}
use Rattle.lists.proofs.Members.{In}
use Rattle.ranking.specs.declared.Side.{Side}
use Rattle.ranking.specs.declared.Candidate.{Candidate}
use Rattle.ranking.specs.declared.Reason.{Reason}
use Rattle.ranking.specs.declared.Lead.{Lead}
use Rattle.ranking.specs.Ranking.{compared, better, pick, best, others, why_ahead}
use Rattle.ranking.specs.Held.{or_none, lateness, decided_at, lead_of, no_lead}
use Rattle.ranking.specs.code.Choice.{later, lead_by, lead_with, lead_from}
use Rattle.ranking.proofs.OrderLaws.{IsBest, best-is, either, best-append}
use Rattle.ranking.proofs.RankingLaws.{better-weak, same-reason, closer-reason}
use Rattle.ranking.proofs.ChoiceLaws.{lead-alone, lead-compared, lead-none}
use Rattle.ranking.proofs.Bridge.{Counting, OrCounting, rank-compared}

-- ---- lists under rising names

-- each counts, under a name below n
abbrev Below : ℕ → List Candidate → Type 0
Below n [] = Unit {0}
Below n (x ∷ xs) = (Counting x × (x.name < n)) × Below n xs

below_in : (n : ℕ) (xs : List Candidate) → Below n xs → (c : Candidate) → In c xs → Counting c × (c.name < n)
below_in n [] w c m = absurd m
below_in n (x ∷ xs) w c (inl e) = rw e w.0
below_in n (x ∷ xs) w c (inr m) = below_in n xs w.1 c m

below_up : (m n : ℕ) (xs : List Candidate) → m ≤ n → Below m xs → Below n xs
below_up m n [] h w = tt
below_up m n (x ∷ xs) h w = ((w.0.0, omega (arith, w.0.1)), below_up m n xs h w.1)

below-snoc : (n : ℕ) (xs : List Candidate) (y : Candidate) → Below n xs → Counting y → y.name < n → Below n (xs ++ (y ∷ []))
below-snoc n [] y w k h = ((k, h), tt)
below-snoc n (x ∷ xs) y w k h = (w.0, below-snoc n xs y w.1 k h)

-- ---- the others

keep-other : (b c : Candidate) → (c.name ≡ b.name → ⊥) → cond (eqb c.name b.name) None (Some c) ≡ Some c
keep-other b c n = rw (ne_eqb c.name b.name n)

others-append : (b : Candidate) (xs ys : List Candidate) → others b (xs ++ ys) ≡ others b xs ++ others b ys
others-append b [] ys = refl
others-append b (x ∷ xs) ys = go (eqb x.name b.name) (others-append b xs ys)
  where
    go : (t : Bool) → others b (xs ++ ys) ≡ others b xs ++ others b ys
        → cons_option (cond t None (Some x)) (others b (xs ++ ys)) ≡ cons_option (cond t None (Some x)) (others b xs) ++ others b ys
    go true e = e
    go false e = ap (λ (l : List Candidate). x ∷ l) e

-- nobody before y has its name
others-all : (y : Candidate) (xs : List Candidate) → Below y.name xs → others y xs ≡ xs
others-all y [] w = refl
others-all y (x ∷ xs) w =
    let n : x.name ≡ y.name → ⊥ = λ e. omega (arith, w.0.1) in
    rw (keep-other y x n) (ap (λ (l : List Candidate). x ∷ l) (others-all y xs w.1))

others-self : (y : Candidate) → others y (y ∷ []) ≡ []
others-self y = rw (eq-eqb y.name y.name refl)

others-one : (b y : Candidate) → (y.name ≡ b.name → ⊥) → others b (y ∷ []) ≡ y ∷ []
others-one b y n = rw (keep-other b y n)

-- those others are members
others-in : (b : Candidate) (xs : List Candidate) (c : Candidate) → In c (others b xs) → In c xs
others-in b [] c m = absurd m
others-in b (x ∷ xs) c m = go (eqb x.name b.name) (others-in b xs c) m
  where
    go : (t : Bool) → (In c (others b xs) → In c xs) → In c (cons_option (cond t None (Some x)) (others b xs)) → In c (x ∷ xs)
    go true f m = inr (f m)
    go false f (inl e) = inl e
    go false f (inr m) = inr (f m)

-- the best is a member, and no member is better
best-some : (s : Side) (xs : List Candidate) (b : Candidate) → best (better s) xs ≡ Some b → IsBest (better s) xs b
best-some s [] b e = clash (cc)
best-some s (x ∷ xs) b e =
    let p : pick (better s) x (best (better s) xs) ≡ b = cc in
    rw (← p) (best-is (better s) (better-weak s) x xs)

-- ---- the later of two

later-left : (a b : ℕ) → b ≤ a → later a b ≡ a
later-left a b h = rw (le-ltb a b h)

later-right : (a b : ℕ) → a ≤ b → later a b ≡ b
later-right a b h = go (ltb a b) refl
  where
    go : (t : Bool) → ltb a b ≡ t → cond t b a ≡ b
    go true e = refl
    go false e = omega (arith, ltb-false a b e)

some-late : (r : Reason) → 0 ≤ lateness r
some-late r = omega arith

-- ---- one candidate more

module _ (s : Side) where
  -- what decides between a leader and another
  abbrev why : Candidate → Candidate → Reason
  why b c = (compared s b c).by

  -- of the second best and y, both behind b, the better one is decided later
  later_of : (b y : Candidate) → better s y b ≡ false → (o : Option Candidate) → ((z : Candidate) → o ≡ Some z → better s z b ≡ false)
      → later (decided_at (map_option (why b) o)) (lateness (why b y)) ≡ decided_at (map_option (why b) (either (better s) o (Some y)))
  later_of b y e None f = later-right 0 (lateness (why b y)) (some-late (why b y))
  later_of b y e (Some z) f = go (better s y z) refl
    where
      go : (t : Bool) → better s y z ≡ t → later (lateness (why b z)) (lateness (why b y)) ≡ lateness (why b (cond t y z))
      go true h = later-right (lateness (why b z)) (lateness (why b y)) (closer-reason s b y z e ((better-weak s).asym y z h))
      go false h = later-left (lateness (why b z)) (lateness (why b y)) (closer-reason s b z y (f z refl) h)

  -- the leader of a list and what put it ahead
  abbrev state : List Candidate → Lead
  state xs = lead_of (best (better s) xs) (why_ahead s xs)

  state-by : (xs : List Candidate) (b : Candidate) (o : Option Candidate) → best (better s) xs ≡ Some b → best (better s) (others b xs) ≡ o
      → state xs ≡ record { best = b; decided = decided_at (map_option (why b) o) }
  unfolding why_ahead
  state-by xs b o e f = rw (e, f)

  best-snoc : (xs : List Candidate) (y : Candidate) → best (better s) (xs ++ (y ∷ [])) ≡ either (better s) (best (better s) xs) (Some y)
  best-snoc xs y = best-append (better s) (better-weak s) xs (y ∷ [])

  lead_snoc : (xs : List Candidate) (y : Candidate) → Counting y → Below y.name xs → lead_with s (state xs) y ≡ state (xs ++ (y ∷ []))
  unfolding why_ahead better lead_by
  lead_snoc [] y k w = sym (lead-alone s no_lead y k.price k.size refl) ∙ sym (state-by (y ∷ []) y None refl (ap (best (better s)) (others-self y)))
  lead_snoc (x ∷ xs) y k w = sym (lead-compared s l y k.price k.size (compared s y b) (lead_by (compared s y b) l y) c.price (sym (rank-compared s y b k.price c.price k.fits c.fits)) refl) ∙ go (better s y b) refl
    where
      b : Candidate
      b = pick (better s) x (best (better s) xs)

      top : IsBest (better s) (x ∷ xs) b
      top = best-is (better s) (better-weak s) x xs

      l : Lead
      l = state (x ∷ xs)

      c : Counting b
      c = (below_in y.name (x ∷ xs) w b top.member).0

      other : y.name ≡ b.name → ⊥
      other e = omega (arith, (below_in y.name (x ∷ xs) w b top.member).1)

      behind : (z : Candidate) → best (better s) (others b (x ∷ xs)) ≡ Some z → better s z b ≡ false
      behind z e = top.top z (others-in b (x ∷ xs) z (best-some s (others b (x ∷ xs)) z e).member)

      go : (t : Bool) → better s y b ≡ t → lead_by (record { ahead = t; by = (compared s y b).by }) l y ≡ state (x ∷ xs ++ (y ∷ []))
      go true e =
          sym (state-by (x ∷ xs ++ (y ∷ [])) y (Some b) (best-snoc (x ∷ xs) y ∙ ap (λ (t : Bool). Some (cond t y b)) e)
          (ap (best (better s)) (others-append y (x ∷ xs) (y ∷ []) ∙ (λ i. others-all y (x ∷ xs) w i ++ others-self y i) ∙ append-nil (x ∷ xs))))
      go false e =
          (λ i. record { best = b; decided = later l.decided (lateness (same-reason s y b i)) })
          ∙ (λ i. record { best = b; decided = later_of b y e (best (better s) (others b (x ∷ xs))) behind i })
          ∙ sym (state-by (x ∷ xs ++ (y ∷ [])) b (either (better s) (best (better s) (others b (x ∷ xs))) (Some y)) (best-snoc (x ∷ xs) y ∙ ap (λ (t : Bool). Some (cond t y b)) e)
          (ap (best (better s)) (others-append b (x ∷ xs) (y ∷ []) ∙ ap (λ (ys : List Candidate). others b (x ∷ xs) ++ ys) (others-one b y other)) ∙ best-snoc (others b (x ∷ xs)) y))

  -- ---- the loop: candidates that count, each under the number of its place

  module _ (f : ℕ → Option Candidate) (counts : (j : ℕ) → OrCounting (f j)) (named : (j : ℕ) (c : Candidate) → f j ≡ Some c → c.name ≡ j) where
    lead-with : (k i : ℕ) (xs : List Candidate) → Below i xs → lead_from s (λ j. or_none (f j)) i k (state xs) ≡ state (xs ++ collect f (range k i))
    unfolding lead_from
    lead-with zero i xs w = ap state (sym (append-nil xs))
    lead-with (suc k) i xs w = go (f i) refl (counts i) (λ ys v. lead-with k (i + 1) ys v)
      where
        go : (o : Option Candidate) → f i ≡ o → OrCounting o
            → ((ys : List Candidate) → Below (i + 1) ys → lead_from s (λ j. or_none (f j)) (i + 1) k (state ys) ≡ state (ys ++ collect f (range k (i + 1))))
            → lead_from s (λ j. or_none (f j)) (i + 1) k (lead_with s (state xs) (or_none o)) ≡ state (xs ++ cons_option o (collect f (range k (suc i))))
        go None e h rest =
            ap (lead_from s (λ j. or_none (f j)) (i + 1) k) (sym (lead-none s (state xs)))
            ∙ rest xs (below_up i (i + 1) xs (omega arith) w)
            ∙ ap (λ (j : ℕ). state (xs ++ collect f (range k j))) (add-one i)
        go (Some y) e h rest =
            let n : y.name ≡ i = named i y e in
            let v : Below y.name xs = rw n w in
            ap (lead_from s (λ j. or_none (f j)) (i + 1) k) (lead_snoc xs y h v)
            ∙ rest (xs ++ (y ∷ [])) (below-snoc (i + 1) xs y (below_up i (i + 1) xs (omega arith) w) h (omega arith))
            ∙ ap (λ (j : ℕ). state (xs ++ (y ∷ []) ++ collect f (range k j))) (add-one i)
            ∙ ap state (append_assoc xs (y ∷ []) (collect f (range k (suc i))))

    -- so it finds the best of the list and what put it ahead
    pub side-lead : (i k : ℕ) → lead_from s (λ j. or_none (f j)) i k no_lead ≡ lead_of (best (better s) (collect f (range k i))) (why_ahead s (collect f (range k i)))
    unfolding why_ahead
    side-lead i k = lead-with k i [] tt
