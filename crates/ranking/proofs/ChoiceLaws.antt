-- The choice as the code makes it: one law for each `return`, what a call returned being a variable with an equation. And loops over both sides.
-- Assumes nothing.
use Rattle.std.proofs.Common.{◌≡◌, ℕ, zero, suc, ◌+◌, ◌-◌, ◌%◌, ◌^◌, ◌<◌, ◌≤◌, Bool, true, false, cond, eqb, ltb, sym, refl, ap, ◌∙◌, le_of_lt, arith, ltb-false, ltb-true, le-ltb, lt-ltb, eq-eqb, ne_eqb, eqb-true, max}
use Rattle.std.proofs.Math.Nat.{max-eq_left, max-eq_right}
use Rattle.std.specs.Prelude.{None, Some}
use borrow.Author.Tests.{eqb-false}
use Rattle.lists.proofs.Searches.{less_one}
use Rattle.ranking.specs.declared.Side.{Side}
use Rattle.ranking.specs.declared.Side.TheVariants.{Bid, Offer}
use Rattle.ranking.specs.declared.Candidate.{Candidate}
use Rattle.ranking.specs.declared.Sides.{Sides}
use Rattle.ranking.specs.declared.Reason.{Reason}
use Rattle.ranking.specs.declared.Reason.TheVariants.{Price, Size, Time, Name}
use Rattle.ranking.specs.declared.Compared.{Compared}
use Rattle.ranking.specs.declared.Lead.{Lead}
use Rattle.ranking.specs.Ranking.{decide}
use Rattle.ranking.specs.Held.{no_candidate, or_none, lateness}
use Rattle.ranking.specs.code.Choice.{rank_of, live, larger, by_rest, by_rank, beats, choose, best_from, beyond_of, later, lead_by, lead_with, lead_from, sides_from, step_sides}

-- ---- the comparison

-- x ahead of the other, or behind it, by a step
abbrev by : Bool → Reason → Compared
by t r = record { ahead = t; by = r }

larger-more : (r : Reason) (a b : ℕ) (z : Compared) → b < a → by true r ≡ larger r a b z
larger-more r a b z h = rw (lt-ltb b a h)

larger-less : (r : Reason) (a b : ℕ) (z : Compared) → a < b → by false r ≡ larger r a b z
larger-less r a b z h = rw (le-ltb b a (le_of_lt h), lt-ltb a b h)

larger-tie : (r : Reason) (a b : ℕ) (z : Compared) → a ≤ b → b ≤ a → z ≡ larger r a b z
larger-tie r a b z h k = rw (le-ltb b a h, le-ltb a b k)

-- where they differ, one is larger
larger-apart : (r : Reason) (a b : ℕ) (z : Compared) → (a ≡ b → ⊥) → by (ltb b a) r ≡ larger r a b z
larger-apart r a b z n = go (ltb b a) refl
  where
    go : (t : Bool) → ltb b a ≡ t → by t r ≡ decide r t (ltb a b) z
    go true e = refl
    go false e = rw (lt-ltb a b (omega (arith, n, ltb-false b a e)))

module _ (x b : Candidate) where
  abbrev by_size : Compared → Compared
  by_size z = larger Size x.size b.size z

  abbrev by_time : Compared → Compared
  by_time z = larger Time b.time x.time z

  abbrev by_name : Compared
  by_name = by (ltb x.name b.name) Name

  pub rest-larger : b.size < x.size → by true Size ≡ by_rest x b
  unfolding by_rest
  rest-larger h = larger-more Size x.size b.size (by_time by_name) h

  pub rest-smaller : x.size < b.size → by false Size ≡ by_rest x b
  unfolding by_rest
  rest-smaller h = larger-less Size x.size b.size (by_time by_name) h

  pub rest-size : (x.size ≡ b.size → ⊥) → by (ltb b.size x.size) Size ≡ by_rest x b
  unfolding by_rest
  rest-size n = larger-apart Size x.size b.size (by_time by_name) n

  module _ (h : x.size ≤ b.size) (k : b.size ≤ x.size) where
    pub rest-time : (x.time ≡ b.time → ⊥) → by (ltb x.time b.time) Time ≡ by_rest x b
    unfolding by_rest
    rest-time n = larger-apart Time b.time x.time by_name (λ e. n (sym e)) ∙ larger-tie Size x.size b.size (by_time by_name) h k

    pub rest-earlier : x.time < b.time → by true Time ≡ by_rest x b
    unfolding by_rest
    rest-earlier l = larger-more Time b.time x.time by_name l ∙ larger-tie Size x.size b.size (by_time by_name) h k

    pub rest-later : b.time < x.time → by false Time ≡ by_rest x b
    unfolding by_rest
    rest-later l = larger-less Time b.time x.time by_name l ∙ larger-tie Size x.size b.size (by_time by_name) h k

    pub rest-name : x.time ≤ b.time → b.time ≤ x.time → by (ltb x.name b.name) Name ≡ by_rest x b
    unfolding by_rest
    rest-name l m = larger-tie Time b.time x.time by_name m l ∙ larger-tie Size x.size b.size (by_time by_name) h k

-- ---- ranks

pub rank-bid : (s : Side) (p : ℕ) → s ≡ Bid → p ≡ rank_of s p
unfolding rank_of
rank-bid s p e = rw e

pub rank-offer : (s : Side) (p r : ℕ) → s ≡ Offer → p < 2 ^ 64 → r < 2 ^ 64 → (r + p) % 2 ^ 64 ≡ 0 → r ≡ rank_of s p
unfolding rank_of
rank-offer s p r e h k w = rw e (go p h w)
  where
    go : (p : ℕ) → p < 2 ^ 64 → (r + p) % 2 ^ 64 ≡ 0 → r ≡ cond (eqb p 0) 0 (18446744073709551616 - p)
    go zero h w = omega arith
    go (suc p) h w = rw (ne_eqb (suc p) 0 (λ e. omega arith)) (omega arith)

pub behind-by : (s : Side) (p q a b : ℕ) → a ≡ rank_of s p → b ≡ rank_of s q → ltb a b ≡ ltb (rank_of s p) (rank_of s q)
behind-by s p q a b ea eb = rw (← ea, ← eb)

pub rank-zero : (s : Side) → rank_of s 0 ≡ 0
unfolding rank_of
rank-zero Bid = refl
rank-zero Offer = refl

pub rank-some : (s : Side) (p : ℕ) → (p ≡ 0 → ⊥) → p < 2 ^ 64 → 0 < rank_of s p
unfolding rank_of
rank-some Bid p n h = omega (arith, n)
rank-some Offer p n h = rw (ne_eqb p 0 n) (omega arith)

-- ---- by ranks

module _ (s : Side) (x b : Candidate) where
  module _ (t : Bool) (e : t ≡ ltb (rank_of s x.price) (rank_of s b.price)) where
    pub rank-behind : t ≡ true → by false Price ≡ by_rank s x b
    unfolding by_rank
    rank-behind h = larger-less Price (rank_of s x.price) (rank_of s b.price) (by_rest x b) (ltb-true _ _ (sym e ∙ h))

    module _ (u : Bool) (f : u ≡ ltb (rank_of s b.price) (rank_of s x.price)) where
      pub rank-more : u ≡ true → by true Price ≡ by_rank s x b
      unfolding by_rank
      rank-more h = larger-more Price (rank_of s x.price) (rank_of s b.price) (by_rest x b) (ltb-true _ _ (sym f ∙ h))

      pub rank-tie : (r : Compared) → t ≡ false → u ≡ false → r ≡ by_rest x b → r ≡ by_rank s x b
      unfolding by_rank
      rank-tie r h k z = z ∙ larger-tie Price (rank_of s x.price) (rank_of s b.price) (by_rest x b) (ltb-false _ _ (sym f ∙ k)) (ltb-false _ _ (sym e ∙ h))

module _ (s : Side) (x b : Candidate) (p q : ℕ) (e : p ≡ rank_of s x.price) (f : q ≡ rank_of s b.price) where
  pub rank-less : p < q → by false Price ≡ by_rank s x b
  unfolding by_rank
  rank-less h = rw (← e, ← f) (larger-less Price p q (by_rest x b) h)

  pub rank-greater : q < p → by true Price ≡ by_rank s x b
  unfolding by_rank
  rank-greater h = rw (← e, ← f) (larger-more Price p q (by_rest x b) h)

  pub rank-same : (r : Compared) → p ≡ q → r ≡ by_rest x b → r ≡ by_rank s x b
  unfolding by_rank
  rank-same r h z = rw (← e, ← f) (z ∙ larger-tie Price p q (by_rest x b) (omega (arith, h)) (omega (arith, h)))

-- ---- the choice

module _ (s : Side) (b x : Candidate) where
  pub choose-priceless : x.price ≡ 0 → b ≡ choose s b x
  unfolding choose beats
  choose-priceless e = rw (eq-eqb _ _ e)

  pub choose-sizeless : x.size ≡ 0 → b ≡ choose s b x
  unfolding choose beats
  choose-sizeless e = rw (eq-eqb _ _ e) (go (eqb x.price 0))
    where
      go : (t : Bool) → b ≡ cond (cond t false false) x b
      go true = refl
      go false = refl

  pub choose-by : (c : Compared) → (x.price ≡ 0 → ⊥) → (x.size ≡ 0 → ⊥) → c ≡ by_rank s x b → (v : Bool) → c.ahead ≡ v → cond v x b ≡ choose s b x
  unfolding choose beats
  choose-by c p z e v h = rw (ne_eqb _ _ p, ne_eqb _ _ z, ← e, h)

  pub choose-behind : (t : Bool) → t ≡ ltb (rank_of s x.price) (rank_of s b.price) → t ≡ true → b ≡ choose s b x
  unfolding choose beats
  choose-behind t e h = rw (← rank-behind s x b t e h) (go (eqb x.price 0) (eqb x.size 0))
    where
      go : (t u : Bool) → b ≡ cond (cond t false (cond u false false)) x b
      go true u = refl
      go false true = refl
      go false false = refl

pub choose-none : (s : Side) (b : Candidate) → b ≡ choose s b no_candidate
unfolding choose beats
choose-none s b = refl

-- what does not count is as none
pub choose-live : (s : Side) (b x : Candidate) → choose s b x ≡ choose s b (or_none (live x))
unfolding live
choose-live s b x = go (eqb x.price 0) refl (eqb x.size 0) refl
  where
    go : (t : Bool) → eqb x.price 0 ≡ t → (u : Bool) → eqb x.size 0 ≡ u → choose s b x ≡ choose s b (or_none (cond t None (cond u None (Some x))))
    go true e u f = sym (choose-priceless s b x (eqb-true x.price 0 e)) ∙ choose-none s b
    go false e true f = sym (choose-sizeless s b x (eqb-true x.size 0 f)) ∙ choose-none s b
    go false e false f = refl

pub beyond-by : (s : Side) (nat x : Candidate) (t : Bool) → t ≡ ltb (rank_of s nat.price) (rank_of s x.price) → (v : Bool) → t ≡ v → cond v x no_candidate ≡ beyond_of s nat x
unfolding beyond_of
beyond-by s nat x t e v q = rw (← e, q)

-- ---- the leader

module _ (s : Side) (l : Lead) (x : Candidate) where
  pub lead-priceless : x.price ≡ 0 → l ≡ lead_with s l x
  unfolding lead_with
  lead-priceless e = rw (eq-eqb _ _ e)

  pub lead-sizeless : x.size ≡ 0 → l ≡ lead_with s l x
  unfolding lead_with
  lead-sizeless e = rw (eq-eqb x.size 0 e) (go (eqb x.price 0))
    where
      go : (t : Bool) → l ≡ cond t l l
      go true = refl
      go false = refl

  module _ (p : x.price ≡ 0 → ⊥) (z : x.size ≡ 0 → ⊥) where
    pub lead-alone : l.best.price ≡ 0 → record { best = x; decided = 0 } ≡ lead_with s l x
    unfolding lead_with
    lead-alone e = rw (ne_eqb _ _ p, ne_eqb _ _ z, eq-eqb _ _ e)

    pub lead-compared : (c : Compared) (r : Lead) → (l.best.price ≡ 0 → ⊥) → c ≡ by_rank s x l.best → r ≡ lead_by c l x → r ≡ lead_with s l x
    unfolding lead_with
    lead-compared c r n e h = rw (ne_eqb _ _ p, ne_eqb _ _ z, ne_eqb _ _ n, ← e) h

-- a new leader; a loser
pub lead-ahead : (c : Compared) (l : Lead) (x : Candidate) (d : ℕ) → d ≡ lateness c.by → c.ahead ≡ true → record { best = x; decided = d } ≡ lead_by c l x
unfolding lead_by
lead-ahead c l x d e h = rw (h, e)

max-later : (a b : ℕ) → max a b ≡ later a b
max-later a b = go (ltb a b) refl
  where
    go : (t : Bool) → ltb a b ≡ t → max a b ≡ cond t b a
    go true e = max-eq_right (omega (arith, ltb-true a b e))
    go false e = max-eq_left (omega (arith, ltb-false a b e))

pub lead-loses : (c : Compared) (l : Lead) (x : Candidate) (d m : ℕ) → d ≡ lateness c.by → c.ahead ≡ false → m ≡ max l.decided d → record { best = l.best; decided = m } ≡ lead_by c l x
unfolding lead_by
lead-loses c l x d m e h k = rw (h, k ∙ max-later l.decided d, e) refl

pub lead-none : (s : Side) (l : Lead) → l ≡ lead_with s l no_candidate
unfolding lead_with
lead-none s l = refl

-- once there is a second, a price behind the leader's changes nothing
pub lead-behind : (s : Side) (l : Lead) (x : Candidate) (t : Bool) → t ≡ ltb (rank_of s x.price) (rank_of s l.best.price) → t ≡ true → 0 < l.decided → l ≡ lead_with s l x
lead-behind s l x t e h d = go (eqb x.price 0) refl (eqb x.size 0) refl
  where
    stands : l.best.price ≡ 0 → ⊥
    stands z = omega (arith, ltb-true (rank_of s x.price) (rank_of s l.best.price) (sym e ∙ h), ap (rank_of s) z ∙ rank-zero s)

    go : (u : Bool) → eqb x.price 0 ≡ u → (v : Bool) → eqb x.size 0 ≡ v → l ≡ lead_with s l x
    go true p v q = lead-priceless s l x (eqb-true _ _ p)
    go false p true q = lead-sizeless s l x (eqb-true _ _ q)
    go false p false q =
        lead-compared s l x (eqb-false _ _ p) (eqb-false _ _ q) (by false Price) l stands (rank-behind s x l.best t e h) (lead-loses (by false Price) l x 1 l.decided refl refl (sym (max-eq_left (omega (arith, d)))))

pub lead-live : (s : Side) (l : Lead) (x : Candidate) → lead_with s l x ≡ lead_with s l (or_none (live x))
unfolding live
lead-live s l x = go (eqb x.price 0) refl (eqb x.size 0) refl
  where
    go : (t : Bool) → eqb x.price 0 ≡ t → (u : Bool) → eqb x.size 0 ≡ u → lead_with s l x ≡ lead_with s l (or_none (cond t None (cond u None (Some x))))
    go true e u f = sym (lead-priceless s l x (eqb-true x.price 0 e)) ∙ lead-none s l
    go false e true f = sym (lead-sizeless s l x (eqb-true x.size 0 f)) ∙ lead-none s l
    go false e false f = refl

-- ---- a loop that stops early

-- any loop over candidates in which none changes nothing
module _ {T : Type 0} (step : T → Candidate → T) (run : (ℕ → Candidate) → ℕ → ℕ → T → T)
    (stop : (c : ℕ → Candidate) (i : ℕ) (b : T) → run c i zero b ≡ b)
    (more : (c : ℕ → Candidate) (i k : ℕ) (b : T) → run c i (suc k) b ≡ run c (i + 1) k (step b (c i)))
    (none_stays : (b : T) → b ≡ step b no_candidate)
  where
    run-quiet : (c : ℕ → Candidate) (i k : ℕ) (b : T) → ((j : ℕ) → i ≤ j → j < i + k → c j ≡ no_candidate) → run c i k b ≡ b
    run-quiet c i zero b q = stop c i b
    run-quiet c i (suc k) b q =
        let x : c i ≡ no_candidate = q i (omega arith) (omega arith) in
        more c i k b ∙ ap (run c (i + 1) k) (ap (step b) x ∙ sym (none_stays b)) ∙ run-quiet c (i + 1) k b (λ j l h. q j (omega arith) (omega arith))

    -- the first m of c are those of d, and the others of the n of d are none
    run-stops : (c d : ℕ → Candidate) (i m n : ℕ) (b : T) → m ≤ n → ((j : ℕ) → i ≤ j → j < i + m → c j ≡ d j)
        → ((j : ℕ) → i + m ≤ j → j < i + n → d j ≡ no_candidate) → run c i m b ≡ run d i n b
    run-stops c d i zero n b h e q = stop c i b ∙ sym (run-quiet d i n b (λ j l k. q j (omega arith) k))
    run-stops c d i (suc m) zero b h e q = absurd (omega arith)
    run-stops c d i (suc m) (suc n) b h e q =
        let x : c i ≡ d i = e i (omega arith) (omega arith) in
        more c i m b ∙ ap (run c (i + 1) m) (ap (step b) x)
        ∙ run-stops c d (i + 1) m n (step b (d i)) (omega arith) (λ j l k. e j (omega arith) (omega arith)) (λ j l k. q j (omega arith) (omega arith))
        ∙ sym (more d i n b)

module _ (s : Side) (c d : ℕ → Candidate) (i m n : ℕ) where
  pub best-stops : (b : Candidate) → m ≤ n → ((j : ℕ) → i ≤ j → j < i + m → c j ≡ d j) → ((j : ℕ) → i + m ≤ j → j < i + n → d j ≡ no_candidate) → best_from s c i m b ≡ best_from s d i n b
  unfolding best_from
  best-stops b h e q = run-stops (choose s) (best_from s) (λ c i b. refl) (λ c i k b. refl) (choose-none s) c d i m n b h e q

  pub lead-stops : (l : Lead) → m ≤ n → ((j : ℕ) → i ≤ j → j < i + m → c j ≡ d j) → ((j : ℕ) → i + m ≤ j → j < i + n → d j ≡ no_candidate) → lead_from s c i m l ≡ lead_from s d i n l
  unfolding lead_from
  lead-stops l h e q = run-stops (lead_with s) (lead_from s) (λ c i b. refl) (λ c i k b. refl) (lead-none s) c d i m n l h e q

-- ---- loops over both sides: what remains gives what the whole gives

module _ (c : Side → ℕ → Candidate) (n : ℕ) where
  sides-step : (i : ℕ) (t : Sides Candidate) → i < n → sides_from c i (n - i) t ≡ sides_from c (i + 1) (n - (i + 1)) (step_sides c i t)
  unfolding best_from sides_from step_sides
  sides-step i t h = rw (less_one n i h)

  pub sides-again : (w : Sides Candidate) (i : ℕ) (t u : Sides Candidate) → i < n → sides_from c i (n - i) t ≡ w → u ≡ step_sides c i t → sides_from c (i + 1) (n - (i + 1)) u ≡ w
  sides-again w i t u h inv e = rw e (sym (sides-step i t h) ∙ inv)

  pub sides-end : (w : Sides Candidate) (i : ℕ) (t : Sides Candidate) → n ≤ i → sides_from c i (n - i) t ≡ w → t ≡ w
  unfolding best_from sides_from
  sides-end w i t h inv =
      let e : n - i ≡ 0 = omega arith in
      rw e at inv
