-- A walk may look at some of the candidates only: when the leader, what put it ahead, and the best beyond a price are those of a walk over all.
-- Assumes nothing.
use Rattle.std.proofs.Common.{◌≡◌, ℕ, zero, suc, ◌+◌, ◌-◌, ◌<◌, ◌≤◌, Bool, true, false, cond, eqb, ltb, sym, refl, ap, ◌∙◌, arith, ltb-false, ltb-true, le-ltb, lt-ltb, eq-eqb, ne_eqb, eqb-true}
use Rattle.std.specs.Prelude.{Option, None, Some}
use borrow.Author.Tests.{eqb-false}
use Rattle.lists.specs.Lists.{is_some}
use Rattle.lists.proofs.Tests.{Cut, equal, apart, cut}
use Rattle.lists.proofs.Searches.{less_one}
use Rattle.ranking.specs.declared.Side.{Side}
use Rattle.ranking.specs.declared.Candidate.{Candidate}
use Rattle.ranking.specs.declared.Reason.{Reason}
use Rattle.ranking.specs.declared.Reason.TheVariants.{Price, Size, Time, Name}
use Rattle.ranking.specs.declared.Compared.{Compared}
use Rattle.ranking.specs.declared.Lead.{Lead}
use Rattle.ranking.specs.Held.{or_none, lateness, no_lead}
use Rattle.ranking.specs.code.Choice.{rank_of, live, by_rank, beats, choose, best_from, beyond_of, later, lead_by, lead_with, lead_from}
use Rattle.ranking.specs.code.Chosen.{best_chosen, lead_chosen, any_other}
use Rattle.ranking.proofs.ChoiceLaws.{rank-behind, rank-more, choose-none, choose-live, choose-by, choose-behind, lead-alone, lead-compared, lead-none, lead-live}

-- ---- who counts

pub record Counts (x : Candidate) : Type 0 where
  pub price : x.price ≡ 0 → ⊥
  pub size : x.size ≡ 0 → ⊥

pub data Look (x : Candidate) : Type 0 where
  counted : Counts x → live x ≡ Some x → Look x
  idle : (Counts x → ⊥) → live x ≡ None → Look x

pub look : (x : Candidate) → Look x
unfolding live
look x = go (eqb x.price 0) refl (eqb x.size 0) refl
  where
    go : (t : Bool) → eqb x.price 0 ≡ t → (u : Bool) → eqb x.size 0 ≡ u → Look x
    go true e u f = idle (λ k. k.price (eqb-true x.price 0 e)) (rw e)
    go false e true f = idle (λ k. k.size (eqb-true x.size 0 f)) (rw (e, f))
    go false e false f = counted (record { price = eqb-false x.price 0 e; size = eqb-false x.size 0 f }) (rw (e, f))

pub live-counts : (x : Candidate) → Counts x → live x ≡ Some x
live-counts x k = go (look x)
  where
    go : Look x → live x ≡ Some x
    go (counted q e) = e
    go (idle q e) = absurd (q k)

pub live-idle : (x : Candidate) → (Counts x → ⊥) → live x ≡ None
live-idle x n = go (look x)
  where
    go : Look x → live x ≡ None
    go (counted q e) = absurd (n q)
    go (idle q e) = e

lead-idle : (s : Side) (l : Lead) (x : Candidate) → live x ≡ None → lead_with s l x ≡ l
lead-idle s l x e = lead-live s l x ∙ ap (λ (o : Option Candidate). lead_with s l (or_none o)) e ∙ sym (lead-none s l)

choose-idle : (s : Side) (b x : Candidate) → live x ≡ None → choose s b x ≡ b
choose-idle s b x e = choose-live s b x ∙ ap (λ (o : Option Candidate). choose s b (or_none o)) e ∙ sym (choose-none s b)

-- ---- any walk over a range

module _ {T : Type 0} (step : ℕ → T → T) (run : ℕ → ℕ → T → T) (stop : (i : ℕ) (b : T) → run i zero b ≡ b)
    (more : (i k : ℕ) (b : T) → run i (suc k) b ≡ run (i + 1) k (step i b))
  where
    run-split : (i k n : ℕ) (b : T) → run i (k + n) b ≡ run (i + k) n (run i k b)
    run-split i zero n b =
        let a : 0 + n ≡ n = omega arith in
        let e : i ≡ i + 0 = omega arith in
        λ t. run (e t) (a t) (sym (stop i b) t)
    run-split i (suc k) n b =
        let a : suc k + n ≡ suc (k + n) = omega arith in
        let e : i + 1 + k ≡ i + suc k = omega arith in
        ap (λ (z : ℕ). run i z b) a ∙ more i (k + n) b ∙ run-split (i + 1) k n (step i b) ∙ (λ t. run (e t) n (sym (more i k b) t))

    run-quiet : (i k : ℕ) (b : T) → ((j : ℕ) → i ≤ j → j < i + k → (b : T) → step j b ≡ b) → run i k b ≡ b
    run-quiet i zero b q = stop i b
    run-quiet i (suc k) b q =
        more i k b ∙ ap (run (i + 1) k) (q i (omega arith) (omega arith) b) ∙ run-quiet (i + 1) k b (λ j l h. q j (omega arith) (omega arith))

    run-cut : (i k n : ℕ) (b : T) → ((j : ℕ) → i + k ≤ j → j < i + (k + n) → (b : T) → step j b ≡ b) → run i (k + n) b ≡ run i k b
    run-cut i k n b q = run-split i k n b ∙ run-quiet (i + k) n (run i k b) (λ j l h. q j l (omega arith))

    module _ (other : ℕ → T → T) (walk : ℕ → ℕ → T → T) (halt : (i : ℕ) (b : T) → walk i zero b ≡ b)
        (next : (i k : ℕ) (b : T) → walk i (suc k) b ≡ walk (i + 1) k (other i b))
      where
        run-same : (i k : ℕ) (b : T) → ((j : ℕ) → i ≤ j → j < i + k → (b : T) → step j b ≡ other j b) → run i k b ≡ walk i k b
        run-same i zero b q = stop i b ∙ sym (halt i b)
        run-same i (suc k) b q =
            more i k b
            ∙ run-same (i + 1) k (step i b) (λ j l h. q j (omega arith) (omega arith))
            ∙ ap (walk (i + 1) k) (q i (omega arith) (omega arith) b)
            ∙ sym (next i k b)

-- ---- walks in parts, and who may be left out

module _ (s : Side) (c : ℕ → Candidate) where
  abbrev lead_step : ℕ → Lead → Lead
  lead_step j l = lead_with s l (c j)

  abbrev best_step : ℕ → Candidate → Candidate
  best_step j b = choose s b (c j)

  lead-passes : (j : ℕ) → (Counts (c j) → ⊥) → (l : Lead) → lead_step j l ≡ l
  lead-passes j n l = lead-idle s l (c j) (live-idle (c j) n)

  best-passes : (j : ℕ) → (Counts (c j) → ⊥) → (b : Candidate) → best_step j b ≡ b
  best-passes j n b = choose-idle s b (c j) (live-idle (c j) n)

  pub lead-split : (i k n : ℕ) (l : Lead) → lead_from s c i (k + n) l ≡ lead_from s c (i + k) n (lead_from s c i k l)
  unfolding lead_from
  lead-split i k n l = run-split lead_step (lead_from s c) (λ i l. refl) (λ i k l. refl) i k n l

  pub best-split : (i k n : ℕ) (b : Candidate) → best_from s c i (k + n) b ≡ best_from s c (i + k) n (best_from s c i k b)
  unfolding best_from
  best-split i k n b = run-split best_step (best_from s c) (λ i b. refl) (λ i k b. refl) i k n b

  -- nobody from the (i + k)-th on counts
  pub lead-cut : (i k n : ℕ) (l : Lead) → ((j : ℕ) → i + k ≤ j → j < i + (k + n) → Counts (c j) → ⊥) → lead_from s c i (k + n) l ≡ lead_from s c i k l
  unfolding lead_from
  lead-cut i k n l q = run-cut lead_step (lead_from s c) (λ i l. refl) (λ i k l. refl) i k n l (λ j a b. lead-passes j (q j a b))

  pub best-cut : (i k n : ℕ) (b : Candidate) → ((j : ℕ) → i + k ≤ j → j < i + (k + n) → Counts (c j) → ⊥) → best_from s c i (k + n) b ≡ best_from s c i k b
  unfolding best_from
  best-cut i k n b q = run-cut best_step (best_from s c) (λ i b. refl) (λ i k b. refl) i k n b (λ j a b. best-passes j (q j a b))

  module _ (m : ℕ → Bool) where
    abbrev lead_choice : ℕ → Lead → Lead
    lead_choice j l = cond (m j) (lead_step j l) l

    abbrev best_choice : ℕ → Candidate → Candidate
    best_choice j b = cond (m j) (best_step j b) b

    lead-unchosen : (j : ℕ) → (m j ≡ true → Counts (c j) → ⊥) → (l : Lead) → lead_choice j l ≡ l
    lead-unchosen j n l = go (m j) n
      where
        go : (t : Bool) → (t ≡ true → Counts (c j) → ⊥) → cond t (lead_step j l) l ≡ l
        go true n = lead-passes j (n refl) l
        go false n = refl

    best-unchosen : (j : ℕ) → (m j ≡ true → Counts (c j) → ⊥) → (b : Candidate) → best_choice j b ≡ b
    best-unchosen j n b = go (m j) n
      where
        go : (t : Bool) → (t ≡ true → Counts (c j) → ⊥) → cond t (best_step j b) b ≡ b
        go true n = best-passes j (n refl) b
        go false n = refl

    pub lead-chosen-split : (i k n : ℕ) (l : Lead) → lead_chosen s c m i (k + n) l ≡ lead_chosen s c m (i + k) n (lead_chosen s c m i k l)
    unfolding lead_chosen
    lead-chosen-split i k n l = run-split lead_choice (lead_chosen s c m) (λ i l. refl) (λ i k l. refl) i k n l

    pub best-chosen-split : (i k n : ℕ) (b : Candidate) → best_chosen s c m i (k + n) b ≡ best_chosen s c m (i + k) n (best_chosen s c m i k b)
    unfolding best_chosen
    best-chosen-split i k n b = run-split best_choice (best_chosen s c m) (λ i b. refl) (λ i k b. refl) i k n b

    -- nobody that m names from the (i + k)-th on counts
    pub lead-chosen-cut : (i k n : ℕ) (l : Lead) → ((j : ℕ) → i + k ≤ j → j < i + (k + n) → m j ≡ true → Counts (c j) → ⊥)
        → lead_chosen s c m i (k + n) l ≡ lead_chosen s c m i k l
    unfolding lead_chosen
    lead-chosen-cut i k n l q = run-cut lead_choice (lead_chosen s c m) (λ i l. refl) (λ i k l. refl) i k n l (λ j a b. lead-unchosen j (q j a b))

    pub best-chosen-cut : (i k n : ℕ) (b : Candidate) → ((j : ℕ) → i + k ≤ j → j < i + (k + n) → m j ≡ true → Counts (c j) → ⊥)
        → best_chosen s c m i (k + n) b ≡ best_chosen s c m i k b
    unfolding best_chosen
    best-chosen-cut i k n b q = run-cut best_choice (best_chosen s c m) (λ i b. refl) (λ i k b. refl) i k n b (λ j a b. best-unchosen j (q j a b))

    -- m names nobody that counts
    pub lead-chosen-nobody : (i k : ℕ) (l : Lead) → ((j : ℕ) → i ≤ j → j < i + k → m j ≡ true → Counts (c j) → ⊥) → lead_chosen s c m i k l ≡ l
    unfolding lead_chosen
    lead-chosen-nobody i k l q = run-quiet lead_choice (lead_chosen s c m) (λ i l. refl) (λ i k l. refl) i k l (λ j a b. lead-unchosen j (q j a b))

    pub best-chosen-nobody : (i k : ℕ) (b : Candidate) → ((j : ℕ) → i ≤ j → j < i + k → m j ≡ true → Counts (c j) → ⊥) → best_chosen s c m i k b ≡ b
    unfolding best_chosen
    best-chosen-nobody i k b q = run-quiet best_choice (best_chosen s c m) (λ i b. refl) (λ i k b. refl) i k b (λ j a b. best-unchosen j (q j a b))

    -- m names everybody that counts
    pub lead-chosen-all : (i k : ℕ) (l : Lead) → ((j : ℕ) → i ≤ j → j < i + k → Counts (c j) → m j ≡ true) → lead_chosen s c m i k l ≡ lead_from s c i k l
    unfolding lead_chosen lead_from
    lead-chosen-all i k l q = run-same lead_choice (lead_chosen s c m) (λ i l. refl) (λ i k l. refl) lead_step (lead_from s c) (λ i l. refl) (λ i k l. refl) i k l (λ j a b l. go j (look (c j)) (q j a b) l)
      where
        go : (j : ℕ) → Look (c j) → (Counts (c j) → m j ≡ true) → (l : Lead) → lead_choice j l ≡ lead_step j l
        go j (counted k e) h l = rw (h k)
        go j (idle n e) h l = lead-unchosen j (λ t. n) l ∙ sym (lead-passes j n l)

    pub best-chosen-all : (i k : ℕ) (b : Candidate) → ((j : ℕ) → i ≤ j → j < i + k → Counts (c j) → m j ≡ true) → best_chosen s c m i k b ≡ best_from s c i k b
    unfolding best_chosen best_from
    best-chosen-all i k b q = run-same best_choice (best_chosen s c m) (λ i b. refl) (λ i k b. refl) best_step (best_from s c) (λ i b. refl) (λ i k b. refl) i k b (λ j a z b. go j (look (c j)) (q j a z) b)
      where
        go : (j : ℕ) → Look (c j) → (Counts (c j) → m j ≡ true) → (b : Candidate) → best_choice j b ≡ best_step j b
        go j (counted k e) h b = rw (h k)
        go j (idle n e) h b = best-unchosen j (λ t. n) b ∙ sym (best-passes j n b)

  -- two choices that agree where a candidate counts
  module _ (m o : ℕ → Bool) (i k : ℕ) (q : (j : ℕ) → i ≤ j → j < i + k → Counts (c j) → m j ≡ o j) where
    pub lead-chosen-same : (l : Lead) → lead_chosen s c m i k l ≡ lead_chosen s c o i k l
    unfolding lead_chosen
    lead-chosen-same l = run-same (lead_choice m) (lead_chosen s c m) (λ i l. refl) (λ i k l. refl) (lead_choice o) (lead_chosen s c o) (λ i l. refl) (λ i k l. refl) i k l (λ j a b l. go j (look (c j)) (q j a b) l)
      where
        go : (j : ℕ) → Look (c j) → (Counts (c j) → m j ≡ o j) → (l : Lead) → lead_choice m j l ≡ lead_choice o j l
        go j (counted k e) h l = rw (h k)
        go j (idle n e) h l = lead-unchosen m j (λ t. n) l ∙ sym (lead-unchosen o j (λ t. n) l)

    pub best-chosen-same : (b : Candidate) → best_chosen s c m i k b ≡ best_chosen s c o i k b
    unfolding best_chosen
    best-chosen-same b = run-same (best_choice m) (best_chosen s c m) (λ i b. refl) (λ i k b. refl) (best_choice o) (best_chosen s c o) (λ i b. refl) (λ i k b. refl) i k b (λ j a z b. go j (look (c j)) (q j a z) b)
      where
        go : (j : ℕ) → Look (c j) → (Counts (c j) → m j ≡ o j) → (b : Candidate) → best_choice m j b ≡ best_choice o j b
        go j (counted k e) h b = rw (h k)
        go j (idle n e) h b = best-unchosen m j (λ t. n) b ∙ sym (best-unchosen o j (λ t. n) b)

-- ---- numbers

later-sum : (a b : ℕ) → later a b ≡ a + (b - a)
later-sum a b = go (ltb a b) refl
  where
    go : (t : Bool) → ltb a b ≡ t → cond t b a ≡ a + (b - a)
    go true e = let h : a < b = ltb-true a b e in omega arith
    go false e = let h : b ≤ a = ltb-false a b e in omega arith

later-swap : (a b d : ℕ) → later (later a b) d ≡ later (later a d) b
later-swap a b d =
    let e : later a b ≡ a + (b - a) = later-sum a b in
    let f : later a d ≡ a + (d - a) = later-sum a d in
    later-sum (later a b) d ∙ ap (λ (z : ℕ). z + (d - z)) e ∙ omega arith ∙ ap (λ (z : ℕ). z + (b - z)) (sym f) ∙ sym (later-sum (later a d) b)

-- 1 if someone else counted
abbrev one_if : Bool → ℕ
one_if f = cond f 1 0

later-one : (a : ℕ) (f : Bool) → 1 ≤ a → later a (one_if f) ≡ a
later-one a true h = later-sum a 1 ∙ omega arith
later-one a false h = later-sum a 0 ∙ omega arith

later-none : (f : Bool) → later 0 (one_if f) ≡ one_if f
later-none true = refl
later-none false = refl

later-again : (a : ℕ) (f : Bool) → later (later a (one_if f)) 1 ≡ later a 1
later-again a true = later-sum (later a 1) 1 ∙ ap (λ (z : ℕ). z + (1 - z)) (later-sum a 1) ∙ omega arith ∙ sym (later-sum a 1)
later-again a false =
    let e : later a 0 ≡ a = later-sum a 0 ∙ omega arith in
    ap (λ (z : ℕ). later z 1) e

some-late : (r : Reason) → 1 ≤ lateness r
some-late Price = omega arith
some-late Size = omega arith
some-late Time = omega arith
some-late Name = omega arith

-- ---- one candidate more

-- what holds of the leader and of x holds of the new leader
lead-keeps : (P : Candidate → Type 0) (s : Side) (l : Lead) (x : Candidate) → P l.best → P x → P (lead_with s l x).best
unfolding lead_with lead_by
lead-keeps P s l x h k = go (eqb x.price 0) (eqb x.size 0) (eqb l.best.price 0) (by_rank s x l.best).ahead
  where
    go : (t u v w : Bool)
        → P (cond {A = Lead} t l (cond u l (cond v (record { best = x; decided = 0 })
        (cond w (record { best = x; decided = lateness (by_rank s x l.best).by }) (record { best = l.best; decided = later l.decided (lateness (by_rank s x l.best).by) }))))).best
    go true u v w = h
    go false true v w = h
    go false false true w = k
    go false false false true = k
    go false false false false = h

-- l, where someone else may have counted whose price is behind
abbrev beside : Lead → Bool → Lead
beside l f = record { best = l.best; decided = later l.decided (one_if f) }

by-beside : (d : Compared) (l : Lead) (x : Candidate) (f : Bool) → lead_by d (beside l f) x ≡ beside (lead_by d l x) f
unfolding lead_by
by-beside d l x f = go d.ahead
  where
    go : (t : Bool) → cond t (record { best = x; decided = lateness d.by }) (record { best = l.best; decided = later (later l.decided (one_if f)) (lateness d.by) })
        ≡ beside (cond t (record { best = x; decided = lateness d.by }) (record { best = l.best; decided = later l.decided (lateness d.by) })) f
    go true = λ i. record { best = x; decided = sym (later-one (lateness d.by) f (some-late d.by)) i }
    go false = λ i. record { best = l.best; decided = later-swap l.decided (one_if f) (lateness d.by) i }

by-late : (d : Compared) (l : Lead) (x : Candidate) → 1 ≤ (lead_by d l x).decided
unfolding lead_by
by-late d l x = go d.ahead
  where
    go : (t : Bool) → 1 ≤ (cond {A = Lead} t (record { best = x; decided = lateness d.by }) (record { best = l.best; decided = later l.decided (lateness d.by) })).decided
    go true = some-late d.by
    go false = omega (arith, some-late d.by, later-sum l.decided (lateness d.by))

module _ (s : Side) (l : Lead) (x : Candidate) (k : Counts x) (n : l.best.price ≡ 0 → ⊥) where
  lead_is : lead_with s l x ≡ lead_by (by_rank s x l.best) l x
  lead_is = sym (lead-compared s l x k.price k.size (by_rank s x l.best) (lead_by (by_rank s x l.best) l x) n refl refl)

  lead-late : 1 ≤ (lead_with s l x).decided
  lead-late = rw lead_is (by-late (by_rank s x l.best) l x)

  lead-wins : rank_of s l.best.price < rank_of s x.price → lead_with s l x ≡ record { best = x; decided = 1 }
  unfolding lead_by
  lead-wins h =
      lead_is
      ∙ ap (λ (d : Compared). lead_by d l x)
      (sym (rank-more s x l.best (ltb (rank_of s x.price) (rank_of s l.best.price)) refl (ltb (rank_of s l.best.price) (rank_of s x.price)) refl (lt-ltb (rank_of s l.best.price) (rank_of s x.price) h)))

  lead-loses : rank_of s x.price < rank_of s l.best.price → lead_with s l x ≡ record { best = l.best; decided = later l.decided 1 }
  unfolding lead_by
  lead-loses h =
      lead_is
      ∙ ap (λ (d : Compared). lead_by d l x) (sym (rank-behind s x l.best (ltb (rank_of s x.price) (rank_of s l.best.price)) refl (lt-ltb (rank_of s x.price) (rank_of s l.best.price) h)))

-- ---- the leader of all and the leader of those chosen

-- whether one of the k candidates from the i-th on counts that m does not name
unfoldable any_but : (ℕ → Candidate) → (ℕ → Bool) → ℕ → ℕ → Bool
any_but c m i zero = false
any_but c m i (suc k) = cond (m i) (any_but c m (i + 1) k) (cond (is_some (live (c i))) true (any_but c m (i + 1) k))

-- all, those chosen, and whether someone not chosen counted
data Related (s : Side) (r : ℕ) (a l : Lead) (f : Bool) : Type 0 where
  nobody : l.best.price ≡ 0 → a.best.price ≡ 0 → f ≡ false → Related s r a l f
  below : l.best.price ≡ 0 → (a.best.price ≡ 0 → ⊥) → rank_of s a.best.price < r → f ≡ true → Related s r a l f
  along : (l.best.price ≡ 0 → ⊥) → r ≤ rank_of s l.best.price → a ≡ beside l f → Related s r a l f

module _ (s : Side) (r : ℕ) (x : Candidate) (a l : Lead) (f : Bool) where
  related-chosen : Look x → (Counts x → r ≤ rank_of s x.price) → Related s r a l f → Related s r (lead_with s a x) (lead_with s l x) f
  related-chosen (idle n e) h w = rw (lead-idle s a x e, lead-idle s l x e) w
  related-chosen (counted k e) h (nobody p q z) =
      let el : lead_with s l x ≡ record { best = x; decided = 0 } = sym (lead-alone s l x k.price k.size p) in
      let ea : lead_with s a x ≡ record { best = x; decided = 0 } = sym (lead-alone s a x k.price k.size q) in
      rw (el, ea, z) (along k.price (h k) refl)
  related-chosen (counted k e) h (below p q b z) =
      let g : r ≤ rank_of s x.price = h k in
      let el : lead_with s l x ≡ record { best = x; decided = 0 } = sym (lead-alone s l x k.price k.size p) in
      let ea : lead_with s a x ≡ record { best = x; decided = 1 } = lead-wins s a x k q (omega arith) in
      rw (el, ea, z) (along k.price g refl)
  related-chosen (counted k e) h (along p q z) =
      along (lead-keeps (λ y. y.price ≡ 0 → ⊥) s l x p k.price) (lead-keeps (λ y. r ≤ rank_of s y.price) s l x q (h k))
      (ap (λ (a : Lead). lead_with s a x) z ∙ lead_is s (beside l f) x k p ∙ by-beside (by_rank s x l.best) l x f ∙ ap (λ (l : Lead). beside l f) (sym (lead_is s l x k p)))

  related-passed : Counts x → rank_of s x.price < r → Related s r a l f → Related s r (lead_with s a x) l true
  related-passed k h (nobody p q z) =
      let ea : lead_with s a x ≡ record { best = x; decided = 0 } = sym (lead-alone s a x k.price k.size q) in
      rw ea (below p k.price h refl)
  related-passed k h (below p q b z) =
      below p (lead-keeps (λ y. y.price ≡ 0 → ⊥) s a x q k.price) (lead-keeps (λ y. rank_of s y.price < r) s a x b h) refl
  related-passed k h (along p q z) =
      along p q
      (ap (λ (a : Lead). lead_with s a x) z ∙ lead-loses s (beside l f) x k p (omega arith) ∙ (λ i. record { best = l.best; decided = later-again l.decided f i }))

flag_same : (f u : Bool) (o : Option Candidate) → o ≡ None → cond f true u ≡ cond f true (cond (is_some o) true u)
flag_same f u o e = rw e

flag_up : (f u : Bool) (o : Option Candidate) (x : Candidate) → o ≡ Some x → true ≡ cond f true (cond (is_some o) true u)
flag_up f u o x e = rw e (go f)
  where
    go : (f : Bool) → true ≡ cond f true true
    go true = refl
    go false = refl

module _ (s : Side) (c : ℕ → Candidate) (m : ℕ → Bool) (r : ℕ) where
  -- of the k candidates from the i-th on, those chosen rank from r on, and the others below it
  abbrev Inside : ℕ → ℕ → Type 0
  Inside i k = (j : ℕ) → i ≤ j → j < i + k → m j ≡ true → Counts (c j) → r ≤ rank_of s (c j).price

  abbrev Outside : ℕ → ℕ → Type 0
  Outside i k = (j : ℕ) → i ≤ j → j < i + k → m j ≡ false → Counts (c j) → rank_of s (c j).price < r

  lead-along : (k i : ℕ) (a l : Lead) (f : Bool) → Inside i k → Outside i k → Related s r a l f → ((lead_chosen s c m i k l).best.price ≡ 0 → ⊥)
      → lead_from s c i k a ≡ beside (lead_chosen s c m i k l) (cond f true (any_but c m i k))
  unfolding lead_from lead_chosen any_but
  lead-along zero i a l f inside outside (nobody p q z) n = absurd (n p)
  lead-along zero i a l f inside outside (below p q b z) n = absurd (n p)
  lead-along zero i a l f inside outside (along p q z) n = z ∙ ap (beside l) (go f)
    where
      go : (f : Bool) → f ≡ cond f true false
      go true = refl
      go false = refl
  lead-along (suc k) i a l f inside outside w n =
      go (m i) refl (look (c i)) (λ a l f w n. lead-along k (i + 1) a l f (λ j y z. inside j (omega arith) (omega arith)) (λ j y z. outside j (omega arith) (omega arith)) w n) n
    where
      go : (t : Bool) → m i ≡ t → Look (c i)
          → ((a l : Lead) (f : Bool) → Related s r a l f → ((lead_chosen s c m (i + 1) k l).best.price ≡ 0 → ⊥)
          → lead_from s c (i + 1) k a ≡ beside (lead_chosen s c m (i + 1) k l) (cond f true (any_but c m (i + 1) k)))
          → ((lead_chosen s c m (i + 1) k (cond t (lead_with s l (c i)) l)).best.price ≡ 0 → ⊥)
          → lead_from s c (i + 1) k (lead_with s a (c i))
          ≡ beside (lead_chosen s c m (i + 1) k (cond t (lead_with s l (c i)) l)) (cond f true (cond t (any_but c m (i + 1) k) (cond (is_some (live (c i))) true (any_but c m (i + 1) k))))
      go true e o rest n =
          rest (lead_with s a (c i)) (lead_with s l (c i)) f (related-chosen s r (c i) a l f o (inside i (omega arith) (omega arith) e) w) n
      go false e (counted q v) rest n =
          rest (lead_with s a (c i)) l true (related-passed s r (c i) a l f q (outside i (omega arith) (omega arith) e q) w) n
          ∙ ap (beside (lead_chosen s c m (i + 1) k l)) (flag_up f (any_but c m (i + 1) k) (live (c i)) (c i) v)
      go false e (idle q v) rest n =
          rest (lead_with s a (c i)) l f (rw (lead-idle s a (c i) v) w) n
          ∙ ap (beside (lead_chosen s c m (i + 1) k l)) (flag_same f (any_but c m (i + 1) k) (live (c i)) v)

-- as long as nobody else chosen counts, whoever counts beside the leader was not chosen
module _ (s : Side) (c : ℕ → Candidate) (m : ℕ → Bool) where
  late-stays : (k i : ℕ) (l : Lead) → (l.best.price ≡ 0 → ⊥) → 1 ≤ l.decided → 1 ≤ (lead_chosen s c m i k l).decided
  unfolding lead_chosen
  late-stays zero i l n h = h
  late-stays (suc k) i l n h = go (m i) (look (c i)) (λ l n h. late-stays k (i + 1) l n h)
    where
      go : (t : Bool) → Look (c i) → ((l : Lead) → (l.best.price ≡ 0 → ⊥) → 1 ≤ l.decided → 1 ≤ (lead_chosen s c m (i + 1) k l).decided)
          → 1 ≤ (lead_chosen s c m (i + 1) k (cond t (lead_with s l (c i)) l)).decided
      go true (counted q v) rest = rest (lead_with s l (c i)) (lead-keeps (λ y. y.price ≡ 0 → ⊥) s l (c i) n q.price) (lead-late s l (c i) q n)
      go true (idle q v) rest = rw (lead-idle s l (c i) v) (rest l n h)
      go false o rest = rest l n h

  only : (k i : ℕ) (l : Lead) (n : ℕ) → (l.best.price ≡ 0 → ⊥) → n < i → (lead_chosen s c m i k l).decided ≡ 0
      → ((lead_chosen s c m i k l).best ≡ l.best) × (any_but c m i k ≡ any_other c n i k)
  unfolding lead_chosen any_but any_other
  only zero i l n p h d = (refl, refl)
  only (suc k) i l n p h d = rw (ne_eqb i n (λ e. omega arith)) (go (m i) (look (c i)) (λ d. only k (i + 1) l n p (omega arith) d) d)
    where
      go : (t : Bool) → Look (c i)
          → ((lead_chosen s c m (i + 1) k l).decided ≡ 0 → ((lead_chosen s c m (i + 1) k l).best ≡ l.best) × (any_but c m (i + 1) k ≡ any_other c n (i + 1) k))
          → (lead_chosen s c m (i + 1) k (cond t (lead_with s l (c i)) l)).decided ≡ 0
          → ((lead_chosen s c m (i + 1) k (cond t (lead_with s l (c i)) l)).best ≡ l.best)
          × (cond t (any_but c m (i + 1) k) (cond (is_some (live (c i))) true (any_but c m (i + 1) k)) ≡ cond (is_some (live (c i))) true (any_other c n (i + 1) k))
      go true (counted q v) rest d =
          absurd (omega (arith, d, late-stays k (i + 1) (lead_with s l (c i)) (lead-keeps (λ y. y.price ≡ 0 → ⊥) s l (c i) p q.price) (lead-late s l (c i) q p)))
      go true (idle q v) rest d =
          let e : lead_with s l (c i) ≡ l = lead-idle s l (c i) v in
          let w : _ = rest (rw (← e) d) in
          rw (e, v) w
      go false (counted q v) rest d = ((rest d).0, rw v)
      go false (idle q v) rest d = rw v (rest d)

  first : (k i : ℕ) (l : Lead) → ((j : ℕ) → i ≤ j → j < i + k → m j ≡ true → Counts (c j) → (c j).name ≡ j) → l.best.price ≡ 0
      → ((lead_chosen s c m i k l).best.price ≡ 0 → ⊥) → (lead_chosen s c m i k l).decided ≡ 0
      → (i ≤ (lead_chosen s c m i k l).best.name) × (any_but c m i k ≡ any_other c (lead_chosen s c m i k l).best.name i k)
  unfolding lead_chosen any_but any_other
  first zero i l names p n d = absurd (n p)
  first (suc k) i l names p n d =
      go (m i) refl (look (c i)) (λ n d. first k (i + 1) l (λ j y z. names j (omega arith) (omega arith)) p n d) n d
    where
      -- passed over, as it is not the leader or does not count
      skip : (z : ℕ) (a b : Bool) (o : Option Candidate) → a ≡ b → o ≡ None → a ≡ cond (eqb i z) b (cond (is_some o) true b)
      skip z a b o e f = rw (f, e) (by (eqb i z))
        where
          by : (t : Bool) → b ≡ cond t b b
          by true = refl
          by false = refl

      go : (t : Bool) → m i ≡ t → Look (c i)
          → (((lead_chosen s c m (i + 1) k l).best.price ≡ 0 → ⊥) → (lead_chosen s c m (i + 1) k l).decided ≡ 0
          → (i + 1 ≤ (lead_chosen s c m (i + 1) k l).best.name) × (any_but c m (i + 1) k ≡ any_other c (lead_chosen s c m (i + 1) k l).best.name (i + 1) k))
          → ((lead_chosen s c m (i + 1) k (cond t (lead_with s l (c i)) l)).best.price ≡ 0 → ⊥)
          → (lead_chosen s c m (i + 1) k (cond t (lead_with s l (c i)) l)).decided ≡ 0
          → (i ≤ (lead_chosen s c m (i + 1) k (cond t (lead_with s l (c i)) l)).best.name)
          × (cond t (any_but c m (i + 1) k) (cond (is_some (live (c i))) true (any_but c m (i + 1) k))
          ≡ cond (eqb i (lead_chosen s c m (i + 1) k (cond t (lead_with s l (c i)) l)).best.name)
          (any_other c (lead_chosen s c m (i + 1) k (cond t (lead_with s l (c i)) l)).best.name (i + 1) k)
          (cond (is_some (live (c i))) true (any_other c (lead_chosen s c m (i + 1) k (cond t (lead_with s l (c i)) l)).best.name (i + 1) k)))
      go true e (counted q v) rest n d =
          let f : (lead_with s l (c i)).best ≡ c i = ap (λ (l : Lead). l.best) (sym (lead-alone s l (c i) q.price q.size p)) in
          let w : _ = only k (i + 1) (lead_with s l (c i)) i (rw f q.price) (omega arith) d in
          let z : (lead_chosen s c m (i + 1) k (lead_with s l (c i))).best.name ≡ i = ap (λ (x : Candidate). x.name) (w.0 ∙ f) ∙ names i (omega arith) (omega arith) e q in
          rw z (omega arith, rw (eq-eqb i i refl) w.1)
      go true e (idle q v) rest n d =
          let f : lead_with s l (c i) ≡ l = lead-idle s l (c i) v in
          let w : _ = rest (rw (← f) n) (rw (← f) d) in
          rw f (omega (arith, w.0), skip (lead_chosen s c m (i + 1) k l).best.name (any_but c m (i + 1) k) (any_other c (lead_chosen s c m (i + 1) k l).best.name (i + 1) k) (live (c i)) w.1 v)
      go false e (counted q v) rest n d =
          let w : _ = rest n d in
          let h : i + 1 ≤ (lead_chosen s c m (i + 1) k l).best.name = w.0 in
          (omega arith, rw (ne_eqb i (lead_chosen s c m (i + 1) k l).best.name (λ e. omega arith), v))
      go false e (idle q v) rest n d =
          let w : _ = rest n d in
          (omega (arith, w.0), ap (λ (o : Option Candidate). cond (is_some o) true (any_but c m (i + 1) k)) v ∙ skip (lead_chosen s c m (i + 1) k l).best.name (any_but c m (i + 1) k) (any_other c (lead_chosen s c m (i + 1) k l).best.name (i + 1) k) (live (c i)) w.1 v)

-- Those chosen rank from r on and the others below it. Then the leader of those chosen, if there is one, leads all; if nobody chosen counts beside it, it is
-- ahead by price of any other that counts.
pub lead-chosen : (s : Side) (c : ℕ → Candidate) (m : ℕ → Bool) (r i k : ℕ)
    → ((j : ℕ) → i ≤ j → j < i + k → m j ≡ true → Counts (c j) → r ≤ rank_of s (c j).price)
    → ((j : ℕ) → i ≤ j → j < i + k → m j ≡ false → Counts (c j) → rank_of s (c j).price < r)
    → ((j : ℕ) → i ≤ j → j < i + k → m j ≡ true → Counts (c j) → (c j).name ≡ j)
    → ((lead_chosen s c m i k no_lead).best.price ≡ 0 → ⊥)
    → lead_from s c i k no_lead
    ≡ record {
      best = (lead_chosen s c m i k no_lead).best;
      decided = cond (eqb (lead_chosen s c m i k no_lead).decided 0) (cond (any_other c (lead_chosen s c m i k no_lead).best.name i k) 1 0) (lead_chosen s c m i k no_lead).decided;
    }
lead-chosen s c m r i k inside outside names n =
    lead-along s c m r k i no_lead no_lead false inside outside (nobody refl refl refl) n ∙ (λ t. record { best = (lead_chosen s c m i k no_lead).best; decided = go (cut (lead_chosen s c m i k no_lead).decided 0) t })
  where
    go : Cut (lead_chosen s c m i k no_lead).decided 0
        → later (lead_chosen s c m i k no_lead).decided (one_if (any_but c m i k))
        ≡ cond (eqb (lead_chosen s c m i k no_lead).decided 0) (cond (any_other c (lead_chosen s c m i k no_lead).best.name i k) 1 0) (lead_chosen s c m i k no_lead).decided
    go (equal t e) = rw (t, e, (first s c m k i no_lead names refl n e).1) (later-none (any_other c (lead_chosen s c m i k no_lead).best.name i k))
    go (apart t e) = rw t (later-one (lead_chosen s c m i k no_lead).decided (any_but c m i k) (omega (arith, e)))

-- ---- the best, as far as it is beyond another

-- x is taken and ranks no lower than b, or b stays
data Taken (s : Side) (b x y : Candidate) : Type 0 where
  took : y ≡ x → rank_of s b.price ≤ rank_of s x.price → Taken s b x y
  kept : y ≡ b → Taken s b x y

taken : (s : Side) (b x : Candidate) → Taken s b x (choose s b x)
unfolding choose
taken s b x = go (ltb (rank_of s x.price) (rank_of s b.price)) refl
  where
    by : rank_of s b.price ≤ rank_of s x.price → (u : Bool) → Taken s b x (cond u x b)
    by h true = took refl h
    by h false = kept refl

    go : (t : Bool) → ltb (rank_of s x.price) (rank_of s b.price) ≡ t → Taken s b x (cond (beats s x b) x b)
    go true e = kept (sym (choose-behind s b x true (sym e) refl))
    go false e = by (ltb-false (rank_of s x.price) (rank_of s b.price) e) (beats s x b)

-- the best of all and the best of those chosen: the same, or neither ranks above r
data Even (s : Side) (r : ℕ) (a b : Candidate) : Type 0 where
  same : a ≡ b → Even s r a b
  under : rank_of s a.price ≤ r → rank_of s b.price ≤ r → Even s r a b

module _ (s : Side) (r : ℕ) (x : Candidate) where
  choose-under : (b : Candidate) → rank_of s b.price ≤ r → rank_of s x.price ≤ r → rank_of s (choose s b x).price ≤ r
  choose-under b h k = go (taken s b x)
    where
      go : Taken s b x (choose s b x) → rank_of s (choose s b x).price ≤ r
      go (took e l) = rw e k
      go (kept e) = rw e h

  choose-over : Counts x → (b : Candidate) → rank_of s b.price ≤ r → r < rank_of s x.price → choose s b x ≡ x
  choose-over k b h l =
      let g : rank_of s b.price < rank_of s x.price = omega arith in
      sym (choose-by s b x (record { ahead = true; by = Price }) k.price k.size
      (rank-more s x b (ltb (rank_of s x.price) (rank_of s b.price)) refl (ltb (rank_of s b.price) (rank_of s x.price)) refl (lt-ltb (rank_of s b.price) (rank_of s x.price) g))
      true refl)

  even-chosen : (a b : Candidate) → Look x → Even s r a b → Even s r (choose s a x) (choose s b x)
  even-chosen a b o (same e) = same (ap (λ (a : Candidate). choose s a x) e)
  even-chosen a b (idle n v) (under h k) = rw (choose-idle s a x v, choose-idle s b x v) (under h k)
  even-chosen a b (counted q v) (under h k) = go (ltb r (rank_of s x.price)) refl
    where
      go : (t : Bool) → ltb r (rank_of s x.price) ≡ t → Even s r (choose s a x) (choose s b x)
      go true e =
          let l : r < rank_of s x.price = ltb-true r (rank_of s x.price) e in
          same (choose-over q a h l ∙ sym (choose-over q b k l))
      go false e =
          let l : rank_of s x.price ≤ r = ltb-false r (rank_of s x.price) e in
          under (choose-under a h l) (choose-under b k l)

  even-passed : (a b : Candidate) → Look x → (Counts x → rank_of s x.price ≤ r) → Even s r a b → Even s r (choose s a x) b
  even-passed a b (idle n v) l w = rw (choose-idle s a x v) w
  even-passed a b (counted q v) l (under h k) = under (choose-under a h (l q)) k
  even-passed a b (counted q v) l (same e) = rw (← e) (go (taken s a x))
    where
      go : Taken s a x (choose s a x) → Even s r (choose s a x) a
      go (kept f) = same f
      go (took f h) = under (rw f (l q)) (omega (arith, h, l q))

module _ (s : Side) (c : ℕ → Candidate) (m : ℕ → Bool) (r : ℕ) where
  best-even : (k i : ℕ) (a b : Candidate) → ((j : ℕ) → i ≤ j → j < i + k → m j ≡ false → Counts (c j) → rank_of s (c j).price ≤ r) → Even s r a b
      → Even s r (best_from s c i k a) (best_chosen s c m i k b)
  unfolding best_from best_chosen
  best-even zero i a b outside w = w
  best-even (suc k) i a b outside w =
      best-even k (i + 1) (choose s a (c i)) (cond (m i) (choose s b (c i)) b) (λ j y z. outside j (omega arith) (omega arith)) (go (m i) refl)
    where
      go : (t : Bool) → m i ≡ t → Even s r (choose s a (c i)) (cond t (choose s b (c i)) b)
      go true e = even-chosen s r (c i) a b (look (c i)) w
      go false e = even-passed s r (c i) a b (look (c i)) (outside i (omega arith) (omega arith) e) w

even-beyond : (s : Side) (nat a b : Candidate) → Even s (rank_of s nat.price) a b → beyond_of s nat a ≡ beyond_of s nat b
unfolding beyond_of
even-beyond s nat a b (same e) = ap (beyond_of s nat) e
even-beyond s nat a b (under h k) = rw (le-ltb (rank_of s nat.price) (rank_of s a.price) h, le-ltb (rank_of s nat.price) (rank_of s b.price) k)

-- who is not chosen is not beyond
pub beyond-chosen : (s : Side) (c : ℕ → Candidate) (m : ℕ → Bool) (nat : Candidate) (i k : ℕ) (b : Candidate)
    → ((j : ℕ) → i ≤ j → j < i + k → m j ≡ false → Counts (c j) → rank_of s (c j).price ≤ rank_of s nat.price)
    → beyond_of s nat (best_from s c i k b) ≡ beyond_of s nat (best_chosen s c m i k b)
beyond-chosen s c m nat i k b outside =
    even-beyond s nat (best_from s c i k b) (best_chosen s c m i k b) (best-even s c m (rank_of s nat.price) k i b b outside (same refl))

-- ---- whether any other counts, as a loop up to e asks it: what remains gives what the whole gives

module _ (c : ℕ → Candidate) (n e : ℕ) (w : Bool) (i : ℕ) (h : i < e) (inv : any_other c n i (e - i) ≡ w) where
  other_step : cond (eqb i n) (any_other c n (i + 1) (e - (i + 1))) (cond (is_some (live (c i))) true (any_other c n (i + 1) (e - (i + 1)))) ≡ w
  unfolding any_other
  other_step = rw (less_one e i h) at inv

  pub other-self : i ≡ n → any_other c n (i + 1) (e - (i + 1)) ≡ w
  other-self q = rw (eq-eqb i n q) at other_step

  pub other-idle : (Counts (c i) → ⊥) → any_other c n (i + 1) (e - (i + 1)) ≡ w
  other-idle q = go (eqb i n) (rw (live-idle (c i) q) at other_step)
    where
      go : (t : Bool) → cond t (any_other c n (i + 1) (e - (i + 1))) (any_other c n (i + 1) (e - (i + 1))) ≡ w → any_other c n (i + 1) (e - (i + 1)) ≡ w
      go true z = z
      go false z = z

  pub other-found : (i ≡ n → ⊥) → Counts (c i) → true ≡ w
  other-found q k = rw (ne_eqb i n q, live-counts (c i) k) at other_step

pub other-end : (c : ℕ → Candidate) (n e : ℕ) (w : Bool) (i : ℕ) → e ≤ i → any_other c n i (e - i) ≡ w → false ≡ w
unfolding any_other
other-end c n e w i h inv =
    let z : e - i ≡ 0 = omega arith in
    rw z at inv
