-- The leader among letters of one price is found by size, time and letter alone: steps, then the whole.
-- Assumes nothing.
use Prim.Native.Nat.{ℕ, zero, suc, ◌+◌, ◌-◌, ◌^◌, ◌≤◌, ◌<◌}
use mathlib.Core.Path.{◌≡◌, refl, sym, ap, ◌∙◌, subst}
use mathlib.Core.Bool.{Bool, true, false, ◌&&◌, cond}
use mathlib.Core.List.{List}
use Rattle.std.specs.Prelude.{None, Some}
use native.Mathlib.Omega.{arith}
use lib.Dec.{eqb, ltb}
use borrow.Author.Tests.{eqb-true, eqb-false, eq-eqb, ne_eqb, lt-ltb, le-ltb, ltb-true}
use Rattle.lists.proofs.Tests.{clash, and-true, Cut, equal, apart, cut}
use Rattle.field.specs.Field.{Bytes}
use Rattle.field.specs.Ascii.{A, D, S, Z}
use Rattle.ranking.specs.declared.Side.{Side}
use Rattle.ranking.specs.declared.Side.TheVariants.{Bid, Offer}
use Rattle.ranking.specs.declared.Candidate.{Candidate}
use Rattle.ranking.specs.declared.Sides.{Sides}
use Rattle.ranking.specs.declared.Lead.{Lead}
use Rattle.ranking.specs.declared.Reason.TheVariants.{Size, Time, Name}
use Rattle.ranking.specs.Ranking.{decide}
use Rattle.ranking.specs.Held.{no_candidate, or_none, no_lead}
use Rattle.ranking.specs.code.Choice.{rank_of, by_rest, by_rank, lead_by, lead_with, lead_from}
use Rattle.ranking.specs.code.Chosen.{any_other}
use Rattle.quote.specs.declared.Quote.{Quote}
use Rattle.quote.specs.Quote.{side_of, admits, counts, level_candidate, candidate_of}
use Rattle.keys.specs.Keys.{full_key, short_of, key_of}
use Rattle.keys.proofs.KeyLaws.{key-none}
use Rattle.keysets.specs.Sets.{NoneAbove, key_at, key_count, has, set_of, with_member, fold_set}
use Rattle.keysets.proofs.FoldLaws.{member-none}
use Rattle.page.specs.Layout.{quote_keys_at}
use Rattle.page.specs.Page.{quotes_in}
use Rattle.walk.specs.declared.Shown.{Shown}
use Rattle.walk.specs.code.Walk.{standing_at, d_place, lead_step, ahead_of_all, no_shown, shown_of, won_by, kept_by, beside_of, show_step, members_of, full_of, is_hidden, InLetters, decided_by, led_by, leaders_of}
use Rattle.walk.proofs.KeyLaws.{standing-name, d-key, member-key, nobody-whole, fast-whole}

-- ---- steps

pub kept-late : (b r : Shown) (by : ℕ) → b.decided < by → r ≡ won_by b by → r ≡ kept_by b by
kept-late b r by h e = rw (lt-ltb b.decided by h) e

pub kept-early : (b : Shown) (by : ℕ) → by ≤ b.decided → b ≡ kept_by b by
kept-early b by h = rw (le-ltb b.decided by h)

module _ (b x : Shown) where
  pub beside_none : x.size ≡ 0 → b ≡ beside_of b x
  unfolding beside_of
  beside_none e = rw (eq-eqb x.size 0 e)

  module _ (n : x.size ≡ 0 → ⊥) where
    pub beside_first : b.size ≡ 0 → x ≡ beside_of b x
    unfolding beside_of
    beside_first e = rw (ne_eqb x.size 0 n, eq-eqb b.size 0 e)

    module _ (m : b.size ≡ 0 → ⊥) (r : Shown) where
      pub beside-larger : b.size < x.size → r ≡ won_by x 2 → r ≡ beside_of b x
      unfolding beside_of
      beside-larger h e = rw (ne_eqb x.size 0 n, ne_eqb b.size 0 m, lt-ltb b.size x.size h) e

      module _ (h : x.size ≤ b.size) where
        pub beside-smaller : x.size < b.size → r ≡ kept_by b 2 → r ≡ beside_of b x
        unfolding beside_of
        beside-smaller k e = rw (ne_eqb x.size 0 n, ne_eqb b.size 0 m, le-ltb b.size x.size h, lt-ltb x.size b.size k) e

        module _ (k : b.size ≤ x.size) where
          pub beside-earlier : x.time < b.time → r ≡ won_by x 3 → r ≡ beside_of b x
          unfolding beside_of
          beside-earlier t e = rw (ne_eqb x.size 0 n, ne_eqb b.size 0 m, le-ltb b.size x.size h, le-ltb x.size b.size k, lt-ltb x.time b.time t) e

          module _ (t : b.time ≤ x.time) where
            pub beside-later : b.time < x.time → r ≡ kept_by b 3 → r ≡ beside_of b x
            unfolding beside_of
            beside-later u e = rw (ne_eqb x.size 0 n, ne_eqb b.size 0 m, le-ltb b.size x.size h, le-ltb x.size b.size k, le-ltb x.time b.time t, lt-ltb b.time x.time u) e

            pub beside-alike : x.time ≤ b.time → r ≡ kept_by b 4 → r ≡ beside_of b x
            unfolding beside_of
            beside-alike u e = rw (ne_eqb x.size 0 n, ne_eqb b.size 0 m, le-ltb b.size x.size h, le-ltb x.size b.size k, le-ltb x.time b.time t, le-ltb b.time x.time u) e

module _ (same d top : ℕ) where
  pub members-none : top ≡ 0 → 0 ≡ members_of same d top
  unfolding members_of
  members-none e = rw (eq-eqb top 0 e)

  pub members-some : (r : ℕ) → (top ≡ 0 → ⊥) → r ≡ cond (eqb d top) (with_member same d_place) same → r ≡ members_of same d top
  unfolding members_of
  members-some r n e = rw (ne_eqb top 0 n) e

module _ (s : Side) (top same z : ℕ) where
  pub hidden-none : top ≡ 0 → false ≡ is_hidden s top same z
  unfolding is_hidden
  hidden-none e = rw (eq-eqb top 0 e)

  module _ (n : top ≡ 0 → ⊥) (k : ℕ) (ek : k ≡ full_of s) where
    pub hidden-full : top ≡ k → true ≡ is_hidden s top same z
    unfolding is_hidden
    hidden-full e = rw (ne_eqb top 0 n, eq-eqb top (full_of s) (e ∙ ek))

    module _ (m : top ≡ k → ⊥) (t : Bool) (et : t ≡ has same d_place) where
      pub hidden-d : t ≡ true → true ≡ is_hidden s top same z
      unfolding is_hidden
      hidden-d e = rw (ne_eqb top 0 n, ne_eqb top (full_of s) (λ q. m (q ∙ sym ek)), sym et ∙ e)

      pub hidden-size : t ≡ false → eqb z 0 ≡ is_hidden s top same z
      unfolding is_hidden
      hidden-size e = rw (ne_eqb top 0 n, ne_eqb top (full_of s) (λ q. m (q ∙ sym ek)), sym et ∙ e)

  -- not hidden: what that says
  pub shown-top : is_hidden s top same z ≡ false → (top ≡ 0 → ⊥) → top ≡ full_of s → ⊥
  unfolding is_hidden
  shown-top h n e = clash (rw (ne_eqb top 0 n, eq-eqb top (full_of s) e) at h)

  pub shown-d : is_hidden s top same z ≡ false → (top ≡ 0 → ⊥) → has same d_place ≡ false
  unfolding is_hidden
  shown-d h n = go (eqb top (full_of s)) (has same d_place) (rw (ne_eqb top 0 n) at h)
    where
      go : (t u : Bool) → cond t true (cond u true (eqb z 0)) ≡ false → u ≡ false
      go true u e = clash e
      go false true e = clash e
      go false false e = refl

  pub shown-size : is_hidden s top same z ≡ false → (top ≡ 0 → ⊥) → z ≡ 0 → ⊥
  unfolding is_hidden
  shown-size h n = go (eqb top (full_of s)) (has same d_place) (rw (ne_eqb top 0 n) at h)
    where
      go : (t u : Bool) → cond t true (cond u true (eqb z 0)) ≡ false → z ≡ 0 → ⊥
      go true u e = clash e
      go false true e = clash e
      go false false e = eqb-false z 0 e

module _ (p : List ℕ) (s : Side) (f : Candidate) where
  pub show-step : (i : ℕ) (b x u : Shown) → x ≡ shown_of (standing_at p s f (A + i)) → u ≡ beside_of b x → u ≡ show_step p s f i b
  unfolding show_step
  show-step i b x u ex eu = rw (← ex) eu

  module _ (n by : ℕ) where
    pub decided-has : (by ≡ 0 → ⊥) → by ≡ decided_by p s f n by
    unfolding decided_by
    decided-has m = rw (ne_eqb by 0 m)

    module _ (e : by ≡ 0) (t : Bool) (et : t ≡ any_other (standing_at p s f) n A key_count) where
      pub decided-other : t ≡ true → 1 ≡ decided_by p s f n by
      unfolding decided_by
      decided-other h = rw (eq-eqb by 0 e, ← et, h)

      pub decided-alone : t ≡ false → 0 ≡ decided_by p s f n by
      unfolding decided_by
      decided-alone h = rw (eq-eqb by 0 e, ← et, h)

  module _ (m : Shown) (by : ℕ) where
    pub led-none : m.size ≡ 0 → no_lead ≡ led_by p s f m by
    unfolding led_by
    led-none e = rw (eq-eqb m.size 0 e)

    pub led-some : (c : Candidate) → (m.size ≡ 0 → ⊥) → c ≡ standing_at p s f m.letter → record { best = c; decided = by } ≡ led_by p s f m by
    unfolding led_by
    led-some c n e = rw (ne_eqb m.size 0 n, ← e)

-- ---- letters of one price

-- the machine's words for a leader and what it shows
abbrev ahead : Candidate → ℕ → Lead
ahead c d = record { best = c; decided = d }

abbrev shows : Candidate → ℕ → Shown
shows c d = won_by (shown_of c) d

-- x beside y, which leads: either is the leader then, and what it shows is shown
data Joint (x y : Candidate) : Lead → Shown → Type 0 where
  new : (d : ℕ) → Joint x y (ahead x d) (shows x d)
  old : (d : ℕ) → Joint x y (ahead y d) (shows y d)

old-kept : (x y : Candidate) (d k : ℕ) (q : Bool) → Joint x y (ahead y (cond q k d)) (cond q (won_by (shows y d) k) (shows y d))
old-kept x y d k true = old k
old-kept x y d k false = old d

joint : (x y : Candidate) (d : ℕ) → (x.size ≡ 0 → ⊥) → (y.size ≡ 0 → ⊥) → y.name ≤ x.name → Joint x y (lead_by (by_rest x y) (ahead y d) x) (beside_of (shows y d) (shown_of x))
unfolding lead_by by_rest beside_of
joint x y d nx ny h =
    go (eqb x.size 0) (ne_eqb x.size 0 nx) (eqb y.size 0) (ne_eqb y.size 0 ny) (ltb y.size x.size) (ltb x.size y.size) (ltb x.time y.time) (ltb y.time x.time) (ltb x.name y.name) (le-ltb x.name y.name h)
  where
    go : (z : Bool) → z ≡ false → (w : Bool) → w ≡ false → (a b t u n : Bool) → n ≡ false
        → Joint x y (lead_by (decide Size a b (decide Time t u (record { ahead = n; by = Name }))) (ahead y d) x)
        (cond z (shows y d) (cond w (shown_of x) (cond a (won_by (shown_of x) 2) (cond b (kept_by (shows y d) 2) (cond t (won_by (shown_of x) 3) (cond u (kept_by (shows y d) 3) (kept_by (shows y d) 4)))))))
    go true e w f a b t u n g = clash e
    go false e true f a b t u n g = clash f
    go false e false f true b t u n g = new 2
    go false e false f false true t u n g = old-kept x y d 2 (ltb d 2)
    go false e false f false false true u n g = new 3
    go false e false f false false false true n g = old-kept x y d 3 (ltb d 3)
    go false e false f false false false false true g = clash g
    go false e false f false false false false false g = old-kept x y d 4 (ltb d 4)

-- one that leads, and one of its price
lead-same : (s : Side) (x y : Candidate) (d : ℕ) → (x.price ≡ 0 → ⊥) → (x.size ≡ 0 → ⊥) → x.price ≡ y.price → lead_with s (ahead y d) x ≡ lead_by (by_rest x y) (ahead y d) x
unfolding lead_with by_rank
lead-same s x y d np nz e =
    let q : rank_of s x.price ≡ rank_of s y.price = ap (rank_of s) e in
    rw (ne_eqb x.price 0 np, ne_eqb x.size 0 nz, ne_eqb y.price 0 (λ z. np (e ∙ z)), le-ltb (rank_of s y.price) (rank_of s x.price) (omega (arith, q)), le-ltb (rank_of s x.price) (rank_of s y.price) (omega (arith, q)))

lead-first : (s : Side) (x : Candidate) → (x.price ≡ 0 → ⊥) → (x.size ≡ 0 → ⊥) → lead_with s no_lead x ≡ ahead x 0
unfolding lead_with
lead-first s x np nz = rw (ne_eqb x.price 0 np, ne_eqb x.size 0 nz)

lead-unsized : (s : Side) (l : Lead) (x : Candidate) → x.size ≡ 0 → lead_with s l x ≡ l
unfolding lead_with
lead-unsized s l x e = go (eqb x.price 0) (eqb x.size 0) (eq-eqb x.size 0 e)
  where
    go : (a z : Bool) → z ≡ true → cond a l (cond z l (cond (eqb l.best.price 0) (ahead x 0) (lead_by (by_rank s x l.best) l x))) ≡ l
    go true z f = refl
    go false true f = refl
    go false false f = clash (sym f)

-- what the leader shows tells who leads
pub record Tells (p : List ℕ) (s : Side) (f : Candidate) (m : Shown) (l : Lead) : Type 0 where
  pub best : l.best ≡ standing_at p s f m.letter
  pub decided : l.decided ≡ m.decided
  pub name : l.best.name ≡ m.letter
  pub price : l.best.price ≡ 0 → ⊥
  pub low : A ≤ m.letter
  pub high : m.letter ≤ Z

module _ (p : List ℕ) (s : Side) (f : Candidate) (set : ℕ)
    (priced : (i : ℕ) → i < key_count → has set i ≡ true → ((standing_at p s f (A + i)).size ≡ 0 → ⊥) → (standing_at p s f (A + i)).price ≡ 0 → ⊥)
    (one : (i j : ℕ) → i < key_count → j < key_count → has set i ≡ true → has set j ≡ true → ((standing_at p s f (A + i)).size ≡ 0 → ⊥) → ((standing_at p s f (A + j)).size ≡ 0 → ⊥)
    → (standing_at p s f (A + i)).price ≡ (standing_at p s f (A + j)).price)
    (named : (i : ℕ) → i < key_count → has set i ≡ true → ((standing_at p s f (A + i)).size ≡ 0 → ⊥) → (standing_at p s f (A + i)).name ≡ A + i)
  where
    abbrev at : ℕ → Candidate
    at i = standing_at p s f (A + i)

    data Agree (l : Lead) (m : Shown) (j : ℕ) : Type 0 where
      nobody : l ≡ no_lead → m ≡ no_shown → Agree l m j
      leads : (i d : ℕ) → i < j → i < key_count → has set i ≡ true → ((at i).size ≡ 0 → ⊥) → l ≡ ahead (at i) d → m ≡ shows (at i) d → Agree l m j

    further : (l : Lead) (m : Shown) (j n : ℕ) → j ≤ n → Agree l m j → Agree l m n
    further l m j n h (nobody a b) = nobody a b
    further l m j n h (leads i d lt hi is sz a b) = leads i d (omega arith) hi is sz a b

    step : (j : ℕ) (l : Lead) (m : Shown) → j < key_count → has set j ≡ true → Agree l m j → Agree (lead_with s l (at j)) (beside_of m (shown_of (at j))) (j + 1)
    step j l m hj is g = by (eqb (at j).size 0) refl g
      where
        join : (i : ℕ) (l : Lead) (m : Shown) → i < key_count → has set i ≡ true → ((at i).size ≡ 0 → ⊥) → i < j → ((at j).size ≡ 0 → ⊥) → Joint (at j) (at i) l m → Agree l m (j + 1)
        join i l m hi ii ni lt nz (new d) = leads j d (omega arith) hj is nz refl refl
        join i l m hi ii ni lt nz (old d) = leads i d (omega arith) hi ii ni refl refl

        by : (t : Bool) → eqb (at j).size 0 ≡ t → Agree l m j → Agree (lead_with s l (at j)) (beside_of m (shown_of (at j))) (j + 1)
        by true e g =
            let z : (at j).size ≡ 0 = eqb-true (at j).size 0 e in
            rw (lead-unsized s l (at j) z, ← beside_none m (shown_of (at j)) z) (further l m j (j + 1) (omega arith) g)
        by false e (nobody a b) =
            let nz : (at j).size ≡ 0 → ⊥ = eqb-false (at j).size 0 e in
            leads j 0 (omega arith) hj is nz (ap (λ (l : Lead). lead_with s l (at j)) a ∙ lead-first s (at j) (priced j hj is nz) nz) (ap (λ (m : Shown). beside_of m (shown_of (at j))) b ∙ sym (beside_first no_shown (shown_of (at j)) nz refl))
        by false e (leads i d lt hi ii ni a b) =
            let nz : (at j).size ≡ 0 → ⊥ = eqb-false (at j).size 0 e in
            rw (a, b, lead-same s (at j) (at i) d (priced j hj is nz) nz (one j i hj hi is ii nz ni))
            (join i _ _ hi ii ni lt nz (joint (at j) (at i) d nz ni (omega (arith, named i hi ii ni, named j hj is nz))))

    walk : (k j : ℕ) (l : Lead) (m : Shown) → j + k ≡ key_count → Agree l m j → Agree (fold_set (lead_step p s f) (has set) j k l) (fold_set (show_step p s f) (has set) j k m) key_count
    unfolding fold_set lead_step show_step
    walk zero j l m e g = further l m j key_count (omega arith) g
    walk (suc k) j l m e g = go (has set j) refl (λ l m g. walk k (j + 1) l m (omega arith) g)
      where
        go : (t : Bool) → has set j ≡ t
            → ((l : Lead) (m : Shown) → Agree l m (j + 1) → Agree (fold_set (lead_step p s f) (has set) (j + 1) k l) (fold_set (show_step p s f) (has set) (j + 1) k m) key_count)
            → Agree (fold_set (lead_step p s f) (has set) (j + 1) k (cond t (lead_with s l (at j)) l)) (fold_set (show_step p s f) (has set) (j + 1) k (cond t (beside_of m (shown_of (at j))) m)) key_count
        go true is on = on (lead_with s l (at j)) (beside_of m (shown_of (at j))) (step j l m (omega arith) is g)
        go false is on = on l m (further l m j (j + 1) (omega arith) g)

    pub tells : (m : Shown) → m ≡ fold_set (show_step p s f) (has set) 0 key_count no_shown → (m.size ≡ 0 → ⊥) → Tells p s f m (fold_set (lead_step p s f) (has set) 0 key_count no_lead)
    tells m em n = go (fold_set (lead_step p s f) (has set) 0 key_count no_lead) (subst (λ (x : Shown). Agree (fold_set (lead_step p s f) (has set) 0 key_count no_lead) x key_count) (sym em) (walk key_count 0 no_lead no_shown refl (nobody refl refl)))
      where
        go : (l : Lead) → Agree l m key_count → Tells p s f m l
        go l (nobody a b) = absurd (n (ap (λ (m : Shown). m.size) b))
        go l (leads i d lt hi is ni a b) =
            let el : m.letter ≡ A + i = ap (λ (m : Shown). m.letter) b ∙ named i hi is ni in
            let ea : l.best ≡ at i = ap (λ (l : Lead). l.best) a in
            record {
              best = ea ∙ ap (standing_at p s f) (sym el);
              decided = ap (λ (l : Lead). l.decided) a ∙ sym (ap (λ (m : Shown). m.decided) b);
              name = ap (λ (c : Candidate). c.name) ea ∙ sym (ap (λ (m : Shown). m.letter) b);
              price = λ z. priced i hi is ni (sym (ap (λ (c : Candidate). c.price) ea) ∙ z);
              low = omega (arith, el);
              high = omega (arith, el);
            }

-- ---- a key that tells a price tells one

low-short : (v : ℕ) → (short_of v ≡ full_key → ⊥) → short_of v ≡ v
unfolding short_of
low-short v n = go (ltb v full_key) refl
  where
    go : (t : Bool) → ltb v full_key ≡ t → cond t v full_key ≡ v
    go true e = refl
    go false e = absurd (n (rw e))

key-price : (s : Side) (v w top : ℕ) → (top ≡ 0 → ⊥) → (top ≡ full_of s → ⊥) → key_of s v ≡ top → key_of s w ≡ top → v ≡ w
unfolding key_of
key-price Bid v w top n m ev ew = sym (low-short v (λ q. m (sym ev ∙ q))) ∙ ev ∙ sym ew ∙ low-short w (λ q. m (sym ew ∙ q))
key-price Offer v w top n m ev ew = go (eqb v 0) ev (eqb w 0) ew
  where
    go : (t : Bool) → cond t 0 (4294967296 - short_of v) ≡ top → (u : Bool) → cond u 0 (4294967296 - short_of w) ≡ top → v ≡ w
    go true e u g = absurd (n (sym e))
    go false e true g = absurd (n (sym g))
    go false e false g =
        let a : short_of v ≡ v = low-short v (λ q. m (omega (arith, e, q))) in
        let b : short_of w ≡ w = low-short w (λ q. m (omega (arith, g, q))) in
        omega (arith, e, g, a, b, n)

-- ---- a letter that shows a size has a price

counts-price : (s : Side) (q : Quote) → counts s q ≡ true → (side_of s q).price ≡ 0 → ⊥
unfolding counts
counts-price s q e z = omega (arith, ltb-true 0 (side_of s q).price (and-true (ltb 0 (side_of s q).price) (ltb 0 (side_of s q).size) (and-true (ltb 0 (side_of s q).price && ltb 0 (side_of s q).size) (admits s q.condition) e).0).0, z)

abbrev own_of : List ℕ → Side → ℕ → Candidate
own_of p s j = level_candidate j (quotes_in p j).condition (side_of s (quotes_in p j))

sized : (p : List ℕ) (s : Side) (f : Candidate) (j : ℕ) → (j ≡ D → ⊥) → ((standing_at p s f j).size ≡ 0 → ⊥) → (standing_at p s f j).price ≡ 0 → ⊥
unfolding standing_at candidate_of
sized p s f j n = rw (ne_eqb j D n) (go (eqb j S) (counts s (quotes_in p j)) refl)
  where
    go : (t u : Bool) → counts s (quotes_in p j) ≡ u → ((cond t no_candidate (or_none (cond u (Some (own_of p s j)) None))).size ≡ 0 → ⊥) → (cond t no_candidate (or_none (cond u (Some (own_of p s j)) None))).price ≡ 0 → ⊥
    go true u e nz z = nz refl
    go false true e nz z = counts-price s (quotes_in p j) e z
    go false false e nz z = nz refl

-- ---- one side of a whole page

ahead-is : (p : List ℕ) (s : Side) (f : Candidate) (m : Shown) (l : Lead) → Tells p s f m l → ahead (standing_at p s f m.letter) (decided_by p s f m.letter m.decided) ≡ ahead_of_all p s f l
unfolding ahead_of_all decided_by
ahead-is p s f m l t = λ i. record { best = sym t.best i; decided = cond (eqb (sym t.decided i) 0) (cond (any_other (standing_at p s f) (sym t.name i) A 26) 1 0) (sym t.decided i) }

module _ (p : List ℕ) (b : Bytes p) (s : Side) (f : Candidate) (ff : f.price < 2 ^ 64) (top : ℕ) (none_above : NoneAbove (key_at p (quote_keys_at s)) key_count top) (d-below : key_of s f.price ≤ top)
    (low : top ≤ full_key) (same : ℕ) (es : same ≡ set_of (λ i. eqb (key_at p (quote_keys_at s) i) top) key_count) (k : ℕ) (ek : k ≡ key_of s f.price) (set : ℕ) (et : set ≡ members_of same k top)
    (m : Shown) (em : m ≡ fold_set (show_step p s f) (has set) 0 key_count no_shown) (h : is_hidden s top same m.size ≡ false)
  where
    module _ (n : top ≡ 0 → ⊥) where
      set-some : set ≡ cond (eqb k top) (with_member same d_place) same
      unfolding members_of
      set-some = et ∙ rw (ne_eqb top 0 n)

      inside : (i : ℕ) → has set i ≡ true → has set (A + i - A) ≡ true
      inside i is = let e : A + i - A ≡ i = omega arith in ap (has set) e ∙ is

      priced : (i : ℕ) → i < key_count → has set i ≡ true → ((standing_at p s f (A + i)).size ≡ 0 → ⊥) → (standing_at p s f (A + i)).price ≡ 0 → ⊥
      priced i hi is nz z = go (cut (A + i) D)
        where
          go : Cut (A + i) D → ⊥
          go (equal x e) = n (sym (d-key p b s f ff top none_above d-below low same set es (shown-d s top same m.size h n) k ek set-some n (A + i) e (inside i is)) ∙ ap (key_of s) z ∙ key-none s)
          go (apart x e) = sized p s f (A + i) e nz z

      key : (i : ℕ) → i < key_count → has set i ≡ true → ((standing_at p s f (A + i)).size ≡ 0 → ⊥) → key_of s (standing_at p s f (A + i)).price ≡ top
      key i hi is nz = member-key p b s f ff top none_above d-below low same set es (shown-d s top same m.size h n) k ek set-some n (A + i) (omega arith) (omega arith) (inside i is) (record { price = priced i hi is nz; size = nz })

      told : Tells p s f m (fold_set (lead_step p s f) (has set) 0 key_count no_lead)
      told =
          tells p s f set priced
          (λ i j hi hj is js nz mz. key-price s _ _ top n (shown-top s top same m.size h n) (key i hi is nz) (key j hj js mz))
          (λ i hi is nz. standing-name p (A + i) (omega arith) (omega arith) s f (record { price = priced i hi is nz; size = nz }))
          m em (shown-size s top same m.size h n)

    -- nobody may lead
    unsized : top ≡ 0 → m.size ≡ 0
    unsized e =
        let z : set ≡ 0 = et ∙ sym (members-none same k top e) in
        ap (λ (m : Shown). m.size) (em ∙ ap (λ (n : ℕ). fold_set (show_step p s f) (has n) 0 key_count no_shown) z ∙ member-none (show_step p s f) 0 key_count no_shown)

    pub in_letters : InLetters m
    in_letters nz = go (cut top 0)
      where
        go : Cut top 0 → (A ≤ m.letter) × (m.letter ≤ Z)
        go (equal x e) = absurd (nz (unsized e))
        go (apart x n) = ((told n).low, (told n).high)

    pub leader-is : (l : ℕ) → Z ≤ l → l ≤ Z → (by : ℕ) → by ≡ decided_by p s f m.letter m.decided → (r : Lead) → r ≡ led_by p s f m by → r ≡ lead_from s (standing_at p s f) A (l + 1 - A) no_lead
    leader-is l lo hi by eb r er = go (cut top 0)
      where
        go : Cut top 0 → r ≡ lead_from s (standing_at p s f) A (l + 1 - A) no_lead
        go (equal x e) = er ∙ sym (led-none p s f m by (unsized e)) ∙ nobody-whole p b s f ff top none_above d-below l lo hi e
        go (apart x n) =
            fast-whole p b s f ff top none_above d-below l lo hi low same set es (shown-d s top same m.size h n) k ek (set-some n) n
            (fold_set (lead_step p s f) (has set) 0 key_count no_lead) r refl (told n).price
            (er ∙ sym (led-some p s f m by (standing_at p s f m.letter) (shown-size s top same m.size h n) refl) ∙ ap (ahead (standing_at p s f m.letter)) eb ∙ ahead-is p s f m _ (told n))

-- a leader that was handed on in parts
pub all-is : (p : List ℕ) (s : Side) (l : ℕ) (x f : Candidate) (a r : Lead) → x ≡ f → a ≡ lead_from s (standing_at p s x) A (l + 1 - A) no_lead → r ≡ a → r ≡ lead_from s (standing_at p s f) A (l + 1 - A) no_lead
all-is p s l x f a r ex ea er = er ∙ ea ∙ ap (λ (x : Candidate). lead_from s (standing_at p s x) A (l + 1 - A) no_lead) ex

-- both sides
pub leaders-bid : (p : List ℕ) (l : ℕ) (f : Sides Candidate) (r : Sides Lead) → r ≡ leaders_of p l f → r.bid ≡ lead_from Bid (standing_at p Bid f.bid) A (l + 1 - A) no_lead
unfolding leaders_of
leaders-bid p l f r e = ap (λ (r : Sides Lead). r.bid) e

pub leaders-offer : (p : List ℕ) (l : ℕ) (f : Sides Candidate) (r : Sides Lead) → r ≡ leaders_of p l f → r.offer ≡ lead_from Offer (standing_at p Offer f.offer) A (l + 1 - A) no_lead
unfolding leaders_of
leaders-offer p l f r e = ap (λ (r : Sides Lead). r.offer) e

pub leaders-both : (p : List ℕ) (l : ℕ) (f : Sides Candidate) (b o : Lead) → b ≡ lead_from Bid (standing_at p Bid f.bid) A (l + 1 - A) no_lead → o ≡ lead_from Offer (standing_at p Offer f.offer) A (l + 1 - A) no_lead
    → ◌≡◌ {A = Sides Lead} (record { bid = b; offer = o }) (leaders_of p l f)
unfolding leaders_of
leaders-both p l f b o eb eo = λ i. record { bid = eb i; offer = eo i }
