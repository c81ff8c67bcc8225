-- Only letters with the highest key can lead, and only levels with a key above the national best's are beyond it.
-- Assumes nothing.
use Prim.Native.Nat.{ℕ, zero, suc, ◌+◌, ◌-◌, ◌/◌, ◌%◌, ◌^◌, ◌≤◌, ◌<◌}
use mathlib.Core.Path.{◌≡◌, refl, sym, ap, ◌∙◌, subst}
use mathlib.Core.Bool.{Bool, true, false, ◌&&◌, cond}
use mathlib.Core.List.{List, [], ◌∷◌}
use Rattle.std.specs.Prelude.{Option, None, Some}
use native.Mathlib.Omega.{arith}
use lib.Dec.{eqb, ltb}
use borrow.Author.Tests.{eqb-true, eqb-false, eq-eqb, ne_eqb, ltb-false}
use Rattle.lists.specs.Lists.{map_option, is_some}
use Rattle.lists.proofs.Searches.{less_one}
use Rattle.lists.proofs.Tests.{clash, Cut, equal, apart, cut}
use Rattle.field.specs.Field.{Bytes, part}
use Rattle.field.specs.Low.{low}
use Rattle.field.specs.Ascii.{A, D, S, Z}
use Rattle.ranking.specs.declared.Side.{Side}
use Rattle.ranking.specs.declared.Candidate.{Candidate}
use Rattle.ranking.specs.declared.Lead.{Lead}
use Rattle.ranking.specs.Held.{no_candidate, or_none, no_lead}
use Rattle.ranking.specs.code.Choice.{rank_of, live, choose, best_from, beyond_of, lead_with, lead_from}
use Rattle.ranking.specs.code.Chosen.{best_chosen, lead_chosen, any_other}
use Rattle.ranking.proofs.Bridge.{fits_or}
use Rattle.ranking.proofs.ChosenLaws.{Counts, lead-chosen, beyond-chosen, lead-cut}
use Rattle.quote.specs.declared.Level.{Level}
use Rattle.quote.specs.declared.Quote.{Quote}
use Rattle.quote.specs.Quote.{no_level, side_of, admits, counts, level_candidate, candidate_of, quote_in, quote_length}
use Rattle.keys.specs.Keys.{key_length, full_key, key_of, level_key, side_key, quote_key, floor_of, bar_of}
use Rattle.keys.proofs.KeyLaws.{key-some, floor-in, floor-out, bar-behind}
use Rattle.keysets.specs.Sets.{NoneAbove, key_at, key_count, keys_length, lowest_of, has, set_of, with_member, fold_set}
use Rattle.keysets.proofs.FoldLaws.{out-less}
use Rattle.page.proofs.KeyLaws.{quote-keys-high, first-keys-high}
use Rattle.keysets.proofs.SetLaws.{set-has, set-lt, with-has}
use Rattle.levels.specs.Levels.{side_levels, levels_in, levels_length}
use Rattle.entries.specs.Entries.{as_d, ranks, letter_levels}
use Rattle.page.specs.Layout.{page_length, slot_at, quote_keys_at, quote_key_at, first_keys_at, first_key_at}
use Rattle.page.specs.Page.{agreed, agreed_side, first_key, quotes_in}
use Rattle.slots.specs.code.Slots.{first_of, first_in}
use Rattle.slots.proofs.ReadLaws.{quote-sides, quote-condition, side-here}
use Rattle.walk.specs.code.Walk.{asked_of, standing_at, first_by, d_place, lead_step, odd_step, another, ahead_of_all}
use Rattle.walk.proofs.WalkLaws.{standing-below, first-counts}

-- ---- a candidate's key is the one that stands

counts-key : (s : Side) (q : Quote) → counts s q ≡ true → quote_key s q ≡ key_of s (side_of s q).price
unfolding counts side_key level_key
counts-key s q = go (side_of s q).price (side_of s q).size (admits s q.condition)
  where
    no_size : (a t : Bool) → a && false && t ≡ true → ⊥
    no_size true t e = clash (sym e)
    no_size false t e = clash (sym e)

    no-side : (a b : Bool) → a && b && false ≡ true → ⊥
    no-side true true e = clash (sym e)
    no-side true false e = clash (sym e)
    no-side false b e = clash (sym e)

    go : (v z : ℕ) (t : Bool) → ltb 0 v && ltb 0 z && t ≡ true → cond t (cond (eqb z 0) 0 (key_of s v)) 0 ≡ key_of s v
    go v zero t e = absurd (no_size (ltb 0 v) t e)
    go v (suc z) true e = rw (ne_eqb (suc z) 0 (λ e. omega arith))
    go v (suc z) false e = absurd (no-side (ltb 0 v) (ltb 0 (suc z)) e)

counts_some : (s : Side) (q : Quote) → counts s q ≡ true → side_of s q ≡ no_level → ⊥
unfolding counts
counts_some s q e f = clash (sym e ∙ ap (λ (v : Level). ltb 0 v.price && ltb 0 v.size && admits s q.condition) f)

level-key : (s : Side) (v : Level) → (v.size ≡ 0 → ⊥) → level_key s v ≡ key_of s v.price
unfolding level_key
level-key s v n = rw (ne_eqb v.size 0 n)

-- D's price is that of its FINRA best
d-price : (p : List ℕ) (s : Side) (f : Candidate) (j : ℕ) → j ≡ D → (standing_at p s f j).price ≡ f.price
unfolding standing_at as_d
d-price p s f j e = rw (eq-eqb j D e)

own : (v : Level) → agreed true v ≡ v
unfolding agreed
own v = refl

lost : (v : Level) → agreed false v ≡ no_level
unfolding agreed
lost v = refl

module _ (p : List ℕ) (l : ℕ) (h : A ≤ l) (k : l ≤ Z) (s : Side) where
  abbrev stored : Quote
  stored = quote_in (part p (slot_at l) quote_length)

  quote-key : counts s (quotes_in p l) ≡ true → key_of s (side_of s (quotes_in p l)).price ≡ low p (quote_key_at s l) key_length
  quote-key c = go (eqb (low p (quote_key_at s l) key_length) (quote_key s stored)) refl
    where
      side : (t : Bool) → eqb (low p (quote_key_at s l) key_length) (quote_key s stored) ≡ t → side_of s (quotes_in p l) ≡ agreed t (side_of s stored)
      side t e = quote-sides p l h k s ∙ ap (λ (u : Bool). agreed u (side_of s stored)) e

      go : (t : Bool) → eqb (low p (quote_key_at s l) key_length) (quote_key s stored) ≡ t → key_of s (side_of s (quotes_in p l)).price ≡ low p (quote_key_at s l) key_length
      go true e =
          sym (counts-key s (quotes_in p l) c) ∙ (λ i. side_key s (quote-condition p l h k i) ((side true e ∙ own (side_of s stored)) i))
          ∙ sym (eqb-true (low p (quote_key_at s l) key_length) (quote_key s stored) e)
      go false e = absurd (counts_some s (quotes_in p l) c (side false e ∙ lost (side_of s stored)))

  quote-candidate : (t : Bool) → counts s (quotes_in p l) ≡ t → Counts (or_none (candidate_of s l (quotes_in p l))) → key_of s (or_none (candidate_of s l (quotes_in p l))).price ≡ low p (quote_key_at s l) key_length
  unfolding candidate_of
  quote-candidate true e c = rw e (quote-key e)
  quote-candidate false e c = absurd (none-counts (subst (λ (t : Bool). Counts (or_none (cond t (Some (level_candidate l (quotes_in p l).condition (side_of s (quotes_in p l)))) None))) e c))
    where
      none-counts : Counts no_candidate → ⊥
      none-counts c = c.price refl

  module _ (f : Candidate) where
    standing-key : (l ≡ D → ⊥) → Counts (standing_at p s f l) → key_of s (standing_at p s f l).price ≡ key_at p (quote_keys_at s) (l - A)
    unfolding standing_at key_at
    standing-key n = go (eqb l S)
      where
        go : (t : Bool) → Counts (cond (eqb l D) (as_d f) (cond t no_candidate (or_none (candidate_of s l (quotes_in p l)))))
            → key_of s (cond (eqb l D) (as_d f) (cond t no_candidate (or_none (candidate_of s l (quotes_in p l))))).price ≡ low p (quote_key_at s l) key_length
        go t = rw (ne_eqb l D n) (by t)
          where
            by : (t : Bool) → Counts (cond t no_candidate (or_none (candidate_of s l (quotes_in p l)))) → key_of s (cond t no_candidate (or_none (candidate_of s l (quotes_in p l)))).price ≡ low p (quote_key_at s l) key_length
            by true c = absurd (c.price refl)
            by false c = quote-candidate (counts s (quotes_in p l)) refl c

    pub standing-name : Counts (standing_at p s f l) → (standing_at p s f l).name ≡ l
    unfolding standing_at as_d candidate_of
    standing-name = go (eqb l D) refl (eqb l S) (counts s (quotes_in p l))
      where
        go : (d : Bool) → eqb l D ≡ d → (t u : Bool)
            → Counts (cond d (record { name = D; price = f.price; size = f.size; time = f.time; condition = f.condition }) (cond t no_candidate (or_none (cond u (Some (level_candidate l (quotes_in p l).condition (side_of s (quotes_in p l)))) None))))
            → (cond d (record { name = D; price = f.price; size = f.size; time = f.time; condition = f.condition }) (cond t no_candidate (or_none (cond u (Some (level_candidate l (quotes_in p l).condition (side_of s (quotes_in p l)))) None)))).name ≡ l
        go true e t u c = sym (eqb-true l D e)
        go false e true u c = absurd (c.price refl)
        go false e false true c = refl
        go false e false false c = absurd (c.price refl)

  pub first-key : (fb : Option Candidate) → Counts (or_none (first_by p s fb l)) → key_of s (or_none (first_by p s fb l)).price ≡ key_at p (first_keys_at s) (l - A)
  unfolding first_by first_in letter_levels key_at agreed_side
  first-key fb = rw (side-here p l h k s) (go (eqb l S) (ranks s (quotes_in p) fb l) (eqb (low p (first_key_at s l) key_length) (first_key s cells)) refl cells refl)
    where
      cells : List Level
      cells = side_levels s (levels_in (part p (slot_at l + quote_length) levels_length))

      go : (t r o : Bool) → eqb (low p (first_key_at s l) key_length) (first_key s cells) ≡ o → (vs : List Level) → cells ≡ vs
          → Counts (or_none (map_option (level_candidate l 32) (first_of (cond t [] (cond r (cond o vs []) [])))))
          → key_of s (or_none (map_option (level_candidate l 32) (first_of (cond t [] (cond r (cond o vs []) []))))).price ≡ low p (first_key_at s l) key_length
      go true r o e vs ev c = absurd (c.price refl)
      go false false o e vs ev c = absurd (c.price refl)
      go false true false e vs ev c = absurd (c.price refl)
      go false true true e [] ev c = absurd (c.price refl)
      go false true true e (v ∷ vs) ev c = sym (eqb-true (low p (first_key_at s l) key_length) (first_key s cells) e ∙ ap (first_key s) ev ∙ level-key s v c.size)

-- ---- folds over a set, by letters

module _ (p : List ℕ) (s : Side) (f : Candidate) (m : ℕ → Bool) where
  abbrev pub chosen : ℕ → Bool
  chosen j = m (j - A)

  pub lead-letters : (k j : ℕ) (l : Lead) → fold_set (lead_step p s f) m j k l ≡ lead_chosen s (standing_at p s f) chosen (A + j) k l
  unfolding fold_set lead_chosen lead_step
  lead-letters zero j l = refl
  lead-letters (suc k) j l =
      let a : A + j - A ≡ j = omega arith in
      let b : A + (j + 1) ≡ A + j + 1 = omega arith in
      lead-letters k (j + 1) (cond (m j) (lead_with s l (standing_at p s f (A + j))) l) ∙ (λ i. lead_chosen s (standing_at p s f) chosen (b i) k (cond (m (sym a i)) (lead_with s l (standing_at p s f (A + j))) l))

  pub odd-letters : (k j : ℕ) (b : Candidate) → fold_set (odd_step p s f) m j k b ≡ best_chosen s (asked_of (first_by p s (live f))) chosen (A + j) k b
  unfolding fold_set best_chosen odd_step
  odd-letters zero j b = refl
  odd-letters (suc k) j b =
      let a : A + j - A ≡ j = omega arith in
      let d : A + (j + 1) ≡ A + j + 1 = omega arith in
      odd-letters k (j + 1) (cond (m j) (choose s b (or_none (first_by p s (live f) (A + j)))) b) ∙ (λ i. best_chosen s (asked_of (first_by p s (live f))) chosen (d i) k (cond (m (sym a i)) (choose s b (or_none (first_by p s (live f) (A + j)))) b))

-- ---- steps

module _ (p : List ℕ) (s : Side) (f : Candidate) where
  pub odd-step : (i : ℕ) (b u x : Candidate) → x ≡ or_none (first_by p s (live f) (A + i)) → u ≡ choose s b x → u ≡ odd_step p s f i b
  unfolding odd_step
  odd-step i b u x ex eu = rw (← ex) eu

  module _ (n : ℕ) where
    pub another-self : (l : ℕ) → l ≡ n → false ≡ another p s f n l
    unfolding another
    another-self l e = rw (eq-eqb l n e)

    pub another-by : (l : ℕ) (t : Bool) (x : Candidate) → (l ≡ n → ⊥) → x ≡ standing_at p s f l → t ≡ is_some (live x) → t ≡ another p s f n l
    unfolding another
    another-by l t x m ex et = rw (ne_eqb l n m, ← ex) et

    other_step : (k i : ℕ) → any_other (standing_at p s f) n i (suc k) ≡ cond (another p s f n i) true (any_other (standing_at p s f) n (i + 1) k)
    unfolding any_other another
    other_step k i = go (eqb i n)
      where
        go : (t : Bool) → cond t (any_other (standing_at p s f) n (i + 1) k) (cond (is_some (live (standing_at p s f i))) true (any_other (standing_at p s f) n (i + 1) k))
            ≡ cond (cond t false (is_some (live (standing_at p s f i)))) true (any_other (standing_at p s f) n (i + 1) k)
        go true = refl
        go false = refl

    module _ (e : ℕ) (w : Bool) (i : ℕ) where
      other_at : (t : Bool) → i < e → another p s f n i ≡ t → any_other (standing_at p s f) n i (e - i) ≡ cond t true (any_other (standing_at p s f) n (i + 1) (e - (i + 1)))
      other_at t h et = ap (any_other (standing_at p s f) n i) (less_one e i h) ∙ other_step (e - (i + 1)) i ∙ ap (λ (u : Bool). cond u true (any_other (standing_at p s f) n (i + 1) (e - (i + 1)))) et

      pub other-found : (t : Bool) → i < e → any_other (standing_at p s f) n i (e - i) ≡ w → t ≡ another p s f n i → t ≡ true → true ≡ w
      other-found t h inv et ht = sym (other_at true h (sym et ∙ ht)) ∙ inv

      pub other-again : (t : Bool) → i < e → any_other (standing_at p s f) n i (e - i) ≡ w → t ≡ another p s f n i → t ≡ false → any_other (standing_at p s f) n (i + 1) (e - (i + 1)) ≡ w
      other-again t h inv et ht = sym (other_at false h (sym et ∙ ht)) ∙ inv

      pub other-end : e ≤ i → any_other (standing_at p s f) n i (e - i) ≡ w → false ≡ w
      unfolding any_other
      other-end h inv = let z : e - i ≡ 0 = omega arith in rw z at inv

-- ---- the letters with the highest key

pub row_fits : (s : Side) (n : ℕ) → n ≡ page_length → (a : ℕ) → a ≡ quote_keys_at s → a + keys_length ≤ n
row_fits s n w a e = omega (arith, w, e, quote-keys-high s)

pub first-row-fits : (s : Side) (n : ℕ) → n ≡ page_length → (a : ℕ) → a ≡ first_keys_at s → a + keys_length ≤ n
first-row-fits s n w a e = omega (arith, w, e, first-keys-high s)

pub top-is : (p : List ℕ) (s : Side) (v a t k r : ℕ) → a ≡ quote_keys_at s → NoneAbove (key_at p a) key_count t → k ≡ key_of s v → (t ≤ r) × (k ≤ r)
    → (NoneAbove (key_at p (quote_keys_at s)) key_count r) × (key_of s v ≤ r)
top-is p s v a t k r ea n ek h = ((λ i j. rw (← ea) (omega (arith, n i j, h.0))), rw (← ek) h.1)

pub with-taken : (m r : ℕ) (d : Bool) → d ≡ true → r ≡ with_member m d_place → r ≡ cond d (with_member m d_place) m
with-taken m r d e h = rw e h

pub out-less-by : (m i n : ℕ) → 0 < m → m < 2 ^ key_count → i ≡ lowest_of m → n ≡ m - 2 ^ i → n < m
out-less-by m i n p h e f = rw f (out-less m i p h e)

pub d-has : (m : ℕ) → eqb (m / 8 % 2) 1 ≡ has m d_place
unfolding has
d-has m = refl

module _ (p : List ℕ) (b : Bytes p) (s : Side) (f : Candidate) (ff : f.price < 2 ^ 64) (top : ℕ) (none_above : NoneAbove (key_at p (quote_keys_at s)) key_count top) (d-below : key_of s f.price ≤ top) where
  -- nobody has a key above 0
  pub nobody : top ≡ 0 → no_lead ≡ lead_from s (standing_at p s f) A key_count no_lead
  unfolding lead_from
  nobody e = sym (lead-cut s (standing_at p s f) A 0 26 no_lead none-counts)
    where
      none-counts : (j : ℕ) → A + 0 ≤ j → j < A + (0 + 26) → Counts (standing_at p s f j) → ⊥
      none-counts j lo hi c = go (cut j D)
        where
          go : Cut j D → ⊥
          go (equal x d) = let q : f.price ≡ 0 → ⊥ = λ z. c.price (d-price p s f j d ∙ z) in omega (arith, e, d-below, key-some s f.price q)
          go (apart x n) =
              let lo' : A ≤ j = omega arith in
              let hi' : j ≤ Z = omega arith in
              omega (arith, e, key-some s (standing_at p s f j).price c.price, standing-key p j lo' hi' s f n c, none_above (j - A) (omega arith))

  module _ (top-low : top ≤ full_key) (same set : ℕ) (es : same ≡ set_of (λ i. eqb (key_at p (quote_keys_at s) i) top) key_count) (no-d : has same d_place ≡ false)
      (k : ℕ) (ek : k ≡ key_of s f.price) (et : set ≡ cond (eqb k top) (with_member same d_place) same) (some-top : top ≡ 0 → ⊥) where
    -- who is in the set
    set_is : (j : ℕ) → A ≤ j → j ≤ Z → (j ≡ D → ⊥) → has set (j - A) ≡ eqb (key_at p (quote_keys_at s) (j - A)) top
    set_is j lo hi n = ap (λ (m : ℕ). has m (j - A)) et ∙ go (eqb k top) ∙ ap (λ (m : ℕ). has m (j - A)) es ∙ set-has (λ i. eqb (key_at p (quote_keys_at s) i) top) key_count (j - A) (omega arith)
      where
        go : (t : Bool) → has (cond t (with_member same d_place) same) (j - A) ≡ has same (j - A)
        go true = with-has same d_place (j - A) ∙ ap (λ (t : Bool). cond t true (has same (j - A))) (ne_eqb (j - A) d_place (λ e. n (omega arith)))
        go false = refl

    set-d : has set d_place ≡ eqb k top
    set-d = ap (λ (m : ℕ). has m d_place) et ∙ go (eqb k top)
      where
        go : (t : Bool) → has (cond t (with_member same d_place) same) d_place ≡ t
        go true = with-has same d_place d_place
        go false = no-d

    -- D is in it by its FINRA best's key
    pub d-key : (j : ℕ) → j ≡ D → has set (j - A) ≡ true → key_of s (standing_at p s f j).price ≡ top
    d-key j e m =
        let i : d_place ≡ j - A = omega (arith, e) in
        ap (key_of s) (d-price p s f j e) ∙ sym ek ∙ eqb-true k top (sym set-d ∙ ap (has set) i ∙ m)

    -- a member that counts has the highest key
    pub member-key : (j : ℕ) → A ≤ j → j < A + 26 → has set (j - A) ≡ true → Counts (standing_at p s f j) → key_of s (standing_at p s f j).price ≡ top
    member-key j lo hi m c = go (cut j D)
      where
        go : Cut j D → key_of s (standing_at p s f j).price ≡ top
        go (equal x e) = d-key j e m
        go (apart x n) = standing-key p j lo (omega arith) s f n c ∙ eqb-true (key_at p (quote_keys_at s) (j - A)) top (sym (set_is j lo (omega arith) n) ∙ m)

    inside : (j : ℕ) → A ≤ j → j < A + 26 → has set (j - A) ≡ true → Counts (standing_at p s f j) → floor_of s top ≤ rank_of s (standing_at p s f j).price
    inside j lo hi m c = floor-in s (standing_at p s f j).price top (standing-below p b s f j ff) (omega (arith, some-top)) (member-key j lo hi m c)

    outside : (j : ℕ) → A ≤ j → j < A + 26 → has set (j - A) ≡ false → Counts (standing_at p s f j) → rank_of s (standing_at p s f j).price < floor_of s top
    outside j lo hi m c = go (cut j D)
      where
        go : Cut j D → rank_of s (standing_at p s f j).price < floor_of s top
        go (equal x e) =
            let i : d_place ≡ j - A = omega (arith, e) in
            let q : k ≡ top → ⊥ = eqb-false k top (sym set-d ∙ ap (has set) i ∙ m) in
            floor-out s (standing_at p s f j).price top (standing-below p b s f j ff) top-low (omega (arith, ap (key_of s) (d-price p s f j e), d-below, ek, q))
        go (apart x n) =
            let q : key_at p (quote_keys_at s) (j - A) ≡ top → ⊥ = eqb-false (key_at p (quote_keys_at s) (j - A)) top (sym (set_is j lo (omega arith) n) ∙ m) in
            floor-out s (standing_at p s f j).price top (standing-below p b s f j ff) top-low
            (omega (arith, standing-key p j lo (omega arith) s f n c, none_above (j - A) (omega arith), q))

    pub fast : (lead r : Lead) → lead ≡ fold_set (lead_step p s f) (has set) 0 key_count no_lead → (lead.best.price ≡ 0 → ⊥) → r ≡ ahead_of_all p s f lead → r ≡ lead_from s (standing_at p s f) A key_count no_lead
    unfolding ahead_of_all
    fast lead r el n er =
        let em : lead ≡ lead_chosen s (standing_at p s f) (λ j. has set (j - A)) A 26 no_lead = el ∙ lead-letters p s f (has set) 26 0 no_lead in
        er ∙ ap (ahead_of_all p s f) em
        ∙ sym (lead-chosen s (standing_at p s f) (λ j. has set (j - A)) (floor_of s top) A 26 inside outside (λ j lo hi m c. standing-name p j lo (omega arith) s f c) (λ z. n (ap (λ (l : Lead). l.best.price) em ∙ z)))

-- of the whole page
module _ (p : List ℕ) (b : Bytes p) (s : Side) (f : Candidate) (ff : f.price < 2 ^ 64) (top : ℕ) (none_above : NoneAbove (key_at p (quote_keys_at s)) key_count top) (d-below : key_of s f.price ≤ top)
    (l : ℕ) (lo : Z ≤ l) (hi : l ≤ Z) where
  count-is : l + 1 - A ≡ key_count
  count-is = omega arith

  pub nobody-whole : top ≡ 0 → no_lead ≡ lead_from s (standing_at p s f) A (l + 1 - A) no_lead
  nobody-whole e = rw count-is (nobody p b s f ff top none_above d-below e)

  pub fast-whole : top ≤ full_key → (same set : ℕ) → same ≡ set_of (λ i. eqb (key_at p (quote_keys_at s) i) top) key_count → has same d_place ≡ false
      → (k : ℕ) → k ≡ key_of s f.price → set ≡ cond (eqb k top) (with_member same d_place) same → (top ≡ 0 → ⊥)
      → (lead r : Lead) → lead ≡ fold_set (lead_step p s f) (has set) 0 key_count no_lead → (lead.best.price ≡ 0 → ⊥) → r ≡ ahead_of_all p s f lead
      → r ≡ lead_from s (standing_at p s f) A (l + 1 - A) no_lead
  fast-whole tl same set es nd k ek et st lead r el n er = rw count-is (fast p b s f ff top none_above d-below tl same set es nd k ek et st lead r el n er)

-- ---- the levels with a key above the national best's

module _ (p : List ℕ) (b : Bytes p) (s : Side) (f best : Candidate) (fits : best.price < 2 ^ 64) (above : ℕ) (ea : above ≡ set_of (λ i. ltb (bar_of s best.price) (key_at p (first_keys_at s) i)) key_count) where
  odd-outside : (j : ℕ) → A ≤ j → j < A + 26 → has above (j - A) ≡ false → Counts (or_none (first_by p s (live f) j)) → rank_of s (or_none (first_by p s (live f) j)).price ≤ rank_of s best.price
  odd-outside j lo hi m c =
      bar-behind s (or_none (first_by p s (live f) j)).price best.price (fits_or (first_by p s (live f) j) (first-counts p b s (live f) j)) fits
      (omega (arith, first-key p j lo (omega arith) s (live f) c, ltb-false (bar_of s best.price) (key_at p (first_keys_at s) (j - A)) not-above))
    where
      not-above : ltb (bar_of s best.price) (key_at p (first_keys_at s) (j - A)) ≡ false
      not-above = sym (set-has (λ i. ltb (bar_of s best.price) (key_at p (first_keys_at s) i)) key_count (j - A) (omega arith)) ∙ ap (λ (n : ℕ). has n (j - A)) (sym ea) ∙ m

  pub odd-beyond : (x r : Candidate) → x ≡ fold_set (odd_step p s f) (has above) 0 key_count no_candidate → r ≡ beyond_of s best x → r ≡ beyond_of s best (best_from s (asked_of (first_by p s (live f))) A key_count no_candidate)
  odd-beyond x r ex er =
      er ∙ ap (beyond_of s best) (ex ∙ odd-letters p s f (has above) 26 0 no_candidate)
      ∙ sym (beyond-chosen s (asked_of (first_by p s (live f))) (λ j. has above (j - A)) best A 26 no_candidate odd-outside)

  -- of the whole page
  pub odd-whole : (l : ℕ) → Z ≤ l → l ≤ Z → (x r : Candidate) → x ≡ fold_set (odd_step p s f) (has above) 0 key_count no_candidate → r ≡ beyond_of s best x
      → r ≡ beyond_of s best (best_from s (asked_of (first_by p s (live f))) A (l + 1 - A) no_candidate)
  odd-whole l lo hi x r ex er = let n : l + 1 - A ≡ key_count = omega arith in rw n (odd-beyond x r ex er)

pub odd-stopped : (s : Side) (best w x r : Candidate) → x ≡ w → r ≡ beyond_of s best x → r ≡ beyond_of s best w
odd-stopped s best w x r ex er = er ∙ ap (beyond_of s best) ex

pub set-small : (q : ℕ → Bool) (m : ℕ) → m ≡ set_of q key_count → m < 2 ^ key_count
set-small q m e = rw e (set-lt q key_count)

pub above-is : (p : List ℕ) (s : Side) (a k r : ℕ) → a ≡ first_keys_at s → r ≡ set_of (λ i. ltb k (key_at p a i)) key_count → r ≡ set_of (λ i. ltb k (key_at p (first_keys_at s) i)) key_count
above-is p s a k r ea er = rw (← ea) er

pub same-is : (p : List ℕ) (s : Side) (a t r : ℕ) → a ≡ quote_keys_at s → r ≡ set_of (λ i. eqb (key_at p a i) t) key_count → r ≡ set_of (λ i. eqb (key_at p (quote_keys_at s) i) t) key_count
same-is p s a t r ea er = rw (← ea) er
