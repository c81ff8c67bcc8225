-- The best odd lot above a bar: the letter tells it, and the only letter above a higher number has it.
-- Assumes nothing.
use Prim.Native.Nat.{ℕ, zero, suc, ◌+◌, ◌-◌, ◌^◌, ◌≤◌, ◌<◌}
use mathlib.Core.Path.{◌≡◌, refl, sym, ap, ◌∙◌, subst}
use mathlib.Core.Bool.{Bool, true, false, cond}
use mathlib.Core.List.{List, []}
use Rattle.std.specs.Prelude.{Option, None, Some}
use native.Mathlib.Omega.{arith}
use lib.Dec.{eqb, ltb, lit≤}
use borrow.Author.Tests.{eqb-true, eqb-false, eq-eqb, ne_eqb, lt-ltb, ltb-true, ltb-false}
use Rattle.lists.specs.Lists.{map_option}
use Rattle.lists.proofs.Tests.{clash}
use Rattle.field.specs.Field.{Bytes, part}
use Rattle.field.specs.Low.{low}
use Rattle.field.specs.Ascii.{A, S, Z}
use Rattle.ranking.specs.declared.Side.{Side}
use Rattle.ranking.specs.declared.Side.TheVariants.{Bid, Offer}
use Rattle.ranking.specs.declared.Candidate.{Candidate}
use Rattle.ranking.specs.Held.{no_candidate, or_none}
use Rattle.ranking.specs.code.Choice.{rank_of, live, beats, choose, best_from, beyond_of}
use Rattle.ranking.specs.code.Chosen.{best_chosen}
use Rattle.ranking.proofs.Bridge.{OrCounting, choose-either, fits_or}
use Rattle.ranking.proofs.ChosenLaws.{Counts, live-counts, beyond-chosen, best-chosen-split, best-chosen-nobody}
use Rattle.quote.specs.declared.Level.{Level}
use Rattle.quote.specs.Quote.{level_candidate, level_in, quote_length, level_length}
use Rattle.keys.specs.Keys.{key_length, full_key, short_of, key_of, bar_of}
use Rattle.keys.proofs.KeyLaws.{floor-in, floor-out}
use Rattle.keysets.specs.Sets.{key_at, key_count, lowest_of, has, set_of, fold_set}
use Rattle.keysets.proofs.SetLaws.{set-has, set-lt, has-none, take_out, lowest-lt}
use Rattle.keysets.proofs.FoldLaws.{member-none, lowest-member}
use Rattle.levels.specs.Levels.{side_levels, levels_in, empty_cell, side_length, levels_length}
use Rattle.entries.specs.Entries.{ranks, letter_levels}
use Rattle.page.specs.Layout.{slot_at, first_keys_at, first_key_at, in_levels}
use Rattle.page.specs.Page.{agreed_side, first_key, quotes_in}
use Rattle.slots.specs.code.Slots.{first_of, first_in}
use Rattle.slots.proofs.ReadLaws.{side-here, side-at, first_cell}
use Rattle.walk.specs.code.Walk.{asked_of, first_by, odd_step, odd_above, LetterOrNone, stored_first}
use Rattle.walk.proofs.ReadLaws.{front}
use Rattle.walk.proofs.WalkLaws.{first-counts}
use Rattle.walk.proofs.KeyLaws.{first-key, odd-letters, odd-whole}

-- ---- one that counts and is ahead of all others by price is the best

-- the price next behind
abbrev next : Side → ℕ → ℕ
next Bid p = p - 1
next Offer p = p + 1

next-rank : (s : Side) (p : ℕ) → (p ≡ 0 → ⊥) → p < 2 ^ 64 → rank_of s p ≡ suc (rank_of s (next s p))
unfolding rank_of
next-rank Bid p n h = omega (arith, n)
next-rank Offer p n h = rw (ne_eqb p 0 n, ne_eqb (p + 1) 0 (λ e. omega arith)) (omega arith)

module _ (s : Side) (c : ℕ → Candidate) (n : ℕ) (q : Counts (c n)) (fits : (c n).price < 2 ^ 64) where
  -- the only one chosen
  best-one : (i k : ℕ) → i ≤ n → n < i + k → best_chosen s c (λ j. eqb j n) i k no_candidate ≡ c n
  unfolding best_chosen
  best-one i k lo hi =
      let ek : k ≡ (n - i) + suc (k - (n - i) - 1) = omega arith in
      let en : i + (n - i) ≡ n = omega arith in
      ap (λ (z : ℕ). best_chosen s c only i z no_candidate) ek
      ∙ best-chosen-split s c only i (n - i) (suc (k - (n - i) - 1)) no_candidate
      ∙ ap (best_chosen s c only (i + (n - i)) (suc (k - (n - i) - 1))) (best-chosen-nobody s c only i (n - i) no_candidate (λ j a b e. absurd (before j b e)))
      ∙ ap (λ (z : ℕ). best_chosen s c only z (suc (k - (n - i) - 1)) no_candidate) en
      ∙ best-chosen-nobody s c only (n + 1) (k - (n - i) - 1) (cond (eqb n n) (choose s no_candidate (c n)) no_candidate) (λ j a b e. absurd (behind j a e))
      ∙ ap (λ (t : Bool). cond t (choose s no_candidate (c n)) no_candidate) (eq-eqb n n refl)
      ∙ choose-either s None (c n) tt fits
      ∙ ap (λ (o : Option Candidate). or_none o) (live-counts (c n) q)
    where
      only : ℕ → Bool
      only j = eqb j n

      before : (j : ℕ) → j < i + (n - i) → eqb j n ≡ true → ⊥
      before j b e = let z : j ≡ n = eqb-true j n e in omega arith

      behind : (j : ℕ) → n + 1 ≤ j → eqb j n ≡ true → ⊥
      behind j a e = let z : j ≡ n = eqb-true j n e in omega arith

  best-alone : (m : ℕ → Bool) (i k : ℕ) → i ≤ n → n < i + k → m n ≡ true
      → ((j : ℕ) → i ≤ j → j < i + k → (j ≡ n → ⊥) → Counts (c j) → rank_of s (c j).price < rank_of s (c n).price)
      → best_chosen s c m i k no_candidate ≡ c n
  unfolding beyond_of
  best-alone m i k lo hi e others = go (ltb (rank_of s nat.price) (rank_of s (best_chosen s c m i k no_candidate).price)) same
    where
      nat : Candidate
      nat = record { name = 0; price = next s (c n).price; size = 0; time = 0; condition = 0 }

      step : rank_of s (c n).price ≡ suc (rank_of s (next s (c n).price))
      step = next-rank s (c n).price q.price fits

      behind : (j : ℕ) → i ≤ j → j < i + k → (j ≡ n → ⊥) → Counts (c j) → rank_of s (c j).price ≤ rank_of s nat.price
      behind j a b d r = omega (arith, others j a b d r, step)

      not_named : (j : ℕ) → m j ≡ false → j ≡ n → ⊥
      not_named j f z = clash (sym e ∙ ap m (sym z) ∙ f)

      same : beyond_of s nat (best_chosen s c m i k no_candidate) ≡ c n
      same =
          sym (beyond-chosen s c m nat i k no_candidate (λ j a b f r. behind j a b (not_named j f) r))
          ∙ beyond-chosen s c (λ j. eqb j n) nat i k no_candidate (λ j a b f r. behind j a b (eqb-false j n f) r)
          ∙ ap (beyond_of s nat) (best-one i k lo hi)
          ∙ ap (λ (t : Bool). cond t (c n) no_candidate) (lt-ltb (rank_of s nat.price) (rank_of s (c n).price) (omega (arith, step)))

      go : (t : Bool) → cond t (best_chosen s c m i k no_candidate) no_candidate ≡ c n → best_chosen s c m i k no_candidate ≡ c n
      go true w = w
      go false w = absurd (q.price (sym (ap (λ (x : Candidate). x.price) w)))

-- ---- a key has four bytes

key-full : (s : Side) (p : ℕ) → key_of s p ≤ full_key
unfolding key_of short_of
key-full Bid p = go (ltb p full_key) refl
  where
    go : (t : Bool) → ltb p full_key ≡ t → cond t p full_key ≤ full_key
    go true e = let h : p < full_key = ltb-true p full_key e in omega arith
    go false e = omega arith
key-full Offer p = go (eqb p 0) refl (ltb p full_key)
  where
    go : (t : Bool) → eqb p 0 ≡ t → (u : Bool) → cond t 0 (4294967296 - cond u p full_key) ≤ full_key
    go true e u = omega arith
    go false e true = omega (arith, eqb-false p 0 e)
    go false e false = omega arith

-- ---- a first level that counts is the one that stands under its letter

module _ (p : List ℕ) (s : Side) (fb : Option Candidate) (l : ℕ) (h : A ≤ l) (k : l ≤ Z) where
  abbrev stored : Level
  stored = level_in (part p (slot_at l + quote_length + in_levels s) level_length)

  first-of : first_of (side_levels s (levels_in (part p (slot_at l + quote_length) levels_length))) ≡ cond (empty_cell stored) None (Some stored)
  first-of =
      ap first_of (side-at p l s) ∙ first_cell s (part p (slot_at l + quote_length + in_levels s) side_length)
      ∙ ap (λ (u : Level). cond (empty_cell u) None (Some u)) (ap level_in (front p (slot_at l + quote_length + in_levels s) level_length side_length (lit≤ tt)))

  first-stored : Counts (or_none (first_by p s fb l)) → or_none (first_by p s fb l) ≡ level_candidate l 32 stored
  unfolding first_by first_in letter_levels agreed_side
  first-stored =
      rw (side-here p l h k s)
      (go (eqb l S) (ranks s (quotes_in p) fb l) (eqb (low p (first_key_at s l) key_length) (first_key s cells)) cells first-of)
    where
      cells : List Level
      cells = side_levels s (levels_in (part p (slot_at l + quote_length) levels_length))

      by : (t : Bool) → Counts (or_none (map_option (level_candidate l 32) (cond t None (Some stored)))) → or_none (map_option (level_candidate l 32) (cond t None (Some stored))) ≡ level_candidate l 32 stored
      by true c = absurd (c.price refl)
      by false c = refl

      go : (t r o : Bool) (vs : List Level) → first_of vs ≡ cond (empty_cell stored) None (Some stored)
          → Counts (or_none (map_option (level_candidate l 32) (first_of (cond t [] (cond r (cond o vs []) [])))))
          → or_none (map_option (level_candidate l 32) (first_of (cond t [] (cond r (cond o vs []) [])))) ≡ level_candidate l 32 stored
      go true r o vs e = λ c. absurd (c.price refl)
      go false false o vs e = λ c. absurd (c.price refl)
      go false true false vs e = λ c. absurd (c.price refl)
      go false true true vs e = rw e (by (empty_cell stored))

-- ---- as the code reads it

pub stored-none : (p : List ℕ) (s : Side) (l : ℕ) → l ≡ 0 → no_candidate ≡ stored_first p s l
unfolding stored_first
stored-none p s l e = rw (eq-eqb l 0 e)

pub stored_some : (p : List ℕ) (s : Side) (l : ℕ) → (l ≡ 0 → ⊥) → (a i : ℕ) (v : Level) → a ≡ slot_at l → i ≡ in_levels s → v ≡ level_in (part p (a + quote_length + i) level_length)
    → record { name = l; price = v.price; size = v.size; time = v.time; condition = 32 } ≡ stored_first p s l
unfolding stored_first
stored_some p s l n a i v ea ei ev = rw (ne_eqb l 0 n, ← ea, ← ei, ← ev)

-- by the same FINRA best
pub told_same : (p : List ℕ) (s : Side) (f g : Candidate) (k r : ℕ) → g ≡ f → (LetterOrNone r) × (stored_first p s r ≡ odd_above p s g k) → (LetterOrNone r) × (stored_first p s r ≡ odd_above p s f k)
told_same p s f g k r e w = (w.0, w.1 ∙ ap (λ (x : Candidate). odd_above p s x k) e)

-- ---- the best is told by its letter

module _ (p : List ℕ) (b : Bytes p) (s : Side) (f : Candidate) where
  abbrev first : ℕ → Candidate
  first l = or_none (first_by p s (live f) l)

  -- the level that stands under the name is this one
  abbrev Told : Candidate → Type 0
  Told x = (LetterOrNone x.name) × (stored_first p s x.name ≡ x)

  told_none : Told no_candidate
  unfolding stored_first
  told_none = ((λ n. absurd (n refl)), refl)

  told-stored : (l : ℕ) → A ≤ l → l ≤ Z → Told (level_candidate l 32 (level_in (part p (slot_at l + quote_length + in_levels s) level_length)))
  unfolding stored_first
  told-stored l h k = ((λ n. (h, k)), rw (ne_eqb l 0 (λ e. omega arith)))

  told-counts : (l : ℕ) → A ≤ l → l ≤ Z → Counts (first l) → Told (first l)
  told-counts l h k c = subst Told (sym (first-stored p s (live f) l h k c)) (told-stored l h k)

  stored-first : (l : ℕ) → A ≤ l → l ≤ Z → Counts (first l) → stored_first p s l ≡ first l
  unfolding stored_first
  stored-first l h k c = rw (ne_eqb l 0 (λ e. omega arith)) (sym (first-stored p s (live f) l h k c))

  told-first : (l : ℕ) → A ≤ l → l ≤ Z → Told (first l)
  told-first l h k = go (first_by p s (live f) l) refl (first-counts p b s (live f) l)
    where
      go : (o : Option Candidate) → first_by p s (live f) l ≡ o → OrCounting o → Told (or_none o)
      go None e c = told_none
      go (Some x) e c =
          let d : first l ≡ x = ap or_none e in
          subst Told d (told-counts l h k (subst Counts (sym d) (record { price = c.price; size = c.size })))

  told-fold : (m : ℕ → Bool) (k i : ℕ) (x : Candidate) → i + k ≤ key_count → Told x → Told (fold_set (odd_step p s f) m i k x)
  unfolding fold_set odd_step choose
  told-fold m zero i x h t = t
  told-fold m (suc k) i x h t = told-fold m k (i + 1) (cond (m i) (cond (beats s (first (A + i)) x) (first (A + i)) x) x) (omega arith) (go (m i) (beats s (first (A + i)) x))
    where
      go : (u v : Bool) → Told (cond u (cond v (first (A + i)) x) x)
      go true true = told-first (A + i) (omega arith) (omega arith)
      go true false = t
      go false v = t

  -- the best of those above the bar
  pub above-told : (k a set : ℕ) (x : Candidate) → a ≡ first_keys_at s → set ≡ set_of (λ i. ltb k (key_at p a i)) key_count → x ≡ fold_set (odd_step p s f) (has set) 0 key_count no_candidate
      → (LetterOrNone x.name) × (stored_first p s x.name ≡ odd_above p s f k)
  unfolding odd_above
  above-told k a set x ea es ex =
      let t : Told x = rw ex (told-fold (has set) key_count 0 no_candidate (omega arith) told_none) in
      (t.0, t.1 ∙ ex ∙ (λ i. fold_set (odd_step p s f) (has (es i)) 0 key_count no_candidate) ∙ (λ i. fold_set (odd_step p s f) (has (set_of (λ j. ltb k (key_at p (ea i) j)) key_count)) 0 key_count no_candidate))

  -- ---- what a number no lower than the bar tells

  module _ (bar floor set : ℕ) (h : bar ≤ floor) (es : set ≡ set_of (λ i. ltb floor (key_at p (first_keys_at s) i)) key_count) where
    -- nobody is above it, and it is the bar
    pub guess-nobody : set ≡ 0 → floor ≤ bar → (LetterOrNone 0) × (stored_first p s 0 ≡ odd_above p s f bar)
    unfolding odd_above stored_first
    guess-nobody z k =
        let e : bar ≡ floor = omega arith in (
          (λ n. absurd (n refl)),
          sym (rw (e, ← es, z) (member-none (odd_step p s f) 0 key_count no_candidate)),
        )

    module _ (i n : ℕ) (some-above : 0 < set) (ei : i ≡ lowest_of set) (en : n ≡ set - 2 ^ i) (alone : n ≡ 0) where
      small : set < 2 ^ key_count
      small = rw es (set-lt (λ i. ltb floor (key_at p (first_keys_at s) i)) key_count)

      i-low : i < key_count
      i-low = rw ei (lowest-lt set some-above small)

      member : has set i ≡ true
      member = lowest-member set i some-above small ei

      in-set : (j : ℕ) → j < key_count → has set j ≡ ltb floor (key_at p (first_keys_at s) j)
      in-set j k = ap (λ (m : ℕ). has m j) es ∙ set-has (λ i. ltb floor (key_at p (first_keys_at s) i)) key_count j k

      i-above : floor < key_at p (first_keys_at s) i
      i-above = ltb-true floor (key_at p (first_keys_at s) i) (sym (in-set i i-low) ∙ member)

      j-not : (j : ℕ) → j < key_count → (j ≡ i → ⊥) → key_at p (first_keys_at s) j ≤ floor
      j-not j k d =
          ltb-false floor (key_at p (first_keys_at s) j)
          (sym (in-set j k) ∙ ap (λ (t : Bool). cond t false (has set j)) (sym (ne_eqb j i d)) ∙ sym (take_out i set j member) ∙ ap (λ (m : ℕ). has m j) (sym en ∙ alone) ∙ has-none j)

      module _ (c : Counts (first (A + i))) where
        key-i : key_of s (first (A + i)).price ≡ key_at p (first_keys_at s) i
        key-i = let e : A + i - A ≡ i = omega arith in first-key p (A + i) (omega arith) (omega (arith, i-low)) s (live f) c ∙ ap (key_at p (first_keys_at s)) e

        fits : (j : ℕ) → (first j).price < 2 ^ 64
        fits j = fits_or (first_by p s (live f) j) (first-counts p b s (live f) j)

        others : (j : ℕ) → A ≤ j → j < A + key_count → (j ≡ A + i → ⊥) → Counts (first j) → rank_of s (first j).price < rank_of s (first (A + i)).price
        others j lo hi d r =
            let low-j : key_at p (first_keys_at s) (j - A) ≤ floor = j-not (j - A) (omega arith) (λ e. d (omega (arith, e))) in
            let kj : key_of s (first j).price ≡ key_at p (first_keys_at s) (j - A) = first-key p j lo (omega arith) s (live f) r in
            omega (
              arith,
              floor-out s (first j).price (key_of s (first (A + i)).price) (fits j) (key-full s (first (A + i)).price) (omega (arith, low-j, kj, key-i, i-above)),
              floor-in s (first (A + i)).price (key_of s (first (A + i)).price) (fits (A + i)) (omega (arith, key-i, i-above)) refl,
            )

        alone-best : first (A + i) ≡ odd_above p s f bar
        unfolding odd_above
        alone-best = sym (odd-letters p s f (has above) key_count 0 no_candidate ∙ best-alone s (asked_of (first_by p s (live f))) (A + i) c (fits (A + i)) (λ j. has above (j - A)) A key_count (omega arith) (omega (arith, i-low)) named others)
          where
            above : ℕ
            above = set_of (λ j. ltb bar (key_at p (first_keys_at s) j)) key_count

            named : has above (A + i - A) ≡ true
            named =
                let e : A + i - A ≡ i = omega arith in
                ap (has above) e ∙ set-has (λ j. ltb bar (key_at p (first_keys_at s) j)) key_count i i-low ∙ lt-ltb bar (key_at p (first_keys_at s) i) (omega (arith, i-above))

      -- one is above it, and its first level counts
      pub guess-alone : (x : Candidate) → x ≡ first (A + i) → (x.price ≡ 0 → ⊥) → (LetterOrNone (A + i)) × (stored_first p s (A + i) ≡ odd_above p s f bar)
      guess-alone x ex nx = ((λ n. (omega arith, omega (arith, i-low))), stored-first (A + i) (omega arith) (omega (arith, i-low)) counts ∙ alone-best counts)
        where
          counts : Counts (first (A + i))
          counts = go (first_by p s (live f) (A + i)) refl (first-counts p b s (live f) (A + i))
            where
              go : (o : Option Candidate) → first_by p s (live f) (A + i) ≡ o → OrCounting o → Counts (first (A + i))
              go None e c = absurd (nx (ap (λ (y : Candidate). y.price) (ex ∙ ap or_none e)))
              go (Some y) e c = subst Counts (sym (ap or_none e)) (record { price = c.price; size = c.size })

  -- ---- beyond the national best, of the whole page

  pub guess-whole : (best : Candidate) → best.price < 2 ^ 64 → (bar : ℕ) → bar ≡ bar_of s best.price → (l : ℕ) → Z ≤ l → l ≤ Z → (n : ℕ) → stored_first p s n ≡ odd_above p s f bar
      → (x r : Candidate) → x ≡ stored_first p s n → r ≡ beyond_of s best x → r ≡ beyond_of s best (best_from s (asked_of (first_by p s (live f))) A (l + 1 - A) no_candidate)
  unfolding odd_above
  guess-whole best fits bar eb l lo hi n en x r ex er =
      odd-whole p b s f best fits (set_of (λ i. ltb (bar_of s best.price) (key_at p (first_keys_at s) i)) key_count) refl l lo hi x r
      (ex ∙ en ∙ (λ i. fold_set (odd_step p s f) (has (set_of (λ j. ltb (eb i) (key_at p (first_keys_at s) j)) key_count)) 0 key_count no_candidate)) er
