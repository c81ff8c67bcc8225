-- What a slot and its keys say of a letter.
-- Assumes nothing.
use Prim.Native.Nat.{ℕ, zero, suc, ◌+◌, ◌*◌, ◌-◌, ◌^◌, ◌≤◌, ◌<◌}
use mathlib.Core.Path.{◌≡◌, refl, sym, ap, ◌∙◌}
use mathlib.Core.Bool.{Bool, true, false, not, ◌&&◌, cond}
use mathlib.Core.List.{List, [], ◌∷◌}
use Rattle.std.specs.Prelude.{Option, None, Some}
use native.Mathlib.Omega.{arith}
use native.Mathlib.Nat.{add-zero}
use lib.Dec.{eqb, ltb, lit≤}
use lib.ListN.{length, take, drop, get_or}
use borrow.Author.Tests.{eqb-true, eqb-false, eq-eqb, ne_eqb, lt-ltb}
use Rattle.lists.specs.Lists.{upper, map_option, is_some, or_else}
use Rattle.lists.proofs.Tests.{is-upper, clash}
use Rattle.field.specs.Field.{part, field, splice}
use Rattle.field.specs.Low.{low, le_bytes}
use Rattle.field.proofs.Laws.{part-part, field-part-0}
use Rattle.ranking.specs.declared.Side.{Side}
use Rattle.ranking.specs.declared.Side.TheVariants.{Bid, Offer}
use Rattle.ranking.specs.declared.Candidate.{Candidate}
use Rattle.ranking.specs.Held.{no_candidate, or_none}
use Rattle.quote.specs.declared.Level.{Level}
use Rattle.quote.specs.declared.Quote.{Quote}
use Rattle.quote.specs.Quote.{no_level, no_quote, side_of, admits, counts, level_candidate, candidate_of, level_in, quote_in, quote_bytes, quote_length, level_length, bid_at, offer_at}
use Rattle.keys.specs.Keys.{key_length, key_of, level_key, side_key, quote_key}
use Rattle.keys.proofs.KeyLaws.{key-none, key-some}
use Rattle.levels.specs.Levels.{Standing, no_levels, side_levels, empty_cell, ranked, cells_in, side_in, levels_in, side_length, levels_length}
use Rattle.levels.specs.code.Cells.{padded_cells, cells_of, joined_levels}
use Rattle.page.specs.Layout.{page_length, keys_at, key_row, slot_at, quote_keys_at, quote_key_at, first_keys_at, first_key_at, in_quote, in_levels}
use Rattle.page.specs.Page.{agreed, agreed_quote, agreed_side, agreed_levels, first_key, quotes_in, levels_for, with_key, with_quote}
use Rattle.page.proofs.KeyLaws.{quote-keys-high, first-keys-high}
use Rattle.field.specs.Ascii.{A, Z}
use Rattle.slots.specs.code.Slots.{first_of, first_in, with_cells}

-- ---- places

module _ (s : Side) (l : ℕ) (h : A ≤ l) (k : l ≤ Z) where
  pub quote-key-inside : quote_key_at s l + key_length ≤ page_length
  quote-key-inside = omega (arith, quote-keys-high s)

  pub first-key-inside : first_key_at s l + key_length ≤ page_length
  first-key-inside = omega (arith, first-keys-high s)

-- ---- a letter A to Z

module _ (p : List ℕ) (l : ℕ) (h : A ≤ l) (k : l ≤ Z) where
  abbrev stored : Quote
  stored = quote_in (part p (slot_at l) quote_length)

  abbrev own : Side → Bool
  own s = eqb (low p (quote_key_at s l) key_length) (quote_key s stored)

  letter : upper l ≡ true
  letter = is-upper l h (omega arith)

  pub quote-here : quotes_in p l ≡ agreed_quote (low p (quote_key_at Bid l) key_length) (low p (quote_key_at Offer l) key_length) stored
  unfolding quotes_in
  quote-here = rw letter

  pub quote-sides : (s : Side) → side_of s (quotes_in p l) ≡ agreed (own s) (side_of s stored)
  unfolding agreed_quote
  quote-sides Bid = ap (λ (q : Quote). q.bid) quote-here
  quote-sides Offer = ap (λ (q : Quote). q.offer) quote-here

  pub quote-condition : (quotes_in p l).condition ≡ stored.condition
  unfolding agreed_quote
  quote-condition = ap (λ (q : Quote). q.condition) quote-here

  pub levels-here : levels_for p l
      ≡ agreed_levels (low p (first_key_at Bid l) key_length) (low p (first_key_at Offer l) key_length) (levels_in (part p (slot_at l + quote_length) levels_length))
  unfolding levels_for
  levels-here = rw letter

  pub side-here : (s : Side) → side_levels s (levels_for p l) ≡ agreed_side s (low p (first_key_at s l) key_length) (side_levels s (levels_in (part p (slot_at l + quote_length) levels_length)))
  unfolding agreed_levels
  side-here Bid = ap (λ (v : Standing). v.bids) levels-here
  side-here Offer = ap (λ (v : Standing). v.offers) levels-here

-- ---- a key that was read, beside the own one

module _ (s : Side) (l : ℕ) (h : A ≤ l) (k : l ≤ Z) (n : ℕ) (w : n ≡ page_length) (a : ℕ) where
  pub quote-key-fits : a ≡ quote_key_at s l → a + key_length ≤ n
  quote-key-fits e = omega (arith, e, w, quote-key-inside s l h k)

  pub first-key-fits : a ≡ first_key_at s l → a + key_length ≤ n
  first-key-fits e = omega (arith, e, w, first-key-inside s l h k)

module _ (s : Side) (l : ℕ) (p : List ℕ) (a : ℕ) (ea : a ≡ quote_key_at s l) (x : ℕ) (ex : x ≡ low p a key_length) where
  pub key-read : x ≡ low p (quote_key_at s l) key_length
  key-read = ex ∙ ap (λ (i : ℕ). low p i key_length) ea

  module _ (c : ℕ) (v : Level) (o : ℕ) (eo : o ≡ side_key s c v) where
    pub agreed-own : x ≡ o → v ≡ agreed (eqb (low p (quote_key_at s l) key_length) (side_key s c v)) v
    unfolding agreed
    agreed-own e = rw (← key-read, ← eo, eq-eqb x o e)

    pub agreed-not : (x ≡ o → ⊥) → no_level ≡ agreed (eqb (low p (quote_key_at s l) key_length) (side_key s c v)) v
    unfolding agreed
    agreed-not n = rw (← key-read, ← eo, ne_eqb x o n)

pub quote-read : (p : List ℕ) (l : ℕ) → A ≤ l → l ≤ Z → (a : ℕ) (q : Quote) (b o : Level) → a ≡ slot_at l → q ≡ quote_in (part p a quote_length)
    → b ≡ agreed (eqb (low p (quote_key_at Bid l) key_length) (side_key Bid q.condition q.bid)) q.bid
    → o ≡ agreed (eqb (low p (quote_key_at Offer l) key_length) (side_key Offer q.condition q.offer)) q.offer
    → record { condition = q.condition; bid = b; offer = o } ≡ quotes_in p l
unfolding agreed_quote
quote-read p l h k a q b o ea eq eb eo = rw (quote-here p l h k, ← ea, ← eq, eb, eo)

-- ---- a side that counts is one whose key is not 0

no-and : (a b : Bool) → a && b && false ≡ false
no-and true true = refl
no-and true false = refl
no-and false b = refl

sizeless : (a : Bool) → a && false && true ≡ false
sizeless true = refl
sizeless false = refl

key_counts : (s : Side) (q : Quote) → counts s q ≡ not (eqb (quote_key s q) 0)
unfolding counts side_key level_key
key_counts s q = go (side_of s q).price (side_of s q).size (admits s q.condition)
  where
    go : (v z : ℕ) (t : Bool) → ltb 0 v && ltb 0 z && t ≡ not (eqb (cond t (cond (eqb z 0) 0 (key_of s v)) 0) 0)
    go v z false = no-and (ltb 0 v) (ltb 0 z)
    go v zero true = sizeless (ltb 0 v)
    go zero (suc z) true = rw (ne_eqb (suc z) 0 (λ e. omega arith), key-none s)
    go (suc v) (suc z) true =
        let k : key_of s (suc v) ≡ 0 → ⊥ = λ e. omega (arith, e, key-some s (suc v) (λ e. omega arith)) in
        rw (lt-ltb 0 (suc v) (omega arith), lt-ltb 0 (suc z) (omega arith), ne_eqb (suc z) 0 (λ e. omega arith), ne_eqb (key_of s (suc v)) 0 k)

candidate-not : (s : Side) (n : ℕ) (q : Quote) → counts s q ≡ false → candidate_of s n q ≡ None
unfolding candidate_of
candidate-not s n q e = rw e

-- a side whose key is its own, or not
candidate-by : (s : Side) (n : ℕ) (q r : Quote) (t : Bool) → q.condition ≡ r.condition → side_of s q ≡ agreed t (side_of s r) → candidate_of s n q ≡ cond t (candidate_of s n r) None
unfolding candidate_of counts agreed
candidate-by s n q r t e f = (λ j. told (e j) (f j)) ∙ go t
  where
    told : ℕ → Level → Option Candidate
    told c v = cond (ltb 0 v.price && ltb 0 v.size && admits s c) (Some (level_candidate n c v)) None

    go : (t : Bool) → told r.condition (cond t (side_of s r) no_level) ≡ cond t (told r.condition (side_of s r)) None
    go true = refl
    go false = refl

-- ---- a side of a letter's quote under its letter

module _ (p : List ℕ) (l : ℕ) (h : A ≤ l) (k : l ≤ Z) (s : Side) where
  abbrev kept : Quote
  kept = quote_in (part p (slot_at l) quote_length)

  candidate-agreed : (t : Bool) → eqb (low p (quote_key_at s l) key_length) (quote_key s kept) ≡ t → candidate_of s l (quotes_in p l) ≡ cond t (candidate_of s l kept) None
  candidate-agreed t e = candidate-by s l (quotes_in p l) kept t (quote-condition p l h k) (quote-sides p l h k s ∙ ap (λ (u : Bool). agreed u (side_of s kept)) e)

  module _ (a c i : ℕ) (v : Level) (o : ℕ) (ea : a ≡ slot_at l) (ec : c ≡ field p a 1) (ei : i ≡ in_quote s) (ev : v ≡ level_in (part p (a + i) level_length)) (eo : o ≡ side_key s c v) where
    kept-condition : kept.condition ≡ c
    unfolding quote_in
    kept-condition = field-part-0 p (slot_at l) quote_length 1 (lit≤ tt) ∙ ap (λ (x : ℕ). field p x 1) (sym ea) ∙ sym ec

    kept-side : side_of s kept ≡ v
    unfolding quote_in
    kept-side = go s ∙ ap (λ (x : ℕ). level_in (part p (x + in_quote s) level_length)) (sym ea) ∙ ap (λ (x : ℕ). level_in (part p (a + x) level_length)) (sym ei) ∙ sym ev
      where
        go : (s : Side) → side_of s kept ≡ level_in (part p (slot_at l + in_quote s) level_length)
        go Bid = ap level_in (part-part p (slot_at l) quote_length bid_at level_length (lit≤ tt))
        go Offer = ap level_in (part-part p (slot_at l) quote_length offer_at level_length (lit≤ tt))

    own_key : quote_key s kept ≡ o
    own_key = (λ j. side_key s (kept-condition j) (kept-side j)) ∙ sym eo

    pub quoted-idle : o ≡ 0 → no_candidate ≡ or_none (candidate_of s l (quotes_in p l))
    quoted-idle e = go (eqb (low p (quote_key_at s l) key_length) (quote_key s kept)) refl
      where
        none_kept : candidate_of s l kept ≡ None
        none_kept = candidate-not s l kept (key_counts s kept ∙ ap (λ (x : ℕ). not (eqb x 0)) (own_key ∙ e))

        go : (t : Bool) → eqb (low p (quote_key_at s l) key_length) (quote_key s kept) ≡ t → no_candidate ≡ or_none (candidate_of s l (quotes_in p l))
        go true f = rw (candidate-agreed true f, none_kept)
        go false f = rw (candidate-agreed false f)

    module _ (b x : ℕ) (eb : b ≡ quote_key_at s l) (ex : x ≡ low p b key_length) where
      same_key : eqb (low p (quote_key_at s l) key_length) (quote_key s kept) ≡ eqb x o
      same_key = λ j. eqb (sym (key-read s l p b eb x ex) j) (own_key j)

      pub quoted-own : (o ≡ 0 → ⊥) → x ≡ o → record { name = l; price = v.price; size = v.size; time = v.time; condition = c } ≡ or_none (candidate_of s l (quotes_in p l))
      unfolding candidate_of
      quoted-own n e =
          rw (candidate-agreed true (same_key ∙ eq-eqb x o e), key_counts s kept, own_key, ne_eqb o 0 n, kept-side, kept-condition)

      pub quoted-other : (x ≡ o → ⊥) → no_candidate ≡ or_none (candidate_of s l (quotes_in p l))
      quoted-other n = rw (candidate-agreed false (same_key ∙ ne_eqb x o n))

-- ---- a side of a letter's levels

option-clash : {A B : Type 0} {x : A} → None ≡ Some x → B
option-clash {A} {B} {x} e = clash (ap (λ (o : Option A). is_some o) (sym e))

some_same : {A : Type 0} (x y : A) → Some x ≡ Some y → x ≡ y
some_same {A} x y e = ap (λ (o : Option A). or_else o x) e

-- the side's cells, where they stand
pub side-at : (p : List ℕ) (l : ℕ) (s : Side) → side_levels s (levels_in (part p (slot_at l + quote_length) levels_length)) ≡ side_in s (part p (slot_at l + quote_length + in_levels s) side_length)
unfolding levels_in
side-at p l Bid = ap (side_in Bid) (part-part p (slot_at l + quote_length) levels_length 0 side_length (lit≤ tt))
side-at p l Offer = ap (side_in Offer) (part-part p (slot_at l + quote_length) levels_length side_length side_length (lit≤ tt))

-- the first cell's key is that of the side
cells-key : (s : Side) (vs : List Level) → first_key s (cells_of vs) ≡ first_key s vs
unfolding padded_cells level_key
cells-key s [] = refl
cells-key s (v ∷ vs) = refl

head-key : (s : Side) (cs : List Level) → level_key s (get_or cs 0 no_level) ≡ first_key s cs
unfolding level_key
head-key s [] = refl
head-key s (v ∷ vs) = refl

-- the first of a side's levels, if its cell is not empty
pub first_cell : (s : Side) (b : List ℕ) → first_of (side_in s b) ≡ cond (empty_cell (level_in (part b 0 level_length))) None (Some (level_in (part b 0 level_length)))
unfolding side_in cells_in ranked part
first_cell s b = go (empty_cell (level_in (take level_length b)))
  where
    go : (t : Bool) → first_of (cond t [] (level_in (take level_length b) ∷ ranked s (Some (level_in (take level_length b))) (cells_in 3 (drop level_length b)))) ≡ cond t None (Some (level_in (take level_length b)))
    go true = refl
    go false = refl

-- a level whose key is not 0 is one
key-cell : (s : Side) (v : Level) → empty_cell v ≡ eqb (level_key s v) 0
unfolding level_key
key-cell s v = go v.price v.size
  where
    go : (a z : ℕ) → cond (eqb a 0) true (eqb z 0) ≡ eqb (cond (eqb z 0) 0 (key_of s a)) 0
    go zero zero = refl
    go zero (suc z) = rw (ne_eqb (suc z) 0 (λ e. omega arith), key-none s)
    go (suc a) zero = rw (ne_eqb (suc a) 0 (λ e. omega arith))
    go (suc a) (suc z) =
        let k : key_of s (suc a) ≡ 0 → ⊥ = λ e. omega (arith, e, key-some s (suc a) (λ e. omega arith)) in
        rw (ne_eqb (suc a) 0 (λ e. omega arith), ne_eqb (suc z) 0 (λ e. omega arith), ne_eqb (key_of s (suc a)) 0 k)

-- the key of a side by its first level
first-by : (s : Side) (vs : List Level) (v : Level) → first_of vs ≡ cond (empty_cell v) None (Some v) → first_key s vs ≡ level_key s v
first-by s vs v e = go vs (empty_cell v) refl e
  where
    go : (vs : List Level) (t : Bool) → empty_cell v ≡ t → first_of vs ≡ cond t None (Some v) → first_key s vs ≡ level_key s v
    go [] true f e = sym (eqb-true (level_key s v) 0 (sym (key-cell s v) ∙ f))
    go [] false f e = option-clash e
    go (x ∷ xs) true f e = option-clash (sym e)
    go (x ∷ xs) false f e = ap (level_key s) (some_same x v e)

module _ (p : List ℕ) (l : ℕ) (h : A ≤ l) (k : l ≤ Z) (s : Side) (a i : ℕ) (ea : a ≡ slot_at l) (ei : i ≡ in_levels s) where
  abbrev cells : List Level
  cells = side_levels s (levels_in (part p (slot_at l + quote_length) levels_length))

  place : a + quote_length + i ≡ slot_at l + quote_length + in_levels s
  place = λ j. ea j + quote_length + ei j

  module _ (b x : ℕ) (eb : b ≡ first_key_at s l) (ex : x ≡ low p b key_length) where
    first-key-read : low p (first_key_at s l) key_length ≡ x
    first-key-read = ap (λ (j : ℕ). low p j key_length) (sym eb) ∙ sym ex

    module _ (cs : List Level) (ec : cs ≡ cells_of (side_in s (part p (a + quote_length + i) side_length))) (o : ℕ) (eo : o ≡ level_key s (get_or cs 0 no_level)) where
      read-cells : cs ≡ cells_of cells
      read-cells = ec ∙ ap (λ (j : ℕ). cells_of (side_in s (part p j side_length))) place ∙ ap cells_of (sym (side-at p l s))

      own_first : first_key s cells ≡ o
      own_first = sym (cells-key s cells) ∙ ap (first_key s) (sym read-cells) ∙ sym (eo ∙ head-key s cs)

      pub levels-own : x ≡ o → cs ≡ cells_of (side_levels s (levels_for p l))
      unfolding agreed_side
      levels-own e = rw (side-here p l h k s, first-key-read, own_first, eq-eqb x o e) read-cells

      pub levels-other : (x ≡ o → ⊥) → no_level ∷ no_level ∷ no_level ∷ no_level ∷ [] ≡ cells_of (side_levels s (levels_for p l))
      unfolding agreed_side padded_cells
      levels-other n = rw (side-here p l h k s, first-key-read, own_first, ne_eqb x o n)

  module _ (v : Level) (ev : v ≡ level_in (part p (a + quote_length + i) level_length)) (o : ℕ) (eo : o ≡ level_key s v) where
    first-of : first_of cells ≡ cond (empty_cell v) None (Some v)
    first-of =
        ap first_of (side-at p l s) ∙ first_cell s (part p (slot_at l + quote_length + in_levels s) side_length)
        ∙ ap (λ (u : Level). cond (empty_cell u) None (Some u)) (ap level_in (part-part p (slot_at l + quote_length + in_levels s) side_length 0 level_length (lit≤ tt) ∙ ap (λ (j : ℕ). part p j level_length) (add-zero (slot_at l + quote_length + in_levels s) ∙ sym place)) ∙ sym ev)

    own-level : first_key s cells ≡ o
    own-level = first-by s cells v first-of ∙ sym eo

    pub first-idle : o ≡ 0 → no_candidate ≡ or_none (first_in l (side_levels s (levels_for p l)))
    unfolding first_in agreed_side
    first-idle e = rw (side-here p l h k s) (go (eqb (low p (first_key_at s l) key_length) (first_key s cells)))
      where
        none_first : first_of cells ≡ None
        none_first = first-of ∙ ap (λ (t : Bool). cond t None (Some v)) (key-cell s v ∙ ap (λ (j : ℕ). eqb j 0) (sym eo ∙ e))

        go : (t : Bool) → no_candidate ≡ or_none (map_option (level_candidate l 32) (first_of (cond t cells [])))
        go true = rw none_first
        go false = refl

    module _ (b x : ℕ) (eb : b ≡ first_key_at s l) (ex : x ≡ low p b key_length) where
      pub first-own : (o ≡ 0 → ⊥) → x ≡ o → record { name = l; price = v.price; size = v.size; time = v.time; condition = 32 } ≡ or_none (first_in l (side_levels s (levels_for p l)))
      unfolding first_in agreed_side
      first-own n e = rw (side-here p l h k s, first-key-read b x eb ex, own-level, eq-eqb x o e, first-of, key-cell s v, ← eo, ne_eqb o 0 n)

      pub first-other : (x ≡ o → ⊥) → no_candidate ≡ or_none (first_in l (side_levels s (levels_for p l)))
      unfolding first_in agreed_side
      first-other n = rw (side-here p l h k s, first-key-read b x eb ex, own-level, ne_eqb x o n)

-- ---- what is written

pub quote-written : (l : ℕ) (q : Quote) (p x y z : List ℕ) (a b c kb ko : ℕ) → a ≡ slot_at l → b ≡ quote_key_at Bid l → c ≡ quote_key_at Offer l → kb ≡ quote_key Bid q → ko ≡ quote_key Offer q
    → x ≡ splice p a (quote_bytes q) → y ≡ splice x b (le_bytes 4 kb) → z ≡ splice y c (le_bytes 4 ko) → z ≡ with_quote l q p
unfolding with_quote
quote-written l q p x y z a b c kb ko ea eb ec ekb eko ex ey ez = rw (← ea, ← eb, ← ec, ← ekb, ← eko, ← ex, ← ey, ← ez)

pub side-written : (s : Side) (l : ℕ) (cs : List Level) (p x y : List ℕ) (a i b k : ℕ) → a ≡ slot_at l → i ≡ in_levels s → b ≡ first_key_at s l → k ≡ level_key s (get_or cs 0 no_level)
    → x ≡ splice p (a + quote_length + i) (joined_levels cs) → y ≡ splice x b (le_bytes 4 k) → y ≡ with_cells s l cs p
unfolding with_cells
side-written s l cs p x y a i b k ea ei eb ek ex ey = rw (← ea, ← ei, ← eb, ← head-key s cs, ← ek, ← ex, ← ey)
