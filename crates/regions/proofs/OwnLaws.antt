-- What of a page is a letter's own: its slot and its keys, of D the makers' cells too, and of the page's primary letter the trading status. Two letters' own are apart,
-- and apart from the head and from the entries.
-- Assumes nothing.
use Prim.Native.Nat.{ℕ, ◌+◌, ◌*◌, ◌-◌, ◌≤◌, ◌<◌}
use mathlib.Core.Path.{◌≡◌, refl, sym, ◌∙◌}
use mathlib.Core.Bool.{Bool, true, false, ◌&&◌, ◌||◌}
use native.Mathlib.Omega.{arith}
use lib.Dec.{eqb, ltb}
use borrow.Author.Tests.{eqb-true, eq-eqb, ltb-true, ltb-false}
use Rattle.field.specs.Ascii.{A, D}
use Rattle.lists.specs.Lists.{upper}
use Rattle.lists.proofs.Tests.{and-true, upper-low}
use Rattle.ranking.specs.declared.Side.{Side}
use Rattle.ranking.specs.declared.Side.TheVariants.{Bid, Offer}
use Rattle.keys.specs.Keys.{key_length}
use Rattle.entries.specs.Publication.{publication_length}
use Rattle.page.specs.Layout.{symbol_at, head_length, entries_at, slots_at, slot_length, cell_length, maker_count, cells_at, slot_at, status_at, keys_at, quote_keys_at, first_keys_at, quote_key_at, first_key_at}
use Rattle.page.proofs.KeyLaws.{quote-keys-low, first-keys-low}
use Rattle.update.proofs.KeyLaws.{Beside, before, behind, letters, quote-rows, first_rows, quote-first, first-quote}
use Rattle.regions.proofs.RegionLaws.{Region, within, of-within, Apart, within-apart}
pub use Rattle.regions.proofs.Own.{slot_of, quote_key_of, first_key_of, keys_of, places_of, cells, status, own, head}
use Rattle.regions.proofs.RefreshLaws.{entries_kept}

or-first : (s t : Bool) → s ≡ true → s || t ≡ true
or-first s t e = rw e

or-second : (s t : Bool) → t ≡ true → s || t ≡ true
or-second true t e = refl
or-second false t e = e

pub places-own : (m l i : ℕ) → places_of l i ≡ true → own m l i ≡ true
places-own m l i e = or-first (places_of l i) _ e

pub cells-own : (m l : ℕ) → l ≡ D → (i : ℕ) → cells i ≡ true → own m l i ≡ true
cells-own m l d i e = or-second (places_of l i) _ (or-first (eqb l D && cells i) _ (rw (eq-eqb l D d, e)))

pub status-own : (m l : ℕ) → m ≡ l → (i : ℕ) → status i ≡ true → own m l i ≡ true
status-own m l d i e = or-second (places_of l i) _ (or-second (eqb l D && cells i) _ (rw (eq-eqb m l d, e)))

pub slot-place : (l i : ℕ) → slot_of l i ≡ true → places_of l i ≡ true
slot-place l i e = or-first (slot_of l i) _ e

pub quote-key-place : (s : Side) (l i : ℕ) → quote_key_of s l i ≡ true → places_of l i ≡ true
quote-key-place Bid l i e = or-second (slot_of l i) _ (or-first (quote_key_of Bid l i || quote_key_of Offer l i) _ (or-first (quote_key_of Bid l i) _ e))
quote-key-place Offer l i e = or-second (slot_of l i) _ (or-first (quote_key_of Bid l i || quote_key_of Offer l i) _ (or-second (quote_key_of Bid l i) _ e))

pub first-key-place : (s : Side) (l i : ℕ) → first_key_of s l i ≡ true → places_of l i ≡ true
first-key-place Bid l i e = or-second (slot_of l i) _ (or-second (quote_key_of Bid l i || quote_key_of Offer l i) _ (or-first (first_key_of Bid l i) _ e))
first-key-place Offer l i e = or-second (slot_of l i) _ (or-second (quote_key_of Bid l i || quote_key_of Offer l i) _ (or-second (first_key_of Bid l i) _ e))

-- a place of one of the keys
data Keyed (l i : ℕ) : Type 0 where
  quoted : (s : Side) → quote_key_of s l i ≡ true → Keyed l i
  first : (s : Side) → first_key_of s l i ≡ true → Keyed l i

keyed : (l i : ℕ) → keys_of l i ≡ true → Keyed l i
keyed l i e = go (quote_key_of Bid l i) refl (quote_key_of Offer l i) refl (first_key_of Bid l i) refl e
  where
    go : (t : Bool) → quote_key_of Bid l i ≡ t → (u : Bool) → quote_key_of Offer l i ≡ u → (v : Bool) → first_key_of Bid l i ≡ v → (t || u) || (v || first_key_of Offer l i) ≡ true → Keyed l i
    go true a u b v c e = quoted Bid a
    go false a true b v c e = quoted Offer b
    go false a false b true c e = first Bid c
    go false a false b false c e = first Offer e

-- a place of the slot, of the keys, of the cells, or the status
data Owned (m l i : ℕ) : Type 0 where
  slot : slot_of l i ≡ true → Owned m l i
  key : Keyed l i → Owned m l i
  cell : l ≡ D → cells i ≡ true → Owned m l i
  state : m ≡ l → status i ≡ true → Owned m l i

owned : (m l i : ℕ) → own m l i ≡ true → Owned m l i
owned m l i e = go (slot_of l i) refl (keys_of l i) refl (eqb l D && cells i) refl e
  where
    go : (t : Bool) → slot_of l i ≡ t → (k : Bool) → keys_of l i ≡ k → (u : Bool) → eqb l D && cells i ≡ u → (t || k) || (u || (eqb m l && status i)) ≡ true → Owned m l i
    go true s k a u c e = slot s
    go false s true a u c e = key (keyed l i a)
    go false s false a true c e = let r = and-true (eqb l D) (cells i) c in cell (eqb-true l D r.0) r.1
    go false s false a false c e = let r = and-true (eqb m l) (status i) e in state (eqb-true m l r.0) r.1

-- slots stand in the order of their letters, the cells behind them, then the status, the keys last
slots-order : (l j : ℕ) → upper l ≡ true → l < j → slot_at l + slot_length ≤ slot_at j
slots-order l j u h = omega (arith, (upper-low l u).0)

slot-below : (l : ℕ) → upper l ≡ true → slot_at l + slot_length ≤ cells_at
slot-below l u = omega (arith, (upper-low l u).0, (upper-low l u).1)

slots_apart : (l j : ℕ) → upper l ≡ true → upper j ≡ true → (l ≡ j → ⊥) → Apart (slot_of l) (slot_of j)
slots_apart l j u v d i x y = go (ltb l j) refl
  where
    go : (t : Bool) → ltb l j ≡ t → ⊥
    go true e = within-apart (slot_at l) slot_length (slot_at j) slot_length (slots-order l j u (ltb-true l j e)) i x y
    go false e = within-apart (slot_at j) slot_length (slot_at l) slot_length (slots-order j l v (omega (arith, ltb-false l j e, d))) i y x

slot-cells : (l : ℕ) → upper l ≡ true → Apart (slot_of l) cells
slot-cells l u = within-apart (slot_at l) slot_length cells_at (maker_count * cell_length) (slot-below l u)

slot-status : (l : ℕ) → upper l ≡ true → Apart (slot_of l) status
slot-status l u = within-apart (slot_at l) slot_length status_at 1 (omega (arith, slot-below l u))

cells-status : Apart cells status
cells-status = within-apart cells_at (maker_count * cell_length) status_at 1 (omega arith)

-- keys
keys-behind : (l i : ℕ) → Keyed l i → keys_at ≤ i
keys-behind l i (quoted s x) = omega (arith, quote-keys-low s, (of-within (quote_key_at s l) key_length i x).0)
keys-behind l i (first s x) = omega (arith, first-keys-low s, (of-within (first_key_at s l) key_length i x).0)

rows_apart : (a b l j : ℕ) → upper l ≡ true → upper j ≡ true → Beside a b l j → Apart (within (a + key_length * (l - A)) key_length) (within (b + key_length * (j - A)) key_length)
rows_apart a b l j u v (before h) i x y =
    within-apart (a + key_length * (l - A)) key_length (b + key_length * (j - A)) key_length (omega (arith, (upper-low l u).0, (upper-low l u).1)) i x y
rows_apart a b l j u v (behind h) i x y =
    within-apart (b + key_length * (j - A)) key_length (a + key_length * (l - A)) key_length (omega (arith, (upper-low j v).0, (upper-low j v).1)) i y x
rows_apart a b l j u v (letters e d) i x y = go (ltb l j) refl
  where
    go : (t : Bool) → ltb l j ≡ t → ⊥
    go true f = within-apart (a + key_length * (l - A)) key_length (b + key_length * (j - A)) key_length (omega (arith, e, ltb-true l j f, (upper-low l u).0)) i x y
    go false f =
        let h : j < l = omega (arith, ltb-false l j f, d) in
        within-apart (b + key_length * (j - A)) key_length (a + key_length * (l - A)) key_length (omega (arith, e, (upper-low j v).0)) i y x

keys-apart : (l j : ℕ) → upper l ≡ true → upper j ≡ true → (l ≡ j → ⊥) → (i : ℕ) → Keyed l i → Keyed j i → ⊥
keys-apart l j u v d i (quoted s x) (quoted t y) = rows_apart (quote_keys_at s) (quote_keys_at t) l j u v (quote-rows l j s t d) i x y
keys-apart l j u v d i (quoted s x) (first t y) = rows_apart (quote_keys_at s) (first_keys_at t) l j u v (quote-first l j s t) i x y
keys-apart l j u v d i (first s x) (quoted t y) = rows_apart (first_keys_at s) (quote_keys_at t) l j u v (first-quote l j s t) i x y
keys-apart l j u v d i (first s x) (first t y) = rows_apart (first_keys_at s) (first_keys_at t) l j u v (first_rows l j s t d) i x y

keys-slot : (l j : ℕ) → upper j ≡ true → (i : ℕ) → Keyed l i → slot_of j i ≡ true → ⊥
keys-slot l j v i x y = omega (arith, keys-behind l i x, slot-below j v, (of-within (slot_at j) slot_length i y).1)

keys-cells : (l i : ℕ) → Keyed l i → cells i ≡ true → ⊥
keys-cells l i x y = omega (arith, keys-behind l i x, (of-within cells_at (maker_count * cell_length) i y).1)

keys-status : (l i : ℕ) → Keyed l i → status i ≡ true → ⊥
keys-status l i x y = omega (arith, keys-behind l i x, (of-within status_at 1 i y).1)

-- two letters
pub own-apart : (m l j : ℕ) → upper l ≡ true → upper j ≡ true → (l ≡ j → ⊥) → Apart (own m l) (own m j)
own-apart m l j u v d i x y = go (owned m l i x) (owned m j i y)
  where
    go : Owned m l i → Owned m j i → ⊥
    go (slot s) (slot t) = slots_apart l j u v d i s t
    go (slot s) (key t) = keys-slot j l u i t s
    go (key s) (slot t) = keys-slot l j v i s t
    go (key s) (key t) = keys-apart l j u v d i s t
    go (key s) (cell e t) = keys-cells l i s t
    go (key s) (state e t) = keys-status l i s t
    go (cell e s) (key t) = keys-cells j i t s
    go (state e s) (key t) = keys-status j i t s
    go (slot s) (cell e t) = slot-cells l u i s t
    go (slot s) (state e t) = slot-status l u i s t
    go (cell e s) (slot t) = slot-cells j v i t s
    go (cell e s) (cell f t) = d (e ∙ sym f)
    go (cell e s) (state f t) = cells-status i s t
    go (state e s) (slot t) = slot-status j v i t s
    go (state e s) (cell f t) = cells-status i t s
    go (state e s) (state f t) = d (sym e ∙ f)

-- all of it stands behind the entries
own_behind : (m l i : ℕ) → own m l i ≡ true → slots_at ≤ i
own_behind m l i x = go (owned m l i x)
  where
    go : Owned m l i → slots_at ≤ i
    go (slot s) = omega (arith, (of-within (slot_at l) slot_length i s).0)
    go (key s) = omega (arith, keys-behind l i s)
    go (cell e s) = omega (arith, (of-within cells_at (maker_count * cell_length) i s).0)
    go (state e s) = omega (arith, (of-within status_at 1 i s).0)

pub own-entries : (m l : ℕ) → Apart (own m l) entries_kept
own-entries m l i x y = omega (arith, own_behind m l i x, (of-within entries_at publication_length i y).1)

pub own-head : (m l : ℕ) → Apart (own m l) head
own-head m l i x y = omega (arith, own_behind m l i x, (of-within symbol_at head_length i y).1)

pub entries-head : Apart entries_kept head
entries-head i x y = omega (arith, (of-within entries_at publication_length i x).0, (of-within symbol_at head_length i y).1)

-- ---- what the code of a message depends on: the head, and what is its line's letter's own

abbrev pub seen : ℕ → ℕ → Region
seen m l i = head i || own m l i

pub head-seen : (m l i : ℕ) → head i ≡ true → seen m l i ≡ true
head-seen m l i e = or-first (head i) _ e

pub own-seen : (m l i : ℕ) → own m l i ≡ true → seen m l i ≡ true
own-seen m l i e = or-second (head i) _ e

seen-elim : (m l i : ℕ) → seen m l i ≡ true → (head i ≡ true → ⊥) → (own m l i ≡ true → ⊥) → ⊥
seen-elim m l i e f g = go (head i) refl e
  where
    go : (t : Bool) → head i ≡ t → t || own m l i ≡ true → ⊥
    go true h e = f h
    go false h e = g e

pub seen_apart : (m l j : ℕ) → upper l ≡ true → upper j ≡ true → (l ≡ j → ⊥) → Apart (own m l) (seen m j)
seen_apart m l j u v d i x y = seen-elim m j i y (own-head m l i x) (own-apart m l j u v d i x)

pub entries-seen : (m l : ℕ) → Apart entries_kept (seen m l)
entries-seen m l i x y = seen-elim m l i y (entries-head i x) (λ z. own-entries m l i z x)
