-- Keys: each fits four bytes, a written key is read back, and it moves no other key.
-- Assumes nothing.
use Prim.Native.Nat.{ℕ, ◌+◌, ◌*◌, ◌-◌, ◌^◌, ◌≤◌, ◌<◌}
use mathlib.Core.Path.{◌≡◌, refl, ap, ◌∙◌}
use mathlib.Core.Bool.{Bool, true, false, cond}
use mathlib.Core.List.{List, [], ◌∷◌}
use native.Mathlib.Omega.{arith}
use lib.Dec.{eqb, ltb, lit<}
use lib.ListN.{length}
use borrow.Author.Tests.{ltb-true, ltb-false}
use Rattle.field.specs.Field.{part}
use Rattle.field.specs.Low.{le, low, le_bytes}
use Rattle.field.specs.Ascii.{A}
use Rattle.field.proofs.Laws.{part-put, part-before, part-behind}
use Rattle.field.proofs.LowLaws.{length-le_bytes, bytes-le_bytes, le-le_bytes}
use Rattle.lists.specs.Lists.{upper}
use Rattle.lists.proofs.Tests.{Cut, equal, apart, cut, upper-low}
use Rattle.ranking.specs.declared.Side.{Side}
use Rattle.ranking.specs.declared.Side.TheVariants.{Bid, Offer}
use Rattle.quote.specs.declared.Level.{Level}
use Rattle.quote.specs.declared.Quote.{Quote}
use Rattle.quote.specs.Quote.{admits, side_of}
use Rattle.keys.specs.Keys.{key_length, full_key, short_of, key_of, level_key, side_key, quote_key}
use Rattle.keys.proofs.KeyLaws.{short-below, short-full}
use Rattle.page.specs.Layout.{page_length, keys_at, key_row, quote_keys_at, first_keys_at}
use Rattle.page.specs.Page.{first_key, with_key, with_side}
use Rattle.levels.specs.code.Cells.{padded_cells, cells_of}
use Rattle.levels.proofs.SideLaws.{cells-bytes}
use Rattle.slots.specs.code.Slots.{with_cells}
use Rattle.page.proofs.KeyLaws.{quote-keys-high, first-keys-low}
use Rattle.update.proofs.EntryLaws.{Kept, kept-splice}

-- ---- four bytes

short-fits : (p : ℕ) → short_of p < 256 ^ 4
short-fits p = go (ltb p full_key) refl
  where
    go : (t : Bool) → ltb p full_key ≡ t → short_of p < 256 ^ 4
    go true e = omega (arith, ltb-true p full_key e, short-below p (ltb-true p full_key e))
    go false e = omega (arith, short-full p (ltb-false p full_key e))

short-some : (p : ℕ) → (p ≡ 0 → ⊥) → 0 < short_of p
short-some p n = go (ltb p full_key) refl
  where
    go : (t : Bool) → ltb p full_key ≡ t → 0 < short_of p
    go true e = omega (arith, n, short-below p (ltb-true p full_key e))
    go false e = omega (arith, short-full p (ltb-false p full_key e))

key_fits : (s : Side) (p : ℕ) → key_of s p < 256 ^ 4
unfolding key_of
key_fits Bid p = short-fits p
key_fits Offer p = go (cut p 0)
  where
    go : Cut p 0 → cond (eqb p 0) 0 (4294967296 - short_of p) < 256 ^ 4
    go (equal t e) = rw t (lit< tt)
    go (apart t n) = rw t (omega (arith, short-some p n))

level-fits : (s : Side) (v : Level) → level_key s v < 256 ^ 4
unfolding level_key
level-fits s v = go (eqb v.size 0)
  where
    go : (t : Bool) → cond t 0 (key_of s v.price) < 256 ^ 4
    go true = lit< tt
    go false = key_fits s v.price

pub quote-key-small : (s : Side) (q : Quote) → quote_key s q < 256 ^ 4
unfolding side_key
quote-key-small s q = go (admits s q.condition)
  where
    go : (t : Bool) → cond t (level_key s (side_of s q)) 0 < 256 ^ 4
    go true = level-fits s (side_of s q)
    go false = lit< tt

pub first-key-small : (s : Side) (vs : List Level) → first_key s vs < 256 ^ 4
first-key-small s [] = lit< tt
first-key-small s (v ∷ vs) = level-fits s v

-- a side's four cells written are its levels written
cells-key : (s : Side) (vs : List Level) → first_key s (cells_of vs) ≡ first_key s vs
unfolding padded_cells level_key
cells-key s [] = refl
cells-key s (v ∷ vs) = refl

pub cells-side : (s : Side) (l : ℕ) (vs : List Level) (p : List ℕ) → with_cells s l (cells_of vs) p ≡ with_side s l vs p
unfolding with_cells with_side
cells-side s l vs p = rw (cells-bytes 4 vs, cells-key s vs)

-- ---- rows of keys, and two letters' keys

-- the key of letter l in the row at a, and that of letter j in the row at b, are not one
pub data Beside (a b l j : ℕ) : Type 0 where
  before : a + key_row ≤ b → Beside a b l j
  behind : b + key_row ≤ a → Beside a b l j
  letters : a ≡ b → (l ≡ j → ⊥) → Beside a b l j

module _ (l j : ℕ) where
  pub quote-rows : (s t : Side) → (l ≡ j → ⊥) → Beside (quote_keys_at s) (quote_keys_at t) l j
  quote-rows Bid Bid d = letters refl d
  quote-rows Bid Offer d = before (omega arith)
  quote-rows Offer Bid d = behind (omega arith)
  quote-rows Offer Offer d = letters refl d

  pub first_rows : (s t : Side) → (l ≡ j → ⊥) → Beside (first_keys_at s) (first_keys_at t) l j
  first_rows Bid Bid d = letters refl d
  first_rows Bid Offer d = before (omega arith)
  first_rows Offer Bid d = behind (omega arith)
  first_rows Offer Offer d = letters refl d

  pub quote-first : (s t : Side) → Beside (quote_keys_at s) (first_keys_at t) l j
  quote-first s t = before (omega (arith, quote-keys-high s, first-keys-low t))

  pub first-quote : (s t : Side) → Beside (first_keys_at s) (quote_keys_at t) l j
  first-quote s t = behind (omega (arith, quote-keys-high t, first-keys-low s))

-- ---- a letter's key in the row at a, written

module _ (p : List ℕ) (w : length p ≡ page_length) (l : ℕ) (u : upper l ≡ true) (a : ℕ) (lo : keys_at ≤ a) (hi : a + key_row ≤ page_length) (k : ℕ) where
  abbrev at : ℕ
  at = a + key_length * (l - A)

  wide : length (le_bytes key_length k) ≡ key_length
  wide = length-le_bytes key_length k

  key-end : at + key_length ≤ page_length
  key-end = omega (arith, (upper-low l u).0, (upper-low l u).1)

  pub key-kept : Kept p (with_key at k p)
  key-kept = kept-splice p at (le_bytes key_length k) w (omega arith) (omega (arith, wide, key-end)) (bytes-le_bytes key_length k)

  -- what stands before the keys
  pub key-front : (i m : ℕ) → i + m ≤ keys_at → part (with_key at k p) i m ≡ part p i m
  key-front i m h = part-before p at (le_bytes key_length k) i m (omega (arith, key-end)) (omega arith)

  pub key_back : k < 256 ^ 4 → low (with_key at k p) at key_length ≡ k
  unfolding low
  key_back h = ap le (part-put p at (le_bytes key_length k) key_length wide (omega (arith, key-end))) ∙ le-le_bytes key_length k h

  pub key-other : (b j : ℕ) → upper j ≡ true → Beside a b l j → part (with_key at k p) (b + key_length * (j - A)) key_length ≡ part p (b + key_length * (j - A)) key_length
  key-other b j v (before h) = part-behind p at (le_bytes key_length k) (b + key_length * (j - A)) key_length (omega (arith, wide, (upper-low l u).0, (upper-low l u).1))
  key-other b j v (behind h) = part-before p at (le_bytes key_length k) (b + key_length * (j - A)) key_length (omega (arith, key-end)) (omega (arith, (upper-low j v).0, (upper-low j v).1))
  key-other b j v (letters e d) = go (ltb l j) refl
    where
      go : (t : Bool) → ltb l j ≡ t → part (with_key at k p) (b + key_length * (j - A)) key_length ≡ part p (b + key_length * (j - A)) key_length
      go true f = part-behind p at (le_bytes key_length k) (b + key_length * (j - A)) key_length (omega (arith, wide, e, ltb-true l j f, (upper-low l u).0))
      go false f =
          let m : j < l = omega (arith, ltb-false l j f, d) in
          part-before p at (le_bytes key_length k) (b + key_length * (j - A)) key_length (omega (arith, key-end)) (omega (arith, e, (upper-low j v).0))
