-- The numbers of a message fit their bytes; the items of an odd part with code 0 are priced.
-- Assumes nothing.
use Prim.Native.Nat.{ℕ, zero, suc, ◌+◌, ◌*◌, ◌^◌, ◌≤◌, ◌<◌}
use mathlib.Core.Path.{◌≡◌, refl, sym, ap, ◌∙◌}
use mathlib.Core.Bool.{Bool, true, false, ◌&&◌, cond}
use mathlib.Core.List.{List, [], ◌∷◌, ◌++◌}
use native.Mathlib.Omega.{arith}
use lib.Dec.{leb, eqb}
use lib.ListN.{length, drop, length-drop}
use borrow.Author.Tests.{eqb-true}
use Rattle.field.specs.Field.{Bytes, field}
use Rattle.field.proofs.Laws.{field_lt, bytes_drop}
use Rattle.lists.specs.Lists.{at, member}
use Rattle.lists.proofs.Tests.{clash}
use Rattle.quote.specs.Quote.{LevelFits, QuoteFits}
use Rattle.levels.specs.declared.Item.{Item}
use Rattle.levels.specs.Levels.{Standing, Odd, odd_on, items_bad, odd_bad, fifth, odd_code, item_at, items_from, odd_in, item_length, clear_marks}
use Rattle.levels.proofs.LevelLaws.{ItemGood, ItemsGood, OddGood}
use Rattle.message.specs.Message.{time_of, level_at, quote_at, maker_name, odd_at, odd_of, odd_length, round_length, round_lot_items}
use Rattle.text.specs.Form.{name_length}

-- ---- numbers fit their bytes

module _ (m : List ℕ) (b : Bytes m) where
  time-fits : 12 ≤ length m → time_of m < 256 ^ 8
  unfolding time_of
  time-fits h = field_lt m 4 8 (omega arith) b

  level-fits : (i : ℕ) → i + 12 ≤ length m → 12 ≤ length m → LevelFits (level_at m i)
  unfolding level_at
  level-fits i h k = record { price = field_lt m i 8 (omega arith) b; size = field_lt m (i + 8) 4 (omega arith) b; time = time-fits k }

  pub quote-fits : round_length ≤ length m → QuoteFits (quote_at m)
  unfolding quote_at
  quote-fits h = record { condition = field_lt m 31 1 (omega arith) b; bid = level-fits 32 (omega arith) (omega arith); offer = level-fits 44 (omega arith) (omega arith) }

  pub name-fits : round_lot_items ≤ length m → maker_name m < 256 ^ 4
  unfolding maker_name
  name-fits h = field_lt m round_length name_length (omega arith) b

-- ---- an odd part with code 0 has priced items

pub odd-zero : (lot : ℕ) (v : Standing) (o : Odd) → odd_code lot v o ≡ 0 → (odd_bad lot o ≡ 0) × (fifth (odd_on o v) ≡ 0)
unfolding odd_code
odd-zero lot v o = go (eqb (odd_bad lot o) 0) refl
  where
    go : (t : Bool) → eqb (odd_bad lot o) 0 ≡ t → ◌≡◌ {A = ℕ} (cond t (fifth (odd_on o v)) (odd_bad lot o)) 0 → (odd_bad lot o ≡ 0) × (fifth (odd_on o v) ≡ 0)
    go true e z = (eqb-true (odd_bad lot o) 0 e, z)
    go false e z = clash (sym (ap (λ (k : ℕ). eqb k 0) z) ∙ e)

bad-append : (lot : ℕ) (xs ys : List Item) → items_bad lot (xs ++ ys) ≡ 0 → (items_bad lot xs ≡ 0) × (items_bad lot ys ≡ 0)
unfolding items_bad
bad-append lot [] ys z = (refl, z)
bad-append lot (x ∷ xs) ys z = go (eqb x.price 0) (leb lot x.shares) (bad-append lot xs ys) z
  where
    go : (s t : Bool) → (items_bad lot (xs ++ ys) ≡ 0 → (items_bad lot xs ≡ 0) × (items_bad lot ys ≡ 0))
        → ◌≡◌ {A = ℕ} (cond s 62 (cond t 63 (items_bad lot (xs ++ ys)))) 0 → (◌≡◌ {A = ℕ} (cond s 62 (cond t 63 (items_bad lot xs))) 0) × (items_bad lot ys ≡ 0)
    go true t down z = absurd (omega arith)
    go false true down z = absurd (omega arith)
    go false false down z = down z

-- 60 and 61 passed
bad-items : (lot : ℕ) (o : Odd) → odd_bad lot o ≡ 0 → (items_bad lot o.bids ≡ 0) × (items_bad lot o.offers ≡ 0)
unfolding odd_bad
bad-items lot o z = go (member clear_marks o.mark) (leb (length o.bids) 4 && leb (length o.offers) 4) z
  where
    go : (s t : Bool) → ◌≡◌ {A = ℕ} (cond s (cond t (items_bad lot (o.bids ++ o.offers)) 61) 60) 0 → (items_bad lot o.bids ≡ 0) × (items_bad lot o.offers ≡ 0)
    go true true z = bad-append lot o.bids o.offers z
    go true false z = absurd (omega arith)
    go false t z = absurd (omega arith)

module _ (b : List ℕ) (by : Bytes b) (t : ℕ) (fits : t < 256 ^ 8) (lot : ℕ) where
  items-fit : (n i : ℕ) → item_length * (i + n) ≤ length b → items_bad lot (items_from b i n) ≡ 0 → ItemsGood t (items_from b i n)
  unfolding items_from item_at items_bad
  items-fit zero i h z = tt
  items-fit (suc n) i h z = go (eqb (field b (item_length * i) 8) 0) refl (leb lot (field b (item_length * i + 8) 4)) (items-fit n (i + 1) (omega arith)) z
    where
      go : (s : Bool) → eqb (field b (item_length * i) 8) 0 ≡ s → (u : Bool) → (items_bad lot (items_from b (i + 1) n) ≡ 0 → ItemsGood t (items_from b (i + 1) n))
          → ◌≡◌ {A = ℕ} (cond s 62 (cond u 63 (items_bad lot (items_from b (i + 1) n)))) 0
          → ItemGood t (record { price = field b (item_length * i) 8; shares = field b (item_length * i + 8) 4 }) × ItemsGood t (items_from b (i + 1) n)
      go true e u down z = absurd (omega arith)
      go false e true down z = absurd (omega arith)
      go false e false down z =
          (record { priced = e; fits = record { price = field_lt b (item_length * i) 8 (omega arith) by; size = field_lt b (item_length * i + 8) 4 (omega arith) by; time = fits } }, down z)

  odd-fits : (mark bids offers : ℕ) → item_length * (bids + offers) ≤ length b → odd_bad lot (odd_in mark bids offers t b) ≡ 0 → OddGood (odd_in mark bids offers t b)
  unfolding odd_in
  odd-fits mark bids offers h z =
      let r = bad-items lot (record { mark = mark; bids = items_from b 0 bids; offers = items_from b bids offers; time = t }) z in
      record { bids = items-fit bids 0 (omega arith) r.0; offers = items-fit offers bids h r.1 }

-- the odd part of a message of the right length, its code 0
pub odd-message : (m : List ℕ) → Bytes m → (i j : ℕ) → 12 ≤ j → length m ≡ odd_length (odd_at m i j) → (lot : ℕ) (v : Standing) → odd_code lot v (odd_of m (odd_at m i j)) ≡ 0 → OddGood (odd_of m (odd_at m i j))
unfolding odd_at
odd-message m b i j h l lot v z =
    odd-fits (drop j m) (bytes_drop j m b) (time_of m) (time-fits m b (omega arith)) lot (at m i) (at m (i + 1)) (at m (i + 2))
    (omega (arith, length-drop j m)) (odd-zero lot v (odd_of m (odd_at m i j)) z).0
