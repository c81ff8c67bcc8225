-- For callers: a part that is taken, an idle one, and the part that stands in bytes.
-- Assumes nothing.
use Prim.Native.Nat.{ℕ, zero, suc, ◌+◌, ◌*◌, ◌^◌, ◌≤◌, ◌<◌}
use mathlib.Core.Path.{◌≡◌, refl, sym, ap, ◌∙◌}
use mathlib.Core.Bool.{Bool, true, false, ◌&&◌, ◌||◌, cond}
use mathlib.Core.List.{List, [], ◌∷◌, ◌++◌}
use Rattle.std.specs.Prelude.{Option, None, Some}
use native.Mathlib.Omega.{arith}
use borrow.Author.Tests.{eqb-true}
use lib.Dec.{eqb}
use lib.ListN.{length, length-append}
use Rattle.lists.specs.Lists.{member, or_else}
use Rattle.lists.proofs.Tests.{and-true, clash}
use Rattle.field.specs.Field.{Bytes}
use Rattle.field.specs.Ascii.{space}
use Rattle.field.proofs.Laws.{field_lt}
use Rattle.ranking.specs.declared.Side.{Side}
use Rattle.ranking.specs.declared.Side.TheVariants.{Bid, Offer}
use Rattle.levels.specs.declared.Item.{Item}
use Rattle.levels.specs.Levels.{Standing, Odd, items_on, clears, cleared_by, side_items, named, touches, odd_on, idle_odd, items_bad, odd_bad, odd_code, fifth, item_at, items_from, odd_in, item_length}
use Rattle.levels.proofs.LevelLaws.{ItemsGood, OddGood}
use Rattle.oddpart.proofs.ItemsLaws.{Priced}
use Rattle.oddpart.proofs.PartLaws.{length-items}
use Rattle.oddpart.proofs.OddLaws.{odd-priced}

-- code 0: the part was taken, no item made a fifth level
pub taken-some : (lot : ℕ) (v : Standing) (o : Odd) → odd_code lot v o ≡ 0 → odd_on o v ≡ Some (or_else (odd_on o v) v)
unfolding odd_code
taken-some lot v o e = go (odd_on o v) (eqb (odd_bad lot o) 0) refl e
  where
    go : (x : Option Standing) (t : Bool) → eqb (odd_bad lot o) 0 ≡ t → cond t (fifth x) (odd_bad lot o) ≡ 0 → x ≡ Some (or_else x v)
    go (Some w) t z e = refl
    go None true z e = absurd (omega arith)
    go None false z e = clash (sym (ap (λ (n : ℕ). eqb n 0) e) ∙ z)

-- ---- an idle part

no_items : (xs ys : List Item) → length (xs ++ ys) ≡ 0 → (xs ≡ []) × (ys ≡ [])
no_items [] [] e = (refl, refl)
no_items [] (y ∷ ys) e = absurd (omega arith)
no_items (x ∷ xs) ys e = absurd (omega arith)

-- it is accepted, and nothing is done
pub odd-idle : (lot : ℕ) (v : Standing) (o : Odd) → idle_odd o ≡ true → (odd_code lot v o ≡ 0) × (odd_on o v ≡ Some v)
unfolding idle_odd odd_code odd_bad items_bad odd_on items_on clears cleared_by member
odd-idle lot v o e =
    let (m, n) = and-true (eqb o.mark space) (eqb (length (o.bids ++ o.offers)) 0) e in
    let (b, a) = no_items o.bids o.offers (eqb-true (length (o.bids ++ o.offers)) 0 n) in
    rw (eqb-true o.mark space m, b, a) (refl, refl)

-- it touches no side
pub idle-touches : (o : Odd) (s : Side) → idle_odd o ≡ true → touches o s ≡ false
unfolding idle_odd touches clears member
idle-touches o s e =
    let (m, n) = and-true (eqb o.mark space) (eqb (length (o.bids ++ o.offers)) 0) e in
    let (b, a) = no_items o.bids o.offers (eqb-true (length (o.bids ++ o.offers)) 0 n) in
    ap (λ (k : ℕ). clears k s || named (side_items s o)) (eqb-true o.mark space m) ∙ go s b a
  where
    go : (s : Side) → o.bids ≡ [] → o.offers ≡ [] → clears space s || named (side_items s o) ≡ false
    go Bid b a = rw b
    go Offer b a = rw a

-- the part that stands in bytes
pub idle-in : (mark bids offers t : ℕ) (b : List ℕ) → idle_odd (odd_in mark bids offers t b) ≡ (eqb mark space && eqb (bids + offers) 0)
unfolding idle_odd odd_in
idle-in mark bids offers t b = rw (length-append (items_from b 0 bids) (items_from b bids offers), length-items b 0 bids, length-items b bids offers)

-- ---- the part that stands in bytes

items-in-good : (t : ℕ) (b : List ℕ) (i n : ℕ) → item_length * (i + n) ≤ length b → Bytes b → t < 256 ^ 8 → Priced (items_from b i n) → ItemsGood t (items_from b i n)
unfolding items_from item_at
items-in-good t b i zero h f k p = tt
items-in-good t b i (suc n) h f k p = (
  record { priced = p.0; fits = record { price = field_lt b (item_length * i) 8 (omega arith) f; size = field_lt b (item_length * i + 8) 4 (omega arith) f; time = k } },
  items-in-good t b (i + 1) n (omega arith) f k p.1,
)

-- a part that passes 60 to 63 keeps levels good (`odd-good-levels`)
pub odd-in-good : (lot mark bids offers t : ℕ) (b : List ℕ) → item_length * (bids + offers) ≤ length b → Bytes b → t < 256 ^ 8 → odd_bad lot (odd_in mark bids offers t b) ≡ 0 → OddGood (odd_in mark bids offers t b)
unfolding odd_in
odd-in-good lot mark bids offers t b h f k z =
    let p : Priced (items_from b 0 bids) × Priced (items_from b bids offers) = odd-priced lot (odd_in mark bids offers t b) z in
    record { bids = items-in-good t b 0 bids (omega arith) f k p.0; offers = items-in-good t b bids offers h f k p.1 }
