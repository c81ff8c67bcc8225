-- The three claims of T-14 about an allowance and its charges, and that every setting, tick and charge keeps what they need.
-- Assumes nothing.
use Prim.Native.Nat.{ℕ, ◌+◌, ◌-◌, ◌≤◌, ◌<◌}
use mathlib.Core.Path.{◌≡◌, refl, sym, ◌∙◌}
use mathlib.Core.Bool.{Bool, true, false, ◌&&◌, cond}
use mathlib.Core.List.{List, ◌++◌}
use native.Mathlib.Omega.{arith}
use lib.Dec.{eqb, leb}
use lib.ListN.{length, set, length-set}
use borrow.Author.Tests.{leb-true, leb-false, eqb-true}
use Rattle.field.specs.Field.{Bytes, be_bytes}
use Rattle.field.proofs.Laws.{bytes-append, bytes-be_bytes}
use Rattle.field.proofs.ZeroLaws.{length-zeros, bytes-zeros}
use Rattle.lists.specs.Lists.{at, sum}
use Rattle.lists.proofs.Tests.{clash, and-true}
use Rattle.allowance.specs.Allowance.{Allowance, share_count, blocks_most, spare_charged, spare, share_used, spare_used, is_used_up, charged, ticked, no_charges, set_to, no_allowance, setting_number, setting_bytes}
use Rattle.allowance.proofs.ChargeLaws.{spare-step, line-inside, share-inside, charges-inside, none-charged}

-- what an allowance has in every tick of a fresh book
pub record Fair (a : Allowance) : Type 0 where
  pub shares : length a.shares ≡ share_count
  pub charges : length a.charges ≡ share_count
  pub enough : sum a.shares ≤ a.blocks
  pub kept : spare_charged a.shares a.charges ≤ spare a

-- ---- the claims

-- "a line's first blocks up to its share are never refused by this rule": it is refused only with its whole share charged
pub refused-used : (a : Allowance) (i : ℕ) → is_used_up a i ≡ true → at a.shares i ≤ at a.charges i
unfolding is_used_up
refused-used a i = go (eqb a.blocks 0)
  where
    go : (t : Bool) → cond t false (share_used a i && spare_used a) ≡ true → at a.shares i ≤ at a.charges i
    go true e = clash (sym e)
    go false e = leb-true (at a.shares i) (at a.charges i) (and-true (share_used a i) (spare_used a) e).0

-- "no line has more charged than share plus spare"
pub line-most : (a : Allowance) (i : ℕ) → Fair a → i < share_count → at a.charges i ≤ at a.shares i + spare a
line-most a i f h =
    let l : i < length a.shares = omega (arith, f.shares) in
    let e : length a.charges ≡ length a.shares = f.charges ∙ sym f.shares in
    omega (arith, line-inside a.shares a.charges i l e, f.kept)

-- "and all together no more than B"
pub all_most : (a : Allowance) → Fair a → sum a.charges ≤ a.blocks
all_most a f =
    let e : length a.charges ≡ length a.shares = f.charges ∙ sym f.shares in
    omega (arith, charges-inside a.shares a.charges e, f.kept, f.enough)

-- ---- what keeps them

pub fair-none : Fair no_allowance
unfolding sum spare_charged
fair-none = record { shares = length-zeros share_count; charges = length-zeros share_count; enough = omega arith; kept = omega arith }

-- a setting that is not refused
pub record Settable (b : ℕ) (ss : List ℕ) : Type 0 where
  pub some : 1 ≤ b
  pub most : b ≤ blocks_most
  pub whole : length ss ≡ share_count
  pub enough : sum ss ≤ b

pub settable : (b : ℕ) (ss : List ℕ) → setting_number b ss ≡ 0 → Settable b ss
unfolding setting_number
settable b ss = go (leb 1 b) refl (leb b blocks_most) refl (eqb (length ss) share_count) refl (leb (sum ss) b) refl
  where
    go : (t : Bool) → leb 1 b ≡ t → (u : Bool) → leb b blocks_most ≡ u → (v : Bool) → eqb (length ss) share_count ≡ v → (w : Bool) → leb (sum ss) b ≡ w
        → ◌≡◌ {A = ℕ} (cond (t && u) (cond (v && w) 0 85) 84) 0 → Settable b ss
    go true et true eu true ev true ew e =
        record { some = leb-true 1 b et; most = leb-true b blocks_most eu; whole = eqb-true (length ss) share_count ev; enough = leb-true (sum ss) b ew }
    go true et true eu true ev false ew e = absurd (omega arith)
    go true et true eu false ev w ew e = absurd (omega arith)
    go true et false eu v ev w ew e = absurd (omega arith)
    go false et u eu v ev w ew e = absurd (omega arith)

pub fair-set : (b : ℕ) (ss : List ℕ) → setting_number b ss ≡ 0 → Fair (set_to b ss)
fair-set b ss e =
    let s = settable b ss e in
    record { shares = s.whole; charges = length-zeros share_count; enough = s.enough; kept = omega (arith, none-charged ss share_count) }

pub fair-ticked : (a : Allowance) → Fair a → Fair (ticked a)
unfolding ticked
fair-ticked a f = go (eqb a.blocks 0)
  where
    go : (t : Bool) → Fair (cond t a (record { blocks = a.blocks; shares = a.shares; charges = no_charges }))
    go true = f
    go false = record { shares = f.shares; charges = length-zeros share_count; enough = f.enough; kept = omega (arith, none-charged a.shares share_count) }

-- a charged block stays inside share and spare
pub fair-charged : (a : Allowance) (i : ℕ) → Fair a → i < share_count → is_used_up a i ≡ false → Fair (charged a i)
unfolding charged is_used_up
fair-charged a i f h = go (eqb a.blocks 0)
  where
    cs : List ℕ
    cs = set a.charges i (at a.charges i + 1)

    step : spare_charged a.shares cs + (at a.charges i - at a.shares i) ≡ spare_charged a.shares a.charges + (at a.charges i + 1 - at a.shares i)
    step = let l : i < length a.shares = omega (arith, f.shares) in spare-step a.shares a.charges i l (f.charges ∙ sym f.shares)

    kept : (t : Bool) → share_used a i ≡ t → (u : Bool) → spare_used a ≡ u → t && u ≡ false → spare_charged a.shares cs ≤ spare a
    kept true et true eu e = clash e
    kept true et false eu e = omega (arith, step, leb-false (spare a) (spare_charged a.shares a.charges) eu)
    kept false et u eu e = omega (arith, step, f.kept, leb-false (at a.shares i) (at a.charges i) et)

    go : (t : Bool) → cond t false (share_used a i && spare_used a) ≡ false → Fair (cond t a (record { blocks = a.blocks; shares = a.shares; charges = cs }))
    go true e = f
    go false e = record { shares = f.shares; charges = length-set a.charges i (at a.charges i + 1) ∙ f.charges; enough = f.enough; kept = kept (share_used a i) refl (spare_used a) refl e }

-- one more fits a byte, in any memory
pub charge-fits : (a : Allowance) (i : ℕ) → a.blocks < 256 → at a.shares i < 256 → length a.shares ≡ share_count → length a.charges ≡ share_count → i < share_count
    → eqb a.blocks 0 ≡ false → is_used_up a i ≡ false → at a.charges i + 1 < 256
unfolding is_used_up
charge-fits a i hb hs ls lc h z u = go (share_used a i) refl (spare_used a) refl (rw z at u)
  where
    inside : at a.charges i - at a.shares i ≤ spare_charged a.shares a.charges
    inside = let l : i < length a.shares = omega (arith, ls) in line-inside a.shares a.charges i l (lc ∙ sym ls)

    go : (t : Bool) → share_used a i ≡ t → (u : Bool) → spare_used a ≡ u → t && u ≡ false → at a.charges i + 1 < 256
    go true et true eu e = clash e
    go true et false eu e =
        omega (arith, inside, hb, share-inside a.shares i, leb-false (spare a) (spare_charged a.shares a.charges) eu)
    go false et u eu e = omega (arith, hs, leb-false (at a.shares i) (at a.charges i) et)

-- the bytes of a setting are bytes: no share is above the sum
pub bytes-setting : (b : ℕ) (ss : List ℕ) → Settable b ss → Bytes (setting_bytes b ss)
bytes-setting b ss s =
    bytes-append (be_bytes 1 b ++ ss) no_charges
    (bytes-append (be_bytes 1 b) ss (bytes-be_bytes 1 b) (λ i. omega (arith, share-inside ss i, s.enough, s.most))) (bytes-zeros share_count)
