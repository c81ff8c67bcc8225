-- The allowance's bytes: what the code sums, and what a charge, a tick and a setting leave to be read.
-- Assumes nothing.
use Prim.Native.Nat.{ℕ, suc, ◌+◌, ◌-◌, ◌%◌, ◌≤◌, ◌<◌, max}
use Rattle.std.specs.List.{zip, sum as std_sum}
use Rattle.lists.proofs.Iteration.{sum_std}
use mathlib.Core.Path.{◌≡◌, refl, sym, ap, ap₂, ◌∙◌}
use mathlib.Core.Bool.{Bool, true, false, cond}
use mathlib.Core.List.{List, [], ◌∷◌, ◌++◌, map}
use native.Mathlib.Omega.{arith}
use native.Mathlib.Numerals.{add-one}
use lib.Dec.{eqb, leb}
use lib.ListN.{length, take, drop, set, length-append}
use lib.Seq.{drop-cons, get_or-take, get_or-drop}
use borrow.Author.Tests.{le-leb, lt-leb, leb-true, leb-false, eq-eqb, ne_eqb}
use Rattle.field.specs.Field.{Bytes, be, part, field, splice, be_bytes}
use Rattle.field.proofs.Laws.{be-be_bytes, be_bytes-mod, be_bytes-one, bytes-be_bytes, bytes-splice, field-before, field-one, length-be_bytes, length_part, length-splice, part-before, part-put, splice-inside, splice-one}
use Rattle.field.proofs.JoinLaws.{part-front, part-after, part-whole}
use Rattle.field.proofs.ZeroLaws.{length-zeros, bytes-zeros}
use Rattle.lists.specs.Lists.{at, sum}
use Rattle.allowance.specs.Allowance.{share_count, shares_from, charges_from, allowance_length, spare_charged, allowance_in, spare_used, is_used_up, charged, charged_bytes, no_charges, set_to, setting_bytes, ticked, ticked_bytes}

-- a part is its first byte and the rest
pub part-cons : (p : List ℕ) (x k : ℕ) → x + suc k ≤ length p → part p x (suc k) ≡ field p x 1 ∷ part p (x + 1) k
unfolding part
part-cons p x k h =
    ap (take (suc k)) (drop-cons p x 0 (omega arith))
    ∙ ap₂ (λ (b : ℕ) (n : ℕ). b ∷ take k (drop n p)) (sym (field-one p x (omega arith))) (sym (add-one x))

-- byte i of a part
pub at_part : (p : List ℕ) (x w i : ℕ) → i < w → x + w ≤ length p → at (part p x w) i ≡ field p (x + i) 1
unfolding part
at_part p x w i h l = get_or-take w (drop x p) i 0 h ∙ get_or-drop x p i 0 ∙ sym (field-one p (x + i) (omega arith))

-- a part with one of its bytes written
pub part-set : (p : List ℕ) (x w i v : ℕ) → i < w → x + w ≤ length p → v < 256 → part (splice p (x + i) (be_bytes 1 v)) x w ≡ set (part p x w) i v
part-set p x w i v h l f =
    let q : length (part p x w) ≡ w = length_part p x w l in
    sym (ap (λ (y : List ℕ). part y x w) (splice-inside p x w i (be_bytes 1 v) l (omega (arith, length-be_bytes 1 v))))
    ∙ part-put p x (splice (part p x w) i (be_bytes 1 v)) w (length-splice (part p x w) i (be_bytes 1 v) (omega (arith, length-be_bytes 1 v, q)) ∙ q) (omega arith)
    ∙ ap (splice (part p x w) i) (be_bytes-one v f) ∙ sym (splice-one (part p x w) i v (omega (arith, q)))

-- ---- the code's tests

pub spare-told : (r : List ℕ) (b k : ℕ) → b ≡ field r 0 1 → k ≡ sum (part r shares_from share_count) + spare_charged (part r shares_from share_count) (part r charges_from share_count) → leb b k ≡ spare_used (allowance_in r)
unfolding allowance_in
spare-told r b k f g = rw (g, ← f) (go (leb b (s + u)) refl)
  where
    s : ℕ
    s = sum (part r shares_from share_count)

    u : ℕ
    u = spare_charged (part r shares_from share_count) (part r charges_from share_count)

    go : (t : Bool) → leb b (s + u) ≡ t → t ≡ leb (b - s) u
    go true h = let x : b - s ≤ u = omega (arith, leb-true b (s + u) h) in sym (le-leb (b - s) u x)
    go false h = let x : u < b - s = omega (arith, leb-false b (s + u) h) in sym (lt-leb (b - s) u x)

-- share or charge of each line, whichever is larger: the shares, and what is charged beyond them
pub larger-sum : (ss cs : List ℕ) → length ss ≡ length cs → std_sum (map (λ p. max p.0 p.1) (zip ss cs)) ≡ sum ss + spare_charged ss cs
unfolding sum spare_charged
larger-sum [] cs e = refl
larger-sum (s ∷ ss) [] e = absurd (let z : ◌≡◌ {A = ℕ} (suc (length ss)) 0 = e in omega arith)
larger-sum (s ∷ ss) (c ∷ cs) e = sym (sum_std (map (λ p. max p.0 p.1) (zip (s ∷ ss) (c ∷ cs)))) ∙ ap (λ (n : ℕ). max s c + n) (sum_std (map (λ p. max p.0 p.1) (zip ss cs)) ∙ larger-sum ss cs (omega (arith, e))) ∙ omega arith

module _ (r : List ℕ) (i b : ℕ) (e : b ≡ field r 0 1) where
  pub unset-free : b ≡ 0 → false ≡ is_used_up (allowance_in r) i
  unfolding is_used_up allowance_in
  unset-free z = rw (← e, eq-eqb b 0 z)

  pub unset-charged : b ≡ 0 → r ≡ charged_bytes r i
  unfolding charged_bytes
  unset-charged z = rw (← e, eq-eqb b 0 z)

  module _ (z : b ≡ 0 → ⊥) where
    pub charged-is : (n : ℕ) (x : List ℕ) → n ≡ field r (charges_from + i) 1 → x ≡ splice r (charges_from + i) (be_bytes 1 ((n + 1) % 256)) → x ≡ charged_bytes r i
    unfolding charged_bytes
    charged-is n x f g = rw (← e, ne_eqb b 0 z, ← f) (g ∙ ap (splice r (charges_from + i)) (be_bytes-mod 1 (n + 1)))

    module _ (h : i < share_count) (l : length r ≡ allowance_length) where
      share-at : at (part r shares_from share_count) i ≡ field r (shares_from + i) 1
      share-at = at_part r shares_from share_count i h (omega arith)

      charge-at : at (part r charges_from share_count) i ≡ field r (charges_from + i) 1
      charge-at = at_part r charges_from share_count i h (omega arith)

      pub share-left : (s c : ℕ) → s ≡ field r (shares_from + i) 1 → c ≡ field r (charges_from + i) 1 → c < s → false ≡ is_used_up (allowance_in r) i
      unfolding is_used_up allowance_in
      share-left s c f g k = rw (← e, ne_eqb b 0 z, share-at, charge-at, ← f, ← g, lt-leb s c k)

      pub spare-asked : (s c : ℕ) (u : Bool) → s ≡ field r (shares_from + i) 1 → c ≡ field r (charges_from + i) 1 → s ≤ c → u ≡ spare_used (allowance_in r) → u ≡ is_used_up (allowance_in r) i
      unfolding is_used_up allowance_in
      spare-asked s c u f g k q = q ∙ rw (← e, ne_eqb b 0 z, share-at, charge-at, ← f, ← g, le-leb s c k)

-- ---- what a charge, a tick and a setting leave to be read

module _ (r : List ℕ) (l : length r ≡ allowance_length) where
  module _ (i : ℕ) (h : i < share_count) where
    pub length-charged : length (charged_bytes r i) ≡ allowance_length
    unfolding charged_bytes
    length-charged = go (eqb (field r 0 1) 0)
      where
        go : (t : Bool) → length (cond t r (splice r (charges_from + i) (be_bytes 1 (field r (charges_from + i) 1 + 1)))) ≡ allowance_length
        go true = l
        go false =
            length-splice r (charges_from + i) (be_bytes 1 (field r (charges_from + i) 1 + 1)) (omega (arith, length-be_bytes 1 (field r (charges_from + i) 1 + 1))) ∙ l

    pub bytes-charged : Bytes r → Bytes (charged_bytes r i)
    unfolding charged_bytes
    bytes-charged y = go (eqb (field r 0 1) 0)
      where
        go : (t : Bool) → Bytes (cond t r (splice r (charges_from + i) (be_bytes 1 (field r (charges_from + i) 1 + 1))))
        go true = y
        go false = bytes-splice r (charges_from + i) (be_bytes 1 (field r (charges_from + i) 1 + 1)) y (bytes-be_bytes 1 (field r (charges_from + i) 1 + 1))

  pub length-ticked : length (ticked_bytes r) ≡ allowance_length
  unfolding ticked_bytes
  length-ticked = go (eqb (field r 0 1) 0)
    where
      go : (t : Bool) → length (cond t r (splice r charges_from no_charges)) ≡ allowance_length
      go true = l
      go false = length-splice r charges_from no_charges (omega (arith, length-zeros share_count)) ∙ l

  pub bytes-ticked : Bytes r → Bytes (ticked_bytes r)
  unfolding ticked_bytes
  bytes-ticked y = go (eqb (field r 0 1) 0)
    where
      go : (t : Bool) → Bytes (cond t r (splice r charges_from no_charges))
      go true = y
      go false = bytes-splice r charges_from no_charges y (bytes-zeros share_count)

  pub ticked-view : allowance_in (ticked_bytes r) ≡ ticked (allowance_in r)
  unfolding allowance_in ticked_bytes ticked
  ticked-view = go (eqb (field r 0 1) 0)
    where
      b : field (splice r charges_from no_charges) 0 1 ≡ field r 0 1
      b = field-before r charges_from no_charges 0 1 (omega arith) (omega arith)

      s : part (splice r charges_from no_charges) shares_from share_count ≡ part r shares_from share_count
      s = part-before r charges_from no_charges shares_from share_count (omega arith) (omega arith)

      c : part (splice r charges_from no_charges) charges_from share_count ≡ no_charges
      c = part-put r charges_from no_charges share_count (length-zeros share_count) (omega arith)

      go : (t : Bool) → allowance_in (cond t r (splice r charges_from no_charges)) ≡ cond t (allowance_in r) (record { blocks = field r 0 1; shares = part r shares_from share_count; charges = no_charges })
      go true = refl
      go false = λ k. record { blocks = b k; shares = s k; charges = c k }

  -- one more for line i, where it fits
  pub charged-view : (i : ℕ) → i < share_count → (eqb (field r 0 1) 0 ≡ false → field r (charges_from + i) 1 + 1 < 256) → allowance_in (charged_bytes r i) ≡ charged (allowance_in r) i
  unfolding allowance_in charged_bytes charged
  charged-view i h f = go (eqb (field r 0 1) 0) refl
    where
      v : ℕ
      v = field r (charges_from + i) 1 + 1

      b : field (splice r (charges_from + i) (be_bytes 1 v)) 0 1 ≡ field r 0 1
      b = field-before r (charges_from + i) (be_bytes 1 v) 0 1 (omega arith) (omega arith)

      s : part (splice r (charges_from + i) (be_bytes 1 v)) shares_from share_count ≡ part r shares_from share_count
      s = part-before r (charges_from + i) (be_bytes 1 v) shares_from share_count (omega arith) (omega arith)

      -- the charges' part with one byte written
      c : v < 256 → part (splice r (charges_from + i) (be_bytes 1 v)) charges_from share_count ≡ set (part r charges_from share_count) i (at (part r charges_from share_count) i + 1)
      c w = part-set r charges_from share_count i v h (omega arith) w ∙ ap (λ (x : ℕ). set (part r charges_from share_count) i (x + 1)) (sym (at_part r charges_from share_count i h (omega arith)))

      go : (t : Bool) → eqb (field r 0 1) 0 ≡ t
          → allowance_in (cond t r (splice r (charges_from + i) (be_bytes 1 v)))
          ≡ cond t (allowance_in r) (record { blocks = field r 0 1; shares = part r shares_from share_count; charges = set (part r charges_from share_count) i (at (part r charges_from share_count) i + 1) })
      go true e = refl
      go false e = λ k. record { blocks = b k; shares = s k; charges = c (f e) k }

-- a setting's bytes
module _ (b : ℕ) (ss : List ℕ) (l : length ss ≡ share_count) where
  pub length-setting : length (setting_bytes b ss) ≡ allowance_length
  length-setting = simp length-append (omega (arith, l, length-be_bytes 1 b, length-zeros share_count))

  pub setting-view : b < 256 → allowance_in (setting_bytes b ss) ≡ set_to b ss
  unfolding allowance_in field be_bytes
  setting-view h =
      let x : be (part (setting_bytes b ss) 0 1) ≡ b = be-be_bytes 1 b h in
      let y : part (setting_bytes b ss) shares_from share_count ≡ ss =
      part-front (be_bytes 1 b ++ ss) no_charges shares_from share_count (simp length-append (omega (arith, l, length-be_bytes 1 b)))
      ∙ part-after (be_bytes 1 b) ss 1 0 share_count (length-be_bytes 1 b) ∙ part-whole ss share_count l in
      let z : part (setting_bytes b ss) charges_from share_count ≡ no_charges =
      part-after (be_bytes 1 b ++ ss) no_charges charges_from 0 share_count (simp length-append (omega (arith, l, length-be_bytes 1 b))) ∙ part-whole no_charges share_count (length-zeros share_count) in
      λ k. record { blocks = x k; shares = y k; charges = z k }
