-- A page cut behind a letter: the letters up to it read as before, those behind it hold nothing, and so do the makers if D is behind it. Its status stays.
-- Assumes nothing.
use Prim.Native.Nat.{ℕ, ◌+◌, ◌*◌, ◌-◌, ◌≤◌, ◌<◌}
use mathlib.Core.Path.{◌≡◌, refl, ap, ◌∙◌, fun_ext}
use mathlib.Core.Bool.{Bool, true, false, cond}
use mathlib.Core.List.{List, map}
use Rattle.std.specs.Prelude.{Option, None}
use native.Mathlib.Omega.{arith}
use lib.Dec.{ltb, eqb}
use lib.ListN.{length, replicate}
use borrow.Author.Tests.{lt-ltb, le-ltb}
use Rattle.lists.specs.Lists.{upper, range}
use Rattle.lists.proofs.Tests.{is-upper}
use Rattle.lists.proofs.Ranges.{map_range}
use Rattle.field.specs.Field.{Bytes, be, part, field, splice}
use Rattle.field.proofs.Laws.{length-splice, bytes-splice, part-before, part-behind}
use Rattle.field.proofs.ZeroLaws.{length-zeros, bytes-zeros, part-zeroed, splice-nothing}
use Rattle.field.specs.Low.{low}
use Rattle.ranking.specs.declared.Side.TheVariants.{Bid, Offer}
use Rattle.quote.specs.Quote.{no_quote, quote_in, quote_length}
use Rattle.levels.specs.Levels.{no_levels, levels_in, levels_length}
use Rattle.keys.specs.Keys.{key_length}
use Rattle.page.proofs.KeyLaws.{quote-keys-low, first-keys-low, quote-same, level-same, no-quote-agreed, no-levels-agreed}
use Rattle.entries.specs.Entries.{Maker}
use Rattle.page.specs.Page.{quotes_in, levels_for, maker_in, makers_in, halted_in}
use Rattle.page.specs.Cut.{none_behind, no_makers, cut}
use Rattle.page.proofs.BlankLaws.{no-quote-read, no-levels-read, no-maker-read}
use Rattle.page.specs.Layout.{slot_length, cells_at, cell_length, page_length, maker_count, slot_at, cell_at, status_at, quote_key_at, first_key_at}
use Rattle.field.specs.Ascii.{A, D, H, Z}

-- ---- what is left of a page

module _ (p : List ℕ) (w : length p ≡ page_length) (l : ℕ) (lo : A ≤ l) (hi : l ≤ Z) where
  zeros : length {A = ℕ} (replicate ((Z - l) * slot_length) 0) ≡ (Z - l) * slot_length
  zeros = length-zeros ((Z - l) * slot_length)

  behind-length : length (none_behind l p) ≡ page_length
  unfolding none_behind
  behind-length = length-splice p (slot_at (l + 1)) (replicate ((Z - l) * slot_length) 0) (omega (arith, zeros)) ∙ w

  behind-front : (at m : ℕ) → at + m ≤ slot_at (l + 1) → part (none_behind l p) at m ≡ part p at m
  unfolding none_behind
  behind-front at m h = part-before p (slot_at (l + 1)) (replicate ((Z - l) * slot_length) 0) at m (omega arith) h

  behind-zero : (at m : ℕ) → slot_at (l + 1) ≤ at → at + m ≤ cells_at → part (none_behind l p) at m ≡ replicate m 0
  unfolding none_behind
  behind-zero at m h k = part-zeroed p (slot_at (l + 1)) ((Z - l) * slot_length) at m (omega arith) h (omega arith)

  behind-cells : (at m : ℕ) → cells_at ≤ at → part (none_behind l p) at m ≡ part p at m
  unfolding none_behind
  behind-cells at m h = part-behind p (slot_at (l + 1)) (replicate ((Z - l) * slot_length) 0) at m (omega (arith, zeros))

  -- the makers gone or not, the slots are the same
  cut-slots : (at m : ℕ) → at + m ≤ cells_at → part (cut l p) at m ≡ part (none_behind l p) at m
  unfolding cut no_makers
  cut-slots at m h = go (ltb l D)
    where
      go : (t : Bool) → part (cond t (splice (none_behind l p) (cell_at 0) (replicate (maker_count * cell_length) 0)) (none_behind l p)) at m ≡ part (none_behind l p) at m
      go true = part-before (none_behind l p) (cell_at 0) (replicate (maker_count * cell_length) 0) at m (omega (arith, behind-length)) (omega arith)
      go false = refl

  cut-front : (at m : ℕ) → at + m ≤ slot_at (l + 1) → part (cut l p) at m ≡ part p at m
  cut-front at m h = cut-slots at m (omega arith) ∙ behind-front at m h

  cut-zero : (at m : ℕ) → slot_at (l + 1) ≤ at → at + m ≤ cells_at → part (cut l p) at m ≡ replicate m 0
  cut-zero at m h k = cut-slots at m k ∙ behind-zero at m h k

  pub cut-bytes : Bytes p → Bytes (cut l p)
  unfolding cut no_makers none_behind
  cut-bytes b = go (ltb l D) (bytes-splice p (slot_at (l + 1)) (replicate ((Z - l) * slot_length) 0) b (bytes-zeros ((Z - l) * slot_length)))
    where
      go : (t : Bool) → Bytes (splice p (slot_at (l + 1)) (replicate ((Z - l) * slot_length) 0))
          → Bytes (cond t (splice (splice p (slot_at (l + 1)) (replicate ((Z - l) * slot_length) 0)) (cell_at 0) (replicate (maker_count * cell_length) 0)) (splice p (slot_at (l + 1)) (replicate ((Z - l) * slot_length) 0)))
      go true c = bytes-splice (splice p (slot_at (l + 1)) (replicate ((Z - l) * slot_length) 0)) (cell_at 0) (replicate (maker_count * cell_length) 0) c (bytes-zeros (maker_count * cell_length))
      go false c = c

  cut-behind : (at m : ℕ) → status_at ≤ at → part (cut l p) at m ≡ part p at m
  unfolding cut no_makers
  cut-behind at m h = go (ltb l D) ∙ behind-cells at m (omega arith)
    where
      go : (t : Bool) → part (cond t (splice (none_behind l p) (cell_at 0) (replicate (maker_count * cell_length) 0)) (none_behind l p)) at m ≡ part (none_behind l p) at m
      go true = part-behind (none_behind l p) (cell_at 0) (replicate (maker_count * cell_length) 0) at m (omega (arith, length-zeros (maker_count * cell_length)))
      go false = refl

  -- ---- as it is read

  module _ (j : ℕ) (a : A ≤ j) (z : j ≤ l) where
    pub cut-quote : quotes_in (cut l p) j ≡ quotes_in p j
    cut-quote = quote-same p (cut l p) j (λ s. cut-behind (quote_key_at s j) key_length (omega (arith, quote-keys-low s))) (cut-front (slot_at j) quote_length (omega arith))

    pub cut-levels : levels_for (cut l p) j ≡ levels_for p j
    cut-levels = level-same p (cut l p) j (λ s. cut-behind (first_key_at s j) key_length (omega (arith, first-keys-low s))) (cut-front (slot_at j + quote_length) levels_length (omega arith))

  module _ (j : ℕ) (a : l < j) (z : j ≤ Z) where
    pub cut-no-quote : quotes_in (cut l p) j ≡ no_quote
    unfolding quotes_in
    cut-no-quote =
        rw (is-upper j (omega arith) (omega arith), cut-zero (slot_at j) quote_length (omega arith) (omega arith), no-quote-read)
        (no-quote-agreed (low (cut l p) (quote_key_at Bid j) key_length) (low (cut l p) (quote_key_at Offer j) key_length))

    pub cut-no-levels : levels_for (cut l p) j ≡ no_levels
    unfolding levels_for
    cut-no-levels =
        rw (is-upper j (omega arith) (omega arith), cut-zero (slot_at j + quote_length) levels_length (omega arith) (omega arith), no-levels-read)
        (no-levels-agreed (low (cut l p) (first_key_at Bid j) key_length) (low (cut l p) (first_key_at Offer j) key_length))

  pub cut-makers : D ≤ l → makers_in (cut l p) ≡ makers_in p
  unfolding makers_in cut
  cut-makers h =
      rw (le-ltb l D h)
      (ap (λ (g : ℕ → Option Maker). map g (range maker_count 0)) (fun_ext (λ k. ap maker_in (behind-cells (cell_at k) cell_length (omega arith)))))

  pub cut-no-makers : l < D → makers_in (cut l p) ≡ map (λ k. None) (range maker_count 0)
  unfolding makers_in cut no_makers
  cut-no-makers h =
      rw (lt-ltb l D h)
      (map_range (λ k. None) (λ k. maker_in (part (splice (none_behind l p) (cell_at 0) (replicate (maker_count * cell_length) 0)) (cell_at k) cell_length)) maker_count 0
      (λ k a z. ap maker_in (part-zeroed (none_behind l p) (cell_at 0) (maker_count * cell_length) (cell_at k) cell_length (omega (arith, behind-length)) (omega arith) (omega arith)) ∙ no-maker-read))

  -- a cut page is halted if the page is
  pub cut-halted : halted_in (cut l p) ≡ halted_in p
  unfolding halted_in field
  cut-halted = ap (λ (x : List ℕ). eqb (be x) H) (cut-behind status_at 1 (omega arith))

-- behind Z there is no letter
pub cut-whole : (p : List ℕ) → cut Z p ≡ p
unfolding cut none_behind
cut-whole p = splice-nothing p (slot_at (Z + 1))
