-- Writing the entries moves no quote, maker, level or status.
-- Assumes nothing.
use Prim.Native.Nat.{ℕ, ◌+◌, ◌≤◌}
use mathlib.Core.Path.{◌≡◌, sym, ap, ap₂, ◌∙◌, fun_ext}
use mathlib.Core.List.{List, map}
use Rattle.std.specs.Prelude.{Option}
use native.Mathlib.Omega.{arith}
use lib.Dec.{eqb}
use lib.ListN.{length}
use Rattle.lists.specs.Lists.{range}
use Rattle.field.specs.Field.{be, part, field, splice}
use Rattle.field.proofs.Laws.{length-splice, part-behind, part-put, splice-part}
use Rattle.quote.specs.Quote.{quote_length}
use Rattle.levels.specs.Levels.{levels_length}
use Rattle.keys.specs.Keys.{key_length}
use Rattle.page.proofs.KeyLaws.{quote-keys-low, first-keys-low, quote-same, level-same}
use Rattle.entries.specs.Entries.{Maker, entries_of, unless_halted}
use Rattle.entries.specs.Publication.{publication, publication_length}
use Rattle.page.specs.Page.{quotes_in, levels_for, maker_in, makers_in, occupied, page_entries, halted_in, published_entries, refreshed}
use Rattle.entries.proofs.LengthLaws.{length-publication}
use Rattle.page.specs.Layout.{entries_at, slots_at, cell_length, kept_entries, maker_count, slot_at, cell_at, status_at, quote_key_at, first_key_at}
use Rattle.field.specs.Ascii.{H}

-- ---- 96 bytes written in the entries' place

module _ (p b : List ℕ) (h : length b ≡ publication_length) where
  part-kept : (at w : ℕ) → slots_at ≤ at → part (splice p entries_at b) at w ≡ part p at w
  part-kept at w l = part-behind p entries_at b at w (omega arith)

  pub quotes-kept : quotes_in (splice p entries_at b) ≡ quotes_in p
  quotes-kept =
      fun_ext
      (λ l. quote-same p (splice p entries_at b) l (λ s. part-kept (quote_key_at s l) key_length (omega (arith, quote-keys-low s))) (part-kept (slot_at l) quote_length (omega arith)))

  pub levels-kept : levels_for (splice p entries_at b) ≡ levels_for p
  levels-kept =
      fun_ext
      (λ l. level-same p (splice p entries_at b) l (λ s. part-kept (first_key_at s l) key_length (omega (arith, first-keys-low s))) (part-kept (slot_at l + quote_length) levels_length (omega arith)))

  pub makers-kept : makers_in (splice p entries_at b) ≡ makers_in p
  unfolding makers_in
  makers-kept = ap (λ (g : ℕ → Option Maker). map g (range maker_count 0)) (fun_ext (λ k. ap maker_in (part-kept (cell_at k) cell_length (omega arith))))

  pub entries-kept : page_entries (splice p entries_at b) ≡ page_entries p
  unfolding page_entries
  entries-kept = λ i. entries_of (quotes-kept i) (occupied (makers-kept i)) (levels-kept i)

  pub halted-kept : halted_in (splice p entries_at b) ≡ halted_in p
  unfolding halted_in field
  halted-kept = ap (λ (x : List ℕ). eqb (be x) H) (part-kept status_at 1 (omega arith))

  pub published-kept : published_entries (splice p entries_at b) ≡ published_entries p
  unfolding published_entries
  published-kept = ap₂ unless_halted halted-kept entries-kept

-- ---- a refreshed page

module _ (p : List ℕ) where
  pub refreshed-entries : published_entries (refreshed p) ≡ published_entries p
  unfolding refreshed
  refreshed-entries = published-kept p (publication (published_entries p)) (length-publication (published_entries p))

  pub refreshed-part : entries_at ≤ length p → kept_entries (refreshed p) ≡ publication (published_entries p)
  unfolding refreshed
  refreshed-part h = part-put p entries_at (publication (published_entries p)) publication_length (length-publication (published_entries p)) h

  module _ (h : slots_at ≤ length p) where
    pub refreshed-length : length (refreshed p) ≡ length p
    unfolding refreshed
    refreshed-length = length-splice p entries_at (publication (published_entries p)) (omega (arith, length-publication (published_entries p)))

-- a page whose entries are those worked out stays as it is
pub refreshed-same : (p : List ℕ) → slots_at ≤ length p → kept_entries p ≡ publication (published_entries p) → refreshed p ≡ p
unfolding refreshed
refreshed-same p h e = rw (← e) (splice-part p entries_at publication_length h)

pub refreshed-twice : (p : List ℕ) → slots_at ≤ length p → refreshed (refreshed p) ≡ refreshed p
refreshed-twice p h =
    let l : entries_at ≤ length p = omega arith in
    refreshed-same (refreshed p) (rw (refreshed-length p h) h) (refreshed-part p l ∙ ap publication (sym (refreshed-entries p)))
