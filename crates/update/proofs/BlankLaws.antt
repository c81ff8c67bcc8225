-- A blank page and an emptied one: a symbol with no quotes, no makers, no levels and six entries of none, which trades.
-- Assumes nothing.
use Prim.Native.Nat.{ℕ, ◌+◌, ◌-◌, ◌≤◌}
use mathlib.Core.Path.{◌≡◌, refl, sym, ap, ◌∙◌}
use mathlib.Core.Bool.{false}
use mathlib.Core.List.{List, ◌++◌}
use Rattle.std.specs.Prelude.{None}
use native.Mathlib.Omega.{arith}
use lib.Dec.{eqb}
use lib.ListN.{length, replicate, length-append, length-replicate}
use Rattle.field.specs.Field.{Bytes, be, part, field}
use Rattle.field.proofs.JoinLaws.{part-front, part-after, part-whole}
use Rattle.field.proofs.Laws.{length_part, bytes-append, bytes-part, part-part, field-part-0, field-part}
use Rattle.field.proofs.ZeroLaws.{part-zeros, bytes-zeros}
use Rattle.lists.specs.Lists.{every}
use Rattle.quote.specs.Quote.{no_quote}
use Rattle.levels.specs.Levels.{no_levels}
use Rattle.entries.specs.Entries.{entries_of, unless_halted}
use Rattle.entries.specs.Publication.{no_entry, no_entries, publication, publication_length}
use Rattle.page.specs.Page.{occupied, halted_in}
use Rattle.page.proofs.BlankLaws.{blank-quotes, blank-makers, blank-levels}
use Rattle.entries.proofs.NoneLaws.{none-published, none-entries}
use Rattle.update.specs.Parts.{reading_of, blank_page, emptied}
use Rattle.update.proofs.Model.{worked, blank_reading, blanked}
use Rattle.update.proofs.EntryLaws.{bytes-every, Kept}
use Rattle.page.specs.Layout.{slots_at, maker_count, quotes_length, page_length, page_symbol, page_lot, page_primary, kept_entries, symbol_at, lot_at, primary_at, status_at, head_length}
use Rattle.field.specs.Ascii.{H}
use Rattle.text.specs.Form.{symbol_length}

-- ---- six entries of none

-- the entries of a symbol with nothing
pub entries_none : no_entries ≡ publication (unless_halted false (entries_of (λ l. no_quote) (occupied (replicate maker_count None)) (λ l. no_levels)))
unfolding unless_halted
entries_none = sym (ap publication none-entries ∙ none-published)

pub length_none : length no_entries ≡ publication_length
unfolding no_entries no_entry
length_none = refl

bytes-none : Bytes no_entries
unfolding no_entries no_entry every
bytes-none = bytes-every no_entries refl

-- a status of zero is trading
trading-zero : eqb (be (replicate 1 0)) H ≡ false
unfolding be
trading-zero = refl

-- ---- a blank page: its head, six entries of none, then n zeros

module _ (head : List ℕ) (whole : length head ≡ head_length) (n : ℕ) (rest : n ≡ quotes_length) where
  abbrev page : List ℕ
  page = head ++ (no_entries ++ replicate n 0)

  zero-at : (at w : ℕ) → slots_at ≤ at → at + w ≤ page_length → part page at w ≡ replicate w 0
  zero-at at w h k =
      let e : at ≡ head_length + (publication_length + (at - slots_at)) = omega arith in
      ap (λ (i : ℕ). part page i w) e ∙ part-after head (no_entries ++ replicate n 0) head_length (publication_length + (at - slots_at)) w whole
      ∙ part-after no_entries (replicate n 0) publication_length (at - slots_at) w length_none ∙ part-zeros n (at - slots_at) w (omega arith)

  entries_at : kept_entries page ≡ no_entries
  entries_at =
      part-after head (no_entries ++ replicate n 0) head_length 0 publication_length whole ∙ part-front no_entries (replicate n 0) 0 publication_length (omega (arith, length_none)) ∙ part-whole no_entries publication_length length_none

  trading-at : halted_in page ≡ false
  unfolding halted_in field
  trading-at = ap (λ (x : List ℕ). eqb (be x) H) (zero-at status_at 1 (omega arith) (omega arith)) ∙ trading-zero

  page-reads : reading_of page ≡ blank_reading (page_symbol head) (page_lot head) (page_primary head)
  unfolding reading_of blank_reading worked field
  page-reads =
      let s : be (part page symbol_at symbol_length) ≡ be (part head symbol_at symbol_length) = ap be (part-front head (no_entries ++ replicate n 0) symbol_at symbol_length (omega arith)) in
      let t : be (part page lot_at 1) ≡ be (part head lot_at 1) = ap be (part-front head (no_entries ++ replicate n 0) lot_at 1 (omega arith)) in
      let u : be (part page primary_at 1) ≡ be (part head primary_at 1) = ap be (part-front head (no_entries ++ replicate n 0) primary_at 1 (omega arith)) in
      let e : kept_entries page ≡ publication (unless_halted false (entries_of (λ l. no_quote) (occupied (replicate maker_count None)) (λ l. no_levels))) = entries_at ∙ entries_none in
      λ i. record { symbol = s i; lot = t i; primary = u i; halted = trading-at i; quotes = blank-quotes page zero-at i; cells = blank-makers page zero-at i; levels = blank-levels page zero-at i; entries = e i }

  page-length : length page ≡ page_length
  page-length = simp (length-append, length-replicate) (omega (arith, length_none))

module _ (head : List ℕ) where
  pub length-blank : length head ≡ head_length → length (blank_page head) ≡ page_length
  unfolding blank_page
  length-blank t = page-length head t quotes_length refl

  pub bytes-blank : Bytes head → Bytes (blank_page head)
  unfolding blank_page
  bytes-blank b = bytes-append head (no_entries ++ replicate quotes_length 0) b (bytes-append no_entries (replicate quotes_length 0) bytes-none (bytes-zeros quotes_length))

  -- a blank page is its symbol with nothing
  pub blank-reads : length head ≡ head_length → reading_of (blank_page head) ≡ blank_reading (page_symbol head) (page_lot head) (page_primary head)
  unfolding blank_page
  blank-reads t = page-reads head t quotes_length refl

  blank-head : length head ≡ head_length → (at m : ℕ) → at + m ≤ head_length → part (blank_page head) at m ≡ part head at m
  unfolding blank_page
  blank-head t at m h = part-front head (no_entries ++ replicate quotes_length 0) at m (omega arith)

-- ---- an emptied page

module _ (p : List ℕ) (w : length p ≡ page_length) where
  whole : length (part p 0 head_length) ≡ head_length
  whole = length_part p 0 head_length (omega arith)

  pub emptied-kept : Kept p (emptied p)
  unfolding emptied
  emptied-kept =
      record {
        size = length-blank (part p 0 head_length) whole;
        head = λ at m h. blank-head (part p 0 head_length) whole at m h ∙ part-part p 0 head_length at m h ∙ ap (λ (k : ℕ). part p k m) (omega arith);
        bytes = λ b. bytes-blank (part p 0 head_length) (bytes-part p 0 head_length b);
      }

  pub emptied-reads : reading_of (emptied p) ≡ blanked (reading_of p)
  unfolding emptied reading_of
  emptied-reads =
      blank-reads (part p 0 head_length) whole
      ∙ (λ i. blank_reading (field-part-0 p 0 head_length symbol_length (omega arith) i) (field-part p 0 head_length lot_at 1 (omega arith) i) (field-part p 0 head_length primary_at 1 (omega arith) i))
