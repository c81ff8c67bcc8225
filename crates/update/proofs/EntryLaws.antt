-- The regions of a page, what every change of a page keeps, and the reading of a page whose entries are worked out anew.
-- Assumes nothing.
use Prim.Native.Nat.{ℕ, zero, suc, ◌+◌, ◌≤◌, ◌<◌}
use mathlib.Core.Path.{◌≡◌, refl, ap, ◌∙◌, fun_ext}
use mathlib.Core.Bool.{Bool, true, false}
use mathlib.Core.List.{List, [], ◌∷◌}
use Rattle.std.specs.Prelude.{Option}
use native.Mathlib.Omega.{arith}
use lib.Dec.{ltb, eqb, lit<}
use lib.ListN.{length}
use borrow.Author.Tests.{ltb-true}
use Rattle.field.specs.Field.{Bytes, be, part, field, splice}
use Rattle.field.proofs.Laws.{bytes-splice, length-splice, part-put, part-before, field-before}
use Rattle.lists.specs.Lists.{upper, every}
use Rattle.lists.proofs.Ranges.{map_range}
use Rattle.lists.proofs.Tests.{and-true}
use Rattle.ranking.specs.declared.Side.{Side}
use Rattle.quote.specs.declared.Quote.{Quote}
use Rattle.quote.specs.Quote.{quote_length}
use Rattle.levels.specs.Levels.{Standing, levels_length}
use Rattle.keys.specs.Keys.{key_length}
use Rattle.entries.specs.Entries.{Maker}
use Rattle.entries.specs.Publication.{publication, publication_length}
use Rattle.page.specs.Page.{quotes_in, levels_for, maker_in, makers_in, page_entries, halted_in, published_entries, refreshed}
use Rattle.entries.proofs.LengthLaws.{length-publication, bytes-publication}
use Rattle.page.proofs.FrameLaws.{quotes-kept, makers-kept, levels-kept, halted-kept}
use Rattle.page.proofs.KeyLaws.{quote-same, level-same}
use Rattle.update.specs.Parts.{Reading, reading_of}
use Rattle.update.proofs.Model.{worked, worked_for}
use Rattle.page.specs.Layout.{entries_at, cell_length, maker_count, page_length, page_symbol, page_lot, page_primary, kept_entries, slot_at, cell_at, quote_key_at, first_key_at, symbol_at, lot_at, primary_at, status_at, head_length}
use Rattle.field.specs.Ascii.{H}
use Rattle.text.specs.Form.{symbol_length}

-- a list of bytes, by a test that computes
pub bytes-every : (l : List ℕ) → every (λ x. ltb x 256) l ≡ true → Bytes l
unfolding every
bytes-every [] e i = lit< tt
bytes-every (x ∷ l) e zero = ltb-true x 256 (and-true (ltb x 256) (every (λ x. ltb x 256) l) e).0
bytes-every (x ∷ l) e (suc i) = bytes-every l (and-true (ltb x 256) (every (λ x. ltb x 256) l) e).1 i

-- ---- what a page's readings depend on

-- no other letter than A to Z has a quote or levels
module _ (p p' : List ℕ) (l : ℕ) where
  pub quote-letter : (upper l ≡ true → quotes_in p' l ≡ quotes_in p l) → quotes_in p' l ≡ quotes_in p l
  unfolding quotes_in
  quote-letter h = go (upper l) refl
    where
      go : (t : Bool) → upper l ≡ t → quotes_in p' l ≡ quotes_in p l
      go true e = h e
      go false e = rw e

  pub level-letter : (upper l ≡ true → levels_for p' l ≡ levels_for p l) → levels_for p' l ≡ levels_for p l
  unfolding levels_for
  level-letter h = go (upper l) refl
    where
      go : (t : Bool) → upper l ≡ t → levels_for p' l ≡ levels_for p l
      go true e = h e
      go false e = rw e

module _ (p p' : List ℕ) where
  pub quotes-same : ((l : ℕ) → upper l ≡ true → (s : Side) → part p' (quote_key_at s l) key_length ≡ part p (quote_key_at s l) key_length)
      → ((l : ℕ) → upper l ≡ true → part p' (slot_at l) quote_length ≡ part p (slot_at l) quote_length) → quotes_in p' ≡ quotes_in p
  quotes-same k h = fun_ext (λ l. quote-letter p p' l (λ u. quote-same p p' l (k l u) (h l u)))

  pub levels-same : ((l : ℕ) → upper l ≡ true → (s : Side) → part p' (first_key_at s l) key_length ≡ part p (first_key_at s l) key_length)
      → ((l : ℕ) → upper l ≡ true → part p' (slot_at l + quote_length) levels_length ≡ part p (slot_at l + quote_length) levels_length) → levels_for p' ≡ levels_for p
  levels-same k h = fun_ext (λ l. level-letter p p' l (λ u. level-same p p' l (k l u) (h l u)))

  pub makers-same : ((k : ℕ) → k < maker_count → part p' (cell_at k) cell_length ≡ part p (cell_at k) cell_length) → makers_in p' ≡ makers_in p
  unfolding makers_in
  makers-same h = map_range (λ k. maker_in (part p (cell_at k) cell_length)) (λ k. maker_in (part p' (cell_at k) cell_length)) maker_count 0 (λ j a b. ap maker_in (h j (omega arith)))

-- ---- what every change of a page keeps

-- its length, its symbol, round lot and primary letter, and that it is bytes
pub record Kept (p p' : List ℕ) : Type 0 where
  pub size : length p' ≡ page_length
  pub head : (at m : ℕ) → at + m ≤ head_length → part p' at m ≡ part p at m
  pub bytes : Bytes p → Bytes p'

pub kept-none : (p : List ℕ) → length p ≡ page_length → Kept p p
kept-none p w = record { size = w; head = λ at m h. refl; bytes = λ b. b }

pub kept_then : (p q r : List ℕ) → Kept p q → Kept q r → Kept p r
kept_then p q r x y = record { size = y.size; head = λ at m h. y.head at m h ∙ x.head at m h; bytes = λ b. y.bytes (x.bytes b) }

pub kept-splice : (p : List ℕ) (a : ℕ) (new : List ℕ) → length p ≡ page_length → head_length ≤ a → a + length new ≤ page_length → Bytes new → Kept p (splice p a new)
kept-splice p a new w lo hi b =
    record {
      size = length-splice p a new (omega arith) ∙ w;
      head = λ at m h. part-before p a new at m (omega arith) (omega arith);
      bytes = λ k. bytes-splice p a new k b;
    }

pub kept-symbol : (p p' : List ℕ) → Kept p p' → page_symbol p' ≡ page_symbol p
unfolding field
kept-symbol p p' k = ap be (k.head symbol_at symbol_length (omega arith))

pub kept-lot : (p p' : List ℕ) → Kept p p' → page_lot p' ≡ page_lot p
unfolding field
kept-lot p p' k = ap be (k.head lot_at 1 (omega arith))

pub kept-primary : (p p' : List ℕ) → Kept p p' → page_primary p' ≡ page_primary p
unfolding field
kept-primary p p' k = ap be (k.head primary_at 1 (omega arith))

-- a page with the same status
pub halted-same : (p p' : List ℕ) → part p' status_at 1 ≡ part p status_at 1 → halted_in p' ≡ halted_in p
unfolding halted_in field
halted-same p p' e = ap (λ (x : List ℕ). eqb (be x) H) e

pub refreshed-kept : (p : List ℕ) → length p ≡ page_length → Kept p (refreshed p)
unfolding refreshed
refreshed-kept p w =
    kept-splice p entries_at (publication (published_entries p)) w (omega arith) (omega (arith, length-publication (published_entries p))) (bytes-publication (published_entries p))

-- ---- a reading with its entries worked out anew

abbrev pub again : Reading → Reading
again r = worked_for r r.quotes r.cells r.levels

pub refreshed-reads : (p : List ℕ) → length p ≡ page_length → reading_of (refreshed p) ≡ again (reading_of p)
unfolding refreshed worked reading_of published_entries page_entries
refreshed-reads p w =
    let E : List ℕ = publication (published_entries p) in
    let n : length E ≡ publication_length = length-publication (published_entries p) in
    let h : entries_at ≤ length p = omega arith in
    let s : page_symbol (splice p entries_at E) ≡ page_symbol p = field-before p entries_at E symbol_at symbol_length h (omega arith) in
    let t : page_lot (splice p entries_at E) ≡ page_lot p = field-before p entries_at E lot_at 1 h (omega arith) in
    let u : page_primary (splice p entries_at E) ≡ page_primary p = field-before p entries_at E primary_at 1 h (omega arith) in
    let e : kept_entries (splice p entries_at E) ≡ E = part-put p entries_at E publication_length n h in
    λ i. record { symbol = s i; lot = t i; primary = u i; halted = halted-kept p E n i; quotes = quotes-kept p E n i; cells = makers-kept p E n i; levels = levels-kept p E n i; entries = e i }

-- a changed page, refreshed: its status, quotes, cells and levels read apart
pub reads-by : (p p' : List ℕ) (halted : Bool) (quotes : ℕ → Quote) (cells : List (Option Maker)) (levels : ℕ → Standing) → Kept p p'
    → halted_in p' ≡ halted → quotes_in p' ≡ quotes → makers_in p' ≡ cells → levels_for p' ≡ levels
    → reading_of (refreshed p') ≡ worked (reading_of p).symbol (reading_of p).lot (reading_of p).primary halted quotes cells levels
unfolding reading_of
reads-by p p' halted quotes cells levels k t q c v =
    refreshed-reads p' k.size ∙ (λ i. worked (kept-symbol p p' k i) (kept-lot p p' k i) (kept-primary p p' k i) (t i) (q i) (c i) (v i))
