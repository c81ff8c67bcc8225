-- A hint written: the opening stays, and no page reads otherwise.
-- Assumes nothing.
use Rattle.std.proofs.Common.{◌≡◌, ℕ, ◌+◌, ◌<◌, ◌≤◌, List, length, sym, ap, ◌∙◌, arith}
use Rattle.field.specs.Field.{part, field, splice, be_bytes}
use Rattle.field.proofs.Laws.{length-be_bytes, bytes-be_bytes, bytes-splice, length-splice, field-before, part-behind, splice-inside}
use Rattle.lists.proofs.Ranges.{map_range}
use Rattle.lists.proofs.Tests.{Cut, equal, apart, cut}
use Rattle.update.specs.Parts.{reading_of}
use Rattle.update.proofs.EntryLaws.{quotes-same, levels-same, makers-same, halted-same}
use Rattle.opening.specs.Opening.{count_of, page_at, set_page, pages_in, bucket_of, hinted}
use Rattle.opening.proofs.OpeningLaws.{Sound, length-page, bytes-page}
use Rattle.opening.proofs.PageLaws.{OpeningKept, kept-count, set-kept, set_same, set_other}
use Rattle.entries.specs.Publication.{publication_length}
use Rattle.quote.specs.Quote.{quote_length}
use Rattle.levels.specs.Levels.{levels_length}
use Rattle.text.specs.Form.{symbol_length}
use Rattle.page.specs.Layout.{symbol_at, lot_at, primary_at, hints_at, head_length, entries_at, slot_at, cell_at, cell_length, status_at, quote_key_at, first_key_at, page_length}
use Rattle.page.proofs.KeyLaws.{quote-keys-low, first-keys-low}
use Rattle.keys.specs.Keys.{key_length}
use Rattle.opening.specs.Layout.{page_start}

-- no reading of a page reads its hints
hint-unread : (p : List ℕ) (a : ℕ) (x : List ℕ) → length p ≡ page_length → hints_at ≤ a → a + length x ≤ head_length → reading_of (splice p a x) ≡ reading_of p
unfolding reading_of
hint-unread p a x w lo hi =
    let q : List ℕ = splice p a x in
    let behind : (at m : ℕ) → head_length ≤ at → part (splice p a x) at m ≡ part p at m = λ at m h. part-behind p a x at m (omega arith) in
    let before : (at m : ℕ) → at + m ≤ hints_at → field (splice p a x) at m ≡ field p at m = λ at m h. field-before p a x at m (omega arith) (omega arith) in
    λ i. record {
      symbol = before symbol_at symbol_length (omega arith) i;
      lot = before lot_at 1 (omega arith) i;
      primary = before primary_at 1 (omega arith) i;
      halted = halted-same p q (behind status_at 1 (omega arith)) i;
      quotes = quotes-same p q (λ l u s. behind (quote_key_at s l) key_length (omega (arith, quote-keys-low s))) (λ l u. behind (slot_at l) quote_length (omega arith)) i;
      cells = makers-same p q (λ k h. behind (cell_at k) cell_length (omega arith)) i;
      levels = levels-same p q (λ l u s. behind (first_key_at s l) key_length (omega (arith, first-keys-low s))) (λ l u. behind (slot_at l + quote_length) levels_length (omega arith)) i;
      entries = behind entries_at publication_length (omega arith) i;
    }

module _ (n : ℕ) (b : List ℕ) (sd : Sound n b) (s k : ℕ) where
  abbrev place : ℕ
  place = hints_at + bucket_of s

  page : List ℕ
  page = splice (page_at b 0) place (be_bytes 1 k)

  low : 0 < n
  low = omega (arith, sd.low)

  inside : place + length (be_bytes 1 k) ≤ head_length
  inside = omega (arith, length-be_bytes 1 k)

  wide : length (page_at b 0) ≡ page_length
  wide = length-page n b sd 0 low

  page-wide : length page ≡ page_length
  unfolding page
  page-wide = length-splice (page_at b 0) place (be_bytes 1 k) (omega (arith, inside, wide)) ∙ wide

  hinted-is : hinted s k b ≡ set_page b 0 page
  unfolding hinted set_page page_at page
  hinted-is = sym (splice-inside b (page_start 0) page_length place (be_bytes 1 k) (omega (arith, sd.size, sd.low)) (omega (arith, inside)))

  pub hinted-kept : OpeningKept b (hinted s k b)
  unfolding page
  hinted-kept = rw hinted-is (set-kept n b sd 0 low page page-wide (λ y. bytes-splice (page_at b 0) place (be_bytes 1 k) (bytes-page b 0 y) (bytes-be_bytes 1 k)))

  hinted-reads : (j : ℕ) → reading_of (page_at (hinted s k b) j) ≡ reading_of (page_at b j)
  unfolding page
  hinted-reads j = rw hinted-is (go (cut 0 j))
    where
      go : Cut 0 j → reading_of (page_at (set_page b 0 page) j) ≡ reading_of (page_at b j)
      go (equal t q) = rw (← q) (ap reading_of (set_same n b sd 0 low page page-wide) ∙ hint-unread (page_at b 0) place (be_bytes 1 k) wide (omega arith) inside)
      go (apart t q) = ap reading_of (set_other n b sd 0 low page page-wide j q)

  pub hinted-pages : pages_in (hinted s k b) ≡ pages_in b
  unfolding pages_in
  hinted-pages =
      rw (kept-count b (hinted s k b) hinted-kept) (map_range (λ j. reading_of (page_at b j)) (λ j. reading_of (page_at (hinted s k b) j)) (count_of b) 0 (λ j a l. hinted-reads j))
