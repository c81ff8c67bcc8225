-- A trading status (T-10): what it leaves of a page, and what the code that takes it owes.
-- Assumes nothing.
use Prim.Native.Nat.{ℕ, ◌+◌, ◌≤◌, ◌<◌}
use mathlib.Core.Path.{◌≡◌, ap, ◌∙◌}
use mathlib.Core.Bool.{true, false}
use mathlib.Core.List.{List}
use native.Mathlib.Omega.{arith}
use lib.Dec.{eqb}
use lib.ListN.{length}
use borrow.Author.Tests.{eq-eqb, ne_eqb}
use Rattle.field.specs.Field.{be, part, field, splice, be_bytes}
use Rattle.field.specs.Ascii.{H}
use Rattle.field.proofs.Laws.{length-be_bytes, bytes-be_bytes, be-be_bytes, part-put, part-before, part-behind}
use Rattle.lists.specs.Lists.{member}
use Rattle.message.specs.Message.{statuses, status_code}
use Rattle.page.specs.Layout.{page_length, page_primary, cell_length, status_at, keys_at, slot_at, cell_at, quote_key_at, first_key_at}
use Rattle.page.proofs.KeyLaws.{quote-keys-low, first-keys-low}
use Rattle.keys.specs.Keys.{key_length}
use Rattle.page.specs.Page.{quotes_in, makers_in, levels_for, halted_in, refreshed}
use Rattle.update.specs.Parts.{reading_of, put_status, status_on}
use Rattle.update.specs.code.Update.{Updated, rejected, flagged, trading_status_on}
use Rattle.update.proofs.Model.{status_reading}
use Rattle.update.proofs.EntryLaws.{Kept, kept_then, kept-splice, refreshed-kept, reads-by, quotes-same, levels-same, makers-same}
use Rattle.update.proofs.EffectLaws.{entries-stand, flagged-from}
use Rattle.lists.proofs.Tests.{upper-low}
use Rattle.quote.specs.Quote.{quote_length}
use Rattle.levels.specs.Levels.{levels_length}

module _ (x : ℕ) (p : List ℕ) (w : length p ≡ page_length) where
  one : length (be_bytes 1 x) ≡ 1
  one = length-be_bytes 1 x

  put-status-kept : Kept p (put_status x p)
  unfolding put_status
  put-status-kept = kept-splice p status_at (be_bytes 1 x) w (omega arith) (omega (arith, one)) (bytes-be_bytes 1 x)

  pub status-kept : Kept p (status_on x p)
  unfolding status_on
  status-kept = kept_then p (put_status x p) (refreshed (put_status x p)) put-status-kept (refreshed-kept (put_status x p) put-status-kept.size)

  -- everything before it stays
  status-front : (at m : ℕ) → at + m ≤ status_at → part (put_status x p) at m ≡ part p at m
  unfolding put_status
  status-front at m h = part-before p status_at (be_bytes 1 x) at m (omega arith) h

  -- and so does everything behind it
  status-behind : (at m : ℕ) → keys_at ≤ at → part (put_status x p) at m ≡ part p at m
  unfolding put_status
  status-behind at m h = part-behind p status_at (be_bytes 1 x) at m (omega (arith, one))

  status-halted : x < 256 → halted_in (put_status x p) ≡ eqb x H
  unfolding halted_in put_status field
  status-halted h = ap (λ (b : List ℕ). eqb (be b) H) (part-put p status_at (be_bytes 1 x) 1 one (omega arith)) ∙ ap (λ (k : ℕ). eqb k H) (be-be_bytes 1 x h)

  -- a status halts its symbol or lets it trade, and moves nothing else
  pub status-reads : x < 256 → reading_of (status_on x p) ≡ status_reading x (reading_of p)
  unfolding status_on status_reading reading_of
  status-reads h =
      reads-by p (put_status x p) (eqb x H) (quotes_in p) (makers_in p) (levels_for p) put-status-kept (status-halted h)
      (quotes-same p (put_status x p) (λ l u s. status-behind (quote_key_at s l) key_length (omega (arith, quote-keys-low s)))
      (λ l u. status-front (slot_at l) quote_length (omega (arith, (upper-low l u).0, (upper-low l u).1))))
      (makers-same p (put_status x p) (λ k b. status-front (cell_at k) cell_length (omega arith)))
      (levels-same p (put_status x p) (λ l u s. status-behind (first_key_at s l) key_length (omega (arith, first-keys-low s)))
      (λ l u. status-front (slot_at l + quote_length) levels_length (omega (arith, (upper-low l u).0, (upper-low l u).1))))

  -- ---- the code that takes it

  module _ (l : ℕ) where
    pub status-elsewhere : (k : ℕ) → k ≡ page_primary p → (k ≡ l → ⊥) → rejected 76 p ≡ trading_status_on l x p
    unfolding trading_status_on status_code
    status-elsewhere k e n = rw (← e, ne_eqb k l n)

    module _ (k : ℕ) (e : k ≡ page_primary p) (f : k ≡ l) where
      pub status-bad : member statuses x ≡ false → rejected 77 p ≡ trading_status_on l x p
      unfolding trading_status_on status_code
      status-bad b = rw (← e, eq-eqb k l f, b)

      pub status-taken : (p' : List ℕ) (r : Updated) → member statuses x ≡ true → p' ≡ splice p status_at (be_bytes 1 x) → r ≡ flagged 0 p' (refreshed p') → r ≡ trading_status_on l x p
      unfolding trading_status_on status_code status_on put_status
      status-taken p' r b d g =
          g ∙ ap (λ (z : List ℕ). flagged 0 z (refreshed z)) d
          ∙ flagged-from 0 p (splice p status_at (be_bytes 1 x)) (refreshed (splice p status_at (be_bytes 1 x))) (entries-stand p status_at (be_bytes 1 x) w (omega arith) (omega arith))
          ∙ rw (← e, eq-eqb k l f, b)
