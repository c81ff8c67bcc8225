-- What the code that writes a run relies on, and how it goes through a venue's block.
-- Assumes nothing.
use Rattle.std.specs.Prelude.{ℕ, zero, suc, ◌+◌, Bool, true, cond, ◌&&◌, List, [], ◌∷◌, map, nat_le}
use Rattle.field.specs.Field.{part, field}
use Rattle.lists.specs.Lists.{at}
use Rattle.block.specs.Block.{block_longest, offset_at}
use Rattle.venue.specs.Venue.{lies_at, venue_from}
use Rattle.venuequote.specs.Quote.{converted, converted_length}
use Rattle.venuequote.specs.code.Ready.{ready}
use Rattle.venuerun.specs.declared.Fill.{Fill}
use Rattle.venuerun.specs.declared.Fit.{Fit}
use Rattle.venuerun.specs.Run.{with_one}

-- k whole messages stand from p on, and each can be converted
unfoldable pub stands : List ℕ → ℕ → ℕ → Bool
stands b p zero = true
stands b p (suc k) = lies_at b p && (ready (part b p (field b p 2)) && stands b (p + field b p 2) k)

-- their lengths in our form
abbrev pub lengths_from : List ℕ → ℕ → ℕ → List ℕ
lengths_from b p k = map converted_length (venue_from b p k)

-- messages in our form, message j with lot i + j
unfoldable pub converted_from : List ℕ → ℕ → List (List ℕ) → List (List ℕ)
converted_from lots i [] = []
converted_from lots i (m ∷ ms) = converted (at lots i) m ∷ converted_from lots (i + 1) ms

-- one message more, of n bytes
unfoldable pub filled_with : Fill → ℕ → Fill
filled_with f n =
    cond (nat_le (with_one f.used n) block_longest)
    (record { used = with_one f.used n; closed = f.closed })
    (record { used = with_one (offset_at 0) n; closed = f.closed + f.used })

-- how many messages go into the block that is being filled, and its length then
unfoldable pub fit_count : ℕ → List ℕ → ℕ
fit_count used [] = 0
fit_count used (n ∷ ns) = cond (nat_le (with_one used n) block_longest) (suc (fit_count (with_one used n) ns)) 0

unfoldable pub fit_used : ℕ → List ℕ → ℕ
fit_used used [] = used
fit_used used (n ∷ ns) = cond (nat_le (with_one used n) block_longest) (fit_used (with_one used n) ns) used

-- where the message behind k messages from p on starts
unfoldable pub place_of : List ℕ → ℕ → ℕ → ℕ
place_of b p zero = p
place_of b p (suc k) = place_of b (p + field b p 2) k

-- the first block of k messages from p on
unfoldable pub fit_of : List ℕ → ℕ → ℕ → Fit
fit_of b p k =
    record {
      count = fit_count (offset_at 0) (lengths_from b p k);
      len = fit_used (offset_at 0) (lengths_from b p k);
      next = place_of b p (fit_count (offset_at 0) (lengths_from b p k));
    }
