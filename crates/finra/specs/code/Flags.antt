-- The flags of FINRA Close and Open over a book's pages, as the code joins them.
-- Assumes nothing.
use Rattle.std.specs.Prelude.{ℕ, zero, suc, ◌+◌, List}
use Rattle.std.specs.Int.Bits.{bit_or}
use Rattle.entries.specs.Publication.{change_flags}
use Rattle.page.specs.Layout.{kept_entries}
use Rattle.update.specs.Parts.{finra_on}
use Rattle.opening.specs.Opening.{count_of, page_at}

-- the k numbers from i on, together
unfoldable pub or_from : (ℕ → ℕ) → ℕ → ℕ → ℕ
or_from f i zero = 0
or_from f i (suc k) = bit_or (f i) (or_from f (i + 1) k)

-- the flags of page k
abbrev pub page_flags : ℕ → List ℕ → ℕ → ℕ
page_flags c b k = change_flags (kept_entries (page_at b k)) (kept_entries (finra_on c (page_at b k)))

-- of all counted pages
abbrev pub finra_flags : ℕ → List ℕ → ℕ
finra_flags c b = or_from (page_flags c b) 0 (count_of b)
