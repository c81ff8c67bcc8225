-- Round the walk: a halted page publishes none, wherever it is cut (T-10); a page that trades publishes what the walk gives.
-- Assumes nothing.
use Prim.Native.Nat.{ℕ, ◌≤◌}
use mathlib.Core.Path.{◌≡◌, ◌∙◌}
use mathlib.Core.Bool.{Bool, true, false, cond}
use mathlib.Core.List.{List}
use lib.ListN.{length}
use Rattle.field.specs.Field.{Bytes}
use Rattle.field.specs.Ascii.{A, Z}
use Rattle.ranking.specs.Held.{no_sides, no_leads}
use Rattle.entries.specs.Entries.{no_best, unless_halted}
use Rattle.page.specs.Layout.{page_length}
use Rattle.page.specs.Page.{page_entries, halted_in, published_entries}
use Rattle.page.specs.Cut.{cut}
use Rattle.page.proofs.CutLaws.{cut-halted}
use Rattle.walk.specs.declared.BestEntries.{BestEntries}
use Rattle.walk.specs.Bests.{bests_of}
use Rattle.walk.proofs.WalkLaws.{SixCount, six-count}

module _ (p : List ℕ) (w : length p ≡ page_length) (l : ℕ) (lo : A ≤ l) (hi : l ≤ Z) where
  pub halted-behind : halted_in p ≡ true → published_entries (cut l p) ≡ no_best
  unfolding published_entries unless_halted
  halted-behind h = rw (cut-halted p w l lo hi ∙ h)

  pub none-behind : halted_in p ≡ true → record { national = no_leads; finra = no_sides; odd = no_sides } ≡ bests_of (published_entries (cut l p))
  unfolding bests_of
  none-behind h = rw (halted-behind h)

  pub trading-behind : halted_in p ≡ false → (e : BestEntries) → e ≡ bests_of (page_entries (cut l p)) → e ≡ bests_of (published_entries (cut l p))
  unfolding published_entries unless_halted
  trading-behind h e q = rw (cut-halted p w l lo hi ∙ h) q

-- the six that are published are none or count
pub published-count : (p : List ℕ) → Bytes p → SixCount (published_entries p)
unfolding published_entries unless_halted
published-count p b = go (halted_in p)
  where
    go : (t : Bool) → SixCount (cond t no_best (page_entries p))
    go true = record { national = λ s. tt; finra = λ s. tt; odd = λ s. tt }
    go false = six-count p b
