-- The snapshot of a page.
-- Assumes nothing.
use Rattle.std.specs.Prelude.{ℕ, List}
use Rattle.page.specs.Layout.{kept_entries}
use Rattle.page.specs.Page.{quotes_in}
use Rattle.snapshot.specs.Snapshot.{Snapshot, snapshot_of}

abbrev pub page_snapshot : List ℕ → List ℕ → Snapshot
page_snapshot s p = snapshot_of s (kept_entries p) (quotes_in p)
