use Rattle.std.proofs.Common.{◌≡◌, ◌-◌, ◌≤◌, length}
use Rattle.update.specs.Parts.{emptied}
use Rattle.opening.specs.Opening.{each_page}
use Rattle.opening.proofs.empty_pages.Given as goal

abbrev pub invariant-loop-k : goal.invariant-loop-k
invariant-loop-k l = (each_page emptied l.k (l.n - l.k) l.book ≡ each_page emptied 0 l.n l.initial.book) × ((l.k ≤ l.n) × (length l.book ≡ length l.initial.book))
