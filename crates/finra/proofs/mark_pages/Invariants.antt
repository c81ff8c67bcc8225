use Prim.Native.Nat.{◌-◌}
use Rattle.update.specs.Parts.{finra_on}
use Rattle.opening.specs.Opening.{each_page}
use Rattle.finra.proofs.FinraLaws.{Marking, Joined}
use Rattle.finra.proofs.mark_pages.Given as goal

abbrev pub invariant-loop-k : goal.invariant-loop-k
invariant-loop-k l = Marking l.condition l.to l.initial.book (each_page (finra_on l.condition) l.from (l.to - l.from) l.initial.book) l.book l.k × Joined l.condition l.to l.initial.book l.from l.flags l.k
