-- The answer of the walk: the six entries, none as price 0; a national one with what put it ahead.
-- Assumes nothing.
use Rattle.ranking.specs.Held.{or_none, both_sides, lead_of}
use Rattle.entries.specs.Entries.{Entries}
use Rattle.walk.specs.declared.BestEntries.{BestEntries}

unfoldable pub bests_of : Entries → BestEntries
bests_of e =
    record {
      national = both_sides (λ s. lead_of (e.national s) (e.reason s));
      finra = both_sides (λ s. or_none (e.finra s));
      odd = both_sides (λ s. or_none (e.odd s));
    }
