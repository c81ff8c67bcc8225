-- The published entries as the code holds them, in the words of Publication: for the contracts of its steps.
-- Assumes nothing.
use Rattle.std.specs.Prelude.{ℕ, ◌+◌, Bool, ◌&&◌, cond, List, ◌++◌, eqb, Option, None, Some}
use Rattle.field.specs.Field.{field, be_bytes}
use Rattle.ranking.specs.declared.Candidate.{Candidate}
use Rattle.ranking.specs.declared.Reason.{Reason}
use Rattle.ranking.specs.declared.Reason.TheVariants.{Price, Size, Time, Name}
use Rattle.ranking.specs.Held.{of_side}
use Rattle.publication.specs.declared.Entry.{Entry}
use Rattle.publication.specs.declared.Published.{Published}
use Rattle.walk.specs.declared.BestEntries.{BestEntries}
use Rattle.entries.specs.Entries.{Entries}

-- a candidate, none if its price is 0
unfoldable pub priced : Candidate → Option Candidate
priced c = cond (eqb c.price 0) None (Some c)

-- what put a leader ahead, from the number that it carries
unfoldable pub reason_of : ℕ → Option Reason
reason_of n = cond (eqb n 1) (Some Price) (cond (eqb n 2) (Some Size) (cond (eqb n 3) (Some Time) (cond (eqb n 4) (Some Name) None)))

unfoldable pub as_entries : BestEntries → Entries
as_entries e =
    record {
      national = λ s. priced (of_side s e.national).best;
      reason = λ s. reason_of (of_side s e.national).decided;
      finra = λ s. priced (of_side s e.finra);
      odd = λ s. priced (of_side s e.odd);
    }

unfoldable pub bytes_of : Entry → List ℕ
bytes_of e = be_bytes 4 e.name ++ (be_bytes 8 e.price ++ be_bytes 4 e.size)

unfoldable pub published_bytes : Published → List ℕ
published_bytes p =
    bytes_of p.national.bid
    ++ (bytes_of p.national.offer
    ++ (bytes_of p.finra.bid
    ++ (bytes_of p.finra.offer
    ++ (bytes_of p.odd.bid
    ++ bytes_of p.odd.offer))))

-- whether an entry stands in a page at at: name, price and size
unfoldable pub holds : List ℕ → ℕ → Entry → Bool
holds p at e =
    eqb (field p at 4) (field (bytes_of e) 0 4) && eqb (field p (at + 4) 8) (field (bytes_of e) 4 8) && eqb (field p (at + 12) 4) (field (bytes_of e) 12 4)
