-- A candidate or none as the code holds it, what put the best ahead, and both sides together.
-- Assumes nothing.
use Rattle.std.specs.Prelude.{ℕ, Option, None, Some}
use Rattle.ranking.specs.declared.Side.{Side}
use Rattle.ranking.specs.declared.Side.TheVariants.{Bid, Offer}
use Rattle.ranking.specs.declared.Candidate.{Candidate}
use Rattle.ranking.specs.declared.Sides.{Sides}
use Rattle.ranking.specs.declared.Reason.{Reason}
use Rattle.ranking.specs.declared.Reason.TheVariants.{Price, Size, Time, Name}
use Rattle.ranking.specs.declared.Lead.{Lead}

abbrev pub no_candidate : Candidate
no_candidate = record { name = 0; price = 0; size = 0; time = 0; condition = 0 }

-- a candidate or none, with none as price 0
abbrev pub or_none : Option Candidate → Candidate
or_none None = no_candidate
or_none (Some c) = c

abbrev pub of_side : {T : Type 0} → Side → Sides T → T
of_side Bid t = t.bid
of_side Offer t = t.offer

abbrev pub both_sides : {T : Type 0} → (Side → T) → Sides T
both_sides f = record { bid = f Bid; offer = f Offer }

abbrev pub no_sides : Sides Candidate
no_sides = record { bid = no_candidate; offer = no_candidate }

-- ---- a leader, and what put it ahead

-- how late a comparison was decided: by price, size, time, name
abbrev pub lateness : Reason → ℕ
lateness Price = 1
lateness Size = 2
lateness Time = 3
lateness Name = 4

-- what put a leader ahead, 0 where there is no second
abbrev pub decided_at : Option Reason → ℕ
decided_at None = 0
decided_at (Some r) = lateness r

-- a leader or none, and what put it ahead
abbrev pub lead_of : Option Candidate → Option Reason → Lead
lead_of o r = record { best = or_none o; decided = decided_at r }

abbrev pub no_lead : Lead
no_lead = record { best = no_candidate; decided = 0 }

abbrev pub no_leads : Sides Lead
no_leads = record { bid = no_lead; offer = no_lead }
