-- The best so far and one candidate more, as a loop finds it: price 0 is none, and a rank makes both sides alike. A leader carries what put it ahead.
-- proofs/Bridge.antt: this is `best` of the list of those that count, proofs/LeadLaws.antt: and `why_ahead` of it.
-- Assumes nothing.
use Rattle.std.specs.Prelude.{ℕ, zero, suc, ◌+◌, ◌-◌, Bool, false, cond, ◌==◌, nat_lt, Option, None, Some}
use Rattle.ranking.specs.declared.Side.{Side}
use Rattle.ranking.specs.declared.Side.TheVariants.{Bid, Offer}
use Rattle.ranking.specs.declared.Candidate.{Candidate}
use Rattle.ranking.specs.declared.Sides.{Sides}
use Rattle.ranking.specs.declared.Reason.{Reason}
use Rattle.ranking.specs.declared.Reason.TheVariants.{Price, Size, Time, Name}
use Rattle.ranking.specs.declared.Compared.{Compared}
use Rattle.ranking.specs.declared.Lead.{Lead}
use Rattle.ranking.specs.Ranking.{decide}
use Rattle.ranking.specs.Held.{no_candidate, lateness}

-- the rank of a price: none is 0; of bids the higher price ranks higher, of offers the lower
unfoldable pub rank_of : Side → ℕ → ℕ
rank_of Bid p = p
rank_of Offer p = cond (p == 0) 0 (18446744073709551616 - p)

-- and back, where price 0 or size 0 does not count
unfoldable pub live : Candidate → Option Candidate
live c = cond (c.price == 0) None (cond (c.size == 0) None (Some c))

-- ---- the comparison, by ranks

-- the larger of a and b decides; where they are equal, what follows does
abbrev pub larger : Reason → ℕ → ℕ → Compared → Compared
larger r a b next = decide r (nat_lt b a) (nat_lt a b) next

-- larger size, earlier time, lower name
unfoldable pub by_rest : Candidate → Candidate → Compared
by_rest x b = larger Size x.size b.size (larger Time b.time x.time (record { ahead = nat_lt x.name b.name; by = Name }))

unfoldable pub by_rank : Side → Candidate → Candidate → Compared
by_rank s x b = larger Price (rank_of s x.price) (rank_of s b.price) (by_rest x b)

-- ---- the best so far

-- whether x goes before b: x counts, and is ahead
unfoldable pub beats : Side → Candidate → Candidate → Bool
beats s x b = cond (x.price == 0) false (cond (x.size == 0) false (by_rank s x b).ahead)

unfoldable pub choose : Side → Candidate → Candidate → Candidate
choose s b x = cond (beats s x b) x b

-- the best of b and the k candidates from the i-th on
unfoldable pub best_from : Side → (ℕ → Candidate) → ℕ → ℕ → Candidate → Candidate
best_from s c i zero b = b
best_from s c i (suc k) b = best_from s c (i + 1) k (choose s b (c i))

-- x, if it is priced beyond the national best
unfoldable pub beyond_of : Side → Candidate → Candidate → Candidate
beyond_of s nat x = cond (nat_lt (rank_of s nat.price) (rank_of s x.price)) x no_candidate

-- ---- the leader so far

abbrev pub later : ℕ → ℕ → ℕ
later a b = cond (nat_lt a b) b a

-- x beside the leader: a new leader is ahead by its comparison with the old one; of the losers' comparisons the latest counts
unfoldable pub lead_by : Compared → Lead → Candidate → Lead
lead_by c l x = cond c.ahead (record { best = x; decided = lateness c.by }) (record { best = l.best; decided = later l.decided (lateness c.by) })

-- x counts; the first that does is alone
unfoldable pub lead_with : Side → Lead → Candidate → Lead
lead_with s l x =
    cond (x.price == 0) l
    (cond (x.size == 0) l
    (cond (l.best.price == 0) (record { best = x; decided = 0 }) (lead_by (by_rank s x l.best) l x)))

-- the leader of l and the k candidates from the i-th on
unfoldable pub lead_from : Side → (ℕ → Candidate) → ℕ → ℕ → Lead → Lead
lead_from s c i zero l = l
lead_from s c i (suc k) l = lead_from s c (i + 1) k (lead_with s l (c i))

-- ---- both sides

unfoldable pub sides_from : (Side → ℕ → Candidate) → ℕ → ℕ → Sides Candidate → Sides Candidate
sides_from c i k t = record { bid = best_from Bid (c Bid) i k t.bid; offer = best_from Offer (c Offer) i k t.offer }

unfoldable pub step_sides : (Side → ℕ → Candidate) → ℕ → Sides Candidate → Sides Candidate
step_sides c i t = record { bid = choose Bid t.bid (c Bid i); offer = choose Offer t.offer (c Offer i) }

unfoldable pub leads_from : (Side → ℕ → Candidate) → ℕ → ℕ → Sides Lead → Sides Lead
leads_from c i k t = record { bid = lead_from Bid (c Bid) i k t.bid; offer = lead_from Offer (c Offer) i k t.offer }

unfoldable pub step_leads : (Side → ℕ → Candidate) → ℕ → Sides Lead → Sides Lead
step_leads c i t = record { bid = lead_with Bid t.bid (c Bid i); offer = lead_with Offer t.offer (c Offer i) }
