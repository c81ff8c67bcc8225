-- Which of two candidates is better and what decided it, the best of a list and what put it ahead (document 01, "Best entries"; document 02, T-08).
-- Assumes nothing.
use Rattle.std.specs.Prelude.{ℕ, Bool, true, false, cond, List, [], ◌∷◌, ◌==◌, nat_lt, Option, None, Some}
use Rattle.lists.specs.Lists.{map_option, bind_option, collect}
use Rattle.ranking.specs.declared.Side.{Side}
use Rattle.ranking.specs.declared.Side.TheVariants.{Bid, Offer}
use Rattle.ranking.specs.declared.Candidate.{Candidate}
use Rattle.ranking.specs.declared.Reason.{Reason}
use Rattle.ranking.specs.declared.Reason.TheVariants.{Price, Size, Time, Name}
use Rattle.ranking.specs.declared.Compared.{Compared}

-- the first price is better: the higher bid, the lower offer
abbrev pub ahead : Side → ℕ → ℕ → Bool
ahead Bid p q = nat_lt q p
ahead Offer p q = nat_lt p q

-- ---- an order made of steps

-- a step: its rule, and what it is called
pub record Step (A : Type 0) : Type 0 where
  pub by : Reason
  pub rule : A → A → Bool

-- a step decides where its rule sees a difference; where it sees none, what follows does
abbrev pub decide : Reason → Bool → Bool → Compared → Compared
decide r true y z = record { ahead = true; by = r }
decide r false true z = record { ahead = false; by = r }
decide r false false z = z

-- the comparison of two by these steps: the first that sees a difference decides, else the last
unfoldable pub compared_by : {A : Type 0} → Step A → List (Step A) → A → A → Compared
compared_by p [] a b = record { ahead = p.rule a b; by = p.by }
compared_by p (q ∷ qs) a b = decide p.by (p.rule a b) (p.rule b a) (compared_by q qs a b)

-- by a number: the lower is better; the higher is better
unfoldable pub lower : {A : Type 0} → (A → ℕ) → A → A → Bool
lower k a b = nat_lt (k a) (k b)

unfoldable pub higher : {A : Type 0} → (A → ℕ) → A → A → Bool
higher k a b = nat_lt (k b) (k a)

-- ---- candidates

unfoldable pub by_price : Side → Candidate → Candidate → Bool
by_price s a b = ahead s a.price b.price

abbrev pub by_size : Candidate → Candidate → Bool
by_size = higher (λ (c : Candidate). c.size)

abbrev pub by_time : Candidate → Candidate → Bool
by_time = lower (λ (c : Candidate). c.time)

abbrev pub by_name : Candidate → Candidate → Bool
by_name = lower (λ (c : Candidate). c.name)

abbrev pub pricing : Side → Step Candidate
pricing s = record { by = Price; rule = by_price s }

abbrev pub sizing : Step Candidate
sizing = record { by = Size; rule = by_size }

abbrev pub timing : Step Candidate
timing = record { by = Time; rule = by_time }

abbrev pub naming : Step Candidate
naming = record { by = Name; rule = by_name }

-- "highest bid or lowest offer, then larger size, earlier time, lower maker name"; letters likewise. "The comparison of two candidates now tells which of
-- the four decided"
unfoldable pub compared : Side → Candidate → Candidate → Compared
compared s = compared_by (pricing s) (sizing ∷ timing ∷ naming ∷ [])

-- "all who compare take that answer"
unfoldable pub better : Side → Candidate → Candidate → Bool
better s a b = (compared s a b).ahead

-- ---- the best of a list

module _ {A : Type 0} (R : A → A → Bool) where
  -- the better of one and the best of the others
  abbrev pub pick : A → Option A → A
  pick x None = x
  pick x (Some y) = cond (R y x) y x

  -- the best of a list, none if it is empty
  abbrev pub best : List A → Option A
  best [] = None
  best (x ∷ xs) = Some (pick x (best xs))

-- the candidates of a list under another name than b
abbrev pub others : Candidate → List Candidate → List Candidate
others b xs = collect (λ c. cond (c.name == b.name) None (Some c)) xs

-- "the second best": the best of the others
abbrev pub second : Side → List Candidate → Candidate → Option Candidate
second s xs b = best (better s) (others b xs)

-- what put the best of a list ahead, "by the comparison with the second best"; none if there is no second
unfoldable pub why_ahead : Side → List Candidate → Option Reason
why_ahead s xs = bind_option (best (better s) xs) (λ b. map_option (λ c. (compared s b c).by) (second s xs b))
