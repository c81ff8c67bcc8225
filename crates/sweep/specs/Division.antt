-- Divisions of an order over the candidates, and what an order costs or brings (document 02, T-13): "No other division over the same candidates, none
-- beyond its shown size, that fills as many lots costs less to buy or brings more to sell."
-- Assumes nothing.
use Rattle.std.specs.Prelude.{ℕ, zero, suc, ◌+◌, ◌*◌, ◌≤◌, List, [], ◌∷◌, drop}
use Rattle.field.specs.Field.{field}
use Rattle.ranking.specs.declared.Side.{Side}
use Rattle.ranking.specs.declared.Side.TheVariants.{Bid, Offer}
use Rattle.ranking.specs.declared.Candidate.{Candidate}
use Rattle.sweep.specs.Sweep.{Step, step_length}

-- what the steps cost to buy or bring to sell: the exact sum of price times lots
unfoldable pub worth : List Step → ℕ
worth [] = 0
worth (x ∷ xs) = x.lots * x.price + worth xs

-- a division t has so many lots from each candidate; a sum over them
unfoldable pub total : (Candidate → ℕ) → List Candidate → ℕ
total f [] = 0
total f (c ∷ cs) = f c + total f cs

abbrev pub shown : List Candidate → ℕ
shown cs = total (λ c. c.size) cs

abbrev pub worth_of : (Candidate → ℕ) → List Candidate → ℕ
worth_of t cs = total (λ c. t c * c.price) cs

-- "none beyond its shown size"
abbrev pub Within : (Candidate → ℕ) → List Candidate → Type 0
Within t [] = Unit {0}
Within t (c ∷ cs) = (t c ≤ c.size) × Within t cs

-- an order at the offers buys: a costs no more than b; at the bids it sells: a brings no less
abbrev pub NoWorse : Side → ℕ → ℕ → Type 0
NoWorse Bid a b = b ≤ a
NoWorse Offer a b = a ≤ b

-- ---- n steps as their bytes say them

abbrev pub step_in : List ℕ → Step
step_in b = record { letter = field b 0 1; price = field b 1 8; lots = field b 9 4 }

unfoldable pub steps_in : ℕ → List ℕ → List Step
steps_in zero b = []
steps_in (suc n) b = step_in b ∷ steps_in n (drop step_length b)
