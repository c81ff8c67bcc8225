-- Trying an order (document 02, T-13): its steps, and their bytes.
-- Assumes nothing.
use Rattle.std.specs.Prelude.{ℕ, zero, suc, ◌+◌, ◌*◌, ◌-◌, cond, List, [], ◌∷◌, ◌++◌, eqb, leb, Option, None, Some}
use Rattle.field.specs.Field.{be_bytes}
use Rattle.lists.specs.Lists.{collect}
use Rattle.ranking.specs.declared.Side.{Side}
use Rattle.ranking.specs.declared.Candidate.{Candidate}
use Rattle.ranking.specs.Ranking.{better, best}
use Rattle.entries.specs.Entries.{letters}

-- a step: so many lots from a letter, at its price
pub record Step : Type 0 where
  pub letter : ℕ
  pub price : ℕ
  pub lots : ℕ

-- "as many lots as are wanted and shown"
abbrev pub least : ℕ → ℕ → ℕ
least wanted shown = cond (leb wanted shown) wanted shown

abbrev pub step_on : ℕ → Candidate → Step
step_on w c = record { letter = c.name; price = c.price; lots = least w c.size }

-- "not yet used": all but the one of that name
unfoldable pub without : ℕ → List Candidate → List Candidate
without n [] = []
without n (c ∷ cs) = cond (eqb c.name n) (without n cs) (c ∷ without n cs)

-- a step on the best, then what comes next without it
abbrev pub play_by : ℕ → List Candidate → (ℕ → List Candidate → List Step) → Option Candidate → List Step
play_by w cs next None = []
play_by w cs next (Some c) = step_on w c ∷ next (w - least w c.size) (without c.name cs)

-- "each step takes from the best candidate not yet used, in national order, .. until none are wanted"; k steps at most
unfoldable pub play : Side → ℕ → ℕ → List Candidate → List Step
play s zero w cs = []
play s (suc k) w cs = cond (eqb w 0) [] (play_by w cs (play s k) (best (better s) cs))

-- "The result lists the steps, at most 25"
abbrev pub steps_most : ℕ
steps_most = 25

-- the national candidates of a side, A to Z
abbrev pub listed : (ℕ → Option Candidate) → List Candidate
listed c = collect c letters

-- an order of w lots, at the national candidates of a side by letter
unfoldable pub swept : Side → ℕ → (ℕ → Option Candidate) → List Step
swept s w c = play s steps_most w (listed c)

-- the lots that the steps fill; "the lots not found" are the others
unfoldable pub filled : List Step → ℕ
filled [] = 0
filled (x ∷ xs) = x.lots + filled xs

-- ---- "each of 13 bytes (letter 1, price 8, lots 4)"

abbrev pub step_length : ℕ
step_length = 13

-- 83: "output under 325 bytes"
abbrev pub steps_length : ℕ
steps_length = steps_most * step_length

unfoldable pub step_bytes : Step → List ℕ
step_bytes x = be_bytes 1 x.letter ++ be_bytes 8 x.price ++ be_bytes 4 x.lots

unfoldable pub steps_bytes : List Step → List ℕ
steps_bytes [] = []
steps_bytes (x ∷ xs) = step_bytes x ++ steps_bytes xs
