-- As `lead_from` and `best_from` of Choice, where only the candidates that m names are looked at; and whether any other than one counts.
-- proofs/ChosenLaws.antt: when this finds what a walk over all finds.
-- Assumes nothing.
use Rattle.std.specs.Prelude.{ℕ, zero, suc, ◌+◌, Bool, true, false, cond, ◌==◌}
use Rattle.lists.specs.Lists.{is_some}
use Rattle.ranking.specs.declared.Side.{Side}
use Rattle.ranking.specs.declared.Candidate.{Candidate}
use Rattle.ranking.specs.declared.Lead.{Lead}
use Rattle.ranking.specs.code.Choice.{live, choose, lead_with}

-- the best of b and those of the k candidates from the i-th on that m names
unfoldable pub best_chosen : Side → (ℕ → Candidate) → (ℕ → Bool) → ℕ → ℕ → Candidate → Candidate
best_chosen s c m i zero b = b
best_chosen s c m i (suc k) b = best_chosen s c m (i + 1) k (cond (m i) (choose s b (c i)) b)

-- the leader of l and those of the k candidates from the i-th on that m names
unfoldable pub lead_chosen : Side → (ℕ → Candidate) → (ℕ → Bool) → ℕ → ℕ → Lead → Lead
lead_chosen s c m i zero l = l
lead_chosen s c m i (suc k) l = lead_chosen s c m (i + 1) k (cond (m i) (lead_with s l (c i)) l)

-- whether one of the k candidates from the i-th on counts, other than the n-th
unfoldable pub any_other : (ℕ → Candidate) → ℕ → ℕ → ℕ → Bool
any_other c n i zero = false
any_other c n i (suc k) = cond (i == n) (any_other c n (i + 1) k) (cond (is_some (live (c i))) true (any_other c n (i + 1) k))
