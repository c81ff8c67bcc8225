-- The time of a side, from the history alone (document 02, T-02): "a side's time is that of the first quote of its latest run with one price and sizes
-- that don't rise". Lists of quotes and runs have the newest first, as the history has.
-- Assumes nothing.
use Rattle.std.specs.Prelude.{ℕ, Bool, not, ◌&&◌, cond, List, [], ◌∷◌, map, eqb, ltb, Option, None, Some}
use Rattle.ranking.specs.declared.Side.{Side}
use Rattle.quote.specs.declared.Level.{Level}
use Rattle.quote.specs.declared.Quote.{Quote}
use Rattle.quote.specs.Quote.{side_of, with_times}

-- a quote's side and the one that follows it: one price, and a size that doesn't rise
abbrev pub goes_on : Level → Level → Bool
goes_on first next = eqb next.price first.price && not (ltb first.size next.size)

-- the time of a run's first quote, the last of the list
unfoldable pub first_time : List Level → ℕ
first_time [] = 0
first_time (x ∷ []) = x.time
first_time (x ∷ y ∷ ys) = first_time (y ∷ ys)

-- the latest run of a side's quotes
unfoldable pub latest_run : List Level → List Level
latest_run [] = []
latest_run (x ∷ []) = x ∷ []
latest_run (x ∷ y ∷ ys) = x ∷ cond (goes_on y x) (latest_run (y ∷ ys)) []

abbrev pub run_time : List Quote → Side → ℕ
run_time qs s = first_time (latest_run (map (side_of s) qs))

-- the newest of these quotes, each side with its time
abbrev pub latest : List Quote → Option Quote
latest [] = None
latest (q ∷ qs) = Some (with_times (run_time (q ∷ qs)) q)
