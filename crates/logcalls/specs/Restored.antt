-- A book rebuilt from a log: made for the n of the log's head, then the log's calls carried out.
-- Assumes nothing.
use Rattle.std.specs.Prelude.{ℕ, cond, List, eqb}
use Rattle.logform.specs.Log.{head_length, head_of}
use Rattle.calls.specs.Call.{Outcome, call, make}
use Rattle.logcalls.specs.Replayed.{Replayed, replayed}

-- nothing was carried out
abbrev pub none : ℕ → List ℕ → List ℕ → Replayed
none k b out = record { number = k; place = 0; written = 0; bytes = b; output = out }

abbrev pub restored_by : List ℕ → List ℕ → Outcome → Replayed
restored_by log out o = cond (eqb o.answer.number 0) (replayed o.bytes log head_length out) (none o.answer.number o.bytes out)

-- 90 without a head, then make's number; b: the lent memory
unfoldable pub restored : List ℕ → List ℕ → List ℕ → Replayed
restored b log out = cond (eqb (head_of log).number 0) (restored_by log out (call b (make (head_of log).n))) (none (head_of log).number b out)
