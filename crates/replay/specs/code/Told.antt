-- What a step hands out, as the rules say it.
-- Assumes nothing.
use Rattle.std.specs.Prelude.{ℕ, true, List, Option, Some, None, Result, Ok, Err}
use Rattle.numbers.specs.declared.Refusal.{Refusal}
use Rattle.numbers.specs.Numbers.{number_of}
use Rattle.logcalls.specs.Replayed.{Stepped, stopped}
use Rattle.replay.specs.declared.Stepped as declared

-- the record at a place: a call, the log's end, or what it stops with
abbrev pub stepped_as : ℕ → Result (Option declared.Stepped) Refusal → List ℕ → List ℕ → Stepped
stepped_as at (Ok (Some s)) b out = record { going = true; number = 0; place = s.place; length = s.len; bytes = b; output = out }
stepped_as at (Ok None) b out = stopped 0 at b out
stepped_as at (Err r) b out = stopped (number_of r) at b out
