-- A log replayed on a book.
-- Assumes nothing.
use Rattle.std.specs.Prelude.{ℕ, zero, suc, ◌+◌, ◌-◌, Bool, true, false, cond, List, [], ◌∷◌, ltb, length, Option, None, Some}
use Rattle.field.specs.Field.{splice}
use Rattle.logform.specs.Log.{check_length, entry_at, arguments_of}
use Rattle.logform.specs.declared.Place.{Place}
use Rattle.logform.specs.declared.Entry.{Entry}
use Rattle.logform.specs.declared.Entry.TheVariants.{End, Cut, Damaged, Record}
use Rattle.calls.specs.Call.{Call, Answer, call, answers, bytes_after}
use Rattle.logcalls.specs.Kinds.{call_of}
use Rattle.logcalls.specs.Answers.{answer_bytes, answers_bytes, answer_most}

-- ---- one record's call: the book's bytes, the output from its start, the bytes written; nothing for what is no call

pub record Ran : Type 0 where
  pub known : Bool
  pub length : ℕ
  pub bytes : List ℕ
  pub output : List ℕ

abbrev pub ran_call : List ℕ → List ℕ → Option Call → Ran
ran_call b out None = record { known = false; length = 0; bytes = b; output = out }
ran_call b out (Some c) =
    record {
      known = true;
      length = length (answer_bytes (call b c).answer);
      bytes = (call b c).bytes;
      output = splice out 0 (answer_bytes (call b c).answer);
    }

-- ---- the calls in a log

-- what a record gives: a call and where the next record begins, or the number that the log stops with
pub data Next : Type 0 where
  stops : ℕ → Next
  calls : Call → ℕ → Next

abbrev pub next_by : ℕ → Option Call → Next
next_by n None = stops 92
next_by n (Some c) = calls c n

-- 0: the end; 91: the log ends inside a record; 92: a damaged record, or one that is no call
abbrev pub next_in : List ℕ → Entry → Next
next_in log End = stops 0
next_in log Cut = stops 91
next_in log Damaged = stops 92
next_in log (Record p) = next_by (p.stop + check_length) (call_of p.kind (arguments_of log p))

unfoldable pub next_at : List ℕ → ℕ → Next
next_at log at = next_in log (entry_at log at)

abbrev pub calls_by : (ℕ → List Call) → Next → List Call
calls_by rest (stops n) = []
calls_by rest (calls c at) = c ∷ rest at

-- the first k calls from a place on
unfoldable pub calls_from : ℕ → List ℕ → ℕ → List Call
calls_from zero log at = []
calls_from (suc k) log at = calls_by (calls_from k log) (next_at log at)

-- all of them: a record has more than one byte
abbrev pub calls_in : List ℕ → ℕ → List Call
calls_in log at = calls_from (length log) log at

abbrev pub place_by : (ℕ → ℕ) → ℕ → Next → ℕ
place_by rest at (stops n) = at
place_by rest at (calls c next) = rest next

-- the place behind the first k records
unfoldable pub place_after : ℕ → List ℕ → ℕ → ℕ
place_after zero log at = at
place_after (suc k) log at = place_by (place_after k log) at (next_at log at)

-- 93: no room for one more answer
abbrev pub number_by : Next → ℕ
number_by (stops n) = n
number_by (calls c at) = 93

-- ---- one step: the record at a place, its answer written from the output's start

pub record Stepped : Type 0 where
  -- whether a call was carried out; if not, the number it stops with
  pub going : Bool
  pub number : ℕ
  -- where the next record begins, and the bytes of the answer
  pub place : ℕ
  pub length : ℕ
  pub bytes : List ℕ
  pub output : List ℕ

-- nothing is changed
abbrev pub stopped : ℕ → ℕ → List ℕ → List ℕ → Stepped
stopped n at b out = record { going = false; number = n; place = at; length = 0; bytes = b; output = out }

abbrev pub went : ℕ → Ran → Stepped
went next r = record { going = true; number = 0; place = next; length = r.length; bytes = r.bytes; output = r.output }

abbrev pub stepped_by : List ℕ → ℕ → List ℕ → Next → Stepped
stepped_by b at out (stops n) = stopped n at b out
stepped_by b at out (calls c next) = cond (ltb (length out) answer_most) (stopped 93 at b out) (went next (ran_call b out (Some c)))

unfoldable pub stepped : List ℕ → List ℕ → ℕ → List ℕ → Stepped
stepped b log at out = stepped_by b at out (next_at log at)

-- ---- a log replayed

-- the calls whose answers the output has room for, from its place w on; n: its length
unfoldable pub fitting : ℕ → ℕ → List ℕ → List Call → List Call
fitting n w b [] = []
fitting n w b (c ∷ cs) =
    cond (ltb (n - w) answer_most) [] (c ∷ fitting n (w + length (answer_bytes (call b c).answer)) (call b c).bytes cs)

pub record Replayed : Type 0 where
  pub number : ℕ
  -- where it stopped in the log, and how many bytes of the output were written
  pub place : ℕ
  pub written : ℕ
  pub bytes : List ℕ
  pub output : List ℕ

-- cs: the calls that were run
abbrev pub replayed_by : List ℕ → List ℕ → ℕ → List ℕ → ℕ → List Call → Replayed
replayed_by b log at out w cs =
    record {
      number = number_by (next_at log (place_after (length cs) log at));
      place = place_after (length cs) log at;
      written = w + length (answers_bytes (answers b cs));
      bytes = bytes_after b cs;
      output = splice out w (answers_bytes (answers b cs));
    }

-- b: the book; the log, and where to begin in it; the output
unfoldable pub replayed : List ℕ → List ℕ → ℕ → List ℕ → Replayed
replayed b log at out = replayed_by b log at out 0 (fitting (length out) 0 b (calls_in log at))
