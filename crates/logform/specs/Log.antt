-- The form of a log of calls (docs/LOG.md): a head of 16 bytes, then records, each behind the last.
-- Head: 0-7 mark, 8 version, 9 the book's n, 10-11 a bit for each request that the calls follow (bit 0: T-01), 12-15 check of the bytes before it.
-- Record: 0-3 its length, 4 kind of call, 5-12 arrival time, from 13 on the arguments, the last four bytes check those before them.
-- Assumes nothing.
use Rattle.std.specs.Prelude.{ℕ, ◌+◌, ◌*◌, ◌-◌, ◌%◌, Bool, ◌&&◌, cond, List, [], ◌∷◌, eqb, leb, ltb, length, Result, Ok, Err}
use Rattle.field.specs.Field.{be, part, field}
use Rattle.numbers.specs.declared.Refusal.{Refusal}
use Rattle.numbers.specs.Numbers.{number_of}
use Rattle.logform.specs.declared.Head.{Head}
use Rattle.logform.specs.declared.Place.{Place}
use Rattle.logform.specs.declared.Entry.{Entry}
use Rattle.logform.specs.declared.Entry.TheVariants.{End, Cut, Damaged, Record}

-- ---- the check: a polynomial modulo 2^32, so that no altered byte passes; four bytes at a time as one number, the last ones singly

unfoldable pub mixed : ℕ → ℕ → ℕ
mixed h x = (h * 16777619 + x) % 4294967296

unfoldable pub check_from : ℕ → List ℕ → ℕ
check_from h [] = h
check_from h (a ∷ []) = mixed h a
check_from h (a ∷ b ∷ []) = mixed (mixed h a) b
check_from h (a ∷ b ∷ c ∷ []) = mixed (mixed (mixed h a) b) c
check_from h (a ∷ b ∷ c ∷ d ∷ s) = check_from (mixed h (be (a ∷ b ∷ c ∷ d ∷ []))) s

unfoldable pub check_of : List ℕ → ℕ
check_of s = check_from 2166136261 s

-- ---- the head

abbrev pub head_length : ℕ
head_length = 16

-- "QBOOKLOG"
abbrev pub log_mark : ℕ
log_mark = 5855329667519369031

abbrev pub log_version : ℕ
log_version = 1

unfoldable pub is_head : List ℕ → Bool
is_head log =
    leb head_length (length log) && (eqb (field log 0 8) log_mark && (eqb (field log 8 1) log_version && eqb (check_of (part log 0 12)) (field log 12 4)))

pub record Told : Type 0 where
  pub number : ℕ
  pub n : ℕ
  pub requests : ℕ

-- what `read_head` gives
abbrev pub told : Result Head Refusal → Told
told (Ok h) = record { number = 0; n = h.n; requests = h.requests }
told (Err r) = record { number = number_of r; n = 0; requests = 0 }

-- what a head tells: 0, the book's n and the requests; 90 and nothing of a log that does not begin with one
abbrev pub head_of : List ℕ → Told
head_of log = cond (is_head log) (record { number = 0; n = field log 9 1; requests = field log 10 2 }) (record { number = 90; n = 0; requests = 0 })

-- ---- a record

-- its length, kind and time; the check
abbrev pub before_length : ℕ
before_length = 13

abbrev pub check_length : ℕ
check_length = 4

abbrev pub record_shortest : ℕ
record_shortest = before_length + check_length

-- len: the length that the record tells
abbrev pub entry_by : List ℕ → ℕ → ℕ → Entry
entry_by log at len =
    cond (ltb len record_shortest) Damaged
    (cond (ltb (length log - at) len) Cut
    (cond (eqb (check_of (part log at (len - check_length))) (field log (at + len - check_length) check_length))
    (Record (record { kind = field log (at + 4) 1; start = at + before_length; stop = at + len - check_length }))
    Damaged))

-- what stands at a place of the log
unfoldable pub entry_at : List ℕ → ℕ → Entry
entry_at log at =
    cond (leb (length log) at) End
    (cond (ltb (length log - at) record_shortest) Cut
    (entry_by log at (field log at 4)))

-- the arguments of a record
abbrev pub arguments_of : List ℕ → Place → List ℕ
arguments_of log p = part log p.start (p.stop - p.start)
