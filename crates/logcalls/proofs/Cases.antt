-- The calls of a log, by computing: each kind, what is no call, where a replay stops.
-- Assumes nothing.
use Prim.Native.Nat.{ℕ}
use mathlib.Core.Path.{◌≡◌, refl}
use mathlib.Core.Bool.{true, false}
use mathlib.Core.List.{List, [], ◌∷◌, ◌++◌}
use Rattle.std.specs.Prelude.{Option, None, Some}
use lib.ListN.{length, take, drop, set, replicate}
use Rattle.field.specs.Field.{be, be_bytes, part, field, splice}
use Rattle.logform.specs.Log.{mixed, check_from, check_of, is_head, entry_at}
use Rattle.calls.specs.Call.{make, add, open_line, start_day, end_day, read, protected, convert_len, convert, snapshot_len, snapshot, try_order, set_allowance, tick, bare, report}
use Rattle.calls.specs.Call.{make_good, number_on, call}
use Rattle.calls.specs.Call as book
use Rattle.lists.specs.Lists.{same_list}
use Rattle.line.specs.Line.{done}
use Rattle.opening.specs.Opening.{symbols_of, count_of, sound}
use Rattle.told.specs.Told.{quads, tally}
use Rattle.logcalls.specs.Kinds.{call_of}
use Rattle.logcalls.specs.Answers.{words_bytes, answer_bytes, answers_bytes}
use Rattle.logcalls.specs.Replayed.{stops, calls, next_at, calls_from, calls_in, place_after, number_by, stepped, fitting, replayed}
use Rattle.logcalls.specs.Restored.{restored}

-- Start of Day at time 1, End of Day at time 2; a record of kind 200, and Start of Day with an argument: both with a check that is right
abbrev first : List ℕ
first = 0 ∷ 0 ∷ 0 ∷ 17 ∷ 4 ∷ 0 ∷ 0 ∷ 0 ∷ 0 ∷ 0 ∷ 0 ∷ 0 ∷ 1 ∷ 28 ∷ 231 ∷ 221 ∷ 17 ∷ []

abbrev second : List ℕ
second = 0 ∷ 0 ∷ 0 ∷ 17 ∷ 5 ∷ 0 ∷ 0 ∷ 0 ∷ 0 ∷ 0 ∷ 0 ∷ 0 ∷ 2 ∷ 133 ∷ 231 ∷ 221 ∷ 18 ∷ []

abbrev unknown : List ℕ
unknown = 0 ∷ 0 ∷ 0 ∷ 17 ∷ 200 ∷ 0 ∷ 0 ∷ 0 ∷ 0 ∷ 0 ∷ 0 ∷ 0 ∷ 3 ∷ 128 ∷ 231 ∷ 221 ∷ 19 ∷ []

abbrev too_many : List ℕ
too_many = 0 ∷ 0 ∷ 0 ∷ 18 ∷ 4 ∷ 0 ∷ 0 ∷ 0 ∷ 0 ∷ 0 ∷ 0 ∷ 0 ∷ 3 ∷ 1 ∷ 228 ∷ 45 ∷ 67 ∷ 251 ∷ []

-- a head for n 1
abbrev head : List ℕ
head = 81 ∷ 66 ∷ 79 ∷ 79 ∷ 75 ∷ 76 ∷ 79 ∷ 71 ∷ 1 ∷ 1 ∷ 31 ∷ 255 ∷ 98 ∷ 111 ∷ 17 ∷ 226 ∷ []

abbrev symbol : List ℕ
symbol = 90 ∷ 84 ∷ 32 ∷ 32 ∷ 32 ∷ 32 ∷ 32 ∷ 32 ∷ 32 ∷ 32 ∷ 32 ∷ []

pub record Kinds : Type 0 where
  pub makes : call_of 1 (0 ∷ 0 ∷ 1 ∷ 2 ∷ []) ≡ Some (make 258)
  pub makes_short : call_of 1 (0 ∷ 1 ∷ 2 ∷ []) ≡ None
  pub makes_long : call_of 1 (0 ∷ 0 ∷ 1 ∷ 2 ∷ 3 ∷ []) ≡ None
  pub adds : call_of 2 ((0 ∷ 0 ∷ 0 ∷ 100 ∷ 78 ∷ []) ++ symbol) ≡ Some (add symbol 100 78)
  pub adds_nothing : call_of 2 (0 ∷ 0 ∷ 0 ∷ 100 ∷ 78 ∷ []) ≡ Some (add [] 100 78)
  pub adds_short : call_of 2 (0 ∷ 0 ∷ 0 ∷ 100 ∷ []) ≡ None
  pub opens : call_of 3 (0 ∷ 0 ∷ 0 ∷ 5 ∷ 78 ∷ []) ≡ Some (open_line 5 78)
  pub opens_long : call_of 3 (0 ∷ 0 ∷ 0 ∷ 5 ∷ 78 ∷ 0 ∷ []) ≡ None
  pub starts : call_of 4 [] ≡ Some start_day
  pub starts_long : call_of 4 (0 ∷ []) ≡ None
  pub ends : call_of 5 [] ≡ Some end_day
  pub takes : call_of 6 (0 ∷ 0 ∷ 0 ∷ 5 ∷ 0 ∷ 0 ∷ 0 ∷ 0 ∷ 0 ∷ 0 ∷ 0 ∷ 180 ∷ 1 ∷ 2 ∷ []) ≡ Some (book.take 5 (1 ∷ 2 ∷ []) 180)
  pub takes_short : call_of 6 (0 ∷ 0 ∷ 0 ∷ 5 ∷ 0 ∷ 0 ∷ 0 ∷ 0 ∷ 0 ∷ 0 ∷ 0 ∷ []) ≡ None
  pub reads : call_of 7 ((0 ∷ 0 ∷ 0 ∷ 0 ∷ 0 ∷ 0 ∷ 0 ∷ 96 ∷ []) ++ symbol) ≡ Some (read symbol 96)
  pub asks : call_of 8 ((66 ∷ 0 ∷ 0 ∷ 0 ∷ 0 ∷ 0 ∷ 0 ∷ 3 ∷ 232 ∷ []) ++ symbol) ≡ Some (protected symbol 66 1000)
  pub measures : call_of 9 (7 ∷ 8 ∷ []) ≡ Some (convert_len (7 ∷ 8 ∷ []))
  pub converts : call_of 10 (0 ∷ 0 ∷ 0 ∷ 0 ∷ 0 ∷ 0 ∷ 14 ∷ 16 ∷ 7 ∷ 8 ∷ []) ≡ Some (convert (7 ∷ 8 ∷ []) 3600)
  pub measures_feed : call_of 11 symbol ≡ Some (snapshot_len symbol)
  pub feeds : call_of 12 ((0 ∷ 0 ∷ 0 ∷ 0 ∷ 0 ∷ 0 ∷ 6 ∷ 170 ∷ []) ++ symbol) ≡ Some (snapshot symbol 1706)
  pub tries : call_of 13 ((83 ∷ 0 ∷ 0 ∷ 0 ∷ 9 ∷ 0 ∷ 0 ∷ 0 ∷ 0 ∷ 0 ∷ 0 ∷ 1 ∷ 69 ∷ []) ++ symbol) ≡ Some (try_order symbol 83 9 325)
  pub sets : call_of 14 (0 ∷ 0 ∷ 0 ∷ 9 ∷ 3 ∷ 4 ∷ []) ≡ Some (set_allowance 9 (3 ∷ 4 ∷ []))
  pub sets_short : call_of 14 (0 ∷ 0 ∷ 9 ∷ []) ≡ None
  pub ticks : call_of 15 [] ≡ Some tick
  pub ticks_long : call_of 15 (0 ∷ []) ≡ None
  pub no_kind : call_of 0 [] ≡ None
  pub no_kind_more : call_of 16 [] ≡ None

pub kinds : Kinds
unfolding be part field call_of
kinds =
    record {
      makes = refl;
      makes_short = refl;
      makes_long = refl;
      adds = refl;
      adds_nothing = refl;
      adds_short = refl;
      opens = refl;
      opens_long = refl;
      starts = refl;
      starts_long = refl;
      ends = refl;
      takes = refl;
      takes_short = refl;
      reads = refl;
      asks = refl;
      measures = refl;
      converts = refl;
      measures_feed = refl;
      feeds = refl;
      tries = refl;
      sets = refl;
      sets_short = refl;
      ticks = refl;
      ticks_long = refl;
      no_kind = refl;
      no_kind_more = refl;
    }

pub record Logs : Type 0 where
  pub both : calls_in (first ++ second) 0 ≡ start_day ∷ end_day ∷ []
  pub behind : calls_in (first ++ second) 17 ≡ end_day ∷ []
  pub cut : calls_in (first ++ take 16 second) 0 ≡ start_day ∷ []
  pub cut_told : next_at (first ++ take 16 second) 17 ≡ stops 91
  pub ended : next_at (first ++ second) 34 ≡ stops 0
  pub altered : next_at (first ++ set second 8 1) 17 ≡ stops 92
  pub strange : next_at (first ++ unknown) 17 ≡ stops 92
  pub overfull : next_at too_many 0 ≡ stops 92
  pub strange_between : calls_in (first ++ (unknown ++ second)) 0 ≡ start_day ∷ []
  pub second_called : next_at (first ++ second) 17 ≡ calls end_day 34
  pub place : place_after 2 (first ++ second) 0 ≡ 34
  pub full : number_by (next_at (first ++ second) 17) ≡ 93
  -- number 12 and nothing else; a block with one message accepted
  pub bare_bytes : answer_bytes (bare 12) ≡ 0 ∷ 0 ∷ 0 ∷ 0 ∷ 0 ∷ 0 ∷ 0 ∷ 12 ∷ 0 ∷ 0 ∷ 0 ∷ 0 ∷ 0 ∷ 0 ∷ 0 ∷ 0 ∷ 0 ∷ 0 ∷ 0 ∷ 0 ∷ 0 ∷ 0 ∷ 0 ∷ 0 ∷ 0 ∷ 0 ∷ 0 ∷ 0 ∷ 0 ∷ 0 ∷ 0 ∷ 0 ∷ 0 ∷ 0 ∷ 0 ∷ 0 ∷ 0 ∷ 0 ∷ 0 ∷ 0 ∷ 0 ∷ 0 ∷ 0 ∷ 0 ∷ 0 ∷ 0 ∷ 0 ∷ 0 ∷ 0 ∷ 0 ∷ 0 ∷ 0 ∷ 0 ∷ 0 ∷ 0 ∷ 0 ∷ 0 ∷ 0 ∷ 0 ∷ 0 ∷ 0 ∷ 0 ∷ 0 ∷ 0 ∷ 0 ∷ 0 ∷ 0 ∷ 0 ∷ 0 ∷ 0 ∷ 0 ∷ 0 ∷ 0 ∷ 0 ∷ 0 ∷ 0 ∷ 0 ∷ 0 ∷ 0 ∷ 0 ∷ 0 ∷ 0 ∷ 0 ∷ 0 ∷ 0 ∷ 0 ∷ 0 ∷ 0 ∷ 0 ∷ 0 ∷ 0 ∷ 0 ∷ 0 ∷ 0 ∷ 0 ∷ 0 ∷ []
  pub report_bytes : answer_bytes (report 70 3 (record { letter = 78; expected = 9; count = 8 }) (record { code = 0; flags = 5; partly = false } ∷ [])) ≡ 0 ∷ 0 ∷ 0 ∷ 0 ∷ 0 ∷ 0 ∷ 0 ∷ 70 ∷ 0 ∷ 0 ∷ 0 ∷ 0 ∷ 0 ∷ 0 ∷ 0 ∷ 3 ∷ 0 ∷ 0 ∷ 0 ∷ 0 ∷ 0 ∷ 0 ∷ 0 ∷ 9 ∷ 0 ∷ 0 ∷ 0 ∷ 0 ∷ 0 ∷ 0 ∷ 0 ∷ 8 ∷ 0 ∷ 0 ∷ 0 ∷ 0 ∷ 0 ∷ 0 ∷ 0 ∷ 1 ∷ 0 ∷ 0 ∷ 0 ∷ 0 ∷ 0 ∷ 0 ∷ 0 ∷ 0 ∷ 0 ∷ 0 ∷ 0 ∷ 0 ∷ 0 ∷ 0 ∷ 0 ∷ 0 ∷ 0 ∷ 0 ∷ 0 ∷ 0 ∷ 0 ∷ 0 ∷ 0 ∷ 0 ∷ 0 ∷ 0 ∷ 0 ∷ 0 ∷ 0 ∷ 0 ∷ 0 ∷ 0 ∷ 0 ∷ 0 ∷ 0 ∷ 0 ∷ 0 ∷ 0 ∷ 0 ∷ 4 ∷ 0 ∷ 0 ∷ 0 ∷ 0 ∷ 0 ∷ 0 ∷ 0 ∷ 0 ∷ 0 ∷ 0 ∷ 0 ∷ 0 ∷ 0 ∷ 0 ∷ 0 ∷ 0 ∷ 0 ∷ 0 ∷ 5 ∷ 0 ∷ []

pub logs : Logs
unfolding be be_bytes part field mixed check_from check_of entry_at call_of next_at calls_from place_after words_bytes answer_bytes quads tally
logs =
    record {
      both = refl;
      behind = refl;
      cut = refl;
      cut_told = refl;
      ended = refl;
      altered = refl;
      strange = refl;
      overfull = refl;
      strange_between = refl;
      second_called = refl;
      place = refl;
      full = refl;
      bare_bytes = refl;
      report_bytes = refl;
    }

-- on no memory at all every call but make answers 1, and make 2
pub record Replays : Type 0 where
  -- an answer is begun only where the longest has room
  pub room_for_none : fitting 3695 0 [] (start_day ∷ []) ≡ []
  pub room_for_one : fitting 3696 0 [] (start_day ∷ end_day ∷ []) ≡ start_day ∷ []
  pub room_for_both : fitting 3792 0 [] (start_day ∷ end_day ∷ []) ≡ start_day ∷ end_day ∷ []
  pub full_at_once : replayed [] (first ++ second) 0 [] ≡ record { number = 93; place = 0; written = 0; bytes = []; output = [] }
  pub nothing_to_run : replayed [] (first ++ second) 34 [] ≡ record { number = 0; place = 34; written = 0; bytes = []; output = [] }
  pub cut_at_once : replayed [] (take 16 first) 0 [] ≡ record { number = 91; place = 0; written = 0; bytes = []; output = [] }
  pub damaged_at_once : replayed [] unknown 0 [] ≡ record { number = 92; place = 0; written = 0; bytes = []; output = [] }
  pub step_short : (stepped [] first 0 (replicate 3695 7)).number ≡ 93
  pub step_on : (stepped [] first 0 (replicate 3696 7)).place ≡ 17
  pub step_writes : take 98 (stepped [] first 0 (replicate 3696 7)).output ≡ answer_bytes (bare 1) ++ (7 ∷ 7 ∷ [])
  -- 90 goes before make's 2
  pub no_head : restored [] first [] ≡ record { number = 90; place = 0; written = 0; bytes = []; output = [] }
  pub not_made : restored [] head [] ≡ record { number = 2; place = 0; written = 0; bytes = []; output = [] }

pub replays : Replays
unfolding be be_bytes part field splice mixed check_from check_of is_head entry_at same_list symbols_of count_of sound done number_on call call_of next_at calls_from place_after words_bytes answer_bytes answers_bytes fitting stepped replayed restored make_good
replays =
    record {
      room_for_none = refl;
      room_for_one = refl;
      room_for_both = refl;
      full_at_once = refl;
      nothing_to_run = refl;
      cut_at_once = refl;
      damaged_at_once = refl;
      step_short = refl;
      step_on = refl;
      step_writes = refl;
      no_head = refl;
      not_made = refl;
    }
