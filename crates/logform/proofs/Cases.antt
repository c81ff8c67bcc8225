-- The form of a log, by computing: heads and records, whole, cut and altered.
-- Assumes nothing.
use Prim.Native.Nat.{ℕ}
use mathlib.Core.Path.{◌≡◌, refl}
use mathlib.Core.Bool.{true, false}
use mathlib.Core.List.{List, [], ◌∷◌, ◌++◌}
use lib.ListN.{take, set}
use Rattle.field.specs.Field.{be, part, field}
use Rattle.logform.specs.Log.{mixed, check_from, check_of, is_head, head_of, entry_at, arguments_of}
use Rattle.logform.specs.declared.Entry.TheVariants.{End, Cut, Damaged, Record}

-- n 2, T-01 to T-13
abbrev head : List ℕ
head = 81 ∷ 66 ∷ 79 ∷ 79 ∷ 75 ∷ 76 ∷ 79 ∷ 71 ∷ 1 ∷ 2 ∷ 31 ∷ 255 ∷ 98 ∷ 112 ∷ 17 ∷ 226 ∷ []

-- other heads with a check that is right
abbrev other_mark : List ℕ
other_mark = 81 ∷ 66 ∷ 79 ∷ 79 ∷ 75 ∷ 76 ∷ 79 ∷ 72 ∷ 1 ∷ 2 ∷ 31 ∷ 255 ∷ 99 ∷ 112 ∷ 19 ∷ 117 ∷ []

abbrev other_version : List ℕ
other_version = 81 ∷ 66 ∷ 79 ∷ 79 ∷ 75 ∷ 76 ∷ 79 ∷ 71 ∷ 2 ∷ 2 ∷ 31 ∷ 255 ∷ 99 ∷ 112 ∷ 17 ∷ 226 ∷ []

-- Start of Day at time 0; line 5 opened for N at time 7
abbrev start_day : List ℕ
start_day = 0 ∷ 0 ∷ 0 ∷ 17 ∷ 4 ∷ 0 ∷ 0 ∷ 0 ∷ 0 ∷ 0 ∷ 0 ∷ 0 ∷ 0 ∷ 28 ∷ 231 ∷ 221 ∷ 16 ∷ []

abbrev open_line : List ℕ
open_line = 0 ∷ 0 ∷ 0 ∷ 22 ∷ 3 ∷ 0 ∷ 0 ∷ 0 ∷ 0 ∷ 0 ∷ 0 ∷ 0 ∷ 7 ∷ 0 ∷ 0 ∷ 0 ∷ 5 ∷ 78 ∷ 168 ∷ 215 ∷ 186 ∷ 140 ∷ []

-- a record that tells a length of 16, and whose check is right
abbrev sixteen : List ℕ
sixteen = 0 ∷ 0 ∷ 0 ∷ 16 ∷ 4 ∷ 0 ∷ 0 ∷ 0 ∷ 0 ∷ 0 ∷ 0 ∷ 0 ∷ 246 ∷ 216 ∷ 158 ∷ 71 ∷ 0 ∷ []

pub record Forms : Type 0 where
  -- "h = (16777619 h + x) modulo 2^32"
  pub none : check_of [] ≡ 2166136261
  pub three : check_of (97 ∷ 98 ∷ 99 ∷ []) ≡ 329380905
  pub exchanged : check_of (98 ∷ 97 ∷ 99 ∷ []) ≡ 950299903
  -- "four bytes at a time as one number, the last ones singly"
  pub four : check_of (97 ∷ 98 ∷ 99 ∷ 100 ∷ []) ≡ mixed 2166136261 1633837924
  pub five : check_of (97 ∷ 98 ∷ 99 ∷ 100 ∷ 101 ∷ []) ≡ 3277393566
  pub eight : check_of (97 ∷ 98 ∷ 99 ∷ 100 ∷ 101 ∷ 102 ∷ 103 ∷ 104 ∷ []) ≡ 683636129
  pub headed : is_head head ≡ true
  pub headed_longer : is_head (head ++ start_day) ≡ true
  pub head_told : head_of head ≡ record { number = 0; n = 2; requests = 8191 }
  pub head_none : head_of other_mark ≡ record { number = 90; n = 0; requests = 0 }
  pub head_cut : is_head (take 15 head) ≡ false
  pub head_mark : is_head other_mark ≡ false
  pub head_version : is_head other_version ≡ false
  pub head_altered : is_head (set head 9 3) ≡ false
  pub head_check : is_head (set head 15 145) ≡ false
  -- a record without arguments, and one with five bytes of them behind it
  pub whole : entry_at start_day 0 ≡ Record (record { kind = 4; start = 13; stop = 13 })
  pub second : entry_at (start_day ++ open_line) 17 ≡ Record (record { kind = 3; start = 30; stop = 35 })
  pub arguments : arguments_of (start_day ++ open_line) (record { kind = 3; start = 30; stop = 35 }) ≡ 0 ∷ 0 ∷ 0 ∷ 5 ∷ 78 ∷ []
  pub at_end : entry_at start_day 17 ≡ End
  pub behind_end : entry_at start_day 18 ≡ End
  pub nothing : entry_at [] 0 ≡ End
  -- cut behind its first byte, before its last, and where only its length can tell
  pub cut_first : entry_at (take 1 start_day) 0 ≡ Cut
  pub cut_last : entry_at (take 16 start_day) 0 ≡ Cut
  pub cut_arguments : entry_at (take 21 open_line) 0 ≡ Cut
  pub longer : entry_at (set start_day 3 18) 0 ≡ Cut
  pub shorter : entry_at sixteen 0 ≡ Damaged
  -- a byte altered: kind, time, arguments, check
  pub kind_altered : entry_at (set start_day 4 5) 0 ≡ Damaged
  pub time_altered : entry_at (set open_line 12 8) 0 ≡ Damaged
  pub argument_altered : entry_at (set open_line 17 79) 0 ≡ Damaged
  pub check_altered : entry_at (set open_line 21 31) 0 ≡ Damaged

pub forms : Forms
unfolding be part field mixed check_from check_of is_head entry_at
forms =
    record {
      none = refl;
      three = refl;
      exchanged = refl;
      four = refl;
      five = refl;
      eight = refl;
      headed = refl;
      headed_longer = refl;
      head_told = refl;
      head_none = refl;
      head_cut = refl;
      head_mark = refl;
      head_version = refl;
      head_altered = refl;
      head_check = refl;
      whole = refl;
      second = refl;
      arguments = refl;
      at_end = refl;
      behind_end = refl;
      nothing = refl;
      cut_first = refl;
      cut_last = refl;
      cut_arguments = refl;
      longer = refl;
      shorter = refl;
      kind_altered = refl;
      time_altered = refl;
      argument_altered = refl;
      check_altered = refl;
    }
