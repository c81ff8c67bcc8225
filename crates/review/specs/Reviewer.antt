-- The reviewer (document 01, "The reviewer's history"): fed the calls alone, it holds n, the symbols with their round lots and, for T-10's checks, their
-- primary letters, the lines, the day, T-14's allowance and a history, and works every number, code, flag and entry out anew from these. The history is
-- the accepted messages as bytes, the newest first.
-- Assumes nothing.
use Rattle.std.specs.Prelude.{ℕ, Bool, true, false, ◌&&◌, cond, List, [], ◌∷◌, ◌++◌, map, eqb, length, take as prefix, Option, None, Some}
use Rattle.field.specs.Field.{be}
use Rattle.field.specs.Ascii.{H, L, R}
use Rattle.lists.specs.Lists.{map_option, or_else, is_some, collect, member}
use Rattle.ranking.specs.declared.Side.{Side}
use Rattle.ranking.specs.declared.Candidate.{Candidate}
use Rattle.quote.specs.declared.Quote.{Quote}
use Rattle.quote.specs.Quote.{no_quote, empty_quote, with_condition}
use Rattle.levels.specs.Levels.{Standing, no_levels, odd_on}
use Rattle.entries.specs.Entries.{Maker, entries_of, candidates, unless_halted, trading_candidates}
use Rattle.entries.specs.Publication.{publication}
use Rattle.block.specs.Block.{messages_of, idle_block}
use Rattle.message.specs.declared.Kind.{Kind}
use Rattle.message.specs.declared.Kind.TheVariants as kind
use Rattle.message.specs.Message.{round_length, kind_of, symbol_of, round_lot_odd, odd_lot_odd, round_part_of, odd_part_of, maker_part_of, status_part_of, Known, code_of, partly_taken, Part, round_part, odd_part, maker_part, finra_part, status_part}
use Rattle.opening.specs.declared.Line.{Line}
use Rattle.allowance.specs.Allowance.{charged, ticked, set_to, no_allowance}
use Rattle.opening.specs.Opening.{Rest}
use Rattle.line.specs.Line.{done, advanced}
use Rattle.calls.specs.Call.{Call, make, add, open_line, start_day, end_day, take, read, protected, convert_len, convert, snapshot_len, snapshot, try_order, set_allowance, tick, number_of, letter_of, Answer, answer_of}
use Rattle.work.specs.Work.{Listed, is_listed, lot_of, primary_of, flags_of}
use Rattle.told.specs.declared.Told.{Told}
use Rattle.review.specs.Runs.{latest}

-- ---- what the history says

-- the parts of a message that the history holds, the newest first; "of a Q K with 60 to 64 the round part (to byte 55)" is a Q K of 56 bytes
abbrev pub parts_by : List ℕ → Kind → List Part
parts_by m kind.Inquiry = []
parts_by m kind.Close = finra_part L ∷ []
parts_by m kind.Open = finra_part R ∷ []
parts_by m kind.Test = []
parts_by m kind.RoundLot = cond (eqb (length m) round_length) (round_part_of m ∷ []) (odd_part_of m (round_lot_odd m) ∷ round_part_of m ∷ [])
parts_by m (kind.OddLot finra) = odd_part_of m (odd_lot_odd m) ∷ []
parts_by m kind.Maker = maker_part_of m ∷ []
parts_by m kind.Status = status_part_of m ∷ []
parts_by m kind.Unknown = []

unfoldable pub parts : List (List ℕ) → List Part
parts [] = []
parts (m ∷ h) = parts_by m (kind_of m) ++ parts h

-- a letter's round parts naming the symbol, the newest first
unfoldable pub rounds_of : List Part → ℕ → ℕ → List Quote
rounds_of [] s l = []
rounds_of (round_part t k q ∷ h) s l = cond (eqb t s && eqb k l) (q ∷ rounds_of h s l) (rounds_of h s l)
rounds_of (odd_part t k o ∷ h) s l = rounds_of h s l
rounds_of (maker_part t m q ∷ h) s l = rounds_of h s l
rounds_of (finra_part c ∷ h) s l = rounds_of h s l
rounds_of (status_part t x ∷ h) s l = rounds_of h s l

-- "A letter's quote is its last round part naming the symbol", its times by T-02
unfoldable pub quote_of : List Part → ℕ → ℕ → Quote
quote_of h s l = or_else (latest (rounds_of h s l)) no_quote

-- a maker's Q U naming the symbol since its cell was last freed, the newest first: "a freed maker cell forgets its times"
unfoldable pub maker_quotes : List Part → ℕ → ℕ → List Quote
maker_quotes [] s m = []
maker_quotes (round_part t k q ∷ h) s m = maker_quotes h s m
maker_quotes (odd_part t k o ∷ h) s m = maker_quotes h s m
maker_quotes (maker_part t k q ∷ h) s m = cond (eqb t s && eqb k m) (cond (empty_quote q) [] (q ∷ maker_quotes h s m)) (maker_quotes h s m)
maker_quotes (finra_part c ∷ h) s m = maker_quotes h s m
maker_quotes (status_part t x ∷ h) s m = maker_quotes h s m

-- "the last FINRA Close or Open after it sets condition L or R"; c if there is none after it
unfoldable pub condition_of : List Part → ℕ → ℕ → ℕ → ℕ
condition_of [] s m c = c
condition_of (round_part t k q ∷ h) s m c = condition_of h s m c
condition_of (odd_part t k o ∷ h) s m c = condition_of h s m c
condition_of (maker_part t k q ∷ h) s m c = cond (eqb t s && eqb k m) c (condition_of h s m c)
condition_of (finra_part d ∷ h) s m c = d
condition_of (status_part t x ∷ h) s m c = condition_of h s m c

abbrev pub standing_maker : ℕ → (ℕ → ℕ) → Quote → Maker
standing_maker m c q = record { name = m; quote = with_condition (c q.condition) q }

-- "A maker's is its last Q U naming it, none if both sides are 0 and 0", its times by T-02
unfoldable pub maker_of : List Part → ℕ → ℕ → Option Maker
maker_of h s m = map_option (standing_maker m (condition_of h s m)) (latest (maker_quotes h s m))

abbrev pub with_name : ℕ → List ℕ → List ℕ
with_name n xs = cond (member xs n) xs (n ∷ xs)

-- the names of the makers that the history has for the symbol, each once
unfoldable pub names_of : List Part → ℕ → List ℕ
names_of [] s = []
names_of (round_part t k q ∷ h) s = names_of h s
names_of (odd_part t k o ∷ h) s = names_of h s
names_of (maker_part t k q ∷ h) s = cond (eqb t s) (with_name k (names_of h s)) (names_of h s)
names_of (finra_part c ∷ h) s = names_of h s
names_of (status_part t x ∷ h) s = names_of h s

unfoldable pub makers_of : List Part → ℕ → List Maker
makers_of h s = collect (maker_of h s) (names_of h s)

-- "Levels begin with none and take each odd part naming it, in order"
unfoldable pub levels_of : List Part → ℕ → ℕ → Standing
levels_of [] s l = no_levels
levels_of (round_part t k q ∷ h) s l = levels_of h s l
levels_of (odd_part t k o ∷ h) s l = cond (eqb t s && eqb k l) (or_else (odd_on o (levels_of h s l)) (levels_of h s l)) (levels_of h s l)
levels_of (maker_part t m q ∷ h) s l = levels_of h s l
levels_of (finra_part c ∷ h) s l = levels_of h s l
levels_of (status_part t x ∷ h) s l = levels_of h s l

-- T-10: "Recomputing from history takes the last accepted status into account"; without one the symbol trades
unfoldable pub halted_of : List Part → ℕ → Bool
halted_of [] s = false
halted_of (round_part t k q ∷ h) s = halted_of h s
halted_of (odd_part t k o ∷ h) s = halted_of h s
halted_of (maker_part t k q ∷ h) s = halted_of h s
halted_of (finra_part c ∷ h) s = halted_of h s
halted_of (status_part t x ∷ h) s = cond (eqb t s) (eqb x H) (halted_of h s)

-- "Best entries and Publication then give 96 bytes"; T-10: "While a symbol is halted all six entries are worked out as none"
unfoldable pub reviewed_by : List Part → ℕ → List ℕ
reviewed_by h s = publication (unless_halted (halted_of h s) (entries_of (quote_of h s) (makers_of h s) (levels_of h s)))

abbrev pub reviewed : List (List ℕ) → ℕ → List ℕ
reviewed h s = reviewed_by (parts h) s

-- the symbol's national candidates of a side by letter, for T-06 and T-13; none while it is halted
abbrev pub candidates_r : List (List ℕ) → ℕ → Side → ℕ → Option Candidate
candidates_r h s = trading_candidates (halted_of (parts h) s) (candidates (quote_of (parts h) s) (makers_of (parts h) s))

-- what the symbols and the history give for the code of a message that names the symbol
unfoldable pub known_to : List Listed → List Part → ℕ → Known
known_to ls h s =
    record {
      listed = is_listed s ls;
      lot = lot_of s ls;
      primary = primary_of s ls;
      count = length (makers_of h s);
      stands = λ m. is_some (maker_of h s m);
      levels = levels_of h s;
    }

-- ---- messages: "A block with 0 or 70 is worked message by message"

abbrev pub code_r : List Listed → ℕ → List ℕ → List (List ℕ) → ℕ
code_r ls letter m h = code_of (known_to ls (parts h) (symbol_of m)) letter m

-- "one with code 0 is appended, and of a Q K with 60 to 64 the round part (to byte 55)"
abbrev pub kept : ℕ → List ℕ → List (List ℕ) → List (List ℕ)
kept c m h = cond (eqb c 0) (m ∷ h) (cond (partly_taken c m) (prefix round_length m ∷ h) h)

abbrev pub message_r : List Listed → ℕ → List ℕ → List (List ℕ) → List (List ℕ)
message_r ls letter m h = kept (code_r ls letter m h) m h

abbrev pub messages_r : List Listed → ℕ → List (List ℕ) → List (List ℕ) → List (List ℕ)
messages_r ls letter [] h = h
messages_r ls letter (m ∷ ms) h = messages_r ls letter ms (message_r ls letter m h)

abbrev pub entries_r : List Listed → List (List ℕ) → List (List ℕ)
entries_r ls h = map (λ x. reviewed h x.symbol) ls

abbrev pub told_r : List Listed → List (List ℕ) → ℕ → List (List ℕ) → List Told
told_r ls h letter [] = []
told_r ls h letter (m ∷ ms) =
    record {
      code = code_r ls letter m h;
      flags = flags_of (entries_r ls h) (entries_r ls (message_r ls letter m h));
      partly = partly_taken (code_r ls letter m h) m;
    } ∷ told_r ls (message_r ls letter m h) letter ms

-- ---- calls

pub record Review : Type 0 where
  -- n, the lines, the day, and what 86 reads: the allowance
  pub rest : Rest
  pub symbols : List Listed
  pub history : List (List ℕ)

abbrev pub set_line : ℕ → Line → (ℕ → Option Line) → ℕ → Option Line
set_line i x lines j = cond (eqb j i) (Some x) (lines j)

abbrev pub restart : Line → Line
restart x = record { letter = x.letter; expected = 1; count = 0 }

-- "n, symbols, lines and day move as stated above", by a call that is done
unfoldable pub rest_after : Rest → Call → Rest
rest_after r (make n) = record { n = n; lines = λ i. None; day = false; allowance = no_allowance }
rest_after r (add s k l) = r
rest_after r (open_line i l) = record { n = r.n; lines = set_line i (record { letter = l; expected = 1; count = 0 }) r.lines; day = r.day; allowance = r.allowance }
-- "Start of Day keeps the allowance and its charges"
rest_after r start_day = record { n = r.n; lines = λ i. map_option restart (r.lines i); day = true; allowance = r.allowance }
rest_after r end_day = record { n = r.n; lines = r.lines; day = false; allowance = r.allowance }
rest_after r (take i b room) =
    record {
      n = r.n;
      lines = λ j. cond (eqb j i) (map_option (λ x. advanced x b) (r.lines i)) (r.lines j);
      day = r.day;
      allowance = cond (idle_block b) r.allowance (charged r.allowance i);
    }
rest_after r (read s room) = r
rest_after r (protected s m x) = r
rest_after r (convert_len v) = r
rest_after r (convert v room) = r
rest_after r (snapshot_len s) = r
rest_after r (snapshot s room) = r
rest_after r (try_order s m w room) = r
rest_after r (set_allowance n ss) = record { n = r.n; lines = r.lines; day = r.day; allowance = set_to n ss }
rest_after r tick = record { n = r.n; lines = r.lines; day = r.day; allowance = ticked r.allowance }

unfoldable pub symbols_after : List Listed → Call → List Listed
symbols_after ls (make n) = []
symbols_after ls (add s k l) = ls ++ (record { symbol = be s; lot = k; primary = l } ∷ [])
symbols_after ls (open_line i l) = ls
symbols_after ls start_day = ls
symbols_after ls end_day = ls
symbols_after ls (take i b room) = ls
symbols_after ls (read s room) = ls
symbols_after ls (protected s m x) = ls
symbols_after ls (convert_len v) = ls
symbols_after ls (convert v room) = ls
symbols_after ls (snapshot_len s) = ls
symbols_after ls (snapshot s room) = ls
symbols_after ls (try_order s m w room) = ls
symbols_after ls (set_allowance n ss) = ls
symbols_after ls tick = ls

-- "make and Start of Day with 0 empty the history"; "Nothing else alters the history"
unfoldable pub history_after : Rest → List Listed → List (List ℕ) → Call → List (List ℕ)
history_after r ls h (make n) = []
history_after r ls h (add s k l) = h
history_after r ls h (open_line i l) = h
history_after r ls h start_day = []
history_after r ls h end_day = h
history_after r ls h (take i b room) = messages_r ls (letter_of (r.lines i)) (messages_of b) h
history_after r ls h (read s room) = h
history_after r ls h (protected s m x) = h
history_after r ls h (convert_len v) = h
history_after r ls h (convert v room) = h
history_after r ls h (snapshot_len s) = h
history_after r ls h (snapshot s room) = h
history_after r ls h (try_order s m w room) = h
history_after r ls h (set_allowance n ss) = h
history_after r ls h tick = h

-- "a refused call alters nothing"
unfoldable pub review_call : Review → Call → Review
review_call v c =
    cond (done (number_of v.rest v.symbols c))
    (record {
      rest = rest_after v.rest c;
      symbols = symbols_after v.symbols c;
      history = history_after v.rest v.symbols v.history c;
    })
    v

unfoldable pub review_answer : Review → Call → Answer
review_answer v c =
    answer_of v.rest (λ s. lot_of s v.symbols) (told_r v.symbols v.history) (reviewed v.history) (candidates_r v.history) (quote_of (parts v.history)) (number_of v.rest v.symbols c) c

-- "It starts with the make that gave the fresh book"
abbrev pub fresh_review : ℕ → Review
fresh_review n = record { rest = record { n = n; lines = λ i. None; day = false; allowance = no_allowance }; symbols = []; history = [] }

-- ---- lists of calls

abbrev pub review_after : Review → List Call → Review
review_after v [] = v
review_after v (c ∷ cs) = review_after (review_call v c) cs

abbrev pub review_answers : Review → List Call → List Answer
review_answers v [] = []
review_answers v (c ∷ cs) = review_answer v c ∷ review_answers (review_call v c) cs
