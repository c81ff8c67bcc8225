-- What the C interface hands out beyond the calls: the length of a book, and reports as numbers.
-- Assumes nothing.
use Rattle.std.specs.Prelude.{ℕ, cond, ◌&&◌, List, [], ◌∷◌, leb}
use Rattle.block.specs.Written.{Out, written_out}
use Rattle.calls.specs.declared.Report.{Report}
use Rattle.calls.specs.Buffers.{TakenBlock, taken, FeedOut, feed_out, OrderOut, order_out, RunOut, run_out}
use Rattle.calls.specs.Call.{Answer, call, protected, convert_len, snapshot_len}
use Rattle.logform.specs.Log.{head_of}
use Rattle.logcalls.specs.Replayed.{Replayed, replayed}
use Rattle.logcalls.specs.Restored.{restored}
use Rattle.opening.specs.Layout.{book_length, symbols_most}

-- 10000 * major + 100 * minor + patch; QB_LIBRARY_VERSION in the header
abbrev pub library_version : ℕ
library_version = 10301

-- 0 where n is not 1 to 64
unfoldable pub book_len : ℕ → ℕ
book_len n = cond (leb 1 n && leb n symbols_most) (book_length n) 0

-- number, gap, next expected, count, accepted, partly accepted, rejected
abbrev pub report_numbers : Report → List ℕ
report_numbers r = r.number ∷ r.gap ∷ r.expected ∷ r.count ∷ r.accepted ∷ r.partly ∷ r.rejected ∷ []

pub record TakenNumbers : Type 0 where
  pub number : ℕ
  pub bytes : List ℕ
  pub report : List ℕ
  pub answer : List ℕ

abbrev pub numbered : TakenBlock → TakenNumbers
numbered t = record { number = t.report.number; bytes = t.bytes; report = report_numbers t.report; answer = t.answer }

-- the block call, its report as numbers
unfoldable pub taken_numbers : List ℕ → ℕ → List ℕ → List ℕ → TakenNumbers
taken_numbers b i k answer = numbered (taken b i k answer)

pub record WrittenNumbers : Type 0 where
  pub number : ℕ
  pub report : List ℕ
  pub block : List ℕ

abbrev pub out_numbers : Out → WrittenNumbers
out_numbers o = record { number = o.number; report = o.number ∷ o.length ∷ []; block = o.output }

-- the writer of blocks, its report as numbers: number, bytes written
unfoldable pub written_numbers : List ℕ → List ℕ → ℕ → List ℕ → WrittenNumbers
written_numbers messages lengths sequence block = out_numbers (written_out messages lengths sequence block)

pub record QueryNumbers : Type 0 where
  pub number : ℕ
  pub report : List ℕ

-- a query's report: its number, then what it tells
abbrev pub query_numbers : Answer → QueryNumbers
query_numbers a = record { number = a.number; report = a.number ∷ a.found ∷ a.amount ∷ [] }

-- T-06
unfoldable pub protected_numbers : List ℕ → List ℕ → ℕ → ℕ → QueryNumbers
protected_numbers b s m x = query_numbers (call b (protected s m x)).answer

-- T-11, the needed length: number, bytes
abbrev pub amount_numbers : Answer → QueryNumbers
amount_numbers a = record { number = a.number; report = a.number ∷ a.amount ∷ [] }

unfoldable pub length_numbers : List ℕ → List ℕ → QueryNumbers
length_numbers b v = amount_numbers (call b (convert_len v)).answer

pub record RunNumbers : Type 0 where
  pub number : ℕ
  pub report : List ℕ
  pub output : List ℕ

abbrev pub run_numbers : RunOut → RunNumbers
run_numbers o = record { number = o.number; report = o.number ∷ o.length ∷ []; output = o.output }

-- T-11, the run: number, bytes written
unfoldable pub converted_numbers : List ℕ → List ℕ → List ℕ → RunNumbers
converted_numbers b v output = run_numbers (run_out b v output)

pub record SizeNumbers : Type 0 where
  pub number : ℕ
  pub size : List ℕ

-- T-12: blocks, bytes
unfoldable pub size_numbers : List ℕ → List ℕ → SizeNumbers
size_numbers b s =
    record {
      number = (call b (snapshot_len s)).answer.number;
      size = (call b (snapshot_len s)).answer.found ∷ (call b (snapshot_len s)).answer.amount ∷ [];
    }

pub record FeedNumbers : Type 0 where
  pub number : ℕ
  pub size : List ℕ
  pub output : List ℕ

abbrev pub feed_sized : FeedOut → FeedNumbers
feed_sized f = record { number = f.number; size = f.blocks ∷ f.bytes ∷ []; output = f.output }

unfoldable pub feed_numbers : List ℕ → List ℕ → List ℕ → FeedNumbers
feed_numbers b s output = feed_sized (feed_out b s output)

pub record TriedNumbers : Type 0 where
  pub number : ℕ
  pub report : List ℕ
  pub steps : List ℕ

abbrev pub order_numbers : OrderOut → TriedNumbers
order_numbers o = record { number = o.number; report = o.number ∷ o.found ∷ o.amount ∷ []; steps = o.steps }

-- T-13: number, steps, lots not found; and the output
unfoldable pub tried_numbers : List ℕ → List ℕ → ℕ → ℕ → List ℕ → TriedNumbers
tried_numbers b s m w steps = order_numbers (order_out b s m w steps)

-- a log's head: number, symbols, requests
unfoldable pub head_numbers : List ℕ → QueryNumbers
head_numbers log = record { number = (head_of log).number; report = (head_of log).number ∷ (head_of log).n ∷ (head_of log).requests ∷ [] }

pub record LogNumbers : Type 0 where
  pub number : ℕ
  pub bytes : List ℕ
  pub report : List ℕ
  pub output : List ℕ

-- a log replayed: number, place in the log, bytes written
abbrev pub log_numbers : Replayed → LogNumbers
log_numbers r = record { number = r.number; bytes = r.bytes; report = r.number ∷ r.place ∷ r.written ∷ []; output = r.output }

unfoldable pub replayed_numbers : List ℕ → List ℕ → ℕ → List ℕ → LogNumbers
replayed_numbers b log from output = log_numbers (replayed b log from output)

unfoldable pub restored_numbers : List ℕ → List ℕ → List ℕ → LogNumbers
restored_numbers b log output = log_numbers (restored b log output)
