-- What the calls with buffers leave: the book's bytes or the report, and the buffer.
-- Assumes nothing.
use Rattle.std.specs.Prelude.{ℕ, List, length}
use Rattle.field.specs.Field.{splice}
use Rattle.calls.specs.declared.Report.{Report}
use Rattle.calls.specs.Call.{Answer, call, take, read, convert, snapshot, try_order}

abbrev pub report_of : Answer → Report
report_of a =
    record {
      number = a.number;
      gap = a.gap;
      expected = a.expected;
      count = a.count;
      accepted = a.accepted;
      partly = a.partly;
      rejected = a.rejected;
    }

pub record TakenBlock : Type 0 where
  pub bytes : List ℕ
  pub report : Report
  pub answer : List ℕ

-- the book's bytes, the report and the answer buffer after the block call; "the bytes behind those that a call fills keep their contents"
unfoldable pub taken : List ℕ → ℕ → List ℕ → List ℕ → TakenBlock
taken b i k answer =
    record {
      bytes = (call b (take i k (length answer))).bytes;
      report = report_of (call b (take i k (length answer))).answer;
      answer = splice answer 0 (call b (take i k (length answer))).answer.answers;
    }

pub record ReadOut : Type 0 where
  pub number : ℕ
  pub publication : List ℕ

-- the number and the publication buffer after a read
unfoldable pub read_out : List ℕ → List ℕ → List ℕ → ReadOut
read_out b s publication =
    record {
      number = (call b (read s (length publication))).answer.number;
      publication = splice publication 0 (call b (read s (length publication))).answer.publication;
    }

pub record RunOut : Type 0 where
  pub number : ℕ
  pub length : ℕ
  pub output : List ℕ

-- T-11: the number, the bytes written and the output after a conversion
unfoldable pub run_out : List ℕ → List ℕ → List ℕ → RunOut
run_out b v output =
    record {
      number = (call b (convert v (length output))).answer.number;
      length = (call b (convert v (length output))).answer.amount;
      output = splice output 0 (call b (convert v (length output))).answer.output;
    }

pub record FeedOut : Type 0 where
  pub number : ℕ
  pub blocks : ℕ
  pub bytes : ℕ
  pub output : List ℕ

abbrev pub feed_of : List ℕ → Answer → FeedOut
feed_of output a = record { number = a.number; blocks = a.found; bytes = a.amount; output = splice output 0 a.output }

-- T-12: the number, the blocks and bytes written and the output after a snapshot
unfoldable pub feed_out : List ℕ → List ℕ → List ℕ → FeedOut
feed_out b s output = feed_of output (call b (snapshot s (length output))).answer

pub record OrderOut : Type 0 where
  pub number : ℕ
  pub found : ℕ
  pub amount : ℕ
  pub steps : List ℕ

-- T-13: the report and the output after trying an order
unfoldable pub order_out : List ℕ → List ℕ → ℕ → ℕ → List ℕ → OrderOut
order_out b s m w steps =
    record {
      number = (call b (try_order s m w (length steps))).answer.number;
      found = (call b (try_order s m w (length steps))).answer.found;
      amount = (call b (try_order s m w (length steps))).answer.amount;
      steps = splice steps 0 (call b (try_order s m w (length steps))).answer.output;
    }
