-- One message and a block's run in the pieces that the code has. Each piece is said by `Work.antt`.
-- Assumes nothing.
use Rattle.std.specs.Prelude.{ℕ, List}
use Rattle.field.specs.Field.{splice}
use Rattle.block.specs.Block.{messages_of}
use Rattle.message.specs.Message.{partly_taken}
use Rattle.told.specs.declared.Tally.{Tally}
use Rattle.opening.specs.Opening.{pages_in}
use Rattle.told.specs.Told.{quads}
use Rattle.work.specs.Work.{flags_of, publications, code_on, message_on, messages_on, told_on}
use Rattle.told.specs.declared.Told.{Told}
use Rattle.told.specs.code.Steps.{tally_of}

-- what is told of it
abbrev pub told_one : ℕ → List ℕ → List ℕ → Told
told_one letter m b =
    record {
      code = code_on letter m b;
      flags = flags_of (publications (pages_in b)) (publications (pages_in (message_on letter m b)));
      partly = partly_taken (code_on letter m b) m;
    }

pub record Ran : Type 0 where
  pub book : List ℕ
  pub answer : List ℕ
  pub tally : Tally

-- every message of a block on a line with that letter
unfoldable pub ran : ℕ → List ℕ → List ℕ → List ℕ → Ran
ran letter k b answer =
    record {
      book = messages_on letter (messages_of k) b;
      answer = splice answer 0 (quads 0 (told_on b letter (messages_of k)));
      tally = tally_of (told_on b letter (messages_of k));
    }
