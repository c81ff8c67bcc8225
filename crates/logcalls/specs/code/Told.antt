-- What the code takes and hands out, in the numbers of the rules.
-- Assumes nothing.
use Rattle.std.specs.Prelude.{ℕ, ◌≡◌, true, false, List, [], ◌∷◌, Option, Some, None, Result, Ok, Err, MatchResult}
use Rattle.numbers.specs.declared.Refusal.{Refusal}
use Rattle.numbers.specs.declared.Refusal.TheVariants.{LogDamaged}
use Rattle.logcalls.specs.declared.Kind.{Kind}
use Rattle.logcalls.specs.declared.Kind.TheVariants as kind
use Rattle.logcalls.specs.declared.Words.{Words}
use Rattle.logcalls.specs.Kinds.{call_of}
use Rattle.logcalls.specs.Replayed.{Ran}

-- an answer's numbers in the order in which they stand
abbrev pub numbers_in : Words → List ℕ
numbers_in w =
    w.number ∷ w.gap ∷ w.expected ∷ w.count ∷ w.accepted ∷ w.partly ∷ w.rejected ∷ w.found ∷ w.amount ∷ w.answers ∷ w.publication ∷ w.output ∷ []

-- the number of a kind of call
abbrev pub kind_number : Kind → ℕ
kind_number kind.Make = 1
kind_number kind.AddSymbol = 2
kind_number kind.OpenLine = 3
kind_number kind.StartDay = 4
kind_number kind.EndDay = 5
kind_number kind.TakeBlock = 6
kind_number kind.Read = 7
kind_number kind.IsProtected = 8
kind_number kind.ConvertLen = 9
kind_number kind.Convert = 10
kind_number kind.SnapshotLen = 11
kind_number kind.Snapshot = 12
kind_number kind.TryOrder = 13
kind_number kind.SetAllowance = 14
kind_number kind.NextTick = 15

-- the kind of that number, or a refusal where no call has it
abbrev pub Decodes : ℕ → Result Kind Refusal → Type 0
Decodes n r = MatchResult r (λ k. kind_number k ≡ n) (λ e. (e ≡ LogDamaged) × ((args : List ℕ) → call_of n args ≡ None))

-- what a record gave: the length of its call's answer, or nothing for what is no call
abbrev pub ran_as : Option ℕ → List ℕ → List ℕ → Ran
ran_as (Some n) b out = record { known = true; length = n; bytes = b; output = out }
ran_as None b out = record { known = false; length = 0; bytes = b; output = out }
