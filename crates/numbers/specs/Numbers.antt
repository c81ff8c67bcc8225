-- The documents' numbers of refusals and rejections.
-- Assumes nothing.
use Rattle.std.specs.Prelude.{ℕ, Result, Ok, Err}
use Rattle.numbers.specs.declared.Refusal.{Refusal}
use Rattle.numbers.specs.declared.Refusal.TheVariants as refusal
use Rattle.numbers.specs.declared.Rejection.{Rejection}
use Rattle.numbers.specs.declared.Rejection.TheVariants as rejection

abbrev pub number_of : Refusal → ℕ
number_of refusal.NoBook = 1
number_of refusal.Make = 2
number_of refusal.SymbolMalformed = 3
number_of refusal.SymbolListed = 4
number_of refusal.BookFull = 5
number_of refusal.RoundLot = 6
number_of refusal.LineOrLetter = 7
number_of refusal.LineOpen = 8
number_of refusal.BufferShort = 9
number_of refusal.SymbolUnknown = 10
number_of refusal.DayOpen = 11
number_of refusal.DayNotOpen = 12
number_of refusal.BlockWhileClosed = 20
number_of refusal.LineNotOpen = 21
number_of refusal.BlockLength = 30
number_of refusal.Version = 31
number_of refusal.Checksum = 32
number_of refusal.Offsets = 33
number_of refusal.ControlNotAlone = 34
number_of refusal.Duplicate = 35
number_of refusal.WriteMessages = 71
number_of refusal.WriteControl = 72
number_of refusal.WriteShort = 73
number_of refusal.Side = 74
number_of refusal.Primary = 75
number_of refusal.VenueBlock = 78
number_of refusal.VenueUnplaced = 79
number_of refusal.ConvertShort = 80
number_of refusal.SnapshotShort = 81
number_of refusal.Lots = 82
number_of refusal.StepsShort = 83
number_of refusal.Allowance = 84
number_of refusal.Shares = 85
number_of refusal.UsedUp = 86
number_of refusal.LogHead = 90
number_of refusal.LogCut = 91
number_of refusal.LogDamaged = 92
number_of refusal.LogRoom = 93

abbrev pub code_of : Rejection → ℕ
code_of rejection.UnknownType = 40
code_of rejection.Letter = 41
code_of rejection.Length = 42
code_of rejection.FixedByte = 43
code_of rejection.WrongLine = 44
code_of rejection.Symbol = 45
code_of rejection.Condition = 46
code_of rejection.SizeWithoutPrice = 47
code_of rejection.Maker = 48
code_of rejection.MakersFull = 49
code_of rejection.ClearMark = 60
code_of rejection.ItemCount = 61
code_of rejection.ItemPrice = 62
code_of rejection.ItemShares = 63
code_of rejection.FifthLevel = 64
code_of rejection.NotPrimary = 76
code_of rejection.Status = 77

-- the number that a call answers: 0, or that of its refusal
abbrev pub answered : {A : Type 0} → Result A Refusal → ℕ
answered (Ok a) = 0
answered (Err r) = number_of r

-- the code that a message gets: 0, or that of its rejection
abbrev pub coded : {A : Type 0} → Result A Rejection → ℕ
coded (Ok a) = 0
coded (Err r) = code_of r

-- what a call tells of its value: 0 after a refusal
abbrev pub told_if_ok : {A : Type 0} → Result A Refusal → (A → ℕ) → ℕ
told_if_ok (Ok a) f = f a
told_if_ok (Err r) f = 0
