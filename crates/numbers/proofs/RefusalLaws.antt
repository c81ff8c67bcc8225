-- No refusal has the numbers of a call that is done.
-- Assumes nothing.
use Rattle.std.specs.Prelude.{◌≡◌, eqb, false, Result, Ok, Err, IsErrAnd}
use mathlib.Core.Path.{refl, ap}
use Rattle.numbers.specs.declared.Refusal.{Refusal}
use Rattle.numbers.specs.declared.Refusal.TheVariants as refusal
use Rattle.numbers.specs.Numbers.{number_of}

pub never-zero : (r : Refusal) → eqb (number_of r) 0 ≡ false
never-zero refusal.NoBook = refl
never-zero refusal.Make = refl
never-zero refusal.SymbolMalformed = refl
never-zero refusal.SymbolListed = refl
never-zero refusal.BookFull = refl
never-zero refusal.RoundLot = refl
never-zero refusal.LineOrLetter = refl
never-zero refusal.LineOpen = refl
never-zero refusal.BufferShort = refl
never-zero refusal.SymbolUnknown = refl
never-zero refusal.DayOpen = refl
never-zero refusal.DayNotOpen = refl
never-zero refusal.BlockWhileClosed = refl
never-zero refusal.LineNotOpen = refl
never-zero refusal.BlockLength = refl
never-zero refusal.Version = refl
never-zero refusal.Checksum = refl
never-zero refusal.Offsets = refl
never-zero refusal.ControlNotAlone = refl
never-zero refusal.Duplicate = refl
never-zero refusal.WriteMessages = refl
never-zero refusal.WriteControl = refl
never-zero refusal.WriteShort = refl
never-zero refusal.Side = refl
never-zero refusal.Primary = refl
never-zero refusal.VenueBlock = refl
never-zero refusal.VenueUnplaced = refl
never-zero refusal.ConvertShort = refl
never-zero refusal.SnapshotShort = refl
never-zero refusal.Lots = refl
never-zero refusal.StepsShort = refl
never-zero refusal.Allowance = refl
never-zero refusal.Shares = refl
never-zero refusal.UsedUp = refl
never-zero refusal.LogHead = refl
never-zero refusal.LogCut = refl
never-zero refusal.LogDamaged = refl
never-zero refusal.LogRoom = refl

-- 70 tells of a gap
pub never-gap : (r : Refusal) → eqb (number_of r) 70 ≡ false
never-gap refusal.NoBook = refl
never-gap refusal.Make = refl
never-gap refusal.SymbolMalformed = refl
never-gap refusal.SymbolListed = refl
never-gap refusal.BookFull = refl
never-gap refusal.RoundLot = refl
never-gap refusal.LineOrLetter = refl
never-gap refusal.LineOpen = refl
never-gap refusal.BufferShort = refl
never-gap refusal.SymbolUnknown = refl
never-gap refusal.DayOpen = refl
never-gap refusal.DayNotOpen = refl
never-gap refusal.BlockWhileClosed = refl
never-gap refusal.LineNotOpen = refl
never-gap refusal.BlockLength = refl
never-gap refusal.Version = refl
never-gap refusal.Checksum = refl
never-gap refusal.Offsets = refl
never-gap refusal.ControlNotAlone = refl
never-gap refusal.Duplicate = refl
never-gap refusal.WriteMessages = refl
never-gap refusal.WriteControl = refl
never-gap refusal.WriteShort = refl
never-gap refusal.Side = refl
never-gap refusal.Primary = refl
never-gap refusal.VenueBlock = refl
never-gap refusal.VenueUnplaced = refl
never-gap refusal.ConvertShort = refl
never-gap refusal.SnapshotShort = refl
never-gap refusal.Lots = refl
never-gap refusal.StepsShort = refl
never-gap refusal.Allowance = refl
never-gap refusal.Shares = refl
never-gap refusal.UsedUp = refl
never-gap refusal.LogHead = refl
never-gap refusal.LogCut = refl
never-gap refusal.LogDamaged = refl
never-gap refusal.LogRoom = refl

-- what `?` passes up is the same refusal
pub passed_up : {T E : Type 0} (r : Result T E) (e : E) → IsErrAnd r (λ y. y ≡ e) → r ≡ Err e
passed_up (Ok x) e h = absurd h
passed_up (Err y) e h = ap Err h
