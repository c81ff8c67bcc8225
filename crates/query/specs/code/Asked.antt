-- What the checks of a query with a side mark give: 1, 10, 74, or the page and the side that it asks of; of an order then 82 and 83.
-- Assumes nothing.
use Rattle.std.specs.Prelude.{ℕ, cond, List, ltb, Result, Ok, Err, Option, Some, None}
use Rattle.lists.specs.Lists.{member}
use Rattle.numbers.specs.declared.Refusal.{Refusal}
use Rattle.numbers.specs.declared.Refusal.TheVariants as refusal
use Rattle.ranking.specs.declared.Side.{Side}
use Rattle.ranking.specs.declared.Side.TheVariants.{Bid, Offer}
use Rattle.sweep.specs.Sweep.{steps_length}
use Rattle.calls.specs.Call.{side_marks, asked_side, lots_good}
use Rattle.calls.specs.code.Known.{known_of}
use Rattle.query.specs.declared.Asked.{Asked}

-- 74
unfoldable pub marked_of : ℕ → Option Side
marked_of m = cond (member side_marks m) (Some (asked_side m)) None

abbrev pub sided_of : ℕ → Option Side → Result Asked Refusal
sided_of k (Some s) = Ok (record { page = k; side = s })
sided_of k None = Err refusal.Side

abbrev pub asked_on : Option Side → Result ℕ Refusal → Result Asked Refusal
asked_on o (Ok k) = sided_of k o
asked_on o (Err r) = Err r

unfoldable pub asked_of : List ℕ → List ℕ → ℕ → Result Asked Refusal
asked_of b x m = asked_on (marked_of m) (known_of b x)

-- 82, 83
unfoldable pub measured_of : ℕ → ℕ → ℕ
measured_of w room = cond (lots_good w) (cond (ltb room steps_length) 83 0) 82

-- the side that an order takes from
abbrev pub against_of : Side → Side
against_of Bid = Offer
against_of Offer = Bid
