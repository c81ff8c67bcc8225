-- The tables of cases hold of the book, from memory of any bytes in which make has just answered 0: computed on the reviewer, carried over by demand 3.
-- Assumes nothing.
use Prim.Native.Nat.{ℕ}
use mathlib.Core.Path.{◌≡◌, refl, ap, ◌∙◌}
use mathlib.Core.Bool.{Bool, true, ◌&&◌}
use mathlib.Core.List.{List, [], ◌∷◌}
use Rattle.field.specs.Field.{be_bytes}
use Rattle.lists.specs.Lists.{every}
use Rattle.lists.proofs.Tests.{and-true}
use Rattle.calls.specs.Call.{make, call, answers}
use Rattle.review.specs.Lists.{blocks_are_bytes}
use Rattle.review.proofs.Demand3.{demand3}
use Rattle.cases.proofs.Rows.{all_told, Row, answered, Answered, end, ◌▹◌}
use Rattle.cases.proofs.Cases as Cases
use Rattle.cases.proofs.Shared as Shared
use Rattle.cases.proofs.Checks as Checks
use Rattle.cases.proofs.Bounds as Bounds
use Rattle.cases.proofs.Times as Times
use Rattle.cases.proofs.FinraOddLots as FinraOddLots
use Rattle.cases.proofs.Protected as Protected
use Rattle.cases.proofs.Closed as Closed
use Rattle.cases.proofs.Leading as Leading
use Rattle.cases.proofs.Halts as Halts
use Rattle.cases.proofs.Snapshots as Snapshots
use Rattle.cases.proofs.Sweeps as Sweeps

abbrev pub OnBook : List Row → Type 0
OnBook [] = Unit {0}
OnBook (r ∷ rs) =
    ((m : List ℕ) → (call m (make r.n)).answer.number ≡ 0 → all_told (answers (call m (make r.n)).bytes r.calls) ≡ r.answers) × OnBook rs

abbrev pub rows_are_bytes : List Row → Bool
rows_are_bytes [] = true
rows_are_bytes (r ∷ rs) = blocks_are_bytes r.calls && rows_are_bytes rs

pub on-book : (rs : List Row) → rows_are_bytes rs ≡ true → Answered rs → OnBook rs
unfolding answered
on-book rs z end = tt
on-book rs z (◌▹◌ {r = r} {rs = rest} a more) =
    let t = and-true (blocks_are_bytes r.calls) (rows_are_bytes rest) z in
    ((λ m made. ap all_told (demand3 m r.n made r.calls t.0).told ∙ a), on-book rest t.1 more)

-- P1 to P13
pub cases : OnBook Cases.table
unfolding Cases.table blocks_are_bytes every be_bytes
cases = on-book Cases.table refl Cases.cases

pub shared : OnBook Shared.table
unfolding Shared.table blocks_are_bytes every be_bytes
shared = on-book Shared.table refl Shared.cases

pub checks : OnBook Checks.table
unfolding Checks.table blocks_are_bytes every be_bytes
checks = on-book Checks.table refl Checks.cases

pub bounds : OnBook Bounds.table
unfolding Bounds.table blocks_are_bytes every be_bytes
bounds = on-book Bounds.table refl Bounds.cases

pub times : OnBook Times.table
unfolding Times.table blocks_are_bytes every be_bytes
times = on-book Times.table refl Times.cases

pub finra_odd_lots : OnBook FinraOddLots.table
unfolding FinraOddLots.table blocks_are_bytes every be_bytes
finra_odd_lots = on-book FinraOddLots.table refl FinraOddLots.cases

pub protected : OnBook Protected.table
unfolding Protected.table blocks_are_bytes every be_bytes
protected = on-book Protected.table refl Protected.cases

pub closed : OnBook Closed.table
unfolding Closed.table blocks_are_bytes every be_bytes
closed = on-book Closed.table refl Closed.cases

pub leading : OnBook Leading.table
unfolding Leading.table blocks_are_bytes every be_bytes
leading = on-book Leading.table refl Leading.cases

pub halts : OnBook Halts.table
unfolding Halts.table blocks_are_bytes every be_bytes
halts = on-book Halts.table refl Halts.cases

pub snapshots : OnBook Snapshots.table
unfolding Snapshots.table blocks_are_bytes every be_bytes
snapshots = on-book Snapshots.table refl Snapshots.cases

pub sweeps : OnBook Sweeps.table
unfolding Sweeps.table blocks_are_bytes every be_bytes
sweeps = on-book Sweeps.table refl Sweeps.cases
