use native.Mathlib.Omega.{arith}
use Rattle.opening.proofs.ReadLaws.{found-room}
use Rattle.convert.proofs.LotLaws.{lot-found, lot-missing}
use Rattle.convert.proofs.lot_in.Goals as goal

pub returns-in_default : goal.returns-in_default
returns-in_default c = lot-missing _ _ _ c.find.ensures c.in_default.is

pub overflow_mul-k : goal.overflow_mul-k
overflow_mul-k c = omega (arith, (found-room _ _ _ _ c.requires.0 c.find.ensures c.in-Some.is).1)

pub overflow_add-k : goal.overflow_add-k
overflow_add-k c = omega (arith, (found-room _ _ _ _ c.requires.0 c.find.ensures c.in-Some.is).1)

pub overflow_add-k-2 : goal.overflow_add-k-2
overflow_add-k-2 c = omega (arith, (found-room _ _ _ _ c.requires.0 c.find.ensures c.in-Some.is).1)

pub get8-requires : goal.get8-requires
get8-requires c = omega (arith, (found-room _ _ _ _ c.requires.0 c.find.ensures c.in-Some.is).0)

pub returns : goal.returns
returns c =
    lot-found _ _ _ c.find.ensures _ _ c.in-Some.is c.get8.ensures
