use Rattle.walk.proofs.GuessLaws.{stored-none, stored_some}
use Rattle.field.specs.Ascii.{A, Z}
use Prim.Native.Nat.{◌≤◌}
use native.Mathlib.Omega.{arith}
use borrow.Author.Rules.{rules}
use Rattle.walk.proofs.odd_at.Goals as goal

-- `walk::odd_at` meets its contract.

pub returns-then-letter-eq0 : goal.returns-then-letter-eq0
returns-then-letter-eq0 c = stored-none _ _ _ c.if-letter-eq0.true

pub slot_at-requires : goal.slot_at-requires
slot_at-requires c =
    let letter : (A ≤ c.args.letter) × (c.args.letter ≤ Z) =
    c.requires.1 c.if-letter-eq0.false in
    letter

pub get-level-requires : goal.get-level-requires
get-level-requires c =
    let letter : (A ≤ c.args.letter) × (c.args.letter ≤ Z) =
    c.requires.1 c.if-letter-eq0.false in
    let l = c.args.letter in
    let h : (A ≤ l) × (l ≤ Z) = letter in
    let lo : A ≤ l = h.0 in
    let hi : l ≤ Z = h.1 in
    search rules

pub overflow_cast-result : goal.overflow_cast-result
overflow_cast-result c =
    let letter : (A ≤ c.args.letter) × (c.args.letter ≤ Z) =
    c.requires.1 c.if-letter-eq0.false in
    let h : _ = letter in omega (arith, h.1)

pub returns : goal.returns
returns c = stored_some _ _ _ c.if-letter-eq0.false _ _ _ c.slot_at.ensures c.in_levels.ensures.0 c.get-level.ensures
