use Rattle.std.proofs.Common.{sym, ◌∙◌, arith}
use Rattle.opening.proofs.ReadLaws.{opening-room, line-above, line-closed, line-is}
use Rattle.opening.proofs.line_state.Goals as goal

pub returns-then-line-gt-LAST : goal.returns-then-line-gt-LAST
returns-then-line-gt-LAST c = line-above _ _ c.if-line-gt-LAST.true

pub get8-letter-requires : goal.get8-letter-requires
get8-letter-requires c = omega (arith, opening-room _ c.requires)

pub get32-expected-requires : goal.get32-expected-requires
get32-expected-requires c = omega (arith, opening-room _ c.requires)

pub get64-count-requires : goal.get64-count-requires
get64-count-requires c = omega (arith, opening-room _ c.requires)

pub returns-then-is_letter : goal.returns-then-is_letter
returns-then-is_letter c =
    line-is _ _ _ c.if-line-gt-LAST.false c.get8-letter.ensures _ _ (sym c.is_letter.ensures ∙ c.if-is_letter.true) c.get32-expected.ensures c.get64-count.ensures

pub returns : goal.returns
returns c = line-closed _ _ _ c.if-line-gt-LAST.false c.get8-letter.ensures (sym c.is_letter.ensures ∙ c.if-is_letter.false)
