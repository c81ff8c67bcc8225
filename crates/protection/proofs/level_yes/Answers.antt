use Rattle.std.proofs.Common.{refl}
use Rattle.protection.proofs.StepLaws.{level-short, level-priceless, level-sized}
use Rattle.protection.proofs.level_yes.Goals.{then-shown-eq0-via-then-shown-eq0, then-shown-eq0-via-else-shown-eq0+then-not-reaches}
use Rattle.protection.proofs.level_yes.Goals as goal

-- `protection::level_yes` meets its contract.

pub returns-then-shown-eq0 : goal.returns-then-shown-eq0
returns-then-shown-eq0 c =
    elim c.then-shown-eq0.branch [
      | then-shown-eq0-via-then-shown-eq0 w ↦ level-priceless _ _ _ _ _ c.low64-shown.ensures _ refl w.if-shown-eq0.true
      | then-shown-eq0-via-else-shown-eq0+then-not-reaches w ↦ level-short _ _ _ _ _ c.low64-shown.ensures _ w.reaches.ensures w.if-not-reaches.true
    ]

pub returns : goal.returns
returns c = level-sized _ _ _ _ _ c.low64-shown.ensures _ c.reaches.ensures c.if-shown-eq0.false c.if-not-reaches.false _ _ c.low32.ensures refl
