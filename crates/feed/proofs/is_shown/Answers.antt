use Prim.Native.Nat.{ℕ}
use mathlib.Core.Path.{ap, ◌∙◌}
use Rattle.field.specs.Field.{field}
use Rattle.feed.proofs.LetterLaws.{hidden-d, hidden-s, shown-quoted}
use Rattle.feed.proofs.is_shown.Goals.{then-letter-ne-D, else-letter-ne-D}
use Rattle.feed.proofs.is_shown.Goals as goal

-- `feed::is_shown` meets its contract.

pub returns-then-letter-ne-S : goal.returns-then-letter-ne-S
returns-then-letter-ne-S c =
    shown-quoted _ _ _ _ c.requires.1.0 c.requires.1.1 c.if-letter-ne-S.true.0 c.if-letter-ne-S.true.1
    (c.get8.ensures ∙ ap (λ (k : ℕ). field c.args.page.now k 1) c.slot_at.ensures) c.is_quoted.ensures

pub returns-else-letter-ne-S : goal.returns-else-letter-ne-S
returns-else-letter-ne-S c =
    elim c.if-letter-ne-D.branch [
      | then-letter-ne-D w ↦ w.t-4-is ∙ hidden-s _ _ w.if-letter-ne-D.true c.if-letter-ne-S.either
      | else-letter-ne-D w ↦ w.t-4-is ∙ hidden-d _ _ w.if-letter-ne-D.false
    ]
