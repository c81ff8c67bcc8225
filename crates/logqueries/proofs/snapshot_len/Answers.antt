use mathlib.Core.Path.{refl, ap, ◌∙◌}
use Rattle.field.specs.Field.{splice}
use Rattle.calls.specs.Call.{snapshot_len}
use Rattle.logcalls.proofs.WordLaws.{bare-bytes}
use Rattle.logqueries.proofs.AskLaws.{ran-words}
use Rattle.logqueries.proofs.snapshot_len.Goals as goal

pub returns-in-Ok : goal.returns-in-Ok
returns-in-Ok c = ran-words _ _ (snapshot_len c.args.args.now) _ _ _ _ c.in-Ok.ensures refl refl c.requires c.put_words.ensures

pub returns-in-Err : goal.returns-in-Err
returns-in-Err c =
    rw c.refused.ensures.0 (ran-words _ _ (snapshot_len c.args.args.now) _ _ _ _ c.in-Err.ensures refl refl c.requires (c.refused.ensures.1 ∙ ap (splice _ 0) (bare-bytes _)))
