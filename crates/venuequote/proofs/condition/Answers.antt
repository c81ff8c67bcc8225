use Rattle.venuequote.proofs.condition.Goals as goal

pub returns-then-form : goal.returns-then-form
returns-then-form c = rw c.if-form.true c.byte.ensures
