use native.Mathlib.Omega.{arith}
use Rattle.venuequote.proofs.WriteLaws.{marks-room-odd, marks-round, marks-odd}
use borrow.Author.Rules.{rules}
use Rattle.venuequote.proofs.put_marks.Goals as goal

pub returns-then-not-form : goal.returns-then-not-form
returns-then-not-form c =
    marks-odd c.args.form c.args.msg.now _ _ _ _ _ _ _ _ (omega arith) c.clear_at-clear.ensures.0 c.byte-mark.ensures c.byte-bids.ensures c.byte-offers.ensures c.copy_from_slice.ensures.after
    (marks-room-odd c.args.form.round _ _ (search rules) c.requires) (search rules)

pub returns-else-not-form : goal.returns-else-not-form
returns-else-not-form c =
    marks-round c.args.form c.args.msg.now _ _ _ _ _ _ _ _ (omega arith) c.clear_at-clear.ensures.0 c.byte-mark.ensures c.byte-bids.ensures c.byte-offers.ensures c.copy_from_slice.ensures.after
    (search rules)
