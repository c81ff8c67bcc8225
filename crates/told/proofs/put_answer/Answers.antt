use Rattle.std.proofs.Common.{◌*◌, arith}
use Rattle.field.proofs.PartLaws.{splice_put}
use Rattle.told.specs.code.Steps.{quad}
use Rattle.told.proofs.put_answer.Goals as goal

pub returns : goal.returns
returns c = splice_put c.args.answer.now (4 * c.args.i) _ _ (quad c.args.i c.args.told) c.copy_from_slice.ensures.after (omega arith)
