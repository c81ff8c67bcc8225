use Rattle.logcalls.proofs.RanLaws.{put-bare-is}
use Rattle.logcalls.proofs.put_bare.Goals as goal

pub returns : goal.returns
returns c = put-bare-is _ _ _ c.put_words.ensures
