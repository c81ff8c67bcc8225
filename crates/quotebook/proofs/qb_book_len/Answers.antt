use Rattle.quotebook.proofs.InterfaceLaws.{len-none, len-many, len-good}
use Rattle.quotebook.proofs.qb_book_len.Goals as goal

pub returns-then-n-lt1 : goal.returns-then-n-lt1
returns-then-n-lt1 c = len-none _ c.if-n-lt1.true

pub returns-then-n-gt-N_MAX : goal.returns-then-n-gt-N_MAX
returns-then-n-gt-N_MAX c = len-many _ c.if-n-lt1.false c.if-n-gt-N_MAX.true

pub returns : goal.returns
returns c = len-good _ c.if-n-lt1.false c.if-n-gt-N_MAX.false
