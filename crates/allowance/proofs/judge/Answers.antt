use Rattle.allowance.proofs.SettingLaws.{blocks-none, blocks-many, shares-count, shares-many, setting-good}
use Rattle.allowance.proofs.judge.Goals as goal

pub returns-then-blocks-lt1 : goal.returns-then-blocks-lt1
returns-then-blocks-lt1 c = blocks-none _ _ c.if-blocks-lt1.true

pub returns-then-blocks-gt-BLOCKS_MAX : goal.returns-then-blocks-gt-BLOCKS_MAX
returns-then-blocks-gt-BLOCKS_MAX c = blocks-many _ _ c.if-blocks-lt1.false c.if-blocks-gt-BLOCKS_MAX.true

pub returns-then-shares-ne-LINES : goal.returns-then-shares-ne-LINES
returns-then-shares-ne-LINES c = shares-count _ _ c.if-blocks-lt1.false c.if-blocks-gt-BLOCKS_MAX.false c.if-shares-ne-LINES.true

pub returns-then-blocks-total : goal.returns-then-blocks-total
returns-then-blocks-total c =
    let t = c in
    let e = t in
    shares-many _ _ e.if-blocks-lt1.false e.if-blocks-gt-BLOCKS_MAX.false e.if-shares-ne-LINES.false _ t.total.ensures c.if-blocks-total.true

pub returns : goal.returns
returns c =
    let t = c in
    let e = t in
    setting-good _ _ e.if-blocks-lt1.false e.if-blocks-gt-BLOCKS_MAX.false e.if-shares-ne-LINES.false _ t.total.ensures c.if-blocks-total.false
