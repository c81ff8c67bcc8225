use mathlib.Core.Path.{refl}
use Rattle.logform.proofs.LogLaws.{entry-end, entry-short, entry-small, entry-cut, entry-wrong, entry-right}
use Rattle.logform.proofs.entry_at.Goals as goal

pub returns-then-log-at : goal.returns-then-log-at
returns-then-log-at c = entry-end _ _ c.if-log-at.true

pub returns-then-left-lt-SHORTEST : goal.returns-then-left-lt-SHORTEST
returns-then-left-lt-SHORTEST c = entry-short _ _ c.if-log-at.false c.if-left-lt-SHORTEST.true

pub returns-then-len-lt-SHORTEST : goal.returns-then-len-lt-SHORTEST
returns-then-len-lt-SHORTEST c = entry-small _ _ c.if-log-at.false c.if-left-lt-SHORTEST.false _ c.get32-len.ensures c.if-len-lt-SHORTEST.true

pub returns-then-left-len : goal.returns-then-left-len
returns-then-left-len c =
    let q = c in
    entry-cut _ _ q.if-log-at.false q.if-left-lt-SHORTEST.false _ q.get32-len.ensures c.if-len-lt-SHORTEST.false c.if-left-len.true

pub returns-then-check_of-get32 : goal.returns-then-check_of-get32
returns-then-check_of-get32 c =
    let q = c in
    let r = q in
    entry-wrong _ _ r.if-log-at.false r.if-left-lt-SHORTEST.false _ r.get32-len.ensures q.if-len-lt-SHORTEST.false q.if-left-len.false _ refl _ c.check_of.ensures _ c.get32.ensures c.if-check_of-get32.true

pub returns : goal.returns
returns c =
    let q = c in
    let r = q in
    entry-right
    _
    _
    r.if-log-at.false
    r.if-left-lt-SHORTEST.false
    _
    r.get32-len.ensures
    q.if-len-lt-SHORTEST.false
    q.if-left-len.false
    _
    refl
    _
    c.check_of.ensures
    _
    c.get32.ensures
    c.if-check_of-get32.false
    _
    c.get8.ensures
