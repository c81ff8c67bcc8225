use Rattle.walk.proofs.StepLaws.{quoted-priceless, quoted-sizeless, quoted-not, quoted-some}
use Rattle.walk.proofs.quoted.Goals as goal

-- `walk::quoted` meets its contract.

pub returns-then-price-eq0 : goal.returns-then-price-eq0
returns-then-price-eq0 c = quoted-priceless _ _ _ _ _ c.in_quote.ensures.0 _ c.low64-price.ensures c.if-price-eq0.true

pub returns-then-size-eq0 : goal.returns-then-size-eq0
returns-then-size-eq0 c =
    quoted-sizeless _ _ _ _ _ c.in_quote.ensures.0 _ c.low64-price.ensures _ c.low32-size.ensures c.if-size-eq0.true

pub returns-then-admits : goal.returns-then-admits
returns-then-admits c =
    quoted-some _ _ _ _ _ c.in_quote.ensures.0 _ c.low64-price.ensures _ c.low32-size.ensures _ c.get8-condition.ensures _
    c.admits.ensures _ c.low64-time.ensures c.if-price-eq0.false c.if-size-eq0.false c.if-admits.true

pub returns : goal.returns
returns c =
    quoted-not _ _ _ _ _ c.in_quote.ensures.0 _ c.low64-price.ensures _ c.low32-size.ensures _ c.get8-condition.ensures _
    c.admits.ensures c.if-admits.false
