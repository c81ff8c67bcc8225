use Rattle.keys.proofs.KeyLaws.{bar-below, bar-full, full-some}
use Rattle.keys.proofs.bar.Goals as goal

pub returns-then-price-lt-FULL : goal.returns-then-price-lt-FULL
returns-then-price-lt-FULL c = bar-below _ _ _ c.key-key.ensures c.if-price-lt-FULL.true

pub overflow_sub-result : goal.overflow_sub-result
overflow_sub-result c = full-some _ _ _ c.key-key.ensures c.if-price-lt-FULL.false

pub returns : goal.returns
returns c = bar-full _ _ _ c.key-key.ensures c.if-price-lt-FULL.false
