use Rattle.feedform.proofs.seal.Goals as goal

-- `feedform::seal` meets its contract.

pub returns : goal.returns
returns c = rw (← c.total-sum.ensures) c.put16.ensures
