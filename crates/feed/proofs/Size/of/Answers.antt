use native.Mathlib.Omega.{arith}
use Rattle.feed.proofs.FeedLaws.{size-one, size-two}
use Rattle.feed.proofs.Size.of.Goals as goal

-- `feed::Size::of` meets its contract.

pub returns-then-k-le-ALONE : goal.returns-then-k-le-ALONE
returns-then-k-le-ALONE c = size-one _ (omega arith)

pub returns : goal.returns
returns c = size-two _ (omega arith)
