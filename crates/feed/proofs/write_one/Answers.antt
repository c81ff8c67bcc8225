use mathlib.Core.Path.{sym, ap, ◌∙◌}
use native.Mathlib.Omega.{arith}
use Rattle.snapshot.specs.Sizes.{feed_length}
use Rattle.feed.proofs.FeedLaws.{only-into, length-alone}
use Rattle.feed.proofs.write_one.Goals as goal

-- `feed::write_one` meets its contract.

pub returns : goal.returns
returns c =
    only-into c.args.symbol.now c.args.page.now c.requires.0 _ _ _ (omega (arith, c.requires.1.0, c.requires.1.1.0)) (sym (length-alone c.args.k c.requires.1.1.0) ∙ ap feed_length c.requires.1.0) c.put_only.ensures
