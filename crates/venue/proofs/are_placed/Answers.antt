use mathlib.Core.Path.{◌∙◌}
use Rattle.venuerules.specs.Rules.{message_placed}
use Rattle.venue.proofs.WalkLaws.{all-placed}
use Rattle.venue.specs.Venue.{venue_messages}
use borrow.Author.Rules.{rules}
use Rattle.venue.proofs.are_placed.Goals as goal

pub returns : goal.returns
returns c =
    c.pass_all.ensures (λ i. message_placed) (λ i m r e. search rules)
    ∙ all-placed 0 (venue_messages c.args.block.now)
