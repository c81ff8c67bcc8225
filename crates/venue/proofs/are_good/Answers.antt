use mathlib.Core.Path.{◌∙◌}
use native.Mathlib.Omega.{arith}
use Rattle.venuerules.specs.Rules.{message_good}
use Rattle.venue.proofs.BlockLaws.{sound-is}
use Rattle.venue.proofs.WalkLaws.{all-good}
use Rattle.venue.specs.Venue.{messages_good, venue_messages}
use borrow.Author.Rules.{rules}
use Rattle.venue.proofs.are_good.Goals as goal

pub get32-sequence-requires : goal.get32-sequence-requires
get32-sequence-requires c = omega (arith, (sound-is _ c.requires).long)

pub returns : goal.returns
returns c =
    c.pass_all.ensures (message_good c.count-c.result c.get32-sequence.result) (λ i m r e. search rules)
    ∙ all-good c.count-c.result c.get32-sequence.result 0 (venue_messages c.args.block.now)
    ∙ (λ j. messages_good (c.count-c.ensures.0 j) (c.get32-sequence.ensures j) 0 (venue_messages c.args.block.now))
