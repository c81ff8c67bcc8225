use Rattle.block.specs.Sequence.{next_of}
use Rattle.opening.proofs.step.Goals as goal

pub returns : goal.returns
unfolding next_of
returns c =
    λ i. record {
      letter = c.args.line.now.letter;
      expected = c.wrapping_add_u32-line.ensures.value i;
      count = c.wrapping_add_u64-line.ensures.value i;
    }
