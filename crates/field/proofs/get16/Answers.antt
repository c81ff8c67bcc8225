use mathlib.Core.Path.{ap, ◌∙◌}
use Rattle.field.specs.Field.{Bytes}
use Rattle.field.specs.code.Swap.{swapped}
use Rattle.field.proofs.LowLaws.{swapped-low}
use Rattle.field.proofs.get16.Goals as goal

pub returns : goal.returns
returns c =
    let a = c in
    let b : Bytes a.args.s.now = λ i. (c.shared_slice_known-1.given i).fits in
    c.swap16.ensures ∙ ap (swapped 2) c.low16.ensures ∙ swapped-low a.args.s.now a.args.at 2 a.requires b
