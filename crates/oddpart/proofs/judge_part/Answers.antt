use mathlib.Core.Path.{◌≡◌, sym, ◌∙◌}
use mathlib.Core.Bool.{true}
use Rattle.lists.specs.Lists.{member}
use Rattle.lists.proofs.Tables.{one_of, none_of}
use Rattle.lists.proofs.Tests.{clash}
use Rattle.levels.specs.Levels.{clear_marks}
use Rattle.oddpart.proofs.PartLaws.{part-60, part-61, part-items}
use Rattle.oddpart.proofs.judge_part.Goals.{in-32, in_default}
use Rattle.oddpart.proofs.judge_part.Goals as goal

pub returns-then-not-matches : goal.returns-then-not-matches
returns-then-not-matches c =
    part-60 _ _ _ _ _ (elim c.match-matches.branch [
      | in-32 w ↦ clash (sym w.matches-is ∙ c.if-not-matches.true)
      | in_default w ↦ none_of clear_marks _ w.in_default.in_default-own.rest.1
    ])

pub returns-then-bids-gt4 : goal.returns-then-bids-gt4
returns-then-bids-gt4 c =
    let m : member clear_marks c.args.mark ≡ true = elim c.match-matches.branch [
      | in-32 w ↦ one_of clear_marks _ w.in-32.is
      | in_default w ↦ clash (sym c.if-not-matches.false ∙ w.matches-is)
    ] in
    part-61 _ _ _ _ _ m c.then-bids-gt4.either

pub returns : goal.returns
returns c =
    let m : member clear_marks c.args.mark ≡ true = elim c.match-matches.branch [
      | in-32 w ↦ one_of clear_marks _ w.in-32.is
      | in_default w ↦ clash (sym c.if-not-matches.false ∙ w.matches-is)
    ] in
    c.judge_items.ensures ∙ part-items _ _ _ _ _ m c.if-bids-gt4.false c.if-offers-gt4.false
