use Rattle.levels.proofs.CellLaws.{read_is}
use Rattle.levels.proofs.Levels.read.Goals as goal

pub returns : goal.returns
returns c =
    let d = c in
    read_is _ _ _ _ _ _ _ _ _ _ _ d.get.ensures d.get-2.ensures c.get-3.ensures c.get-4.ensures
    d.standing-a.ensures d.standing_behind-b.ensures c.standing_behind-c.ensures c.standing_behind-d.ensures
