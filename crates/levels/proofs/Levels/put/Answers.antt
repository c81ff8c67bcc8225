use lib.ListN.{length}
use mathlib.Core.Path.{◌≡◌}
use Rattle.levels.proofs.CellLaws.{put_four, length-of-map}
use borrow.Author.Rules.{rules}
use Rattle.levels.proofs.Levels.put.Goals as goal

pub returns : goal.returns
returns c =
    let four : length c.args.self.cells ≡ 4 =
    search (length-of-map, rules) in
    let d = c in
    let a = d in
    let f = a in
    put_four f.args.self.cells _ four _ _ _ _ _ _ a.put.ensures d.put-2.ensures d.put-3.ensures d.put-4.ensures
