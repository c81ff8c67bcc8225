use lib.ListN.{length}
use mathlib.Core.Path.{◌≡◌}
use Rattle.levels.proofs.CellLaws.{without_is, length-of-map}
use borrow.Author.Rules.{rules}
use Rattle.levels.proofs.Levels.without.Goals as goal

pub returns : goal.returns
returns c =
    let four : length c.args.self.cells ≡ 4 =
    search (length-of-map, rules) in
    let m = c in
    let g = m in
    without_is _ _ four _ _ _ _ _ _ _ _ _ g.is_gone-g0.ensures g.is_gone-g1.ensures g.is_gone-g2.ensures g.is_gone-g3.ensures
    m.moved_up.ensures m.moved_up-2.ensures c.moved_up-3.ensures c.moved_up-4.ensures
