use Prim.Native.Nat.{◌+◌}
use Rattle.field.specs.Ascii.{Z}
use Rattle.page.specs.Page.{quotes_in}
use Rattle.snapshot.specs.Sizes.{letters_first}
use Rattle.feed.proofs.LetterLaws.{first_count}
use Rattle.feed.proofs.FeedLaws.{two_is}
use borrow.Author.Rules.{rules}
use Rattle.feed.proofs.write_two.Goals as goal

-- `feed::write_two` meets its contract.

pub put_first-requires : goal.put_first-requires
put_first-requires c =
    let b = c.behind-letter.ensures in
    (c.requires.0, (b.0, (b.1.0, (first_count (quotes_in c.args.page.now) _ (Z + 1) letters_first b.0 b.1.0 b.1.1, search rules))))

pub returns : goal.returns
returns c =
    let b = c.behind-letter.ensures in
    two_is c.args.symbol.now c.args.page.now c.requires.0 _ b.0 b.1.0 b.1.1 c.args.k _ _ _ c.requires.1.0 c.requires.1.1.0 c.put_first.ensures c.put_second.ensures
