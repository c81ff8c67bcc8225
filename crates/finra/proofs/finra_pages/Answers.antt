use Prim.Native.Nat.{◌≤◌}
use native.Mathlib.Omega.{arith}
use lib.ListN.{length}
use Rattle.opening.proofs.OpeningLaws.{sound-of}
use Rattle.finra.proofs.FinraLaws.{finra-room, finra-whole}
use Rattle.opening.specs.Layout.{book_length, symbols_most}
use Rattle.finra.proofs.finra_pages.Goals as goal

pub get8-n-requires : goal.get8-n-requires
get8-n-requires c = omega (arith, (sound-of _ c.requires).size)

pub get8-count-requires : goal.get8-count-requires
get8-count-requires c = omega (arith, (sound-of _ c.requires).size)

pub mark_pages-flags-requires : goal.mark_pages-flags-requires
mark_pages-flags-requires c =
    let room : let n = c.get8-n.result in ((1 ≤ n) × (n ≤ symbols_most)) × ((c.get8-count.result ≤ n) × (book_length n ≤ length c.args.book.now)) =
    finra-room _ c.requires _ _ c.get8-n.ensures c.get8-count.ensures in
    omega (arith, room)

pub mark_pages-requires : goal.mark_pages-requires
mark_pages-requires c =
    let room : let n = c.get8-n.result in ((1 ≤ n) × (n ≤ symbols_most)) × ((c.get8-count.result ≤ n) × (book_length n ≤ length c.args.book.now)) =
    finra-room _ c.requires _ _ c.get8-n.ensures c.get8-count.ensures in
    omega (arith, room, c.mark_pages-flags.auto.book)

pub returns : goal.returns
returns c =
    finra-whole _ _ c.requires _ _ c.get8-n.ensures c.get8-count.ensures _ _ _ c.mark_pages-flags.ensures.0 c.mark_pages-flags.ensures.1 c.mark_pages.ensures.1
