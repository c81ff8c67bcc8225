use Rattle.std.proofs.Common.{◌+◌, ◌<◌, ◌≤◌, length, refl, arith, rules}
use Rattle.lists.proofs.Searches.{first_found, first-again, first-end}
use Rattle.opening.proofs.ReadLaws.{counted-room, page-symbol, find-start}
use Rattle.page.specs.Layout.{page_length}
use Rattle.opening.specs.Layout.{page_start, symbols_most}
use Rattle.opening.proofs.first.Goals as goal

pub loop-k-init : goal.loop-k-init
loop-k-init c = (search rules, find-start _ _ _ c.requires.1)

pub overflow_mul-k : goal.overflow_mul-k
overflow_mul-k c =
    let room : (page_start c.loop-k.k + page_length ≤ length c.args.book.now) × (c.loop-k.k < symbols_most) =
    counted-room _ _ _ c.requires.0 c.requires.1 (omega (arith, c.loop-k-test.true)) in
    omega (arith, room.1)

pub overflow_add-k : goal.overflow_add-k
overflow_add-k c =
    let room : (page_start c.loop-k.k + page_length ≤ length c.args.book.now) × (c.loop-k.k < symbols_most) =
    counted-room _ _ _ c.requires.0 c.requires.1 (omega (arith, c.loop-k-test.true)) in
    omega (arith, room.1)

pub has_symbol-requires : goal.has_symbol-requires
has_symbol-requires c =
    let room : (page_start c.loop-k.k + page_length ≤ length c.args.book.now) × (c.loop-k.k < symbols_most) =
    counted-room _ _ _ c.requires.0 c.requires.1 (omega (arith, c.loop-k-test.true)) in
    omega (arith, room.0)

pub returns-then-has_symbol : goal.returns-then-has_symbol
returns-then-has_symbol c =
    first_found _ _ _ _ c.loop-k-test.true c.loop-k.invariant.1 (page-symbol _ _ _ _ _ _ refl c.has_symbol.ensures c.if-has_symbol.true)

pub loop-k-preserved : goal.loop-k-preserved
loop-k-preserved c =
    (search rules, first-again _ _ _ _ c.loop-k-test.true c.loop-k.invariant.1 (page-symbol _ _ _ _ _ _ refl c.has_symbol.ensures c.if-has_symbol.false))

pub returns : goal.returns
returns c = first-end _ _ _ _ c.loop-k-test.false c.loop-k.invariant.1
