use Rattle.std.proofs.Common.{◌+◌, ◌<◌, ◌≤◌, length, le-ltb, ◌∙◌, arith}
use Rattle.opening.proofs.ReadLaws.{counted-room, place-counted, place-above}
use Rattle.page.specs.Layout.{page_length}
use Rattle.opening.specs.Layout.{page_start, symbols_most}
use Rattle.opening.proofs.is_place.Goals as goal

pub overflow_mul-k : goal.overflow_mul-k
overflow_mul-k c =
    let room : (page_start c.args.k + page_length ≤ length c.args.book.now) × (c.args.k < symbols_most) =
    counted-room _ _ _ c.requires.0 c.requires.1 (omega (arith, c.if-k-count.true)) in
    omega (arith, room.1)

pub overflow_add-k : goal.overflow_add-k
overflow_add-k c =
    let room : (page_start c.args.k + page_length ≤ length c.args.book.now) × (c.args.k < symbols_most) =
    counted-room _ _ _ c.requires.0 c.requires.1 (omega (arith, c.if-k-count.true)) in
    omega (arith, room.1)

pub has_symbol-requires : goal.has_symbol-requires
has_symbol-requires c =
    let room : (page_start c.args.k + page_length ≤ length c.args.book.now) × (c.args.k < symbols_most) =
    counted-room _ _ _ c.requires.0 c.requires.1 (omega (arith, c.if-k-count.true)) in
    omega (arith, room.0)

pub returns-then-k-count : goal.returns-then-k-count
returns-then-k-count c = place-counted _ _ _ _ _ c.requires.1 c.if-k-count.true c.has_symbol.ensures

pub returns-else-k-count : goal.returns-else-k-count
returns-else-k-count c =
    le-ltb _ _ c.if-k-count.false ∙ place-above _ _ _ _ c.requires.1 c.if-k-count.false
