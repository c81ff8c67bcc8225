use Prim.Native.Nat.{◌+◌, ◌≤◌, ◌<◌}
use mathlib.Core.Path.{refl, sym, ◌∙◌}
use native.Mathlib.Omega.{arith}
use lib.ListN.{length}
use Rattle.work.proofs.MessageLaws.{symbol-inside, items-are, round_items, page-inside, told-nowhere, told_at}
use borrow.Author.Rules.{rules}
use Rattle.page.specs.Layout.{page_length}
use Rattle.opening.specs.Layout.{page_start, symbols_most}
use Rattle.work.proofs.work_round_lot.Goals as goal

pub slice_bounds-find-end : goal.slice_bounds-find-end
slice_bounds-find-end c = symbol-inside _ _ _ c.requires.msg_value refl

pub returns-in_default : goal.returns-in_default
returns-in_default c =
    told-nowhere _ c.requires.book_value.0 _ c.requires.book_value.1 _ _ c.requires.msg_value refl (sym c.find.ensures ∙ c.in_default.is)

pub overflow_mul-a : goal.overflow_mul-a
overflow_mul-a c =
    let hit : let k = c.in-Some.k in (k < symbols_most) × (page_start k + page_length ≤ length c.args.book.now) =
    page-inside _ c.requires.book_value.0 _ _ (sym c.find.ensures ∙ c.in-Some.is) in
    omega (arith, hit)

pub overflow_add-a : goal.overflow_add-a
overflow_add-a c =
    let hit : let k = c.in-Some.k in (k < symbols_most) × (page_start k + page_length ≤ length c.args.book.now) =
    page-inside _ c.requires.book_value.0 _ _ (sym c.find.ensures ∙ c.in-Some.is) in
    omega (arith, hit)

pub overflow_add-e : goal.overflow_add-e
overflow_add-e c =
    let hit : let k = c.in-Some.k in (k < symbols_most) × (page_start k + page_length ≤ length c.args.book.now) =
    page-inside _ c.requires.book_value.0 _ _ (sym c.find.ensures ∙ c.in-Some.is) in
    omega (arith, hit)

pub slice_bounds-round_lot-end : goal.slice_bounds-round_lot-end
slice_bounds-round_lot-end c =
    let hit : let k = c.in-Some.k in (k < symbols_most) × (page_start k + page_length ≤ length c.args.book.now) =
    page-inside _ c.requires.book_value.0 _ _ (sym c.find.ensures ∙ c.in-Some.is) in
    omega (arith, hit)

pub slice_bounds-round_lot-count-2 : goal.slice_bounds-round_lot-count-2
slice_bounds-round_lot-count-2 c = omega (arith, round_items _ _ _ _ _ c.requires.msg_value)

pub slice_bounds-round_lot-start-2 : goal.slice_bounds-round_lot-start-2
slice_bounds-round_lot-start-2 c = omega (arith, round_items _ _ _ _ _ c.requires.msg_value)

pub round_lot-code-requires : goal.round_lot-code-requires
round_lot-code-requires c =
    record { page_len = (search rules, c.requires.book_value.1); len = (round_items _ _ _ _ _ c.requires.msg_value).1 }

pub returns : goal.returns
returns c =
    told_at _ c.requires.book_value.0 _ c.requires.book_value.1 _ _ c.requires.msg_value refl _ (sym c.find.ensures ∙ c.in-Some.is) c.round_lot-code.result.code c.round_lot-code.result.flags _ (rw items-are at c.round_lot-code.ensures)
