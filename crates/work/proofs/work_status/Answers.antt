use Prim.Native.Nat.{◌+◌, ◌≤◌, ◌<◌}
use mathlib.Core.Path.{refl, sym, ◌∙◌}
use native.Mathlib.Omega.{arith}
use lib.ListN.{length}
use Rattle.work.proofs.MessageLaws.{symbol-inside, page-inside, told-nowhere, told_at}
use Rattle.page.specs.Layout.{page_length}
use Rattle.opening.specs.Layout.{page_start, symbols_most}
use Rattle.work.proofs.work_status.Goals as goal

pub slice_bounds-find-end : goal.slice_bounds-find-end
slice_bounds-find-end c = symbol-inside _ _ _ c.requires.msg_value refl

pub returns-in_default : goal.returns-in_default
returns-in_default c =
    told-nowhere _ c.requires.book_value.0 _ c.requires.book_value.1 _ _ c.requires.msg_value refl (sym c.find.ensures ∙ c.in_default.is)

pub overflow_mul-a : goal.overflow_mul-a
overflow_mul-a c =
    let hit : let k = c.in-Some.k in (k < symbols_most) × (page_start k + page_length ≤ length c.args.book.now) =
    page-inside _ c.requires.book_value.0 _ _ (sym c.find.ensures ∙ c.in-Some.is) in
    omega (arith, hit)

pub overflow_add-a : goal.overflow_add-a
overflow_add-a c =
    let hit : let k = c.in-Some.k in (k < symbols_most) × (page_start k + page_length ≤ length c.args.book.now) =
    page-inside _ c.requires.book_value.0 _ _ (sym c.find.ensures ∙ c.in-Some.is) in
    omega (arith, hit)

pub overflow_add-e : goal.overflow_add-e
overflow_add-e c =
    let hit : let k = c.in-Some.k in (k < symbols_most) × (page_start k + page_length ≤ length c.args.book.now) =
    page-inside _ c.requires.book_value.0 _ _ (sym c.find.ensures ∙ c.in-Some.is) in
    omega (arith, hit)

pub slice_bounds-trading_status-end : goal.slice_bounds-trading_status-end
slice_bounds-trading_status-end c =
    let hit : let k = c.in-Some.k in (k < symbols_most) × (page_start k + page_length ≤ length c.args.book.now) =
    page-inside _ c.requires.book_value.0 _ _ (sym c.find.ensures ∙ c.in-Some.is) in
    omega (arith, hit)

pub returns : goal.returns
returns c =
    told_at _ c.requires.book_value.0 _ c.requires.book_value.1 _ _ c.requires.msg_value refl _ (sym c.find.ensures ∙ c.in-Some.is) c.trading_status-code.result.code c.trading_status-code.result.flags _ c.trading_status-code.ensures
