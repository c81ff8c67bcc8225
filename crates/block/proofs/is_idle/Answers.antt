use Rattle.std.proofs.Common.{◌≡◌, ◌+◌, ◌≤◌, true, [], ◌∷◌, length, ◌∙◌, arith, lit<, rules, eq-eqb, ne_eqb}
use Rattle.lists.specs.Lists.{at}
use Rattle.lists.proofs.Tables.{one_of, none_of}
use Rattle.block.specs.Block.{idle_block, is_control, message_at}
use Rattle.block.proofs.StartLaws.{message-inside, message-first, message-field}
use Rattle.block.proofs.CheckLaws.{Passed, passed, passed-readable}
use Rattle.block.proofs.is_idle.Goals as goal

pub start-at-requires : goal.start-at-requires
start-at-requires c =
    let passes : Passed c.args.block.now c.args.c =
    passed _ _ c.requires in
    passed-readable _ _ (passes)

pub get8-requires : goal.get8-requires
get8-requires c =
    let passes : Passed c.args.block.now c.args.c =
    passed _ _ c.requires in
    let inside : c.start-at.result + 20 ≤ length c.args.block.now =
    let p = passes in message-inside _ p.table.apart 0 _ p.table.some c.start-at.ensures.0 in
    omega (arith, inside)

pub overflow_add-at : goal.overflow_add-at
overflow_add-at c = search rules

pub get8-requires-2 : goal.get8-requires-2
get8-requires-2 c =
    let passes : Passed c.args.block.now c.args.c =
    passed _ _ c.requires in
    let inside : c.start-at.result + 20 ≤ length c.args.block.now =
    let p = passes in message-inside _ p.table.apart 0 _ p.table.some c.start-at.ensures.0 in
    omega (arith, inside)

pub returns-then-get8-ne67 : goal.returns-then-get8-ne67
unfolding idle_block
returns-then-get8-ne67 c =
    let passes : Passed c.args.block.now c.args.c =
    passed _ _ c.requires in
    let p = passes in
    rw (← message-first _ p.table.apart 0 _ p.table.some c.start-at.ensures.0, ← c.get8.ensures, ne_eqb _ _ c.if-get8-ne67.true)

pub returns-in-73 : goal.returns-in-73
unfolding idle_block
returns-in-73 c =
    let passes : Passed c.args.block.now c.args.c =
    passed _ _ c.requires in
    let first-is : is_control (message_at c.args.block.now 0) ≡ true =
    let p = passes in
    rw (← message-first _ p.table.apart 0 _ p.table.some c.start-at.ensures.0, ← c.get8.ensures, eq-eqb _ _ c.if-get8-ne67.false) in
    let type-is : c.get8-2.result ≡ at (message_at c.args.block.now 0) 1 =
    let p = passes in
    c.get8-2.ensures ∙ message-field _ p.table.apart 0 _ p.table.some c.start-at.ensures.0 1 (lit< tt) in
    rw (first-is, ← type-is, one_of (53 ∷ 73 ∷ 84 ∷ []) _ c.in-73.is)

pub returns-in_default : goal.returns-in_default
unfolding idle_block
returns-in_default c =
    let passes : Passed c.args.block.now c.args.c =
    passed _ _ c.requires in
    let first-is : is_control (message_at c.args.block.now 0) ≡ true =
    let p = passes in
    rw (← message-first _ p.table.apart 0 _ p.table.some c.start-at.ensures.0, ← c.get8.ensures, eq-eqb _ _ c.if-get8-ne67.false) in
    let type-is : c.get8-2.result ≡ at (message_at c.args.block.now 0) 1 =
    let p = passes in
    c.get8-2.ensures ∙ message-field _ p.table.apart 0 _ p.table.some c.start-at.ensures.0 1 (lit< tt) in
    rw (first-is, ← type-is, none_of (53 ∷ 73 ∷ 84 ∷ []) _ c.in_default.in_default-own.rest.1)
