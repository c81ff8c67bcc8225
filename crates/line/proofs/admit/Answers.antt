use Prim.Native.Nat.{◌^◌, ◌<◌}
use mathlib.Core.Path.{sym, ◌∙◌}
use native.Mathlib.Omega.{arith}
use Rattle.block.proofs.CheckLaws.{Passed, passed}
use Rattle.line.proofs.GateLaws.{admit-idle, admit-closed, admit-duplicate, admit-used, admit-taken}
use borrow.Author.Rules.{rules}
use Rattle.line.proofs.admit.Goals as goal

pub is_idle-requires : goal.is_idle-requires
is_idle-requires c = c.requires.0

pub returns-then-is_idle : goal.returns-then-is_idle
returns-then-is_idle c = admit-idle _ _ _ _ _ c.requires.0 (sym c.is_idle.ensures ∙ c.if-is_idle.true)

pub sequence-sequence-requires : goal.sequence-sequence-requires
sequence-sequence-requires c =
    let passes : Passed c.args.block.now c.args.c =
    passed _ _ c.requires.0 in
    let p = passes in omega (arith, p.long)

-- c fits 32 bits

pub overflow_cast-c : goal.overflow_cast-c
overflow_cast-c c =
    let passes : Passed c.args.block.now c.args.c =
    passed _ _ c.requires.0 in
    let small : c.args.c < 2 ^ 32 =
    let p = passes in omega (arith, p.table.few, p.counted) in
    let h = small in search rules

pub overflow_cast-c-2 : goal.overflow_cast-c-2
overflow_cast-c-2 c =
    let passes : Passed c.args.block.now c.args.c =
    passed _ _ c.requires.0 in
    let small : c.args.c < 2 ^ 32 =
    let p = passes in omega (arith, p.table.few, p.counted) in
    let h = small in search rules

pub returns-in_default : goal.returns-in_default
returns-in_default c =
    rw c.on-in_default.ensures (admit-duplicate _ _ _ _ _ c.requires.0 (sym c.is_idle.ensures ∙ c.if-is_idle.false) c.if-not-day.false
    (rw c.sequence-sequence.ensures at (sym c.arrive-arrival.ensures ∙ c.in_default.is)))

pub is_used_up-requires : goal.is_used_up-requires
is_used_up-requires c = c.requires.1

pub returns-then-is_used_up : goal.returns-then-is_used_up
returns-then-is_used_up c =
    rw c.on-then-is_used_up.ensures (admit-used _ _ _ _ _ c.requires.0 _ _ (sym c.is_idle.ensures ∙ c.if-is_idle.false) c.if-not-day.false
    (rw c.sequence-sequence.ensures at (sym c.arrive-arrival.ensures ∙ c.in-Some.is)) (sym c.is_used_up.ensures ∙ c.if-is_used_up.true))

pub returns : goal.returns
returns c =
    admit-taken _ _ _ _ _ c.requires.0 _ _ _ _ (sym c.is_idle.ensures ∙ c.if-is_idle.false) c.if-not-day.false
    (rw c.sequence-sequence.ensures at (sym c.arrive-arrival.ensures ∙ c.in-Some.is)) (sym c.is_used_up.ensures ∙ c.if-is_used_up.false) c.warning.ensures
    (rw c.sequence-sequence.ensures at c.advance.ensures)

pub returns-then-not-day : goal.returns-then-not-day
returns-then-not-day c = rw c.on.ensures (admit-closed _ _ _ _ _ c.requires.0 (sym c.is_idle.ensures ∙ c.if-is_idle.false) c.if-not-day.true)
