use mathlib.Core.Path.{◌≡◌}
use mathlib.Core.Bool.{cond}
use Prim.Native.Nat.{◌-◌, ◌^◌}
use borrow.Author.Rules.{rules}
use mir.Facts.{Fits-bits}
use Rattle.keysets.specs.Sets.{set_of}
use Rattle.keysets.proofs.KeyLaws.{weight-at}
use Rattle.keysets.proofs.SetLaws.{set-end, set-fits, set-step}
use Rattle.keysets.proofs.above.Invariants.{asked, at_each}
use Rattle.keysets.proofs.above.Goals as goal

pub loop-i-init : goal.loop-i-init
unfolding set_of
loop-i-init c = search rules

-- what the turn adds

pub overflow_add-m : goal.overflow_add-m
overflow_add-m c =
    let weight : let s = c.args in c.weight_if-m.result ≡ cond (at_each s.page.now s.at s.k c.loop-i.i) (2 ^ c.loop-i.i) 0 =
    let l = c in
    let s = l.args in
    weight-at (asked s.k) s.page.now s.at l.loop-i.i _ _ c.low32.ensures c.weight_if-m.ensures in
    let l = c in
    let s = l.args in
    Fits-bits 32 tt (set-fits (at_each s.page.now s.at s.k) _ _ _ c.loop-i-test.true l.loop-i.invariant.1 (weight))

pub loop-i-preserved : goal.loop-i-preserved
loop-i-preserved c =
    let weight : let s = c.args in c.weight_if-m.result ≡ cond (at_each s.page.now s.at s.k c.loop-i.i) (2 ^ c.loop-i.i) 0 =
    let l = c in
    let s = l.args in
    weight-at (asked s.k) s.page.now s.at l.loop-i.i _ _ c.low32.ensures c.weight_if-m.ensures in
    let l = c in
    let s = l.args in
    (search rules, set-step (at_each s.page.now s.at s.k) _ _ _ l.loop-i.invariant.1 (weight))

pub returns : goal.returns
returns c = set-end _ _ _ _ c.loop-i.invariant.0 c.loop-i-test.false c.loop-i.invariant.1
