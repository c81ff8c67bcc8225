use mathlib.Core.Path.{refl, sym, ◌∙◌}
use mathlib.Core.Bool.{false}
use lib.ListN.{length}
use Rattle.block.specs.Written.{length_with}
use native.Mathlib.Omega.{arith}
use borrow.Author.Tests.{lt-leb}
use Rattle.writer.proofs.GoodLaws.{good_none, good-many, good-short, good-sum, good-last}
use Rattle.block.specs.Block.{block_longest}
use Rattle.writer.proofs.are_good.Goals as goal

-- `writer::are_good` meets its contract.

pub returns-then-c-lt1 : goal.returns-then-c-lt1
returns-then-c-lt1 c = good_none _ _ c.if-c-lt1.true

pub returns-then-c-gt-MESSAGES : goal.returns-then-c-gt-MESSAGES
returns-then-c-gt-MESSAGES c = good-many _ _ c.if-c-lt1.false c.if-c-gt-MESSAGES.true

pub returns-then-total-n : goal.returns-then-total-n
returns-then-total-n c =
    let l = c in
    let b = l in
    good-sum _ _ b.if-c-lt1.false b.if-c-gt-MESSAGES.false (sym l.are_long.ensures ∙ l.if-are_long.true) (λ e. c.if-total-n.true (c.total.ensures ∙ e))

pub returns-then-n-gt-LONGEST : goal.returns-then-n-gt-LONGEST
returns-then-n-gt-LONGEST c =
    let t = c in
    let l = t in
    let b = l in
    good-last _ _ b.if-c-lt1.false b.if-c-gt-MESSAGES.false (sym l.are_long.ensures ∙ l.if-are_long.true) (sym t.total.ensures ∙ c.if-total-n.false) false (sym (lt-leb (length_with (length t.args.lengths.now) t.args.n) block_longest (omega arith)))

pub returns-then-are_long : goal.returns-then-are_long
returns-then-are_long c =
    let t = c in
    let l = t in
    let b = l in
    good-last _ _ b.if-c-lt1.false b.if-c-gt-MESSAGES.false (sym l.are_long.ensures ∙ l.if-are_long.true) (sym t.total.ensures ∙ c.if-total-n.false) _ refl

pub returns : goal.returns
returns c =
    let b = c in
    good-short _ _ b.if-c-lt1.false b.if-c-gt-MESSAGES.false (sym c.are_long.ensures ∙ c.if-are_long.false)
