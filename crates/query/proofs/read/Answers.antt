use Prim.Native.Nat.{◌+◌, ◌≤◌}
use lib.ListN.{length}
use mathlib.Core.Path.{refl, sym, ap, ◌∙◌}
use native.Mathlib.Omega.{arith}
use Rattle.numbers.specs.declared.Refusal.TheVariants as refusal
use Rattle.field.specs.Field.{splice}
use Rattle.numbers.specs.Numbers.{answered}
use Rattle.numbers.proofs.RefusalLaws.{passed_up}
use Rattle.entries.specs.Publication.{publication_length}
use Rattle.page.specs.Layout.{entries_at}
use Rattle.opening.specs.Layout.{page_start}
use Rattle.calls.proofs.NumberLaws.{number-unsound}
use Rattle.query.proofs.ReadLaws.{listed-room, lent-part, lent-room, read_short, read-listed, read-refused, read_done}
use Rattle.query.proofs.read.Goals as goal

pub returns-then-not-is_sound : goal.returns-then-not-is_sound
returns-then-not-is_sound c =
    read-refused _ _ _ refusal.NoBook (number-unsound _ _ refl (sym c.is_sound.ensures ∙ c.if-not-is_sound.true))

pub returns-then-publication-lt-PUBLICATION_LEN : goal.returns-then-publication-lt-PUBLICATION_LEN
returns-then-publication-lt-PUBLICATION_LEN c =
    read-refused _ _ _ refusal.BufferShort (read_short _ _ _ (sym c.is_sound.ensures ∙ c.if-not-is_sound.false) c.if-publication-lt-PUBLICATION_LEN.true)

pub listed-requires : goal.listed-requires
listed-requires c = sym c.is_sound.ensures ∙ c.if-not-is_sound.false

pub returns-in_err-k : goal.returns-in_err-k
returns-in_err-k c =
    rw (passed_up c.from_residual.result _ c.from_residual.ensures.1)
    (read-refused _ _ _ _ (ap answered c.in_err-k.ensures ∙ read-listed _ _ _ (sym c.is_sound.ensures ∙ c.if-not-is_sound.false) c.if-publication-lt-PUBLICATION_LEN.false))

pub overflow_mul-at : goal.overflow_mul-at
overflow_mul-at c = omega (arith, (listed-room _ _ _ (sym c.is_sound.ensures ∙ c.if-not-is_sound.false) c.in_ok-k.ensures).1)

pub overflow_add-at : goal.overflow_add-at
overflow_add-at c = omega (arith, (listed-room _ _ _ (sym c.is_sound.ensures ∙ c.if-not-is_sound.false) c.in_ok-k.ensures).1)

pub overflow_add-at-2 : goal.overflow_add-at-2
overflow_add-at-2 c = omega (arith, (listed-room _ _ _ (sym c.is_sound.ensures ∙ c.if-not-is_sound.false) c.in_ok-k.ensures).1)

pub overflow_add-end : goal.overflow_add-end
overflow_add-end c = omega (arith, (listed-room _ _ _ (sym c.is_sound.ensures ∙ c.if-not-is_sound.false) c.in_ok-k.ensures).1)

pub slice_bounds-copy-end : goal.slice_bounds-copy-end
slice_bounds-copy-end c = omega (arith, (listed-room _ _ _ (sym c.is_sound.ensures ∙ c.if-not-is_sound.false) c.in_ok-k.ensures).0)

pub copy-requires : goal.copy-requires
copy-requires c =
    let fits : page_start c.in_ok-k.k + entries_at + publication_length ≤ length c.args.book.now = omega (arith, (listed-room _ _ _ (sym c.is_sound.ensures ∙ c.if-not-is_sound.false) c.in_ok-k.ensures).0) in
    lent-room _ _ _ fits c.if-publication-lt-PUBLICATION_LEN.false

pub returns : goal.returns
returns c =
    read_done _ _ _ _ _ (sym c.is_sound.ensures ∙ c.if-not-is_sound.false) c.if-publication-lt-PUBLICATION_LEN.false c.in_ok-k.ensures
    (c.copy.ensures ∙ ap (splice _ 0) (lent-part _ _ _))
