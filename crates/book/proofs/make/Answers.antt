use mathlib.Core.Path.{refl}
use Rattle.opening.proofs.WriteLaws.{made-is}
use Rattle.numbers.specs.declared.Refusal.TheVariants as refusal
use Rattle.book.proofs.CallLaws.{turned_down, carried-out, make-none, make-many, make-length, make-zero, make-after}
use Rattle.book.proofs.make.Goals as goal

pub returns-then-n-lt1 : goal.returns-then-n-lt1
returns-then-n-lt1 c = turned_down _ _ refl refusal.Make (make-none _ _ c.if-n-lt1.true)

pub returns-then-n-gt-N_MAX : goal.returns-then-n-gt-N_MAX
returns-then-n-gt-N_MAX c = turned_down _ _ refl refusal.Make (make-many _ _ c.if-n-lt1.false c.if-n-gt-N_MAX.true)

pub returns-then-book-symbols : goal.returns-then-book-symbols
returns-then-book-symbols c =
    turned_down _ _ refl refusal.Make (make-length _ _ c.if-n-lt1.false c.if-n-gt-N_MAX.false c.if-book-symbols.true)

pub returns : goal.returns
returns c =
    carried-out _ _ refl _ (make-zero _ _ c.if-n-lt1.false c.if-n-gt-N_MAX.false c.if-book-symbols.false)
    (make-after _ _ _
    (made-is _ _ _ _ _ _ _ c.if-n-gt-N_MAX.false c.if-book-symbols.false c.clear.ensures c.put64.ensures c.put8.ensures c.put32.ensures c.empty_pages.ensures))
