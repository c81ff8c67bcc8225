use Rattle.std.proofs.Common.{arith, rules, tests}
use Rattle.field.specs.Field.{Bytes}
use Rattle.opening.specs.Opening.{symbols_of, count_of, sound}
use Rattle.opening.proofs.ReadLaws.{unsound-by, marked-test}
use Rattle.opening.proofs.is_sound.Goals as goal

pub returns-then-book-lt-OPENING_LEN : goal.returns-then-book-lt-OPENING_LEN
returns-then-book-lt-OPENING_LEN c = unsound-by _ (λ s. omega (arith, s.size))

pub returns-then-get32-eq-OFFSET : goal.returns-then-get32-eq-OFFSET
unfolding sound symbols_of count_of
returns-then-get32-eq-OFFSET c =
    let b : Bytes c.args.book.now = λ i. (c.shared_slice_known-1.given i).fits in
    rw (← marked-test _ (omega (arith, c.if-book-lt-OPENING_LEN.false)) b) (search (rules, tests))

pub returns-else-get32-eq-OFFSET : goal.returns-else-get32-eq-OFFSET
unfolding sound symbols_of count_of
returns-else-get32-eq-OFFSET c =
    let b : Bytes c.args.book.now = λ i. (c.shared_slice_known-1.given i).fits in
    rw (← marked-test _ (omega (arith, c.if-book-lt-OPENING_LEN.false)) b) (search (rules, tests))
