use mathlib.Core.Path.{refl, ap, sym, ◌∙◌}
use mathlib.Core.List.{[], ◌∷◌}
use lib.ListN.{drop}
use Rattle.field.specs.Field.{splice, field}
use Rattle.calls.specs.Call.{protected, call}
use Rattle.logcalls.proofs.WordLaws.{bare-bytes, bit-is}
use Rattle.logcalls.proofs.RanLaws.{too_short, long-enough, rest-is}
use Rattle.logqueries.proofs.AskLaws.{ran-words}
use Rattle.logqueries.proofs.is_protected.Goals as goal

pub returns-then-args-lt9 : goal.returns-then-args-lt9
returns-then-args-lt9 c =
    let a = c.args.args.now in
    too_short _ _ 9 a (protected (drop 9 a) (field a 0 1) (field a 1 8)) c.if-args-lt9.true

pub returns-in-Ok : goal.returns-in-Ok
returns-in-Ok c =
    let s = c.args in
    let a = s.args.now in
    long-enough _ _ 9 a (protected (drop 9 a) (field a 0 1) (field a 1 8)) _ c.if-args-lt9.false
    (ran-words _ _ (protected (drop 9 a) (field a 0 1) (field a 1 8)) _ _ _ _
    (c.in-Ok.ensures ∙ (λ j. call s.book.now (protected (rest-is 9 a j) (c.get8-mark.ensures j) (c.get64-price.ensures j))))
    (λ j. 0 ∷ 0 ∷ 0 ∷ 0 ∷ 0 ∷ 0 ∷ 0 ∷ sym (c.from.ensures ∙ bit-is c.in-Ok.told.yes) j ∷ c.in-Ok.told.looked ∷ 0 ∷ 0 ∷ 0 ∷ [])
    refl
    c.requires
    c.put_words.ensures)

pub returns-in-Err : goal.returns-in-Err
returns-in-Err c =
    let s = c.args in
    let a = s.args.now in
    rw c.refused.ensures.0 (
    long-enough _ _ 9 a (protected (drop 9 a) (field a 0 1) (field a 1 8)) _ c.if-args-lt9.false
    (ran-words _ _ (protected (drop 9 a) (field a 0 1) (field a 1 8)) _ _ _ _
    (c.in-Err.ensures ∙ (λ j. call s.book.now (protected (rest-is 9 a j) (c.get8-mark.ensures j) (c.get64-price.ensures j))))
    refl
    refl
    c.requires
    (c.refused.ensures.1 ∙ ap (splice _ 0) (bare-bytes _))))
