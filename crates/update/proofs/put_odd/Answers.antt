use mathlib.Core.Path.{refl, ap, ◌∙◌}
use native.Mathlib.Omega.{arith}
use Rattle.std.specs.Prelude.{Err}
use Rattle.std.proofs.lemmas.Result.{err_from_is_err_and}
use Rattle.numbers.specs.Numbers.{coded}
use Rattle.numbers.proofs.CodeLaws.{code-some}
use Rattle.update.proofs.EffectLaws.{letter-inside}
use Rattle.update.proofs.OddLaws.{check-refused, both-touched, bids-touched, offers-touched, none-touched}
use Rattle.update.proofs.put_odd.Goals as goal

pub returns-in_err-judge_part : goal.returns-in_err-judge_part
returns-in_err-judge_part c =
    let e = err_from_is_err_and c.from_residual.result c.from_residual.ensures.1 in
    rw (e.1 ∙ ap Err e.2)
    (check-refused _ c.requires.page_len.0 _ c.requires.page_len.1 _ _ _ _ _ _ c.get8-lot.ensures _ (rw c.in_err-judge_part.was at c.judge_part.ensures) (code-some _))

pub put_both-requires : goal.put_both-requires
put_both-requires c =
    record { page_len = c.requires.page_len.0; a_le_letter = letter-inside _ c.requires.page_len.1; len = c.requires.len }

pub put_one-requires : goal.put_one-requires
put_one-requires c =
    record { page_len = c.requires.page_len.0; a_le_letter = letter-inside _ c.requires.page_len.1; n_in_bounds = omega (arith, c.requires.len) }

pub put_one-requires-in-false-true : goal.put_one-requires-in-false-true
put_one-requires-in-false-true c =
    record { page_len = c.requires.page_len.0; a_le_letter = letter-inside _ c.requires.page_len.1; n_in_bounds = omega (arith, c.requires.len) }

pub returns-in-true-true : goal.returns-in-true-true
returns-in-true-true c =
    both-touched _ c.requires.page_len.0 _ c.requires.page_len.1 _ _ _ _ _ _ c.get8-lot.ensures _ c.judge_part.ensures (ap coded c.in_ok-judge_part.was) _ _ c.in-true-true.ensures c.in-true-true.ensures' _ _ refl refl c.put_both.ensures

pub returns-in-true-false : goal.returns-in-true-false
returns-in-true-false c =
    bids-touched _ c.requires.page_len.0 _ c.requires.page_len.1 _ _ _ _ _ _ c.get8-lot.ensures _ c.judge_part.ensures (ap coded c.in_ok-judge_part.was) _ _ c.in-true-false.ensures c.in-true-false.ensures' _ _ refl refl c.put_one.ensures

pub returns-in-false-true : goal.returns-in-false-true
returns-in-false-true c =
    offers-touched _ c.requires.page_len.0 _ c.requires.page_len.1 _ _ _ _ _ _ c.get8-lot.ensures _ c.judge_part.ensures (ap coded c.in_ok-judge_part.was) _ _ c.in-false-true.ensures c.in-false-true.ensures' _ _ refl refl c.put_one-in-false-true.ensures

pub returns-in-false-false : goal.returns-in-false-false
returns-in-false-false c =
    none-touched _ c.requires.page_len.0 _ c.requires.page_len.1 _ _ _ _ _ _ c.get8-lot.ensures _ c.judge_part.ensures (ap coded c.in_ok-judge_part.was) _ _ c.in-false-false.ensures c.in-false-false.ensures' refl refl
