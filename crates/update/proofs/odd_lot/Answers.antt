use mathlib.Core.Path.{refl, sym, ◌∙◌}
use Rattle.numbers.proofs.CodeLaws.{code-some}
use Rattle.update.proofs.EffectLaws.{odd_refused, odd-taken}
use Rattle.update.proofs.odd_lot.Goals as goal

pub returns-in-Ok : goal.returns-in-Ok
returns-in-Ok c =
    odd-taken _ c.requires.page_len.0 _ c.requires.page_len.1 _ _ _ (rw c.in-Ok.is at c.put_odd.ensures.0) c.put_odd.ensures.1 _ refl c.renewed.ensures

pub returns-in-Err : goal.returns-in-Err
returns-in-Err c =
    odd_refused _ c.requires.page_len.0 _ c.requires.page_len.1 _ _ _ (c.code.ensures ∙ (rw c.in-Err.is at c.put_odd.ensures.0)) c.put_odd.ensures.1 (λ z. code-some _ (sym c.code.ensures ∙ z))
