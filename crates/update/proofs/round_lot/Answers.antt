use mathlib.Core.Path.{sym, ◌∙◌}
use borrow.Author.Tests.{ne_eqb}
use Rattle.update.specs.code.Update.{round_lot_on}
use Rattle.update.proofs.EffectLaws.{letter-inside, levels-idle, round-taken}
use Rattle.update.proofs.round_lot.Goals as goal

pub returns-then-fault-ne0 : goal.returns-then-fault-ne0
unfolding round_lot_on
returns-then-fault-ne0 c = rw (ne_eqb _ _ c.if-fault-ne0.true)

pub quote-standing-requires : goal.quote-standing-requires
quote-standing-requires c = record { page_len = c.requires.page_len.0; a_le_letter = letter-inside _ c.requires.page_len.1 }

pub put_quote-requires : goal.put_quote-requires
put_quote-requires c = record { page_len = c.requires.page_len.0; a_le_letter = letter-inside _ c.requires.page_len.1 }

pub returns-then-is_idle : goal.returns-then-is_idle
returns-then-is_idle c =
    let k = levels-idle c.put_quote.new.page c.args.letter _ (sym c.is_idle.ensures ∙ c.if-is_idle.true) in
    rw c.if-fault-ne0.false
    (round-taken _ c.requires.page_len.0 _ c.requires.page_len.1 _ _ _ _ _ _ _ _ c.quote-standing.ensures c.over.ensures c.put_quote.ensures k.0 k.1 c.renewed.ensures)

pub put_odd-requires : goal.put_odd-requires
put_odd-requires c =
    record { page_len = (c.put_quote.auto.page ∙ c.requires.page_len.0, c.requires.page_len.1); len = c.requires.len }

pub returns-in-Ok : goal.returns-in-Ok
returns-in-Ok c =
    rw c.if-fault-ne0.false
    (round-taken _ c.requires.page_len.0 _ c.requires.page_len.1 _ _ _ _ _ _ _ _ c.quote-standing.ensures c.over.ensures c.put_quote.ensures (rw c.in-Ok.is at c.put_odd.ensures.0) c.put_odd.ensures.1 c.renewed-in-Ok.ensures)

pub returns-in-Err : goal.returns-in-Err
returns-in-Err c =
    rw c.if-fault-ne0.false
    (round-taken _ c.requires.page_len.0 _ c.requires.page_len.1 _ _ _ _ _ _ _ _ c.quote-standing.ensures c.over.ensures c.put_quote.ensures (c.code.ensures ∙ (rw c.in-Err.is at c.put_odd.ensures.0)) c.put_odd.ensures.1 c.renewed-in-Err.ensures)
