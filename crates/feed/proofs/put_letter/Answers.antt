use mathlib.Core.Path.{sym, ◌∙◌}
use Rattle.feed.proofs.LetterLaws.{put-shown, put-hidden, room-shown}
use Rattle.feed.proofs.put_letter.Goals as goal

-- `feed::put_letter` meets its contract.

pub put_participant-requires : goal.put_participant-requires
put_participant-requires c =
    (room-shown c.args.symbol.now c.requires.0.symbol _ _ _ _ (sym c.is_shown.ensures ∙ c.if-is_shown.true) c.requires.1.1.1, c.requires.0.symbol)

pub returns-then-is_shown : goal.returns-then-is_shown
returns-then-is_shown c =
    put-shown c.args.symbol.now c.requires.0.symbol _ _ _ _ _ _ (sym c.is_shown.ensures ∙ c.if-is_shown.true)
    c.quote-quote.ensures c.put_participant.ensures

pub returns : goal.returns
returns c =
    put-hidden c.args.symbol.now c.requires.0.symbol _ _ _ _ (sym c.is_shown.ensures ∙ c.if-is_shown.false)
