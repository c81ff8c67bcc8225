use Rattle.venuequote.proofs.WriteLaws.{ready-quote, ready-other, length-quote, quote-is}
use Rattle.venuequote.proofs.put_message.Goals as goal

pub put_quote-requires : goal.put_quote-requires
put_quote-requires c =
    (ready-quote _ _ c.layout_of.ensures _ c.in-Some.is c.requires.0, length-quote _ _ c.layout_of.ensures _ _ c.in-Some.is c.requires.1)

pub returns-in-Some : goal.returns-in-Some
returns-in-Some c = quote-is _ _ c.layout_of.ensures _ _ _ c.in-Some.is c.put_quote.ensures

pub returns-in_default : goal.returns-in_default
returns-in_default c = ready-other _ _ c.layout_of.ensures c.in_default.is c.requires.0
