use mathlib.Core.Path.{sym, ◌∙◌}
use Rattle.quote.specs.Quote.{empty_quote}
use Rattle.makers.proofs.is_empty.Goals as goal

pub returns-then-is_empty_side : goal.returns-then-is_empty_side
unfolding empty_quote
returns-then-is_empty_side c = rw (sym c.is_empty_side.ensures ∙ c.if-is_empty_side.true) c.is_empty_side-then-is_empty_side.ensures

pub returns-else-is_empty_side : goal.returns-else-is_empty_side
unfolding empty_quote
returns-else-is_empty_side c = c.if-is_empty_side.false ∙ rw (sym c.is_empty_side.ensures ∙ c.if-is_empty_side.false)
