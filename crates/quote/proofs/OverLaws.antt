-- A quote over the one that stands: what the code answers, and what it leaves.
-- Assumes nothing.
use Prim.Native.Nat.{ℕ, ◌^◌, ◌≤◌, ◌<◌}
use mathlib.Core.Path.{◌≡◌, refl}
use mathlib.Core.List.{List}
use mathlib.Core.Bool.{Bool, true, false, ◌&&◌, cond}
use borrow.Author.Tests.{eq-eqb, ne_eqb, le-leb, lt-leb}
use lib.Dec.{eqb, leb}
use Rattle.field.specs.Field.{part, splice}
use Rattle.quote.specs.declared.Level.{Level}
use Rattle.quote.specs.declared.Quote.{Quote}
use Rattle.quote.specs.Quote.{empty_quote, with_time, with_times, time_kept, quote_over, quote_in, quote_bytes, quote_length, LevelFits, QuoteFits}

-- ---- what the code answers

pub over-is : (standing new : Quote) (b o : Level) → b ≡ with_time (time_kept standing.bid new.bid) new.bid → o ≡ with_time (time_kept standing.offer new.offer) new.offer
    → record { condition = new.condition; bid = b; offer = o } ≡ quote_over standing new
unfolding quote_over with_times
over-is standing new b o e f = λ i. record { condition = new.condition; bid = e i; offer = f i }

-- read, put over, written
pub over-written : (p p' : List ℕ) (at : ℕ) (standing new over : Quote) → standing ≡ quote_in (part p at quote_length) → over ≡ quote_over standing new → p' ≡ splice p at (quote_bytes over)
    → p' ≡ splice p at (quote_bytes (quote_over (quote_in (part p at quote_length)) new))
over-written p p' at standing new over e f g = rw (g, f, e)

-- ---- what it leaves

pub over-empty : (standing new : Quote) → empty_quote (quote_over standing new) ≡ empty_quote new
unfolding empty_quote quote_over with_times
over-empty standing new = refl

pub over-condition : (standing new : Quote) → (quote_over standing new).condition ≡ new.condition
unfolding quote_over with_times
over-condition standing new = refl

kept-fits : (standing new : Level) → LevelFits standing → LevelFits new → LevelFits (with_time (time_kept standing new) new)
unfolding time_kept
kept-fits standing new f g = record { price = g.price; size = g.size; time = go (eqb new.price standing.price && leb new.size standing.size) }
  where
    go : (t : Bool) → cond t standing.time new.time < 256 ^ 8
    go true = f.time
    go false = g.time

pub over-fits : (standing new : Quote) → QuoteFits standing → QuoteFits new → QuoteFits (quote_over standing new)
unfolding quote_over with_times
over-fits standing new f g =
    record { condition = g.condition; bid = kept-fits standing.bid new.bid f.bid g.bid; offer = kept-fits standing.offer new.offer f.offer g.offer }
