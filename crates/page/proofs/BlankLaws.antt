-- A page with zeros behind its head holds no quote, maker or level.
-- Assumes nothing.
use Prim.Native.Nat.{ℕ, ◌+◌, ◌≤◌}
use mathlib.Core.Path.{◌≡◌, refl, ap, ◌∙◌, fun_ext}
use mathlib.Core.Bool.{Bool, true, false, cond}
use mathlib.Core.List.{List, map}
use Rattle.std.specs.Prelude.{None}
use native.Mathlib.Omega.{arith}
use lib.ListN.{replicate}
use Rattle.lists.specs.Lists.{member, range, upper}
use Rattle.lists.proofs.Tests.{upper-low}
use Rattle.lists.proofs.Ranges.{map_range}
use Rattle.field.specs.Field.{be, part, field}
use Rattle.field.specs.Low.{le, low}
use Rattle.quote.specs.Quote.{no_quote, level_in, quote_in, quote_length}
use Rattle.levels.specs.Levels.{no_levels, ranked, cells_in, side_in, levels_in, levels_length}
use Rattle.ranking.specs.declared.Side.TheVariants.{Bid, Offer}
use Rattle.keys.specs.Keys.{key_length}
use Rattle.page.proofs.KeyLaws.{no-quote-agreed, no-levels-agreed}
use Rattle.page.specs.Page.{agreed_quote, agreed_levels, quotes_in, levels_for, maker_in, makers_in}
use Rattle.page.specs.Layout.{slots_at, cell_length, page_length, maker_count, slot_at, cell_at, quote_key_at, first_key_at}

pub no-quote-read : quote_in (replicate quote_length 0) ≡ no_quote
unfolding quote_in level_in part field be low le
no-quote-read = refl

pub no-levels-read : levels_in (replicate levels_length 0) ≡ no_levels
unfolding levels_in side_in cells_in ranked level_in part low le
no-levels-read = refl

pub no-maker-read : maker_in (replicate cell_length 0) ≡ None
unfolding maker_in member field be part
no-maker-read = refl

module _ (p : List ℕ) (z : (at w : ℕ) → slots_at ≤ at → at + w ≤ page_length → part p at w ≡ replicate w 0) where
  pub blank-quotes : quotes_in p ≡ (λ l. no_quote)
  unfolding quotes_in
  blank-quotes = fun_ext (λ l. go l (upper l) refl)
    where
      go : (l : ℕ) (t : Bool) → upper l ≡ t
          → cond t (agreed_quote (low p (quote_key_at Bid l) key_length) (low p (quote_key_at Offer l) key_length) (quote_in (part p (slot_at l) quote_length))) no_quote ≡ no_quote
      go l true u =
          rw (z (slot_at l) quote_length (omega arith) (omega (arith, (upper-low l u).0, (upper-low l u).1)), no-quote-read)
          (no-quote-agreed (low p (quote_key_at Bid l) key_length) (low p (quote_key_at Offer l) key_length))
      go l false u = refl

  pub blank-levels : levels_for p ≡ (λ l. no_levels)
  unfolding levels_for
  blank-levels = fun_ext (λ l. go l (upper l) refl)
    where
      go : (l : ℕ) (t : Bool) → upper l ≡ t
          → cond t (agreed_levels (low p (first_key_at Bid l) key_length) (low p (first_key_at Offer l) key_length) (levels_in (part p (slot_at l + quote_length) levels_length))) no_levels ≡ no_levels
      go l true u =
          rw (z (slot_at l + quote_length) levels_length (omega arith) (omega (arith, (upper-low l u).0, (upper-low l u).1)), no-levels-read)
          (no-levels-agreed (low p (first_key_at Bid l) key_length) (low p (first_key_at Offer l) key_length))
      go l false u = refl

  pub blank-makers : makers_in p ≡ map (λ k. None) (range maker_count 0)
  unfolding makers_in
  blank-makers = map_range (λ k. None) (λ k. maker_in (part p (cell_at k) cell_length)) maker_count 0 (λ k a h. ap maker_in (z (cell_at k) cell_length (omega arith) (omega arith)) ∙ no-maker-read)
