-- Where the numbers of a quote and a maker stand in a page.
-- Assumes nothing.
use Prim.Native.Nat.{ℕ, ◌+◌, ◌≤◌}
use mathlib.Core.Path.{◌≡◌, refl, sym, ap, ◌∙◌}
use mathlib.Core.Bool.{Bool, true, false, cond}
use mathlib.Core.List.{List, [], ◌∷◌}
use Rattle.std.specs.Prelude.{None, Some}
use native.Mathlib.Omega.{arith}
use lib.Dec.{eqb, lit≤}
use native.Mathlib.Nat.{add-zero}
use Rattle.lists.specs.Lists.{member, map_option}
use Rattle.field.specs.Field.{part, field}
use Rattle.field.proofs.Laws.{part-part, field-part, field-part-0}
use Rattle.ranking.specs.declared.Side.{Side}
use Rattle.ranking.specs.declared.Side.TheVariants.{Bid, Offer}
use Rattle.quote.specs.declared.Level.{Level}
use Rattle.ranking.specs.code.Choice.{live}
use Rattle.quote.specs.Quote.{level_candidate, side_of, level_in, quote_in, quote_length, level_length, bid_at, offer_at}
use Rattle.levels.specs.Levels.{empty_cell}
use Rattle.page.specs.Page.{maker_in}
use Rattle.page.specs.Layout.{cell_length, in_quote}
use Rattle.text.specs.Form.{name_length}

module _ (p : List ℕ) (at : ℕ) where
  pub quote-side : (s : Side) → level_in (part p (at + in_quote s) level_length) ≡ side_of s (quote_in (part p at quote_length))
  unfolding quote_in
  quote-side Bid = ap level_in (sym (part-part p at quote_length bid_at level_length (lit≤ tt)))
  quote-side Offer = ap level_in (sym (part-part p at quote_length offer_at level_length (lit≤ tt)))

  pub quote-condition : field p at 1 ≡ (quote_in (part p at quote_length)).condition
  unfolding quote_in
  quote-condition = sym (field-part-0 p at quote_length 1 (lit≤ tt))

  pub maker-at : maker_in (part p at cell_length)
      ≡ cond (member (76 ∷ 82 ∷ []) (field p (at + name_length) 1)) (Some (record { name = field p at 4; quote = quote_in (part p (at + name_length) quote_length) })) None
  unfolding maker_in
  maker-at =
      rw (field-part p at cell_length name_length 1 (lit≤ tt), field-part-0 p at cell_length 4 (lit≤ tt), part-part p at cell_length name_length quote_length (lit≤ tt))

  pub front : (w n : ℕ) → w ≤ n → part (part p at n) 0 w ≡ part p at w
  front w n h = part-part p at n 0 w (omega arith) ∙ ap (λ (a : ℕ). part p a w) (add-zero at)

-- a cell that is not empty counts
pub cell-live : (l : ℕ) (v : Level) → map_option (level_candidate l 32) (cond (empty_cell v) None (Some v)) ≡ live (level_candidate l 32 v)
unfolding live
cell-live l v = go (eqb v.price 0) (eqb v.size 0)
  where
    go : (t u : Bool) → map_option (level_candidate l 32) (cond (cond t true u) None (Some v)) ≡ cond t None (cond u None (Some (level_candidate l 32 v)))
    go true u = refl
    go false true = refl
    go false false = refl
