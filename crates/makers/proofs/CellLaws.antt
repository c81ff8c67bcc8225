-- What the functions on maker cells owe, over plain values.
-- Assumes nothing.
use Prim.Native.Nat.{ℕ, ◌+◌, ◌-◌, ◌≤◌, ◌<◌}
use mathlib.Core.Path.{◌≡◌, refl, sym, ap, ◌∙◌}
use mathlib.Core.Bool.{Bool, true, false, cond}
use mathlib.Core.List.{List, [], ◌∷◌}
use Rattle.std.specs.Prelude.{None, Some}
use native.Mathlib.Omega.{arith}
use lib.Dec.{eqb, lit≤}
use lib.ListN.{length, replicate}
use Rattle.field.specs.Field.{part, field, splice, be_bytes}
use Rattle.field.specs.Ascii.{L, R}
use Rattle.field.proofs.Laws.{field-part, field-part-0, splice-part, splice-join, splice-inside, length-be_bytes}
use Rattle.lists.specs.Lists.{is_some, member}
use Rattle.lists.proofs.Searches.{less_one}
use Rattle.quote.specs.declared.Quote.{Quote}
use Rattle.quote.specs.Quote.{empty_quote, quote_over, quote_in, quote_bytes, quote_length}
use Rattle.entries.specs.Entries.{Maker}
use Rattle.page.specs.Page.{maker_in, maker_bytes}
use Rattle.makers.specs.Makers.{named, cell_of, cell_for, mark_cell, mark_cells}
use Rattle.text.specs.Form.{name_length}
use Rattle.page.specs.Layout.{cell_length, maker_count, cell_at}

-- ---- cells

some_is : {A : Type 0} (t : Bool) (x : A) → is_some (cond t (Some x) None) ≡ t
some_is true x = refl
some_is false x = refl

named_some : (t : Bool) (m : ℕ) (x : Maker) → named m (cond t (Some x) None) ≡ cond t (eqb x.name m) false
named_some true m x = refl
named_some false m x = refl

module _ (p : List ℕ) (k : ℕ) where
  condition-is : field (part p (cell_at k) cell_length) name_length 1 ≡ field p (cell_at k + name_length) 1
  condition-is = field-part p (cell_at k) cell_length name_length 1 (lit≤ tt)

  -- c: the byte at a cell's condition
  pub standing-is : (c : ℕ) → c ≡ field p (cell_at k + name_length) 1 → is_some (cell_of p k) ≡ member (L ∷ R ∷ []) c
  unfolding maker_in
  standing-is c e = some_is (member (L ∷ R ∷ []) (field (part p (cell_at k) cell_length) name_length 1)) _ ∙ ap (member (L ∷ R ∷ [])) (condition-is ∙ sym e)

  stands-so : (t : Bool) → is_some (cell_of p k) ≡ t → member (L ∷ R ∷ []) (field (part p (cell_at k) cell_length) name_length 1) ≡ t
  unfolding maker_in
  stands-so t e = sym (some_is (member (L ∷ R ∷ []) (field (part p (cell_at k) cell_length) name_length 1)) (record { name = field (part p (cell_at k) cell_length) 0 name_length; quote = quote_in (part (part p (cell_at k) cell_length) name_length quote_length) })) ∙ e

  pub named-not : (m : ℕ) → is_some (cell_of p k) ≡ false → named m (cell_of p k) ≡ false
  unfolding maker_in
  named-not m e = named_some (member (L ∷ R ∷ []) (field (part p (cell_at k) cell_length) name_length 1)) m _ ∙ ap (λ (t : Bool). cond t (eqb (field (part p (cell_at k) cell_length) 0 name_length) m) false) (stands-so false e)

  pub named-is : (m n : ℕ) → is_some (cell_of p k) ≡ true → n ≡ field p (cell_at k) 4 → eqb n m ≡ named m (cell_of p k)
  unfolding maker_in
  named-is m n e en =
      sym (named_some (member (L ∷ R ∷ []) (field (part p (cell_at k) cell_length) name_length 1)) m _
      ∙ ap (λ (t : Bool). cond t (eqb (field (part p (cell_at k) cell_length) 0 name_length) m) false) (stands-so true e)
      ∙ ap (λ (x : ℕ). eqb x m) (field-part-0 p (cell_at k) cell_length 4 (lit≤ tt) ∙ sym en))

-- ---- a maker's quote into its cell

module _ (p : List ℕ) (k m : ℕ) (q : Quote) (a : ℕ) (e : a ≡ cell_at k) where
  pub put-maker : (p' p'' : List ℕ) → empty_quote q ≡ false → p' ≡ splice p a (be_bytes 4 m) → p'' ≡ splice p' (a + name_length) (quote_bytes q) → p'' ≡ splice p (cell_at k) (cell_for m q)
  unfolding cell_for maker_bytes
  put-maker p' p'' n d f = f ∙ rw (d, e, n) (splice-join p (cell_at k) 4 (be_bytes 4 m) (quote_bytes q) (length-be_bytes 4 m))

  pub free-maker : (p' : List ℕ) → empty_quote q ≡ true → p' ≡ splice p a (replicate (a + cell_length - a) 0) → p' ≡ splice p (cell_at k) (cell_for m q)
  unfolding cell_for
  free-maker p' n d = let z : a + cell_length - a ≡ cell_length = omega arith in d ∙ rw (z, e, n)

  -- its quote that stands there is read, and this one written over it
  pub over-maker : (standing new : Quote) (p' : List ℕ) → standing ≡ quote_in (part p (a + name_length) quote_length) → new ≡ quote_over standing q → p' ≡ splice p (cell_at k) (cell_for m new)
      → p' ≡ splice p (cell_at k) (cell_for m (quote_over (quote_in (part p (cell_at k + name_length) quote_length)) q))
  over-maker standing new p' f g d = d ∙ rw (g, f, e)

-- ---- FINRA Close and Open

module _ (p : List ℕ) (k c : ℕ) (h : cell_at k + cell_length ≤ length p) where
  pub mark-standing : is_some (cell_of p k) ≡ true → splice p (cell_at k + name_length) (be_bytes 1 c) ≡ splice p (cell_at k) (mark_cell c (part p (cell_at k) cell_length))
  unfolding mark_cell
  mark-standing e = sym (splice-inside p (cell_at k) cell_length 4 (be_bytes 1 c) h (omega (arith, length-be_bytes 1 c))) ∙ rw e

  pub mark-free : is_some (cell_of p k) ≡ false → p ≡ splice p (cell_at k) (mark_cell c (part p (cell_at k) cell_length))
  unfolding mark_cell
  mark-free e = sym (rw e (splice-part p (cell_at k) cell_length h))

pub mark-again : (c i : ℕ) (p p' w : List ℕ) → i < maker_count → mark_cells c i (maker_count - i) p ≡ w → p' ≡ splice p (cell_at i) (mark_cell c (part p (cell_at i) cell_length)) → mark_cells c (i + 1) (maker_count - (i + 1)) p' ≡ w
unfolding mark_cells
mark-again c i p p' w h inv e = rw e (rw (less_one maker_count i h) at inv)

pub mark-end : (c i : ℕ) (p w : List ℕ) → maker_count ≤ i → mark_cells c i (maker_count - i) p ≡ w → p ≡ w
unfolding mark_cells
mark-end c i p w h inv = let z : maker_count - i ≡ 0 = omega arith in rw z at inv
