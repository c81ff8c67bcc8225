-- Makers' quotes, and FINRA Close and Open: what they leave of a page of `page_length` bytes. And the searches for a maker's cell and for a free one.
-- Assumes nothing.
use Prim.Native.Nat.{ℕ, zero, suc, ◌+◌, ◌*◌, ◌^◌, ◌≤◌, ◌<◌}
use mathlib.Core.Path.{◌≡◌, refl, sym, ap, ◌∙◌}
use mathlib.Core.Bool.{Bool, true, false, not, cond}
use mathlib.Core.List.{List, [], ◌∷◌, map}
use Rattle.std.specs.Prelude.{Option, None, Some}
use native.Mathlib.Omega.{arith}
use lib.Dec.{ltb, lit≤}
use lib.ListN.{length}
use Rattle.field.specs.Field.{Bytes, part, field, splice}
use Rattle.field.proofs.Laws.{length_part, bytes-part, bytes-splice, part-part, part-before, part-behind}
use Rattle.lists.specs.Lists.{range, is_some, map_option}
use Rattle.lists.proofs.Ranges.{map_range}
use Rattle.lists.proofs.Searches.{Hit, first-hit}
use Rattle.lists.proofs.Tests.{clash, upper-low}
use Rattle.quote.specs.declared.Quote.{Quote}
use Rattle.quote.specs.Quote.{empty_quote, quote_over, quote_in, QuoteFits, quote_length}
use Rattle.quote.proofs.QuoteLaws.{quote-fits}
use Rattle.quote.proofs.OverLaws.{over-condition, over-fits}
use Rattle.message.specs.Message.{maker_code}
use Rattle.entries.specs.Entries.{Maker}
use Rattle.page.specs.Page.{quotes_in, levels_for, maker_in, makers_in, occupied, halted_in, refreshed}
use Rattle.makers.specs.Makers.{named, find_maker, cell_of, maker_place, free_place, cell_for, put_at, put_maker_by, put_maker, maker_over, mark_cell, mark_cells}
use Rattle.update.specs.Parts.{reading_of, maker_on, finra_on, known_by}
use Rattle.update.proofs.Model.{set_at, as_maker, standing, rewrite, allocate, maker_put, marked, mark_all, maker_reading, finra_reading}
use Rattle.update.proofs.TableLaws.{cell_same, cell_other, length-cell, each_cell, Each, each-cell, map-set, map-map-range}
use Rattle.update.proofs.SearchLaws.{found_by, is_at, find-place, rewrite-place, allocate-place, room-place}
use Rattle.update.proofs.CellLaws.{Stands, length-for, bytes-for, cell-for, mark-length, mark-bytes, mark-cell}
use Rattle.update.proofs.EntryLaws.{quotes-same, levels-same, Kept, kept-none, kept_then, kept-splice, refreshed-kept, reads-by, halted-same}
use Rattle.levels.specs.Levels.{levels_length}
use Rattle.field.specs.Ascii.{L, R}
use Rattle.lists.specs.Lists.{member}
use Rattle.text.specs.Form.{name_length}
use Rattle.page.specs.Layout.{cells_at, cell_length, maker_count, page_length, slot_at, cell_at, status_at, quote_key_at, first_key_at}
use Rattle.page.proofs.KeyLaws.{quote-keys-low, first-keys-low}
use Rattle.keys.specs.Keys.{key_length}

-- ---- the searches

module _ (p : List ℕ) where
  -- the maker under a name is what stands in the cell that is found
  pub find-maker : (m : ℕ) → find_maker m (makers_in p) ≡ found_by (cell_of p) None (maker_place p m)
  unfolding makers_in maker_place
  find-maker m = find-place (cell_of p) maker_count m

  pub maker-hit : (m k : ℕ) → maker_place p m ≡ Some k → (k < maker_count) × (named m (cell_of p k) ≡ true)
  unfolding maker_place
  maker-hit m k e = let h : Hit (λ j. named m (cell_of p j)) 0 maker_count k = first-hit (λ j. named m (cell_of p j)) 0 maker_count k e in (h.high, h.holds)

  pub free-hit : (k : ℕ) → free_place p ≡ Some k → (k < maker_count) × (is_some (cell_of p k) ≡ false)
  unfolding free_place
  free-hit k e =
      let h : Hit (λ j. not (is_some (cell_of p j))) 0 maker_count k = first-hit (λ j. not (is_some (cell_of p j))) 0 maker_count k e in
      (h.high, go (is_some (cell_of p k)) h.holds)
    where
      go : (t : Bool) → not t ≡ true → t ≡ false
      go true d = clash (sym d)
      go false d = refl

  -- a maker stands exactly if its cell is found
  pub stands_at : (m : ℕ) → is_some (find_maker m (makers_in p)) ≡ is_at (maker_place p m)
  stands_at m = ap is_some (find-maker m) ∙ go (maker_place p m) refl
    where
      some_of : (o : Option Maker) → named m o ≡ true → is_some o ≡ true
      some_of None d = clash (sym d)
      some_of (Some x) d = refl

      go : (r : Option ℕ) → maker_place p m ≡ r → is_some (found_by (cell_of p) None r) ≡ is_at r
      go (Some k) e = some_of (cell_of p k) (maker-hit m k e).1
      go None e = refl

  -- fewer than sixteen stand exactly if a free cell is found
  pub room_at : ltb (length (occupied (makers_in p))) maker_count ≡ is_at (free_place p)
  unfolding makers_in free_place
  room_at = room-place (cell_of p) maker_count 0

  -- 49, by the two searches
  pub maker-code : (m : ℕ) (q : Quote) → maker_code (known_by (reading_of p)) m q ≡ cond (empty_quote q) 0 (cond (is_at (maker_place p m)) 0 (cond (is_at (free_place p)) 0 49))
  unfolding maker_code known_by reading_of
  maker-code m q = rw (stands_at m, room_at)

-- a quote that is not empty stands
full : (m : ℕ) (q : Quote) → empty_quote q ≡ false → standing m q ≡ Some (as_maker m q)
unfolding standing
full m q e = rw e

-- ---- a write in the cells

-- a page that differs in the cells only
module _ (p p' : List ℕ) (same : (at m : ℕ) → at + m ≤ cells_at → part p' at m ≡ part p at m) (behind : (at m : ℕ) → status_at ≤ at → part p' at m ≡ part p at m) where
  cells-quotes : quotes_in p' ≡ quotes_in p
  cells-quotes = quotes-same p p' (λ l u s. behind (quote_key_at s l) key_length (omega (arith, quote-keys-low s))) (λ l u. same (slot_at l) quote_length (omega (arith, (upper-low l u).0, (upper-low l u).1)))

  cells-levels : levels_for p' ≡ levels_for p
  cells-levels = levels-same p p' (λ l u s. behind (first_key_at s l) key_length (omega (arith, first-keys-low s))) (λ l u. same (slot_at l + quote_length) levels_length (omega (arith, (upper-low l u).0, (upper-low l u).1)))

module _ (p : List ℕ) (w : length p ≡ page_length) (k : ℕ) (below : k < maker_count) (new : List ℕ) (wide : length new ≡ cell_length) where
  cells-room : cells_at + maker_count * cell_length ≤ length p
  cells-room = omega arith

  pub cell-kept : Bytes new → Kept p (splice p (cell_at k) new)
  cell-kept b = kept-splice p (cell_at k) new w (omega arith) (omega arith) b

  cell-front : (at m : ℕ) → at + m ≤ cells_at → part (splice p (cell_at k) new) at m ≡ part p at m
  cell-front at m h = part-before p (cell_at k) new at m (omega arith) (omega arith)

  cell-behind : (at m : ℕ) → status_at ≤ at → part (splice p (cell_at k) new) at m ≡ part p at m
  cell-behind at m h = part-behind p (cell_at k) new at m (omega arith)

  cell-makers : (c : Option Maker) → maker_in new ≡ c → makers_in (splice p (cell_at k) new) ≡ map (set_at k c (cell_of p)) (range maker_count 0)
  unfolding makers_in
  cell-makers c e =
      map-set (cell_of p) (cell_of (splice p (cell_at k) new)) maker_count k c (ap maker_in (cell_same p cells_at cell_length maker_count k new cells-room below wide) ∙ e)
      (λ j h d. ap maker_in (cell_other p cells_at cell_length maker_count k new cells-room below wide j d))

-- ---- a maker's quote

module _ (m : ℕ) (q : Quote) (p : List ℕ) (w : length p ≡ page_length) where
  -- the page after it: as it was, or with one cell written
  put-elim : (P : List ℕ → Type 0) → P p → ((k : ℕ) → k < maker_count → P (splice p (cell_at k) (cell_for m q))) → P (put_maker m q p)
  unfolding put_maker
  put-elim P as-was one = found (maker_place p m) refl
    where
      free : (t : Bool) (r : Option ℕ) → free_place p ≡ r → P (cond t p (put_at p r (cell_for m q)))
      free true r e = as-was
      free false (Some k) e = one k (free-hit p k e).0
      free false None e = as-was

      found : (r : Option ℕ) → maker_place p m ≡ r → P (put_maker_by m q p r)
      found (Some k) e = one k (maker-hit p m k e).0
      found None e = free (empty_quote q) (free_place p) refl

  pub put-maker-kept : Kept p (put_maker m q p)
  put-maker-kept = put-elim (λ x. Kept p x) (kept-none p w) (λ k b. cell-kept p w k b (cell_for m q) (length-for m q) (bytes-for m q))

  put-maker-front : (at n : ℕ) → at + n ≤ cells_at → part (put_maker m q p) at n ≡ part p at n
  put-maker-front at n h = put-elim (λ x. part x at n ≡ part p at n) refl (λ k b. cell-front p w k b (cell_for m q) (length-for m q) at n h)

  put-maker-behind : (at n : ℕ) → status_at ≤ at → part (put_maker m q p) at n ≡ part p at n
  put-maker-behind at n h = put-elim (λ x. part x at n ≡ part p at n) refl (λ k b. cell-behind p w k b (cell_for m q) (length-for m q) at n h)

  put-maker-halted : halted_in (put_maker m q p) ≡ halted_in p
  put-maker-halted = halted-same p (put_maker m q p) (put-maker-behind status_at 1 (omega arith))

  rewrite-at : (k : ℕ) (c : Option Maker) → maker_place p m ≡ Some k → rewrite m c (makers_in p) ≡ map (set_at k c (cell_of p)) (range maker_count 0)
  unfolding makers_in maker_place
  rewrite-at k c e = rewrite-place (cell_of p) maker_count m c ∙ ap (found_by (λ j. map (set_at j c (cell_of p)) (range maker_count 0)) (map (cell_of p) (range maker_count 0))) e

  allocate-at : (y : Maker) (r : Option ℕ) → free_place p ≡ r → allocate y (makers_in p) ≡ found_by (λ k. map (set_at k (Some y) (cell_of p)) (range maker_count 0)) (makers_in p) r
  unfolding makers_in free_place
  allocate-at y r e = allocate-place (cell_of p) maker_count y ∙ ap (found_by (λ j. map (set_at j (Some y) (cell_of p)) (range maker_count 0)) (map (cell_of p) (range maker_count 0))) e

  module _ (name : m < 256 ^ 4) (fits : QuoteFits q) (stands : Stands q.condition) where
    put-makers : makers_in (put_maker m q p) ≡ maker_put m q (makers_in p)
    unfolding put_maker maker_put
    put-makers = rw (stands_at p m) (found (maker_place p m) refl)
      where
        one : (k : ℕ) → k < maker_count → makers_in (splice p (cell_at k) (cell_for m q)) ≡ map (set_at k (standing m q) (cell_of p)) (range maker_count 0)
        one k b = cell-makers p w k b (cell_for m q) (length-for m q) (standing m q) (cell-for m q name fits stands)

        free : (t : Bool) → empty_quote q ≡ t → (r : Option ℕ) → free_place p ≡ r → makers_in (cond t p (put_at p r (cell_for m q))) ≡ cond t (makers_in p) (allocate (as_maker m q) (makers_in p))
        free true x r e = refl
        free false x (Some k) e =
            one k (free-hit p k e).0 ∙ ap (λ (c : Option Maker). map (set_at k c (cell_of p)) (range maker_count 0)) (full m q x) ∙ sym (allocate-at (as_maker m q) (Some k) e)
        free false x None e = sym (allocate-at (as_maker m q) None e)

        found : (r : Option ℕ) → maker_place p m ≡ r
            → makers_in (put_maker_by m q p r) ≡ cond (is_at r) (rewrite m (standing m q) (makers_in p)) (cond (empty_quote q) (makers_in p) (allocate (as_maker m q) (makers_in p)))
        found (Some k) e = one k (maker-hit p m k e).0 ∙ sym (rewrite-at k (standing m q) e)
        found None e = free (empty_quote q) refl (free_place p) refl

-- ---- over the maker's quote that stands

-- the quote of a cell that stands
over-named : (b : List ℕ) (m : ℕ) (q : Quote) → named m (maker_in b) ≡ true → maker_over (maker_in b) q ≡ quote_over (quote_in (part b name_length quote_length)) q
unfolding maker_in
over-named b m q = go (member (L ∷ R ∷ []) (field b name_length 1))
  where
    here : Maker
    here = record { name = field b 0 name_length; quote = quote_in (part b name_length quote_length) }

    go : (t : Bool) → named m (cond t (Some here) None) ≡ true → maker_over (cond t (Some here) None) q ≡ quote_over (quote_in (part b name_length quote_length)) q
    go true e = refl
    go false e = clash (sym e)

over-cell-fits : (b : List ℕ) → length b ≡ cell_length → Bytes b → (q : Quote) → QuoteFits q → QuoteFits (maker_over (maker_in b) q)
unfolding maker_in
over-cell-fits b w k q f = go (member (L ∷ R ∷ []) (field b name_length 1))
  where
    here : Maker
    here = record { name = field b 0 name_length; quote = quote_in (part b name_length quote_length) }

    go : (t : Bool) → QuoteFits (maker_over (cond t (Some here) None) q)
    go true = over-fits here.quote q (quote-fits (part b name_length quote_length) (length_part b name_length quote_length (omega arith)) (bytes-part b name_length quote_length k)) f
    go false = f

over-stands : (o : Option Maker) (q : Quote) → (maker_over o q).condition ≡ q.condition
over-stands None q = refl
over-stands (Some x) q = over-condition x.quote q

module _ (m : ℕ) (q : Quote) (p : List ℕ) where
  abbrev pub over : Quote
  over = maker_over (find_maker m (makers_in p)) q

  -- a maker that has a cell; one that has none
  pub over-known : (k : ℕ) → maker_place p m ≡ Some k → over ≡ quote_over (quote_in (part p (cell_at k + name_length) quote_length)) q
  over-known k e =
      ap (λ (o : Option Maker). maker_over o q) (find-maker p m ∙ ap (found_by (cell_of p) None) e)
      ∙ over-named (part p (cell_at k) cell_length) m q (maker-hit p m k e).1
      ∙ ap (λ (b : List ℕ). quote_over (quote_in b) q) (part-part p (cell_at k) cell_length name_length quote_length (lit≤ tt))

  pub over-new : maker_place p m ≡ None → over ≡ q
  over-new e = ap (λ (o : Option Maker). maker_over o q) (find-maker p m ∙ ap (found_by (cell_of p) None) e)

module _ (m : ℕ) (q : Quote) (p : List ℕ) (w : length p ≡ page_length) where
  pub maker-kept : Kept p (maker_on m q p)
  unfolding maker_on
  maker-kept = kept_then p _ _ (put-maker-kept m _ p w) (refreshed-kept _ (put-maker-kept m _ p w).size)

  module _ (b : Bytes p) (name : m < 256 ^ 4) (fits : QuoteFits q) (stands : Stands q.condition) where
    over-fit : QuoteFits (over m q p)
    over-fit = rw (find-maker p m) (go (maker_place p m) refl)
      where
        go : (r : Option ℕ) → maker_place p m ≡ r → QuoteFits (maker_over (found_by (cell_of p) None r) q)
        go (Some k) e =
            let h : k < maker_count = (maker-hit p m k e).0 in
            over-cell-fits (part p (cell_at k) cell_length) (length_part p (cell_at k) cell_length (omega arith)) (bytes-part p (cell_at k) cell_length b) q fits
        go None e = fits

    over-stand : Stands (over m q p).condition
    over-stand = rw (over-stands (find_maker m (makers_in p)) q) stands

    -- a maker's quote goes to its cell, or to a free one; both sides 0 and 0 free it; a resent side keeps its time
    pub maker-reads : reading_of (maker_on m q p) ≡ maker_reading m q (reading_of p)
    unfolding maker_on maker_reading reading_of
    maker-reads =
        let x : List ℕ = put_maker m (over m q p) p in
        reads-by p x (halted_in p) (quotes_in p) (maker_put m (over m q p) (makers_in p)) (levels_for p) (put-maker-kept m (over m q p) p w) (put-maker-halted m (over m q p) p w)
        (cells-quotes p x (put-maker-front m (over m q p) p w) (put-maker-behind m (over m q p) p w)) (put-makers m (over m q p) p w name over-fit over-stand) (cells-levels p x (put-maker-front m (over m q p) p w) (put-maker-behind m (over m q p) p w))

-- ---- FINRA Close and Open

mark-each : (c i k : ℕ) (p : List ℕ) → mark_cells c i k p ≡ each_cell cells_at cell_length (mark_cell c) i k p
unfolding mark_cells each_cell
mark-each c i zero p = refl
mark-each c i (suc k) p = mark-each c (i + 1) k (splice p (cell_at i) (mark_cell c (part p (cell_at i) cell_length)))

marks-bytes : (c i k : ℕ) (p : List ℕ) → Bytes p → Bytes (mark_cells c i k p)
unfolding mark_cells
marks-bytes c i zero p b = b
marks-bytes c i (suc k) p b =
    marks-bytes c (i + 1) k (splice p (cell_at i) (mark_cell c (part p (cell_at i) cell_length)))
    (bytes-splice p (cell_at i) (mark_cell c (part p (cell_at i) cell_length)) b (mark-bytes c (part p (cell_at i) cell_length) (bytes-part p (cell_at i) cell_length b)))

module _ (c : ℕ) (p : List ℕ) (w : length p ≡ page_length) where
  marks : Each cells_at cell_length (mark_cell c) 0 maker_count p (mark_cells c 0 maker_count p)
  marks = rw (mark-each c 0 maker_count p) (each-cell cells_at cell_length maker_count (mark_cell c) (mark-length c) 0 maker_count p (omega arith) (omega arith))

  pub marks-kept : Kept p (mark_cells c 0 maker_count p)
  marks-kept = record { size = marks.size ∙ w; head = λ at m h. marks.before at m (omega arith); bytes = marks-bytes c 0 maker_count p }

  pub finra-kept : Kept p (finra_on c p)
  unfolding finra_on
  finra-kept = kept_then p (mark_cells c 0 maker_count p) (refreshed (mark_cells c 0 maker_count p)) marks-kept (refreshed-kept (mark_cells c 0 maker_count p) marks-kept.size)

  marks-front : (at m : ℕ) → at + m ≤ cells_at → part (mark_cells c 0 maker_count p) at m ≡ part p at m
  marks-front at m h = marks.before at m (omega arith)

  marks-behind : (at m : ℕ) → status_at ≤ at → part (mark_cells c 0 maker_count p) at m ≡ part p at m
  marks-behind at m h = marks.behind at m (omega arith)

  marks-halted : halted_in (mark_cells c 0 maker_count p) ≡ halted_in p
  marks-halted = halted-same p (mark_cells c 0 maker_count p) (marks.behind status_at 1 (omega arith))

  marks-makers : Stands c → makers_in (mark_cells c 0 maker_count p) ≡ mark_all c (makers_in p)
  unfolding makers_in mark_all
  marks-makers s =
      map_range (λ k. map_option (marked c) (cell_of p k)) (cell_of (mark_cells c 0 maker_count p)) maker_count 0
      (λ j a b. ap maker_in (marks.cell j (omega arith) (omega arith)) ∙ mark-cell c (part p (cell_at j) cell_length) s (length-cell p cells_at cell_length maker_count j (omega arith) (omega arith)))
      ∙ sym (map-map-range (map_option (marked c)) (cell_of p) maker_count 0)

  -- every standing maker gets the condition
  pub finra-reads : Stands c → reading_of (finra_on c p) ≡ finra_reading c (reading_of p)
  unfolding finra_on finra_reading reading_of
  finra-reads s =
      reads-by p (mark_cells c 0 maker_count p) (halted_in p) (quotes_in p) (mark_all c (makers_in p)) (levels_for p) marks-kept marks-halted
      (cells-quotes p (mark_cells c 0 maker_count p) marks-front marks-behind) (marks-makers s) (cells-levels p (mark_cells c 0 maker_count p) marks-front marks-behind)
