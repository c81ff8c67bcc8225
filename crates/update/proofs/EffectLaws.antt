-- What the functions that take a message owe, over plain values: a page is written, then its entries are worked out.
-- Assumes nothing.
use Prim.Native.Nat.{ℕ, zero, suc, ◌+◌, ◌*◌, ◌≤◌, ◌<◌}
use mathlib.Core.Path.{◌≡◌, refl, sym, ap, ap₂, ◌∙◌}
use mathlib.Core.Bool.{Bool, true, false, cond}
use mathlib.Core.List.{List}
use native.Mathlib.Omega.{arith}
use lib.Dec.{eqb}
use lib.ListN.{length}
use borrow.Author.Tests.{eq-eqb, ne_eqb}
use Rattle.field.specs.Field.{part, splice}
use Rattle.field.proofs.Laws.{part-before, length_part, length-splice}
use Rattle.lists.specs.Lists.{upper}
use Rattle.std.specs.Prelude.{Some, None}
use Rattle.lists.proofs.Tests.{Cut, equal, apart, cut, upper-low}
use Rattle.quote.specs.declared.Quote.{Quote}
use Rattle.quote.specs.Quote.{empty_quote, quote_over, quote_in, quote_length}
use Rattle.levels.specs.Levels.{Standing, Odd, idle_odd, odd_in, item_length}
use Rattle.oddpart.proofs.AnswerLaws.{odd-idle, idle-in}
use Rattle.entries.specs.Publication.{publication, change_flags, publication_length}
use Rattle.page.proofs.FrameLaws.{refreshed-part}
use Rattle.page.specs.Page.{quotes_in, levels_for, with_quote, published_entries, refreshed}
use Rattle.message.specs.Message.{maker_code}
use Rattle.makers.specs.Makers.{put_maker, maker_place, free_place, cell_for, mark_cell, mark_cells}
use Rattle.update.specs.Parts.{reading_of, known_by, put_round, round_on, put_odd, odd_on_page, maker_on, finra_on}
use Rattle.update.specs.code.Update.{Updated, rejected, flagged, odd_code_on, odd_taken, round_lot_on, odd_lot_on, maker_quote_on}
use Rattle.update.proofs.EntryLaws.{kept-lot}
use Rattle.update.proofs.CellLaws.{mark-length}
use Rattle.update.proofs.MakerLaws.{maker-hit, free-hit, maker-code, over, over-known, over-new}
use Rattle.update.proofs.SlotLaws.{put-round-levels, put-round-kept, round-stands, odd-stands}
use Rattle.update.proofs.RefreshLaws.{one-refresh}
use Rattle.field.specs.Ascii.{A, Z, space}
use Rattle.text.specs.Form.{name_length}
use Rattle.page.specs.Layout.{entries_at, slots_at, cell_length, maker_count, page_length, page_lot, kept_entries, cell_at}

-- a write behind the entries leaves them
pub entries-stand : (p : List ℕ) (a : ℕ) (new : List ℕ) → length p ≡ page_length → slots_at ≤ a → a ≤ page_length → kept_entries (splice p a new) ≡ kept_entries p
entries-stand p a new w l h = part-before p a new entries_at publication_length (omega arith) (omega arith)

-- flags go by the entries alone
pub flagged-from : (code : ℕ) (p p' q : List ℕ) → kept_entries p' ≡ kept_entries p → flagged code p' q ≡ flagged code p q
unfolding flagged
flagged-from code p p' q e = rw e

-- what `renew` gives
pub renewed-is : (code : ℕ) (p q : List ℕ) (r : ℕ) → length p ≡ page_length → r ≡ change_flags (kept_entries p) (publication (published_entries p)) → q ≡ refreshed p
    → ◌≡◌ {A = Updated} (record { effect = record { code = code; flags = r }; page = q }) (flagged code p (refreshed p))
unfolding flagged
renewed-is code p q r w e f = rw (refreshed-part p (omega arith), ← e, ← f)

-- ---- Q K and Q M

pub letter-inside : (l : ℕ) → upper l ≡ true → (A ≤ l) × (l ≤ Z)
letter-inside l u = ((upper-low l u).0, omega (arith, (upper-low l u).1))

-- no items are no bytes
module _ (mark bids offers t : ℕ) (b : List ℕ) (h : length b ≡ item_length * (bids + offers)) where
  pub idle-space : mark ≡ space → eqb (length b) 0 ≡ idle_odd (odd_in mark bids offers t b)
  idle-space e = go (cut (bids + offers) 0) ∙ sym (idle-in mark bids offers t b ∙ rw (eq-eqb mark space e))
    where
      go : Cut (bids + offers) 0 → eqb (length b) 0 ≡ eqb (bids + offers) 0
      go (equal x z) = eq-eqb (length b) 0 (omega arith) ∙ sym x
      go (apart x z) = ne_eqb (length b) 0 (λ k. z (omega arith)) ∙ sym x

  pub idle-marked : (mark ≡ space → ⊥) → false ≡ idle_odd (odd_in mark bids offers t b)
  idle-marked n = sym (idle-in mark bids offers t b ∙ rw (ne_eqb mark space n))

-- an idle odd part leaves the page
pub levels-idle : (p : List ℕ) (l : ℕ) (o : Odd) → idle_odd o ≡ true → (◌≡◌ {A = ℕ} 0 (odd_code_on l o p)) × (p ≡ odd_taken l o p)
unfolding put_odd
levels-idle p l o i = let z : odd_code_on l o p ≡ 0 = (odd-idle (page_lot p) (levels_for p l) o i).0 in (sym z, rw (z, i))

module _ (p : List ℕ) (w : length p ≡ page_length) (l : ℕ) (u : upper l ≡ true) (o : Odd) where
  -- Q K: the round part is written, then the odd part, and the entries are worked out once
  module _ (q : Quote) where
    abbrev new : Quote
    new = quote_over (quotes_in p l) q

    abbrev x : List ℕ
    x = put_round l new p

    size : length x ≡ page_length
    size = (put-round-kept p w l u new).size

    -- the round part leaves what the odd part's code is worked out from
    code_same : odd_code_on l o x ≡ odd_code_on l o p
    code_same = rw (kept-lot p x (put-round-kept p w l u new), ap (λ (v : ℕ → Standing). v l) (put-round-levels p w l u new))

    once : (code : ℕ) (t : Bool) → flagged code (cond t (put_odd l o x) x) (refreshed (cond t (put_odd l o x) x)) ≡ flagged code p (cond t (odd_on_page l o (round_on l q p)) (round_on l q p))
    unfolding odd_on_page round_on
    once code true =
        flagged-from code p (put_odd l o x) (refreshed (put_odd l o x)) (odd-stands x size l u o ∙ round-stands p w l u new) ∙ ap (flagged code p) (sym (one-refresh x size l u o))
    once code false = flagged-from code p x (refreshed x) (round-stands p w l u new)

    pub round-taken : (old over : Quote) (p' : List ℕ) (code : ℕ) (p'' : List ℕ) (r : Updated) → old ≡ quotes_in p l → over ≡ quote_over old q → p' ≡ with_quote l over p
        → code ≡ odd_code_on l o p' → p'' ≡ odd_taken l o p' → r ≡ flagged code p'' (refreshed p'') → r ≡ round_lot_on l 0 q o p
    unfolding round_lot_on put_round
    round-taken old over p' code p'' r h v d c g f =
        let e : p' ≡ x = d ∙ ap (λ (z : Quote). with_quote l z p) (v ∙ ap (λ (z : Quote). quote_over z q) h) in
        let k : code ≡ odd_code_on l o p = c ∙ ap (odd_code_on l o) e ∙ code_same in
        let y : p'' ≡ cond (eqb (odd_code_on l o p) 0) (put_odd l o x) x = g ∙ ap (odd_taken l o) e ∙ rw code_same in
        f ∙ (λ i. flagged (k i) (y i) (refreshed (y i))) ∙ once (odd_code_on l o p) (eqb (odd_code_on l o p) 0)

  -- Q M, Q T: refused or taken
  module _ (code : ℕ) (p' : List ℕ) (c : code ≡ odd_code_on l o p) (g : p' ≡ odd_taken l o p) where
    pub odd_refused : (code ≡ 0 → ⊥) → ◌≡◌ {A = Updated} (record { effect = record { code = code; flags = 0 }; page = p' }) (odd_lot_on l o p)
    unfolding odd_lot_on
    odd_refused n =
        let z : eqb (odd_code_on l o p) 0 ≡ false = ne_eqb (odd_code_on l o p) 0 (λ q. n (c ∙ q)) in
        let y : p' ≡ p = rw z at g in
        rw (z, y, c)

    pub odd-taken : (r : Updated) → code ≡ 0 → r ≡ flagged 0 p' (refreshed p') → r ≡ odd_lot_on l o p
    unfolding odd_lot_on odd_on_page
    odd-taken r n f =
        let z : odd_code_on l o p ≡ 0 = sym c ∙ n in
        let y : p' ≡ put_odd l o p = rw z at g in
        f ∙ ap (λ (s : List ℕ). flagged 0 s (refreshed s)) y ∙ flagged-from 0 p (put_odd l o p) (refreshed (put_odd l o p)) (odd-stands p w l u o) ∙ rw z

-- ---- Q U

module _ (p : List ℕ) (w : length p ≡ page_length) (m : ℕ) (q : Quote) where
  cell-stands : (k : ℕ) (new : List ℕ) → k < maker_count → kept_entries (splice p (cell_at k) new) ≡ kept_entries p
  cell-stands k new h = entries-stand p (cell_at k) new w (omega arith) (omega arith)

  -- a page with the maker's quote in cell k, its entries worked out
  written : (k : ℕ) (v : Quote) (p' : List ℕ) (r : Updated) → k < maker_count → p' ≡ splice p (cell_at k) (cell_for m v) → put_maker m (over m q p) p ≡ splice p (cell_at k) (cell_for m v)
      → maker_code (known_by (reading_of p)) m q ≡ 0 → r ≡ flagged 0 p' (refreshed p') → r ≡ maker_quote_on 0 m q p
  unfolding maker_quote_on maker_on
  written k v p' r h d t c f =
      f ∙ ap (λ (z : List ℕ). flagged 0 z (refreshed z)) d
      ∙ flagged-from 0 p (splice p (cell_at k) (cell_for m v)) (refreshed (splice p (cell_at k) (cell_for m v))) (cell-stands k (cell_for m v) h)
      ∙ rw (c, t)

  pub maker-known : (k : ℕ) (p' : List ℕ) (r : Updated) → maker_place p m ≡ Some k → p' ≡ splice p (cell_at k) (cell_for m (quote_over (quote_in (part p (cell_at k + name_length) quote_length)) q))
      → r ≡ flagged 0 p' (refreshed p') → r ≡ maker_quote_on 0 m q p
  unfolding put_maker
  maker-known k p' r e d f =
      written k (quote_over (quote_in (part p (cell_at k + name_length) quote_length)) q) p' r (maker-hit p m k e).0 d (rw (over-known m q p k e, e)) (maker-code p m q ∙ rw e (either-zero (empty_quote q))) f
    where
      either-zero : (t : Bool) → ◌≡◌ {A = ℕ} (cond t 0 0) 0
      either-zero true = refl
      either-zero false = refl

  pub maker-new : (k : ℕ) (p' : List ℕ) (r : Updated) → maker_place p m ≡ None → free_place p ≡ Some k → empty_quote q ≡ false
      → p' ≡ splice p (cell_at k) (cell_for m q) → r ≡ flagged 0 p' (refreshed p') → r ≡ maker_quote_on 0 m q p
  unfolding put_maker
  maker-new k p' r e g n d f = written k q p' r (free-hit p k g).0 d (rw (over-new m q p e, e, n, g)) (maker-code p m q ∙ rw (n, e, g)) f

  -- an empty quote of a maker without a cell
  pub maker-nothing : (r : Updated) → maker_place p m ≡ None → empty_quote q ≡ true → r ≡ flagged 0 p (refreshed p) → r ≡ maker_quote_on 0 m q p
  unfolding maker_quote_on maker_on put_maker
  maker-nothing r e n f = f ∙ rw (maker-code p m q, over-new m q p e, e, n)

  -- 49: sixteen stand, and the quote is not empty
  pub maker-full : maker_place p m ≡ None → free_place p ≡ None → empty_quote q ≡ false → ◌≡◌ {A = Updated} (rejected 49 p) (maker_quote_on 0 m q p)
  unfolding maker_quote_on
  maker-full e g n = rw (maker-code p m q, e, g, n)

-- ---- FINRA Close and Open

marks-stand : (c i k : ℕ) (p : List ℕ) → length p ≡ page_length → i + k ≤ maker_count → kept_entries (mark_cells c i k p) ≡ kept_entries p
unfolding mark_cells
marks-stand c i zero p w h = refl
marks-stand c i (suc k) p w h =
    let m : length (mark_cell c (part p (cell_at i) cell_length)) ≡ cell_length = mark-length c (part p (cell_at i) cell_length) (length_part p (cell_at i) cell_length (omega arith)) in
    let n : length (splice p (cell_at i) (mark_cell c (part p (cell_at i) cell_length))) ≡ page_length = length-splice p (cell_at i) (mark_cell c (part p (cell_at i) cell_length)) (omega arith) ∙ w in
    marks-stand c (i + 1) k (splice p (cell_at i) (mark_cell c (part p (cell_at i) cell_length))) n (omega arith)
    ∙ entries-stand p (cell_at i) (mark_cell c (part p (cell_at i) cell_length)) w (omega arith) (omega arith)

pub finra-is : (c : ℕ) (p p' q : List ℕ) (r : ℕ) → length p ≡ page_length → p' ≡ mark_cells c 0 maker_count p → length p' ≡ page_length → r ≡ change_flags (kept_entries p') (publication (published_entries p')) → q ≡ refreshed p'
    → (r ≡ change_flags (kept_entries p) (kept_entries (finra_on c p))) × (q ≡ finra_on c p)
unfolding finra_on
finra-is c p p' q r w d n e f = (
  e ∙ ap₂ change_flags (ap (λ (z : List ℕ). kept_entries z) d ∙ marks-stand c 0 maker_count p w (omega arith)) (sym (refreshed-part p' (omega arith)) ∙ ap (λ (z : List ℕ). kept_entries (refreshed z)) d),
  f ∙ ap refreshed d,
)
