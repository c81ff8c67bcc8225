-- What a message does to its symbol's page, as the page's code answers it (`Update`), is its code, its flags and the page after it.
-- Assumes nothing.
use Prim.Native.Nat.{ℕ, ◌+◌, ◌*◌, ◌≤◌, ◌<◌}
use mathlib.Core.Path.{◌≡◌, refl, sym, ap}
use mathlib.Core.Bool.{Bool, true, false, ◌&&◌, cond}
use mathlib.Core.Logic.{◌⊎◌, inl, inr}
use mathlib.Core.List.{List, [], ◌∷◌, ◌++◌}
use Rattle.std.specs.Prelude.{Option, None, Some}
use native.Mathlib.Omega.{arith}
use lib.Dec.{leb, eqb, lit≤, lit<}
use lib.ListN.{length}
use borrow.Author.Tests.{eq-eqb, ne_eqb, le-leb, lt-leb}
use Rattle.field.specs.Field.{field}
use Rattle.lists.specs.Lists.{member}
use Rattle.lists.proofs.Tests.{clash, Cut, equal, apart, cut}
use Rattle.quote.specs.declared.Quote.{Quote}
use Rattle.levels.specs.declared.Item.{Item}
use Rattle.levels.specs.Levels.{Standing, Odd, odd_on, items_bad, odd_bad, fifth, odd_code, clear_marks}
use Rattle.text.specs.Form.{maker_good, name_length}
use Rattle.message.specs.declared.Message.{Message}
use Rattle.message.specs.declared.Message.TheVariants as says
use Rattle.message.specs.Message.{quote_at, maker_name, round_lot_odd, odd_lot_odd, odd_of, round_conditions, maker_conditions, side_bad, price_fault, quote_fault, message_of, maker_code, status_of, status_code, code_by, code_of, maker_text}
use Rattle.entries.specs.Publication.{same_entry, change_flags, entry_length}
use Rattle.page.specs.Page.{levels_for}
use Rattle.update.specs.Parts.{reading_of, round_on, odd_on_page, maker_on, status_on, known_by}
use Rattle.update.specs.code.Update.{Updated, rejected, flagged, odd_code_on, round_lot_on, odd_lot_on, maker_quote_on, trading_status_on}
use Rattle.message.proofs.SpokenLaws.{Spoken, refused, idle, finra, round, odd, maker, status, spoken}
use Rattle.update.proofs.WorkLaws.{page_code, said_page, page_after}
use Rattle.page.specs.Layout.{page_lot, page_primary, kept_entries}

-- ---- no entry changed

same-entry : (a : List ℕ) (k : ℕ) → same_entry a a k ≡ true
same-entry a k =
    rw (eq-eqb (field a (entry_length * k) 4) (field a (entry_length * k) 4) refl, eq-eqb (field a (entry_length * k + name_length) 8) (field a (entry_length * k + name_length) 8) refl, eq-eqb (field a (entry_length * k + 12) 4) (field a (entry_length * k + 12) 4) refl)

pub flags-none : (a : List ℕ) → change_flags a a ≡ 0
unfolding change_flags
flags-none a = rw (same-entry a 0, same-entry a 1, same-entry a 2, same-entry a 3, same-entry a 4, same-entry a 5)

-- ---- codes: 0 or 60 and more of an odd part, below 60 of a fault

items-sixty : (lot : ℕ) (xs : List Item) → (items_bad lot xs ≡ 0) ⊎ (60 ≤ items_bad lot xs)
unfolding items_bad
items-sixty lot [] = inl refl
items-sixty lot (x ∷ xs) = go (eqb x.price 0) (leb lot x.shares) (items-sixty lot xs)
  where
    go : (s t : Bool) → (items_bad lot xs ≡ 0) ⊎ (60 ≤ items_bad lot xs)
        → (◌≡◌ {A = ℕ} (cond s 62 (cond t 63 (items_bad lot xs))) 0) ⊎ (60 ≤ cond s 62 (cond t 63 (items_bad lot xs)))
    go true t r = inr (lit≤ tt)
    go false true r = inr (lit≤ tt)
    go false false r = r

bad-sixty : (lot : ℕ) (o : Odd) → (odd_bad lot o ≡ 0) ⊎ (60 ≤ odd_bad lot o)
unfolding odd_bad
bad-sixty lot o = go (member clear_marks o.mark) (leb (length o.bids) 4 && leb (length o.offers) 4) (items-sixty lot (o.bids ++ o.offers))
  where
    go : (s t : Bool) → (items_bad lot (o.bids ++ o.offers) ≡ 0) ⊎ (60 ≤ items_bad lot (o.bids ++ o.offers))
        → (◌≡◌ {A = ℕ} (cond s (cond t (items_bad lot (o.bids ++ o.offers)) 61) 60) 0) ⊎ (60 ≤ cond s (cond t (items_bad lot (o.bids ++ o.offers)) 61) 60)
    go true true r = r
    go true false r = inr (lit≤ tt)
    go false t r = inr (lit≤ tt)

pub odd-sixty : (lot : ℕ) (v : Standing) (o : Odd) → eqb (odd_code lot v o) 0 ≡ false → leb 60 (odd_code lot v o) ≡ true
unfolding odd_code
odd-sixty lot v o = go (odd_bad lot o) (bad-sixty lot o) (odd_on o v)
  where
    go : (k : ℕ) → (k ≡ 0) ⊎ (60 ≤ k) → (w : Option Standing) → eqb (cond (eqb k 0) (fifth w) k) 0 ≡ false → leb 60 (cond (eqb k 0) (fifth w) k) ≡ true
    go k (inl z) None e = rw (eq-eqb k 0 z)
    go k (inl z) (Some x) e = clash (rw (eq-eqb k 0 z) at e)
    go k (inr h) w e = rw (ne_eqb k 0 (λ z. omega arith)) (le-leb 60 k h)

fault-low : (table : List ℕ) (q : Quote) (rest : ℕ) → rest < 60 → quote_fault table q rest < 60
unfolding quote_fault price_fault
fault-low table q rest h = go (member table q.condition) (side_bad q.bid) (side_bad q.offer)
  where
    go : (s t u : Bool) → cond s (cond t 47 (cond u 47 rest)) 46 < 60
    go true true u = lit< tt
    go true false true = lit< tt
    go true false false = h
    go false t u = lit< tt

-- ---- each message

-- its code, the entries that changed, the page after it
abbrev pub told : ℕ → List ℕ → List ℕ → Updated
told c p p' = record { effect = record { code = c; flags = change_flags (kept_entries p) (kept_entries p') }; page = p' }

told_none : (c : ℕ) (p : List ℕ) → rejected c p ≡ told c p p
told_none c p = ap (λ (k : ℕ). record { effect = record { code = c; flags = k }; page = p }) (sym (flags-none (kept_entries p)))

module _ (p : List ℕ) where
  -- Q K, with the code f of its fault or k of its odd part
  round-told : (l f : ℕ) (q : Quote) (o : Odd) → f < 60
      → round_lot_on l f q o p
      ≡ told (cond (eqb f 0) (odd_code_on l o p) f) p
      (cond (eqb (cond (eqb f 0) (odd_code_on l o p) f) 0) (odd_on_page l o (round_on l q p)) (cond (leb 60 (cond (eqb f 0) (odd_code_on l o p) f)) (round_on l q p) p))
  unfolding round_lot_on flagged
  round-told l f q o h = go (cut f 0)
    where
      part-told : (t : Bool) → eqb (odd_code_on l o p) 0 ≡ t
          → told (odd_code_on l o p) p (cond t (odd_on_page l o (round_on l q p)) (round_on l q p))
          ≡ told (odd_code_on l o p) p (cond t (odd_on_page l o (round_on l q p)) (cond (leb 60 (odd_code_on l o p)) (round_on l q p) p))
      part-told true e = refl
      part-told false e = rw (odd-sixty (page_lot p) (levels_for p l) o e)

      go : Cut f 0
          → cond (eqb f 0) (told (odd_code_on l o p) p (cond (eqb (odd_code_on l o p) 0) (odd_on_page l o (round_on l q p)) (round_on l q p))) (rejected f p)
          ≡ told (cond (eqb f 0) (odd_code_on l o p) f) p
          (cond (eqb (cond (eqb f 0) (odd_code_on l o p) f) 0) (odd_on_page l o (round_on l q p)) (cond (leb 60 (cond (eqb f 0) (odd_code_on l o p) f)) (round_on l q p) p))
      go (equal t e) = rw t (part-told (eqb (odd_code_on l o p) 0) refl)
      go (apart t e) = rw (t, t, lt-leb 60 f h) (told_none f p)

  odd-told : (l : ℕ) (o : Odd) → odd_lot_on l o p ≡ told (odd_code_on l o p) p (cond (eqb (odd_code_on l o p) 0) (odd_on_page l o p) p)
  unfolding odd_lot_on flagged
  odd-told l o = go (odd_code_on l o p) (cut (odd_code_on l o p) 0)
    where
      go : (k : ℕ) → Cut k 0 → cond (eqb k 0) (told 0 p (odd_on_page l o p)) (rejected k p) ≡ told k p (cond (eqb k 0) (odd_on_page l o p) p)
      go k (equal t e) = rw (t, e)
      go k (apart t e) = rw t (told_none k p)

  maker-told : (f m : ℕ) (q : Quote)
      → maker_quote_on f m q p
      ≡ told (cond (eqb f 0) (maker_code (known_by (reading_of p)) m q) f) p (cond (eqb (cond (eqb f 0) (maker_code (known_by (reading_of p)) m q) f) 0) (maker_on m q p) p)
  unfolding maker_quote_on flagged
  maker-told f m q = go (maker_code (known_by (reading_of p)) m q) (cut f 0)
    where
      one : (k : ℕ) → Cut k 0 → cond (eqb k 0) (told 0 p (maker_on m q p)) (rejected k p) ≡ told k p (cond (eqb k 0) (maker_on m q p) p)
      one k (equal t e) = rw (t, e)
      one k (apart t e) = rw t (told_none k p)

      go : (k : ℕ) → Cut f 0
          → cond (eqb f 0) (cond (eqb k 0) (told 0 p (maker_on m q p)) (rejected k p)) (rejected f p) ≡ told (cond (eqb f 0) k f) p (cond (eqb (cond (eqb f 0) k f) 0) (maker_on m q p) p)
      go k (equal t e) = rw t (one k (cut k 0))
      go k (apart t e) = rw (t, t) (told_none f p)

  status-told : (l x : ℕ) → trading_status_on l x p ≡ told (status_code (page_primary p) l x) p (cond (eqb (status_code (page_primary p) l x) 0) (status_on x p) p)
  unfolding trading_status_on flagged
  status-told l x = go (status_code (page_primary p) l x) (cut (status_code (page_primary p) l x) 0)
    where
      go : (k : ℕ) → Cut k 0 → cond (eqb k 0) (told 0 p (status_on x p)) (rejected k p) ≡ told k p (cond (eqb k 0) (status_on x p) p)
      go k (equal t e) = rw (t, e)
      go k (apart t e) = rw t (told_none k p)

-- ---- by what the message says

-- what the page's code is asked for
abbrev pub updated_by : ℕ → List ℕ → List ℕ → Message → Updated
updated_by letter m p (says.Refused k) = rejected k p
updated_by letter m p says.Idle = rejected 0 p
updated_by letter m p (says.Finra c) = rejected 0 p
updated_by letter m p (says.RoundLot f q o) = round_lot_on letter f q (odd_of m o) p
updated_by letter m p (says.OddLot o) = odd_lot_on letter (odd_of m o) p
updated_by letter m p (says.Maker f name q) = maker_quote_on f name q p
updated_by letter m p (says.Status x) = trading_status_on letter x p

module _ (letter : ℕ) (m : List ℕ) (p : List ℕ) where
  update-by : (x : Message) → Spoken letter m x → updated_by letter m p x ≡ told (code_by (known_by (reading_of p)) letter m x) p (said_page (code_by (known_by (reading_of p)) letter m x) letter m p x)
  unfolding known_by reading_of
  update-by x (refused k lo hi) = told_none k p
  update-by x (idle w) = told_none 0 p
  update-by x (finra c d w) = told_none 0 p
  update-by x (round l k z) = round-told p letter (quote_fault round_conditions (quote_at m) 0) (quote_at m) (odd_of m (round_lot_odd m)) (fault-low round_conditions (quote_at m) 0 (lit< tt))
  update-by x (odd l k z) = odd-told p letter (odd_of m (odd_lot_odd m))
  update-by x (maker k z) = maker-told p (quote_fault maker_conditions (quote_at m) (cond (maker_good (maker_text m)) 0 48)) (maker_name m) (quote_at m)
  update-by x (status k z) = status-told p letter (status_of m)

  -- the code of the page's message, its flags, and the page after it
  pub update-is : updated_by letter m p (message_of letter m) ≡ told (page_code letter m p) p (page_after letter m (message_of letter m) p)
  unfolding code_of
  update-is = update-by (message_of letter m) (spoken letter m)
