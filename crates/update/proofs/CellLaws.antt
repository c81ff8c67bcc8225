-- A maker's cell, 45 bytes: its length, that it reads back, and what FINRA Close and Open make of it.
-- Assumes nothing.
use Prim.Native.Nat.{ℕ, ◌+◌, ◌^◌, ◌≤◌, ◌<◌}
use mathlib.Core.Path.{◌≡◌, refl, sym, ◌∙◌}
use mathlib.Core.Bool.{Bool, true, false, cond}
use mathlib.Core.List.{List, [], ◌∷◌}
use Rattle.std.specs.Prelude.{None, Some}
use native.Mathlib.Omega.{arith}
use lib.Dec.{eqb, ltb, lit≤}
use lib.ListN.{length, replicate, length-replicate}
use borrow.Author.Tests.{ltb-true}
use Rattle.field.specs.Field.{Bytes, be, part, field, splice, be_bytes}
use Rattle.field.specs.Ascii.{L, R}
use Rattle.field.specs.Low.{le_bytes}
use Rattle.field.proofs.Laws.{be-be_bytes, length-be_bytes, bytes-be_bytes, bytes-append, bytes-splice, length-splice, part-part, part-behind, field-part, field-before, field_put}
use Rattle.lists.specs.Lists.{member, every, map_option, is_some}
use Rattle.lists.proofs.Tests.{clash, and-true, Cut, equal, apart, cut}
use Rattle.quote.specs.declared.Quote.{Quote}
use Rattle.quote.specs.Quote.{empty_quote, with_condition, level_in, level_bytes, quote_in, quote_bytes, QuoteFits, level_length, quote_length, bid_at, offer_at}
use Rattle.quote.proofs.QuoteLaws.{quote-back, bytes-quote}
use Rattle.entries.specs.Entries.{Maker}
use Rattle.page.specs.Page.{maker_in, maker_bytes}
use Rattle.makers.specs.Makers.{cell_for, mark_cell}
use Rattle.update.proofs.Model.{as_maker, standing, marked}
use Rattle.update.proofs.EntryLaws.{bytes-every}
use Rattle.text.specs.Form.{name_length}
use Rattle.page.specs.Layout.{cell_length}

-- a condition that a standing maker has: L or R
abbrev pub Stands : ℕ → Type 0
Stands c = member (L ∷ R ∷ []) c ≡ true

-- a member of a table is below what bounds the table
pub member_below : (ks : List ℕ) (n x : ℕ) → every (λ k. ltb k n) ks ≡ true → member ks x ≡ true → x < n
unfolding member every
member_below [] n x b e = clash (sym e)
member_below (k ∷ ks) n x b e = go (cut x k) (member_below ks n x (and-true (ltb k n) (every (λ k. ltb k n) ks) b).1) e
  where
    go : Cut x k → (member ks x ≡ true → x < n) → cond (eqb x k) true (member ks x) ≡ true → x < n
    go (equal t p) down e = omega (arith, ltb-true k n (and-true (ltb k n) (every (λ k. ltb k n) ks) b).0)
    go (apart t p) down e = down (rw t at e)

pub stands-fits : (c : ℕ) → Stands c → c < 256 ^ 1
unfolding every
stands-fits c e = member_below (L ∷ R ∷ []) 256 c refl e

pub length-maker : (m : Maker) → length (maker_bytes m) ≡ cell_length
unfolding maker_bytes quote_bytes level_bytes be_bytes le_bytes
length-maker m = refl

pub bytes-maker : (m : Maker) → Bytes (maker_bytes m)
unfolding maker_bytes
bytes-maker m = bytes-append (be_bytes 4 m.name) (quote_bytes m.quote) (bytes-be_bytes 4 m.name) (bytes-quote m.quote)

pub maker-back : (m : Maker) → m.name < 256 ^ 4 → QuoteFits m.quote → Stands m.quote.condition → maker_in (maker_bytes m) ≡ Some m
unfolding maker_in maker_bytes quote_bytes be_bytes level_bytes le_bytes field part
maker-back m n f c =
    let a : be (be_bytes 1 m.quote.condition) ≡ m.quote.condition = be-be_bytes 1 m.quote.condition f.condition in
    let d : be (be_bytes 4 m.name) ≡ m.name = be-be_bytes 4 m.name n in
    let e : member (L ∷ R ∷ []) (be (be_bytes 1 m.quote.condition)) ≡ true = rw a c in
    let g : cond (member (L ∷ R ∷ []) (be (be_bytes 1 m.quote.condition))) (Some (record { name = be (be_bytes 4 m.name); quote = quote_in (quote_bytes m.quote) })) None ≡ Some m =
    rw e (λ i. Some (record { name = d i; quote = quote-back m.quote f i })) in
    g

-- zeros are a free cell
pub maker-free : maker_in (replicate cell_length 0) ≡ None
unfolding maker_in field part member
maker-free = refl

-- ---- the cell that a maker's quote leaves

module _ (m : ℕ) (q : Quote) where
  pub length-for : length (cell_for m q) ≡ cell_length
  unfolding cell_for
  length-for = go (empty_quote q)
    where
      go : (t : Bool) → length (cond t (replicate cell_length 0) (maker_bytes (as_maker m q))) ≡ cell_length
      go true = length-replicate {A = ℕ} cell_length 0
      go false = length-maker (as_maker m q)

  pub bytes-for : Bytes (cell_for m q)
  unfolding cell_for every
  bytes-for = go (empty_quote q)
    where
      go : (t : Bool) → Bytes (cond t (replicate cell_length 0) (maker_bytes (as_maker m q)))
      go true = bytes-every (replicate cell_length 0) refl
      go false = bytes-maker (as_maker m q)

  pub cell-for : m < 256 ^ 4 → QuoteFits q → Stands q.condition → maker_in (cell_for m q) ≡ standing m q
  unfolding cell_for standing
  cell-for n f c = go (empty_quote q)
    where
      go : (t : Bool) → maker_in (cond t (replicate cell_length 0) (maker_bytes (as_maker m q))) ≡ cond t None (Some (as_maker m q))
      go true = maker-free
      go false = maker-back (as_maker m q) n f c

-- ---- FINRA Close and Open

pub mark-length : (c : ℕ) (b : List ℕ) → length b ≡ cell_length → length (mark_cell c b) ≡ cell_length
unfolding mark_cell
mark-length c b w = go (is_some (maker_in b))
  where
    go : (t : Bool) → length (cond t (splice b 4 (be_bytes 1 c)) b) ≡ cell_length
    go true = length-splice b 4 (be_bytes 1 c) (omega (arith, length-be_bytes 1 c)) ∙ w
    go false = w

pub mark-bytes : (c : ℕ) (b : List ℕ) → Bytes b → Bytes (mark_cell c b)
unfolding mark_cell
mark-bytes c b k = go (is_some (maker_in b))
  where
    go : (t : Bool) → Bytes (cond t (splice b 4 (be_bytes 1 c)) b)
    go true = bytes-splice b 4 (be_bytes 1 c) k (bytes-be_bytes 1 c)
    go false = k

-- a standing maker gets the condition, a free cell stays free
pub mark-cell : (c : ℕ) (b : List ℕ) → Stands c → length b ≡ cell_length → maker_in (mark_cell c b) ≡ map_option (marked c) (maker_in b)
unfolding mark_cell maker_in with_condition quote_in
mark-cell c b s w = go (member (L ∷ R ∷ []) (field b name_length 1)) refl
  where
    n : length (be_bytes 1 c) ≡ 1
    n = length-be_bytes 1 c

    at4 : field (splice b 4 (be_bytes 1 c)) name_length 1 ≡ c
    at4 = field_put b name_length 1 c (omega arith) (stands-fits c s)

    go : (t : Bool) → member (L ∷ R ∷ []) (field b name_length 1) ≡ t
        → maker_in (cond (is_some {A = Maker} (cond t (Some (record { name = field b 0 name_length; quote = quote_in (part b name_length quote_length) })) None)) (splice b 4 (be_bytes 1 c)) b)
        ≡ map_option (marked c) (cond t (Some (record { name = field b 0 name_length; quote = quote_in (part b name_length quote_length) })) None)
    go true e =
        let z : member (L ∷ R ∷ []) (field (splice b 4 (be_bytes 1 c)) name_length 1) ≡ true = rw at4 s in
        let x : field (splice b 4 (be_bytes 1 c)) 0 name_length ≡ field b 0 name_length = field-before b 4 (be_bytes 1 c) 0 name_length (omega arith) (omega arith) in
        let k : field (part (splice b 4 (be_bytes 1 c)) name_length quote_length) 0 1 ≡ c = field-part (splice b 4 (be_bytes 1 c)) name_length quote_length 0 1 (lit≤ tt) ∙ at4 in
        let y : part (part (splice b 4 (be_bytes 1 c)) name_length quote_length) bid_at level_length ≡ part (part b name_length quote_length) bid_at level_length = behind 1 (omega arith) (lit≤ tt) in
        let o : part (part (splice b 4 (be_bytes 1 c)) name_length quote_length) offer_at level_length ≡ part (part b name_length quote_length) offer_at level_length = behind offer_at (omega arith) (lit≤ tt) in
        rw z (λ i. Some (record { name = x i; quote = record { condition = k i; bid = level_in (y i); offer = level_in (o i) } }))
      where
        behind : (j : ℕ) → 1 ≤ j → j + level_length ≤ quote_length → part (part (splice b 4 (be_bytes 1 c)) name_length quote_length) j level_length ≡ part (part b name_length quote_length) j level_length
        behind j lo hi =
            part-part (splice b 4 (be_bytes 1 c)) name_length quote_length j level_length hi ∙ part-behind b 4 (be_bytes 1 c) (4 + j) level_length (omega (arith, n)) ∙ sym (part-part b name_length quote_length j level_length hi)
    go false e = rw e
