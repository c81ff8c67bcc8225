-- What two letters' parts and codes have to do with each other on one page: nothing. Parts in either order leave the same page, and no code moves.
-- Assumes nothing.
use Prim.Native.Nat.{ℕ, ◌+◌, ◌≤◌}
use mathlib.Core.Path.{◌≡◌, refl, ap, ◌∙◌}
use mathlib.Core.Bool.{true, cond}
use mathlib.Core.List.{List}
use native.Mathlib.Omega.{arith}
use lib.Dec.{eqb, ltb}
use lib.ListN.{length}
use Rattle.field.specs.Field.{be, part, field}
use Rattle.field.specs.Ascii.{D}
use Rattle.lists.specs.Lists.{upper, is_some}
use Rattle.quote.specs.Quote.{empty_quote}
use Rattle.levels.specs.Levels.{odd_code}
use Rattle.message.specs.declared.Message.{Message}
use Rattle.message.specs.declared.Message.TheVariants as says
use Rattle.message.specs.Message.{odd_of, message_of, Known, maker_code, status_code, code_by, code_of, Part}
use Rattle.page.specs.Layout.{symbol_at, lot_at, primary_at, head_length, page_length, page_lot, page_primary}
use Rattle.page.specs.Page.{makers_in, occupied}
use Rattle.makers.specs.Makers.{find_maker}
use Rattle.update.specs.Parts.{reading_of, known_by}
use Rattle.update.proofs.WorkLaws.{page_code}
use Rattle.regions.proofs.RegionLaws.{in_within, Covers, stretch, Reads, local-reads}
use Rattle.regions.proofs.RefreshLaws.{refreshed-reads, refresh-swap}
use Rattle.regions.proofs.OwnLaws.{head, own, seen, places-own, cells-own, head-seen, own-seen, own-head, own-entries, own-apart, entries-head, entries-seen, seen_apart}
use Rattle.regions.proofs.PartLaws.{writes, changes, Sent, levels-read, makers-read, part-local}
use Rattle.regions.proofs.SentLaws.{Speaks, speaks}

-- ---- what a code depends on: round lot, primary letter, its own letter's levels and, on D's line, the makers

module _ (e e' : Known) (l : ℕ) (m : List ℕ) (listed : e.listed ≡ e'.listed) (lot : e.lot ≡ e'.lot) (primary : e.primary ≡ e'.primary) (levels : e.levels l ≡ e'.levels l)
    (makers : l ≡ D → (e.count ≡ e'.count) × (e.stands ≡ e'.stands)) where
  code-by : (x : Message) → Speaks l x → code_by e l m x ≡ code_by e' l m x
  unfolding maker_code
  code-by (says.Refused c) s = refl
  code-by says.Idle s = refl
  code-by (says.Finra c) s = refl
  code-by (says.RoundLot f q o) s = λ i. cond (listed i) (cond (eqb f 0) (odd_code (lot i) (levels i) (odd_of m o)) f) 45
  code-by (says.OddLot o) s = λ i. cond (listed i) (odd_code (lot i) (levels i) (odd_of m o)) 45
  code-by (says.Maker f n q) s = λ i. cond (listed i) (cond (eqb f 0) (cond (empty_quote q) 0 (cond ((makers s).1 i n) 0 (cond (ltb ((makers s).0 i) 16) 0 49))) f) 45
  code-by (says.Status x) s = λ i. cond (listed i) (status_code (primary i) l x) 45

  code_same : code_of e l m ≡ code_of e' l m
  unfolding code_of
  code_same = code-by (message_of l m) (speaks l m)

head_in : Covers head symbol_at head_length
head_in i lo hi = in_within symbol_at head_length i lo hi

head_read : (at m : ℕ) → at + m ≤ head_length → Reads page_length head (λ p. part p at m)
head_read at m h p q v w a = stretch head p q a m at (λ i lo hi. head_in i (omega arith) (omega arith))

lot-read : Reads page_length head (λ p. page_lot p)
unfolding field
lot-read p q v w a = ap be (stretch head p q a 1 lot_at (λ i lo hi. head_in i (omega arith) (omega arith)))

pub primary-read : Reads page_length head (λ p. page_primary p)
unfolding field
primary-read p q v w a = ap be (stretch head p q a 1 primary_at (λ i lo hi. head_in i (omega arith) (omega arith)))

code_read : (n l : ℕ) (m : List ℕ) → Reads page_length (seen n l) (page_code l m)
unfolding known_by reading_of
code_read n l m p q v w a =
    code_same (known_by (reading_of p)) (known_by (reading_of q)) l m refl (lot-read p q v w (λ i h. a i (head-seen n l i h))) (primary-read p q v w (λ i h. a i (head-seen n l i h)))
    (levels-read l p q v w (λ i h. a i (own-seen n l i (places-own n l i h))))
    (λ e.
    let c : makers_in p ≡ makers_in q = makers-read p q v w (λ i h. a i (own-seen n l i (cells-own n l e i h))) in
    ((λ i. length (occupied (c i))), (λ i. λ x. is_some (find_maker x (c i)))))

-- ---- parts on a page of any bytes; n is its primary letter

module _ (n l : ℕ) (u : upper l ≡ true) (r : Part) (x : Sent n l r) (p : List ℕ) (w : length p ≡ page_length) where
  writes-size : length (writes r p) ≡ page_length
  writes-size = (part-local n l u r x).size p w

  -- the head stays
  head-stays : {A : Type 0} (f : List ℕ → A) → Reads page_length head f → f (changes r p) ≡ f p
  head-stays f k =
      refreshed-reads head f k entries-head (writes r p) writes-size
      ∙ local-reads page_length (own n l) head (writes r) f (part-local n l u r x) k (own-head n l) p w

  pub head-part-stays : (at m : ℕ) → at + m ≤ head_length → part (changes r p) at m ≡ part p at m
  head-part-stays at m h = head-stays (λ p. part p at m) (head_read at m h)

  pub primary-stays : page_primary (changes r p) ≡ page_primary p
  primary-stays = head-stays (λ p. page_primary p) primary-read

  module _ (j : ℕ) (v : upper j ≡ true) (d : l ≡ j → ⊥) where
    -- the code of a message of another letter stays
    pub page-code-stays : (m : List ℕ) → page_code j m (changes r p) ≡ page_code j m p
    page-code-stays m =
        refreshed-reads (seen n j) (page_code j m) (code_read n j m) (entries-seen n j) (writes r p) writes-size
        ∙ local-reads page_length (own n l) (seen n j) (writes r) (page_code j m) (part-local n l u r x) (code_read n j m) (seen_apart n l j u v d) p w

    -- two letters' parts, in either order, to the byte
    pub page-swap : (t : Part) → Sent n j t → changes r (changes t p) ≡ changes t (changes r p)
    page-swap t y =
        refresh-swap (own n l) (own n j) (writes r) (writes t) (part-local n l u r x) (part-local n j v t y) (own-entries n l) (own-entries n j) (own-apart n l j u v d) p w
