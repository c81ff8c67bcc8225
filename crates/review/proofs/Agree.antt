-- The invariant between the book's readings and the history, by lookups: each symbol's reading is what the history gives.
-- Assumes nothing.
use Prim.Native.Nat.{ℕ}
use mathlib.Core.Path.{◌≡◌, refl, sym, ap, ap₂, ◌∙◌, fun_ext}
use mathlib.Core.Bool.{Bool, true, false, cond}
use mathlib.Core.List.{List, [], ◌∷◌}
use Rattle.std.specs.Prelude.{Option, None, Some}
use lib.Dec.{eqb}
use lib.ListN.{length}
use Rattle.lists.specs.Lists.{is_some}
use Rattle.lists.proofs.Tests.{Cut, equal, apart, cut}
use Rattle.message.specs.Message.{Part}
use Rattle.quote.specs.declared.Quote.{Quote}
use Rattle.entries.specs.Entries.{Entries, letter_candidate, candidates, entries_of, entries_by, finra_best, unless_halted, trading_candidates}
use Rattle.entries.specs.Publication.{publication}
use Rattle.page.specs.Page.{occupied}
use Rattle.makers.specs.Makers.{find_maker}
use Rattle.update.specs.Parts.{Reading, known_by, known_of}
use Rattle.work.specs.Work.{Listed, is_listed, listed_with, lot_of, primary_of, find_reading, listing, listed_of}
use Rattle.calls.specs.Call.{lot_in}
use Rattle.review.specs.Reviewer.{rounds_of, quote_of, maker_of, makers_of, levels_of, halted_of, reviewed_by, known_to}
use Rattle.review.proofs.CellLaws.{Sole}
use Rattle.review.proofs.TimeLaws.{held, held-letter, held-entries}
use Rattle.review.proofs.HistoryLaws.{same_count, same-finra}
use Rattle.review.proofs.SilentLaws.{Silent, silent-maker, silent-makers, silent-levels}
use Rattle.page.specs.Layout.{maker_count}

-- a reading is as the history has its symbol
pub record Good (h : List Part) (r : Reading) : Type 0 where
  pub quotes : (l : ℕ) → r.quotes l ≡ held (rounds_of h r.symbol l)
  pub sole : Sole r.cells
  pub size : length r.cells ≡ maker_count
  pub makers : (m : ℕ) → find_maker m r.cells ≡ maker_of h r.symbol m
  pub levels : (l : ℕ) → r.levels l ≡ levels_of h r.symbol l
  pub halted : r.halted ≡ halted_of h r.symbol
  pub entries : r.entries ≡ publication (unless_halted r.halted (entries_of r.quotes (occupied r.cells) r.levels))

-- then its entries are the 96 bytes that the reviewer works out
pub good-reviewed : (h : List Part) (r : Reading) → Good h r → r.entries ≡ reviewed_by h r.symbol
unfolding reviewed_by entries_of quote_of
good-reviewed h r g =
    let rounds : ℕ → List Quote = rounds_of h r.symbol in
    let q : r.quotes ≡ (λ l. held (rounds l)) = fun_ext g.quotes in
    let v : r.levels ≡ levels_of h r.symbol = fun_ext g.levels in
    let b : finra_best (occupied r.cells) ≡ finra_best (makers_of h r.symbol) = same-finra h r.symbol r.cells g.sole g.makers in
    g.entries
    ∙ (λ i. publication (unless_halted (g.halted i) (entries_by (q i) (b i) (v i))))
    ∙ ap (λ (e : Entries). publication (unless_halted (halted_of h r.symbol) e)) (held-entries rounds (finra_best (makers_of h r.symbol)) (levels_of h r.symbol))

-- and its national candidates are those that the reviewer works out
pub good-candidates : (h : List Part) (r : Reading) → Good h r → candidates r.quotes (occupied r.cells) ≡ candidates (quote_of h r.symbol) (makers_of h r.symbol)
unfolding candidates quote_of
good-candidates h r g =
    let rounds : ℕ → List Quote = rounds_of h r.symbol in
    let q : r.quotes ≡ (λ l. held (rounds l)) = fun_ext g.quotes in
    let b : finra_best (occupied r.cells) ≡ finra_best (makers_of h r.symbol) = same-finra h r.symbol r.cells g.sole g.makers in
    (λ i s l. letter_candidate s (q i) (b i s) l) ∙ fun_ext (λ s. fun_ext (held-letter rounds s (finra_best (makers_of h r.symbol) s)))

-- none while it is halted
pub good-trading : (h : List Part) (r : Reading) → Good h r
    → trading_candidates r.halted (candidates r.quotes (occupied r.cells)) ≡ trading_candidates (halted_of h r.symbol) (candidates (quote_of h r.symbol) (makers_of h r.symbol))
good-trading h r g = ap₂ trading_candidates g.halted (good-candidates h r g)

abbrev pub AllGood : List Part → List Reading → Type 0
AllGood h [] = Unit {0}
AllGood h (r ∷ rs) = Good h r × AllGood h rs

-- no symbol is listed twice
abbrev pub Apart : List Listed → Type 0
Apart [] = Unit {0}
Apart (x ∷ xs) = (is_listed x.symbol xs ≡ false) × Apart xs

-- what holds of the readings and the history between any two messages
pub record Core (h : List Part) (rs : List Reading) : Type 0 where
  pub good : AllGood h rs
  pub once : Apart (listed_of rs)
  pub quiet : (s : ℕ) → is_listed s (listed_of rs) ≡ false → Silent s h

-- ---- the reading of a symbol

pub data ReadingOf (s : ℕ) (h : List Part) (rs : List Reading) : Type 0 where
  missing : find_reading s rs ≡ None → is_listed s (listed_of rs) ≡ false → ReadingOf s h rs
  found : (r : Reading) → find_reading s rs ≡ Some r → is_listed s (listed_of rs) ≡ true → r.symbol ≡ s → Good h r → ReadingOf s h rs

pub reading-of : (s : ℕ) (h : List Part) (rs : List Reading) → AllGood h rs → ReadingOf s h rs
unfolding listed_of find_reading is_listed
reading-of s h [] g = missing refl refl
reading-of s h (r ∷ rs) g = go (cut r.symbol s) (reading-of s h rs g.1)
  where
    go : Cut r.symbol s → ReadingOf s h rs → ReadingOf s h (r ∷ rs)
    go (equal t e) o = found r (rw t) (rw t) e g.0
    go (apart t e) (missing a b) = missing (rw t a) (rw t b)
    go (apart t e) (found q a b c d) = found q (rw t a) (rw t b) c d

-- ---- codes are worked out from the same things

-- round lot and primary letter
module _ (f : Listed → ℕ) where
  abbrev listed_in : Option Reading → ℕ
  listed_in None = 0
  listed_in (Some r) = f (listing r)

  find-listed : (s : ℕ) (rs : List Reading) → listed_with f s (listed_of rs) ≡ listed_in (find_reading s rs)
  unfolding listed_of find_reading listed_with
  find-listed s [] = refl
  find-listed s (r ∷ rs) = go (eqb r.symbol s) (find-listed s rs)
    where
      go : (t : Bool) → listed_with f s (listed_of rs) ≡ listed_in (find_reading s rs) → cond t (f (listing r)) (listed_with f s (listed_of rs)) ≡ listed_in (cond t (Some r) (find_reading s rs))
      go true e = refl
      go false e = e

abbrev the_lot : Listed → ℕ
the_lot x = x.lot

pub lot-listed : (s : ℕ) (rs : List Reading) → lot_of s (listed_of rs) ≡ lot_in (find_reading s rs)
lot-listed s rs = find-listed the_lot s rs ∙ go (find_reading s rs)
  where
    go : (o : Option Reading) → listed_in the_lot o ≡ lot_in o
    go None = refl
    go (Some r) = refl

abbrev the_primary : Listed → ℕ
the_primary x = x.primary

pub known_same : (h : List Part) (rs : List Reading) → Core h rs → (s : ℕ) → known_of (find_reading s rs) ≡ known_to (listed_of rs) h s
unfolding known_of known_by known_to
known_same h rs c s = go (reading-of s h rs c.good)
  where
    go : ReadingOf s h rs → known_of (find_reading s rs)
        ≡ record { listed = is_listed s (listed_of rs); lot = lot_of s (listed_of rs); primary = primary_of s (listed_of rs); count = length (makers_of h s); stands = λ m. is_some (maker_of h s m); levels = levels_of h s }
    go (missing a b) =
        let q : Silent s h = c.quiet s b in
        let l : lot_of s (listed_of rs) ≡ 0 = find-listed the_lot s rs ∙ ap (listed_in the_lot) a in
        let p : primary_of s (listed_of rs) ≡ 0 = find-listed the_primary s rs ∙ ap (listed_in the_primary) a in
        let n : length (makers_of h s) ≡ 0 = ap length (silent-makers s h q) in
        ap known_of a
        ∙ (λ i. record { listed = sym b i; lot = sym l i; primary = sym p i; count = sym n i; stands = λ m. is_some (sym (silent-maker s m h q) i); levels = λ k. sym (silent-levels s k h q) i })
    go (found r a b e g) =
        let l : lot_of s (listed_of rs) ≡ r.lot = find-listed the_lot s rs ∙ ap (listed_in the_lot) a in
        let p : primary_of s (listed_of rs) ≡ r.primary = find-listed the_primary s rs ∙ ap (listed_in the_primary) a in
        let n : length (occupied r.cells) ≡ length (makers_of h s) = same_count h r.symbol r.cells g.sole g.makers ∙ ap (λ (k : ℕ). length (makers_of h k)) e in
        ap known_of a
        ∙ (λ i. record {
          listed = sym b i;
          lot = sym l i;
          primary = sym p i;
          count = n i;
          stands = λ m. is_some ((g.makers m ∙ ap (λ (k : ℕ). maker_of h k m) e) i);
          levels = λ k. (g.levels k ∙ ap (λ (j : ℕ). levels_of h j k) e) i;
        })
