-- One part: the readings stay as the history has them.
-- Assumes nothing.
use Prim.Native.Nat.{ℕ}
use mathlib.Core.Path.{◌≡◌, refl, sym, ap, ◌∙◌}
use mathlib.Core.Bool.{Bool, true, false, cond}
use mathlib.Core.List.{List, [], ◌∷◌, map}
use Rattle.std.specs.Prelude.{Option, None, Some}
use lib.Dec.{eqb}
use borrow.Author.Tests.{eq-eqb, ne_eqb}
use Rattle.quote.proofs.OverLaws.{over-empty}
use Rattle.lists.specs.Lists.{map_option, or_else}
use Rattle.lists.proofs.Tests.{clash, Cut, equal, apart, cut}
use Rattle.quote.specs.declared.Quote.{Quote}
use Rattle.quote.specs.Quote.{empty_quote, quote_over}
use Rattle.levels.specs.Levels.{Odd, odd_on}
use Rattle.message.specs.Message.{Part, round_part, odd_part, maker_part, finra_part, status_part}
use Rattle.entries.specs.Entries.{Maker}
use Rattle.makers.specs.Makers.{find_maker, maker_over}
use Rattle.update.specs.Parts.{Reading}
use Rattle.update.proofs.Model.{standing, maker_put, marked, worked, round_reading, odd_reading, maker_reading, finra_reading, status_reading, on_reading, part_reading}
use Rattle.work.specs.Work.{Listed, is_listed, find_reading, listing, listed_of}
use Rattle.review.specs.Reviewer.{rounds_of, maker_of, levels_of, halted_of}
use Rattle.review.proofs.CellLaws.{Room, room-same, put_other, put_same, put-sole, put-length, mark-find, mark-sole, mark-length}
use Rattle.review.proofs.TimeLaws.{held}
use Rattle.review.proofs.HistoryLaws.{maker-maker, maker-finra, maker-round, maker-odd, maker-status}
use Rattle.review.proofs.SilentLaws.{names}
use Rattle.review.proofs.Agree.{Good, AllGood, Apart, Core}

-- ---- a part on the reading of its own symbol

module _ (h : List Part) (r : Reading) (g : Good h r) where
  own : eqb r.symbol r.symbol ≡ true
  own = eq-eqb r.symbol r.symbol refl

  round-good : (l : ℕ) (q : Quote) → Good (round_part r.symbol l q ∷ h) (round_reading l q r)
  unfolding round_reading worked rounds_of levels_of halted_of held
  round-good l q =
      record {
        quotes = λ k. rw own (go k (cut l k));
        sole = g.sole;
        size = g.size;
        makers = λ m. g.makers m ∙ sym (maker-round r.symbol l q h r.symbol m);
        levels = g.levels;
        halted = g.halted;
        entries = refl;
      }
    where
      go : (k : ℕ) → Cut l k → cond (eqb l k) (quote_over (r.quotes l) q) (r.quotes k) ≡ held (cond (eqb l k) (q ∷ rounds_of h r.symbol k) (rounds_of h r.symbol k))
      go k (equal t e) = rw (t, e, g.quotes k)
      go k (apart t e) = rw t (g.quotes k)

  odd-good : (l : ℕ) (o : Odd) → Good (odd_part r.symbol l o ∷ h) (odd_reading l o r)
  unfolding odd_reading worked rounds_of levels_of halted_of
  odd-good l o =
      record {
        quotes = g.quotes;
        sole = g.sole;
        size = g.size;
        makers = λ m. g.makers m ∙ sym (maker-odd r.symbol l o h r.symbol m);
        levels = λ k. rw own (go k (cut l k));
        halted = g.halted;
        entries = refl;
      }
    where
      go : (k : ℕ) → Cut l k
          → cond (eqb l k) (or_else (odd_on o (r.levels l)) (r.levels l)) (r.levels k)
          ≡ cond (eqb l k) (or_else (odd_on o (levels_of h r.symbol k)) (levels_of h r.symbol k)) (levels_of h r.symbol k)
      go k (equal t e) = rw (t, e, g.levels k)
      go k (apart t e) = rw t (g.levels k)

  maker-good : (m : ℕ) (q : Quote) → Room m q r.cells → Good (maker_part r.symbol m q ∷ h) (maker_reading m q r)
  unfolding maker_reading worked rounds_of levels_of halted_of
  maker-good m q room =
      record {
        quotes = g.quotes;
        sole = put-sole m new r.cells g.sole;
        size = put-length m new r.cells ∙ g.size;
        makers = λ k. rw (maker-maker r.symbol m q h r.symbol k, own) (go k (cut m k));
        levels = g.levels;
        halted = g.halted;
        entries = refl;
      }
    where
      new : Quote
      new = maker_over (find_maker m r.cells) q

      -- a quote is as empty over the one that stands as by itself
      same-empty : (o : Option Maker) → empty_quote (maker_over o q) ≡ empty_quote q
      same-empty None = refl
      same-empty (Some x) = over-empty x.quote q

      room-over : Room m q r.cells → Room m new r.cells
      room-over f = room-same m q new r.cells (same-empty (find_maker m r.cells)) f

      go : (k : ℕ) → Cut m k → find_maker k (maker_put m new r.cells) ≡ cond (eqb m k) (standing k (maker_over (maker_of h r.symbol k) q)) (maker_of h r.symbol k)
      go k (equal t e) = rw (t, sym e) (put_same m new r.cells g.sole (room-over room) ∙ ap (λ (o : Option Maker). standing m (maker_over o q)) (g.makers m))
      go k (apart t e) = rw t (put_other m new r.cells k e ∙ g.makers k)

  finra-good : (c : ℕ) → Good (finra_part c ∷ h) (finra_reading c r)
  unfolding finra_reading worked rounds_of levels_of halted_of
  finra-good c =
      record {
        quotes = g.quotes;
        sole = mark-sole c r.cells g.sole;
        size = mark-length c r.cells ∙ g.size;
        makers = λ m. mark-find c m r.cells ∙ ap (map_option (marked c)) (g.makers m) ∙ sym (maker-finra c h r.symbol m);
        levels = g.levels;
        halted = g.halted;
        entries = refl;
      }

  status-good : (x : ℕ) → Good (status_part r.symbol x ∷ h) (status_reading x r)
  unfolding status_reading worked rounds_of levels_of halted_of
  status-good x =
      record {
        quotes = g.quotes;
        sole = g.sole;
        size = g.size;
        makers = λ m. g.makers m ∙ sym (maker-status r.symbol x h r.symbol m);
        levels = g.levels;
        halted = rw own;
        entries = refl;
      }

-- ---- a part of another symbol

-- the part is of the symbol s
abbrev pub Of : ℕ → Part → Type 0
Of s (round_part t k q) = t ≡ s
Of s (odd_part t k o) = t ≡ s
Of s (maker_part t m q) = t ≡ s
Of s (finra_part c) = ⊥
Of s (status_part t x) = t ≡ s

other-good : (p : Part) (s : ℕ) (h : List Part) (r : Reading) → Of s p → (r.symbol ≡ s → ⊥) → Good h r → Good (p ∷ h) r
unfolding rounds_of levels_of halted_of
other-good (round_part t k q) s h r e n g =
    record {
      quotes = λ l. rw (ne_eqb t r.symbol (λ z. n (sym z ∙ e))) (g.quotes l);
      sole = g.sole;
      size = g.size;
      makers = λ m. g.makers m ∙ sym (maker-round t k q h r.symbol m);
      levels = g.levels;
      halted = g.halted;
      entries = g.entries;
    }
other-good (odd_part t k o) s h r e n g =
    record {
      quotes = g.quotes;
      sole = g.sole;
      size = g.size;
      makers = λ m. g.makers m ∙ sym (maker-odd t k o h r.symbol m);
      levels = λ l. rw (ne_eqb t r.symbol (λ z. n (sym z ∙ e))) (g.levels l);
      halted = g.halted;
      entries = g.entries;
    }
other-good (maker_part t k q) s h r e n g =
    record {
      quotes = g.quotes;
      sole = g.sole;
      size = g.size;
      makers = λ m. rw (maker-maker t k q h r.symbol m, ne_eqb t r.symbol (λ z. n (sym z ∙ e))) (g.makers m);
      levels = g.levels;
      halted = g.halted;
      entries = g.entries;
    }
other-good (finra_part c) s h r e n g = absurd e
other-good (status_part t x) s h r e n g =
    record {
      quotes = g.quotes;
      sole = g.sole;
      size = g.size;
      makers = λ m. g.makers m ∙ sym (maker-status t x h r.symbol m);
      levels = g.levels;
      halted = rw (ne_eqb t r.symbol (λ z. n (sym z ∙ e))) g.halted;
      entries = g.entries;
    }

module _ (p : Part) (s : ℕ) (h : List Part) (of : Of s p) where
  others-good : (rs : List Reading) → is_listed s (listed_of rs) ≡ false → AllGood h rs → AllGood (p ∷ h) rs
  unfolding listed_of is_listed
  others-good [] e g = tt
  others-good (r ∷ rs) e g = go (cut r.symbol s) (others-good rs)
    where
      go : Cut r.symbol s → (is_listed s (listed_of rs) ≡ false → AllGood h rs → AllGood (p ∷ h) rs) → AllGood (p ∷ h) (r ∷ rs)
      go (equal t q) down = clash (rw t at e)
      go (apart t q) down = (other-good p s h r of q g.0, down (rw t at e) g.1)

  on-good : (k : Reading → Reading) (rs : List Reading) → Apart (listed_of rs) → AllGood h rs
      → ((r : Reading) → find_reading s rs ≡ Some r → r.symbol ≡ s → Good h r → Good (p ∷ h) (k r))
      → AllGood (p ∷ h) (on_reading s k rs)
  unfolding listed_of find_reading is_listed
  on-good k [] a g this = tt
  on-good k (r ∷ rs) a g this = go (cut r.symbol s) (on-good k rs a.1 g.1)
    where
      go : Cut r.symbol s
          → (((q : Reading) → find_reading s rs ≡ Some q → q.symbol ≡ s → Good h q → Good (p ∷ h) (k q)) → AllGood (p ∷ h) (on_reading s k rs))
          → AllGood (p ∷ h) (cond (eqb r.symbol s) (k r ∷ rs) (r ∷ on_reading s k rs))
      go (equal t e) down = rw t (this r (rw t) e g.0, others-good rs (ap (λ (j : ℕ). is_listed j (listed_of rs)) (sym e) ∙ a.0) g.1)
      go (apart t e) down = rw t (other-good p s h r of e g.0, down (λ q w. this q (rw t w)))

map-good : (p : Part) (k : Reading → Reading) (h : List Part) (rs : List Reading) → ((r : Reading) → Good h r → Good (p ∷ h) (k r)) → AllGood h rs → AllGood (p ∷ h) (map k rs)
map-good p k h [] f g = tt
map-good p k h (r ∷ rs) f g = (f r g.0, map-good p k h rs f g.1)

-- ---- the listing stays

on-listed : (s : ℕ) (k : Reading → Reading) (rs : List Reading) → ((r : Reading) → listing (k r) ≡ listing r) → listed_of (on_reading s k rs) ≡ listed_of rs
unfolding listed_of
on-listed s k [] f = refl
on-listed s k (r ∷ rs) f = go (eqb r.symbol s) (on-listed s k rs f)
  where
    go : (t : Bool) → listed_of (on_reading s k rs) ≡ listed_of rs → listed_of (cond t (k r ∷ rs) (r ∷ on_reading s k rs)) ≡ listing r ∷ listed_of rs
    go true e = ap (λ (x : Listed). x ∷ listed_of rs) (f r)
    go false e = ap (λ (x : List Listed). listing r ∷ x) e

pub map-listed : (k : Reading → Reading) (rs : List Reading) → ((r : Reading) → listing (k r) ≡ listing r) → listed_of (map k rs) ≡ listed_of rs
unfolding listed_of
map-listed k [] f = refl
map-listed k (r ∷ rs) f = let a : listing (k r) ≡ listing r = f r in let b : listed_of (map k rs) ≡ listed_of rs = map-listed k rs f in λ i. a i ∷ b i

pub part-listed : (p : Part) (rs : List Reading) → listed_of (part_reading p rs) ≡ listed_of rs
unfolding part_reading round_reading odd_reading maker_reading finra_reading status_reading worked
part-listed (round_part s l q) rs = on-listed s (round_reading l q) rs (λ r. refl)
part-listed (odd_part s l o) rs = on-listed s (odd_reading l o) rs (λ r. refl)
part-listed (maker_part s m q) rs = on-listed s (maker_reading m q) rs (λ r. refl)
part-listed (finra_part c) rs = map-listed (finra_reading c) rs (λ r. refl)
part-listed (status_part s x) rs = on-listed s (status_reading x) rs (λ r. refl)

-- ---- one part

abbrev pub cells_in : Option Reading → List (Option Maker)
cells_in None = []
cells_in (Some r) = r.cells

-- a Q U has room
abbrev pub RoomFor : Part → List Reading → Type 0
RoomFor (round_part s l q) rs = Unit {0}
RoomFor (odd_part s l o) rs = Unit {0}
RoomFor (maker_part s m q) rs = Room m q (cells_in (find_reading s rs))
RoomFor (finra_part c) rs = Unit {0}
RoomFor (status_part s x) rs = Unit {0}

part-good : (p : Part) (h : List Part) (rs : List Reading) → Apart (listed_of rs) → AllGood h rs → RoomFor p rs → AllGood (p ∷ h) (part_reading p rs)
unfolding part_reading
part-good (round_part s l q) h rs a g m = on-good (round_part s l q) s h refl (round_reading l q) rs a g (λ r f e d. rw (sym e) (round-good h r d l q))
part-good (odd_part s l o) h rs a g m = on-good (odd_part s l o) s h refl (odd_reading l o) rs a g (λ r f e d. rw (sym e) (odd-good h r d l o))
part-good (maker_part s n q) h rs a g m =
    on-good (maker_part s n q) s h refl (maker_reading n q) rs a g
    (λ r f e d. let room : Room n q r.cells = rw f at m in rw (sym e) (maker-good h r d n q room))
part-good (finra_part c) h rs a g m = map-good (finra_part c) (finra_reading c) h rs (λ r d. finra-good h r d c) g
part-good (status_part s x) h rs a g m = on-good (status_part s x) s h refl (status_reading x) rs a g (λ r f e d. rw (sym e) (status-good h r d x))

-- the history and the readings take a part together
pub core-part : (p : Part) (h : List Part) (rs : List Reading) → Core h rs → RoomFor p rs
    → ((s : ℕ) → is_listed s (listed_of rs) ≡ false → names p s ≡ false)
    → Core (p ∷ h) (part_reading p rs)
core-part p h rs c m f =
    record {
      good = part-good p h rs c.once c.good m;
      once = rw (part-listed p rs) c.once;
      quiet = λ s e. let d : is_listed s (listed_of rs) ≡ false = rw (part-listed p rs) at e in (f s d, c.quiet s d);
    }
