-- The list of symbols: none at first, one added, all emptied. The readings stay as the history has them.
-- Assumes nothing.
use Prim.Native.Nat.{ℕ}
use mathlib.Core.Path.{◌≡◌, refl, sym, ap, ◌∙◌}
use mathlib.Core.Bool.{Bool, true, false, cond}
use mathlib.Core.List.{List, [], ◌∷◌, ◌++◌, map}
use Rattle.std.specs.Prelude.{Option, None}
use lib.Dec.{eqb}
use lib.ListN.{length-replicate}
use borrow.Author.Tests.{ne_eqb}
use Rattle.lists.proofs.Tests.{clash, Cut, equal, apart, cut}
use Rattle.message.specs.Message.{Part}
use Rattle.entries.specs.Entries.{Maker}
use Rattle.update.specs.Parts.{Reading}
use Rattle.update.proofs.Model.{worked, blank_reading, blanked}
use Rattle.work.specs.Work.{Listed, is_listed, listing, listed_of}
use Rattle.review.proofs.CellLaws.{empty-find, empty-sole}
use Rattle.review.proofs.TimeLaws.{held}
use Rattle.review.proofs.SilentLaws.{Silent, silent-rounds, silent-maker, silent-levels, silent-halted}
use Rattle.review.proofs.Agree.{Good, AllGood, Apart, Core}
use Rattle.review.proofs.PartLaws.{map-listed}
use Rattle.page.specs.Layout.{maker_count}

-- ---- a symbol with nothing

blank-good : (s k p : ℕ) (h : List Part) → Silent s h → Good h (blank_reading s k p)
unfolding blank_reading worked held
blank-good s k p h q =
    record {
      quotes = λ l. sym (ap held (silent-rounds s l h q));
      sole = empty-sole maker_count;
      size = length-replicate {A = Option Maker} maker_count None;
      makers = λ m. empty-find m maker_count ∙ sym (silent-maker s m h q);
      levels = λ l. sym (silent-levels s l h q);
      halted = sym (silent-halted s h q);
      entries = refl;
    }

pub core-none : Core [] []
unfolding listed_of
core-none = record { good = tt; once = tt; quiet = λ s e. tt }

-- ---- every symbol emptied

blanks-good : (rs : List Reading) → AllGood [] (map blanked rs)
blanks-good [] = tt
blanks-good (r ∷ rs) = (blank-good r.symbol r.lot r.primary [] tt, blanks-good rs)

pub emptied-listed : (rs : List Reading) → listed_of (map blanked rs) ≡ listed_of rs
unfolding blank_reading worked
emptied-listed rs = map-listed blanked rs (λ r. refl)

pub core-emptied : (rs : List Reading) → Apart (listed_of rs) → Core [] (map blanked rs)
core-emptied rs a = record { good = blanks-good rs; once = rw (emptied-listed rs) a; quiet = λ s e. tt }

-- ---- one symbol more

snoc-good : (h : List Part) (rs : List Reading) (r : Reading) → AllGood h rs → Good h r → AllGood h (rs ++ (r ∷ []))
snoc-good h [] r g d = (d, tt)
snoc-good h (x ∷ rs) r g d = (g.0, snoc-good h rs r g.1 d)

snoc-listed : (rs : List Reading) (r : Reading) → listed_of (rs ++ (r ∷ [])) ≡ listed_of rs ++ (listing r ∷ [])
unfolding listed_of
snoc-listed [] r = refl
snoc-listed (x ∷ rs) r = ap (λ (z : List Listed). listing x ∷ z) (snoc-listed rs r)

-- a symbol is listed if it was, or is the one added
listed-snoc : (k : ℕ) (xs : List Listed) (x : Listed) → is_listed k (xs ++ (x ∷ [])) ≡ cond (is_listed k xs) true (eqb x.symbol k)
unfolding is_listed
listed-snoc k [] x = go (eqb x.symbol k)
  where
    go : (t : Bool) → cond t true false ≡ t
    go true = refl
    go false = refl
listed-snoc k (y ∷ xs) x = go (eqb y.symbol k) (listed-snoc k xs x)
  where
    go : (t : Bool) → is_listed k (xs ++ (x ∷ [])) ≡ cond (is_listed k xs) true (eqb x.symbol k)
        → cond t true (is_listed k (xs ++ (x ∷ []))) ≡ cond (cond t true (is_listed k xs)) true (eqb x.symbol k)
    go true e = refl
    go false e = e

unlisted : (k : ℕ) (xs : List Listed) (x : Listed) → is_listed k (xs ++ (x ∷ [])) ≡ false → is_listed k xs ≡ false
unlisted k xs x e = go (is_listed k xs) (sym (listed-snoc k xs x) ∙ e)
  where
    go : (t : Bool) → cond t true (eqb x.symbol k) ≡ false → t ≡ false
    go true e = e
    go false e = refl

snoc-apart : (xs : List Listed) (x : Listed) → Apart xs → is_listed x.symbol xs ≡ false → Apart (xs ++ (x ∷ []))
unfolding is_listed
snoc-apart [] x a e = (refl, tt)
snoc-apart (y ∷ xs) x a e = go (cut y.symbol x.symbol) (snoc-apart xs x a.1) e
  where
    go : Cut y.symbol x.symbol → (is_listed x.symbol xs ≡ false → Apart (xs ++ (x ∷ []))) → cond (eqb y.symbol x.symbol) true (is_listed x.symbol xs) ≡ false
        → Apart (y ∷ xs ++ (x ∷ []))
    go (equal t p) down e = clash (rw t at e)
    go (apart t p) down e = (rw (listed-snoc y.symbol xs x, a.0) (ne_eqb x.symbol y.symbol (λ z. p (sym z))), down (rw t at e))

pub added-listed : (rs : List Reading) (s k p : ℕ) → listed_of (rs ++ (blank_reading s k p ∷ [])) ≡ listed_of rs ++ (record { symbol = s; lot = k; primary = p } ∷ [])
unfolding blank_reading worked
added-listed rs s k p = snoc-listed rs (blank_reading s k p)

pub core-added : (h : List Part) (rs : List Reading) (s k p : ℕ) → Core h rs → is_listed s (listed_of rs) ≡ false → Core h (rs ++ (blank_reading s k p ∷ []))
core-added h rs s k p c new =
    record {
      good = snoc-good h rs (blank_reading s k p) c.good (blank-good s k p h (c.quiet s new));
      once = rw (added-listed rs s k p) (snoc-apart (listed_of rs) (record { symbol = s; lot = k; primary = p }) c.once new);
      quiet = λ j e. c.quiet j (unlisted j (listed_of rs) (record { symbol = s; lot = k; primary = p }) (rw (added-listed rs s k p) at e));
    }
