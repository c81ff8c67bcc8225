-- The snapshot of a symbol is whole: its fields have 002's lengths and widths, no letter comes twice, at most 24 come.
-- Assumes nothing.
use Prim.Native.Nat.{ℕ, zero, suc, ◌+◌, ◌≤◌, ◌<◌}
use mathlib.Core.Path.{◌≡◌, refl, sym, ap, ◌∙◌}
use mathlib.Core.Bool.{Bool, true, false, not, ◌&&◌, cond}
use mathlib.Core.List.{List, [], ◌∷◌, ◌++◌, map}
use Rattle.std.specs.Prelude.{Option, None, Some}
use native.Mathlib.Omega.{arith}
use borrow.Author.Tests.{ne_eqb}
use lib.Dec.{eqb}
use lib.ListN.{length}
use Rattle.field.specs.Field.{part}
use Rattle.field.proofs.Laws.{length_part}
use Rattle.field.specs.Ascii.{A, D, S}
use Rattle.lists.specs.Lists.{member, range, collect, cons_option}
use Rattle.text.specs.Form.{symbol_length}
use Rattle.quote.specs.declared.Quote.{Quote}
use Rattle.quote.specs.Quote.{is_quoted, QuoteFits}
use Rattle.entries.specs.Publication.{entry_length, publication_length}
use Rattle.snapshot.specs.Snapshot.{Shown, shown_of, both_length, both_in, Snapshot, is_shown, shown_at, shown_from, snapshot_of}
use Rattle.snapshot.specs.Receiver.{is_distinct}
use Rattle.snapshot.specs.Sizes.{letters_most}
use Rattle.snapshot.proofs.MessageLaws.{Sized}
use Rattle.snapshot.proofs.PackLaws.{Measured}
use Rattle.snapshot.proofs.RoundLaws.{AllShown, Whole}

module _ (quotes : ℕ → Quote) where
  abbrev letter_of : Shown → ℕ
  letter_of v = v.letter

  -- ---- a letter once: they rise

  below_none : (n l x : ℕ) → x < l → member (map letter_of (shown_from quotes n l)) x ≡ false
  unfolding member
  below_none zero l x h = refl
  below_none (suc n) l x h = go (is_shown quotes l) (below_none n (suc l) x (omega arith))
    where
      go : (t : Bool) → member (map letter_of (shown_from quotes n (suc l))) x ≡ false
          → member (map letter_of (cons_option (cond t (Some (shown_of l (quotes l))) None) (shown_from quotes n (suc l)))) x ≡ false
      go true e = rw (ne_eqb x l (omega arith), e)
      go false e = e

  once : (n l : ℕ) → is_distinct (map letter_of (shown_from quotes n l)) ≡ true
  once zero l = refl
  once (suc n) l = go (is_shown quotes l) (once n (suc l))
    where
      go : (t : Bool) → is_distinct (map letter_of (shown_from quotes n (suc l))) ≡ true
          → is_distinct (map letter_of (cons_option (cond t (Some (shown_of l (quotes l))) None) (shown_from quotes n (suc l)))) ≡ true
      go true e = rw (below_none n (suc l) l (omega arith), e)
      go false e = e

  -- ---- at most 24

  abbrev exchanges_in : ℕ → ℕ → ℕ
  exchanges_in zero l = 0
  exchanges_in (suc n) l = cond (member (D ∷ S ∷ []) l) 0 1 + exchanges_in n (suc l)

  at_most : (n l : ℕ) → length (shown_from quotes n l) ≤ exchanges_in n l
  unfolding is_shown
  at_most zero l = omega arith
  at_most (suc n) l = go (member (D ∷ S ∷ []) l) (is_quoted (quotes l).condition) (at_most n (suc l))
    where
      go : (t u : Bool) → length (shown_from quotes n (suc l)) ≤ exchanges_in n (suc l)
          → length (cons_option (cond (not t && u) (Some (shown_of l (quotes l))) None) (shown_from quotes n (suc l))) ≤ cond t 0 1 + exchanges_in n (suc l)
      go true u e = omega (arith, e)
      go false true e = omega (arith, e)
      go false false e = omega (arith, e)

  pub few : length (shown_from quotes 26 A) ≤ letters_most
  unfolding member
  few = at_most 26 A

  -- ---- numbers

  all_fit : ((l : ℕ) → QuoteFits (quotes l)) → (n l : ℕ) → AllShown (shown_from quotes n l)
  all_fit f zero l = tt
  all_fit f (suc n) l = go (is_shown quotes l) (all_fit f n (suc l))
    where
      go : (t : Bool) → AllShown (shown_from quotes n (suc l)) → AllShown (cons_option (cond t (Some (shown_of l (quotes l))) None) (shown_from quotes n (suc l)))
      go true a = (record { bid = record { price = (f l).bid.price; size = (f l).bid.size }; offer = record { price = (f l).offer.price; size = (f l).offer.size } }, a)
      go false a = a

  sized : (e : List ℕ) → length e ≡ both_length → Sized (both_in e)
  sized e h = record { bid = length_part e 0 entry_length (omega arith); offer = length_part e entry_length entry_length (omega arith) }

  pub measured-of : (s e : List ℕ) → length s ≡ symbol_length → length e ≡ publication_length → Measured (snapshot_of s e quotes)
  unfolding snapshot_of
  measured-of s e h g =
      record {
        symbol = h;
        national = sized (part e 0 both_length) (length_part e 0 both_length (omega arith));
        finra = sized (part e both_length both_length) (length_part e both_length both_length (omega arith));
        few = few;
      }

  pub whole_of : (s e : List ℕ) → length s ≡ symbol_length → length e ≡ publication_length → ((l : ℕ) → QuoteFits (quotes l)) → Whole (snapshot_of s e quotes)
  unfolding snapshot_of
  whole_of s e h g f = record { measured = measured-of s e h g; fits = all_fit f 26 A; once = once 26 A }
