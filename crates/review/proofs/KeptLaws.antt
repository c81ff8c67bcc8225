-- What the history keeps of a message are the parts that the book works.
-- Assumes nothing.
use Prim.Native.Nat.{ℕ, ◌+◌, ◌≤◌}
use mathlib.Core.Path.{◌≡◌, refl, sym, ap, ◌∙◌}
use mathlib.Core.Bool.{Bool, true, false, cond}
use mathlib.Core.List.{List, [], ◌∷◌, ◌++◌}
use native.Mathlib.Omega.{arith}
use lib.Dec.{eqb}
use lib.ListN.{length, take}
use lib.Seq.{get_or-take, length-take-le}
use borrow.Author.Tests.{leb-true, eq-eqb, ne_eqb}
use Rattle.field.specs.Field.{part, field}
use Rattle.field.proofs.Laws.{field-part}
use Rattle.lists.proofs.Tests.{clash, Cut, equal, apart, cut}
use Rattle.message.specs.declared.Kind.{Kind}
use Rattle.message.specs.declared.Kind.TheVariants as kind
use Rattle.message.specs.Message.{kind_of, time_of, symbol_of, level_at, quote_at, Part, round_part, round_part_of, partly_by, partly_taken, whole_by, parts_of, header_length, round_length, round_lot_items}
use Rattle.review.specs.Reviewer.{parts_by, parts, kept}
use Rattle.review.proofs.CodeLaws.{Takes, takes_whole, takes-partly}
use Rattle.text.specs.Form.{symbol_length}

-- parts, the oldest first, put on the history, the newest first
abbrev pub onto : List Part → List Part → List Part
onto [] h = h
onto (p ∷ ps) h = onto ps (p ∷ h)

-- ---- the first 56 bytes of a Q K are its round part

kind-round : (m : List ℕ) → kind_of (take round_length m) ≡ kind_of m
unfolding kind_of
kind-round m = rw (get_or-take round_length m 0 0 (omega arith), get_or-take round_length m 1 0 (omega arith))

field-round : (m : List ℕ) (i w : ℕ) → i + w ≤ round_length → field (take round_length m) i w ≡ field m i w
unfolding part
field-round m i w h = field-part m 0 round_length i w h ∙ ap (λ (k : ℕ). field m k w) (omega arith)

round-round : (m : List ℕ) → round_part_of (take round_length m) ≡ round_part_of m
unfolding symbol_of quote_at level_at time_of
round-round m =
    let f : (i w : ℕ) → i + w ≤ round_length → field (take round_length m) i w ≡ field m i w = field-round m in
    let t : field (take round_length m) 4 8 ≡ field m 4 8 = field-round m 4 8 (omega arith) in
    λ i. round_part (f header_length symbol_length (omega arith) i) (get_or-take round_length m 2 0 (omega arith) i)
    (record {
      condition = f 31 1 (omega arith) i;
      bid = record { price = f 32 8 (omega arith) i; size = f 40 4 (omega arith) i; time = t i };
      offer = record { price = f 44 8 (omega arith) i; size = f 52 4 (omega arith) i; time = t i };
    })

parts-round : (m : List ℕ) (h : List (List ℕ)) → round_lot_items ≤ length m → kind_of m ≡ kind.RoundLot → parts (take round_length m ∷ h) ≡ round_part_of m ∷ parts h
unfolding parts
parts-round m h l k =
    let e : eqb (length (take round_length m)) round_length ≡ true = eq-eqb (length (take round_length m)) round_length (length-take-le round_length m (omega arith)) in
    rw (kind-round m, k, e) (ap (λ (p : Part). p ∷ parts h) (round-round m))

-- ---- what is kept

parts_whole : (m : List ℕ) (h : List (List ℕ)) → (kind_of m ≡ kind.RoundLot → round_lot_items ≤ length m) → parts (m ∷ h) ≡ onto (whole_by m (kind_of m)) (parts h)
unfolding parts
parts_whole m h = go (kind_of m)
  where
    go : (k : Kind) → (k ≡ kind.RoundLot → round_lot_items ≤ length m) → parts_by m k ++ parts h ≡ onto (whole_by m k) (parts h)
    go kind.Inquiry l = refl
    go kind.Close l = refl
    go kind.Open l = refl
    go kind.Test l = refl
    go kind.RoundLot l = let n : round_lot_items ≤ length m = l refl in rw (ne_eqb (length m) round_length (λ z. omega arith))
    go (kind.OddLot f) l = refl
    go kind.Maker l = refl
    go kind.Status l = refl
    go kind.Unknown l = refl

-- only a Q K with 60 or more is partly taken
partly-round : (c : ℕ) (k : Kind) → partly_by c k ≡ true → (k ≡ kind.RoundLot) × (60 ≤ c)
partly-round c kind.Inquiry e = clash (sym e)
partly-round c kind.Close e = clash (sym e)
partly-round c kind.Open e = clash (sym e)
partly-round c kind.Test e = clash (sym e)
partly-round c kind.RoundLot e = (refl, leb-true 60 c e)
partly-round c (kind.OddLot f) e = clash (sym e)
partly-round c kind.Maker e = clash (sym e)
partly-round c kind.Status e = clash (sym e)
partly-round c kind.Unknown e = clash (sym e)

pub partly-is : (c : ℕ) (m : List ℕ) → partly_taken c m ≡ true → (kind_of m ≡ kind.RoundLot) × (60 ≤ c)
unfolding partly_taken
partly-is c m e = partly-round c (kind_of m) e

pub kept-parts : (c : ℕ) (m : List ℕ) (h : List (List ℕ)) → (Takes c → kind_of m ≡ kind.RoundLot → round_lot_items ≤ length m) → parts (kept c m h) ≡ onto (parts_of c m) (parts h)
unfolding parts_of
kept-parts c m h l = go (cut c 0) (partly_taken c m) refl
  where
    go : Cut c 0 → (p : Bool) → partly_taken c m ≡ p
        → parts (cond (eqb c 0) (m ∷ h) (cond p (take round_length m ∷ h) h)) ≡ onto (cond (eqb c 0) (whole_by m (kind_of m)) (cond p (round_part_of m ∷ []) [])) (parts h)
    go (equal t e) p f = rw t (parts_whole m h (l (takes_whole c e)))
    go (apart t e) true f = let r = partly-is c m f in rw t (parts-round m h (l (takes-partly c r.1) r.0) r.0)
    go (apart t e) false f = rw t
