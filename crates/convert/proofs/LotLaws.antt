-- The round lots of a venue's messages, as the code finds and collects them.
-- Assumes nothing.
use Prim.Native.Nat.{ℕ, zero, suc, ◌+◌, ◌*◌, ◌-◌, ◌≤◌, ◌<◌}
use mathlib.Core.Path.{◌≡◌, refl, sym, ap, ◌∙◌}
use mathlib.Core.Bool.{Bool, true, false, cond}
use mathlib.Core.List.{List, [], ◌∷◌, ◌++◌, map}
use native.Mathlib.Omega.{arith}
use native.Mathlib.Numerals.{add-one}
use lib.ListN.{length, take, drop, get_or, set, replicate}
use lib.Seq.{get_or-drop, drop-drop}
use Rattle.field.specs.Field.{be, part, field, splice}
use Rattle.field.proofs.Laws.{field-part, splice-one, splice-join}
use Rattle.field.proofs.ZeroLaws.{splice-nothing}
use Rattle.lists.specs.Lists.{at}
use Rattle.std.specs.Prelude.{Some, None, Option}
use Rattle.page.specs.Layout.{page_length, lot_at}
use Rattle.update.specs.Parts.{reading_of}
use Rattle.opening.specs.Layout.{page_start}
use Rattle.opening.specs.Opening.{page_at, page_place, reading_at}
use Rattle.calls.specs.Call.{lot_in, lot_on}
use Rattle.venueform.specs.declared.Form.{Form}
use Rattle.venueform.specs.Form.{layout_of, symbol_in}
use Rattle.venue.specs.Venue.{venue_first, venue_count, next_at, venue_from, venue_messages, venue_number}
use Rattle.venuerules.specs.Rules.{length_good}
use Rattle.venuequote.proofs.WriteLaws.{whole, length-symbol}
use Rattle.venuequote.specs.Quote.{converted_as, converted_by, converted, named_by, symbol_named, converted_for}
use Rattle.venuerun.specs.code.Walk.{stands, converted_from}
use Rattle.venuerun.proofs.StandLaws.{Ready, ready-is, there, messages-next, messages-none, stands-few}
use Rattle.convert.specs.code.Lots.{lot_by, lot_for, lots_for}

-- ---- the lot of a symbol is that of the page that is found

module _ (b : List ℕ) (s : ℕ) (r : Option ℕ) (e : r ≡ page_place b s) where
  lot-at : lot_on b s ≡ lot_in (reading_at b r)
  lot-at = ap (λ (f : Option ℕ). lot_in (reading_at b f)) (sym e)

  pub lot-found : (k l : ℕ) → r ≡ Some k → l ≡ field b (page_start k + lot_at) 1 → l ≡ lot_on b s
  unfolding page_at reading_of
  lot-found k l f q =
      q ∙ sym (field-part b (page_start k) page_length lot_at 1 (omega arith)) ∙ sym (lot-at ∙ ap (λ (g : Option ℕ). lot_in (reading_at b g)) f)

  pub lot-missing : r ≡ None → 0 ≡ lot_on b s
  lot-missing f = sym (lot-at ∙ ap (λ (g : Option ℕ). lot_in (reading_at b g)) f)

-- ---- of a message

module _ (b m : List ℕ) (l : Option Form) (e : l ≡ layout_of m) where
  pub lot-round : (f : Form) (s : List ℕ) (x : ℕ) → l ≡ Some f → f.round ≡ true → s ≡ symbol_in f m → x ≡ lot_on b (be s) → x ≡ lot_for b m
  unfolding lot_for
  lot-round f s x q r es ex = ex ∙ ap (λ (y : List ℕ). lot_on b (be y)) es ∙ sym (ap (λ (t : Bool). cond t (lot_on b (be (symbol_in f m))) 0) r) ∙ ap (lot_by b m) (sym q ∙ e)

  pub lot-odd : (f : Form) → l ≡ Some f → f.round ≡ false → 0 ≡ lot_for b m
  unfolding lot_for
  lot-odd f q r = sym (ap (λ (t : Bool). cond t (lot_on b (be (symbol_in f m))) 0) r) ∙ ap (lot_by b m) (sym q ∙ e)

  pub lot-other : l ≡ None → 0 ≡ lot_for b m
  unfolding lot_for
  lot-other q = ap (lot_by b m) (sym q ∙ e)

-- the eleven bytes in which the symbol is looked for
pub symbol-is : (f : Form) (m : List ℕ) → length_good f m ≡ true → (s : List ℕ) → s ≡ splice (replicate 11 0) 0 (symbol_in f m) → s ≡ symbol_in f m
symbol-is f m g s e = e ∙ whole (replicate 11 0) (symbol_in f m) (length-symbol f m g)

-- an odd-lot quote is converted alike by any lot
same-odd : (f : Form) (m : List ℕ) (x y : ℕ) → f.round ≡ false → converted_as x f m ≡ converted_as y f m
unfolding converted_as
same-odd f m x y r = rw r

lot-same : (b m : List ℕ) → converted (lot_for b m) m ≡ converted_for (lot_on b) m
unfolding converted converted_for lot_for symbol_named
lot-same b m = go (layout_of m)
  where
    go : (l : Option Form) → converted_by (lot_by b m l) m l ≡ converted_by (lot_on b (named_by m l)) m l
    go (Some f) = by f.round refl
      where
        by : (t : Bool) → f.round ≡ t → converted_as (cond f.round (lot_on b (be (symbol_in f m))) 0) f m ≡ converted_as (lot_on b (be (symbol_in f m))) f m
        by true r = ap (λ (t : Bool). converted_as (cond t (lot_on b (be (symbol_in f m))) 0) f m) r
        by false r = same-odd f m _ _ r
    go None = refl

-- ---- of all messages

-- lots that stand from i on
pub lots-convert : (b : List ℕ) (ms : List (List ℕ)) (ls rest : List ℕ) (i : ℕ) → drop i ls ≡ lots_for b ms ++ rest → converted_from ls i ms ≡ map (converted_for (lot_on b)) ms
unfolding converted_from
lots-convert b [] ls rest i e = refl
lots-convert b (m ∷ ms) ls rest i e =
    let z : i + 0 ≡ i = omega arith in
    let h : at ls i ≡ lot_for b m = ap (at ls) (sym z) ∙ sym (get_or-drop i ls 0 0) ∙ ap (λ (l : List ℕ). get_or l 0 0) e in
    let t : drop (i + 1) ls ≡ lots_for b ms ++ rest = sym (drop-drop 1 i ls) ∙ ap (drop 1) e in
    λ j. (ap (λ (x : ℕ). converted x m) h ∙ lot-same b m) j ∷ lots-convert b ms ls rest (i + 1) t j

-- ---- the loop that collects them

module _ (v : List ℕ) (z : venue_number v ≡ 0) (c : ℕ) (e : c ≡ venue_count v) where
  pub lots-stand : stands v venue_first (c - 0) ≡ true
  lots-stand =
      let n : c - 0 ≡ venue_count v = omega (arith, e) in
      ap (stands v venue_first) n ∙ (ready-is v z).stand

  -- no block has more messages than there are lots
  pub lots-few : c ≤ 38
  lots-few =
      let r : Ready v = ready-is v z in
      omega (arith, e, r.sound.short, stands-few v (venue_count v) venue_first (omega (arith, r.sound.long)) r.stand)

pub lots-start : (b v ls : List ℕ) (c : ℕ) → c ≡ venue_count v → splice ls 0 (lots_for b (venue_from v venue_first (c - 0))) ≡ splice ls 0 (lots_for b (venue_messages v))
lots-start b v ls c e =
    let n : c - 0 ≡ venue_count v = omega (arith, e) in
    ap (λ (k : ℕ). splice ls 0 (lots_for b (venue_from v venue_first k))) n

pub lots-again : (b v : List ℕ) (c i p : ℕ) (ls w : List ℕ) (h : i < c) (s : stands v p (c - i) ≡ true) (e x : ℕ) → e ≡ next_at v p → x ≡ lot_for b (take (e - p) (drop p v)) → i < length ls
    → splice ls i (lots_for b (venue_from v p (c - i))) ≡ w → splice (set ls i x) (i + 1) (lots_for b (venue_from v e (c - (i + 1)))) ≡ w
lots-again b v c i p ls w h s e x q ex hl inv =
    (λ j. splice (splice-one ls i (ex j) hl j) (i + 1) (lots_for b (venue_from v e (c - (i + 1)))))
    ∙ splice-join ls i 1 (lot_for b (take (e - p) (drop p v)) ∷ []) (lots_for b (venue_from v e (c - (i + 1)))) refl
    ∙ ap (λ (l : List (List ℕ)). splice ls i (lots_for b l)) (sym (messages-next v c i p h s e q)) ∙ inv

pub lots-end : (b v : List ℕ) (c i p : ℕ) (ls w : List ℕ) → c ≤ i → splice ls i (lots_for b (venue_from v p (c - i))) ≡ w → ls ≡ w
lots-end b v c i p ls w h inv = sym (splice-nothing ls i) ∙ sym (ap (λ (l : List (List ℕ)). splice ls i (lots_for b l)) (messages-none v c i p h)) ∙ inv
