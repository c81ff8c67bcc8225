-- The check, a turn at a time; what each return of `entry_at` tells; what a whole record satisfies.
-- Assumes nothing.
use Prim.Native.Nat.{ℕ, ◌+◌, ◌-◌, ◌<◌, ◌≤◌}
use mathlib.Core.Path.{◌≡◌, refl, ap, sym, ◌∙◌}
use mathlib.Core.Bool.{Bool, true, false, ◌&&◌, cond}
use mathlib.Core.List.{List, [], ◌∷◌}
use native.Mathlib.Omega.{arith}
use lib.Dec.{eqb, leb, ltb}
use lib.ListN.{length, take, drop, get_or, length-drop, drop_of_length-le}
use lib.Seq.{drop-cons, drop-drop}
use borrow.Author.Tests.{lt-ltb, le-ltb, le-leb, lt-leb, eq-eqb, ne_eqb, leb-false, ltb-false, leb-true}
use Rattle.field.specs.Field.{be, part, field}
use Rattle.lists.proofs.Tests.{and-true}
use Rattle.logform.specs.Log.{mixed, check_from, check_of, head_length, head_of, is_head, record_shortest, before_length, check_length, entry_by, entry_at}
use Rattle.logform.specs.declared.Place.{Place}
use Rattle.logform.specs.declared.Entry.{Entry}
use Rattle.logform.specs.declared.Entry.TheVariants.{End, Cut, Damaged, Record}

-- ---- the check

word_first : (h : ℕ) (r : List ℕ) → 4 ≤ length r → check_from h r ≡ check_from (mixed h (be (take 4 r))) (drop 4 r)
unfolding check_from
word_first h [] k = absurd (omega arith)
word_first h (a ∷ []) k = absurd (omega arith)
word_first h (a ∷ b ∷ []) k = absurd (omega arith)
word_first h (a ∷ b ∷ c ∷ []) k = absurd (omega arith)
word_first h (a ∷ b ∷ c ∷ d ∷ r) k = refl

byte-first : (h : ℕ) (r : List ℕ) → 0 < length r → length r < 4 → check_from h r ≡ check_from (mixed h (get_or r 0 0)) (drop 1 r)
unfolding check_from
byte-first h [] k l = absurd (omega arith)
byte-first h (a ∷ []) k l = refl
byte-first h (a ∷ b ∷ []) k l = refl
byte-first h (a ∷ b ∷ c ∷ []) k l = refl
byte-first h (a ∷ b ∷ c ∷ d ∷ r) k l = absurd (omega (arith, l))

pub check-end : (s : List ℕ) (h at w : ℕ) → check_from h (drop at s) ≡ w → length s ≤ at → h ≡ w
unfolding check_from
check-end s h at w e k = rw (drop_of_length-le s k) at e

module _ (s : List ℕ) (h g at w : ℕ) (e : check_from h (drop at s) ≡ w) where
  pub word-again : 4 ≤ length s - at → g ≡ mixed h (field s at 4) → check_from g (drop (at + 4) s) ≡ w
  unfolding field part
  word-again k m = rw (m, ← drop-drop 4 at s) (sym (word_first h (drop at s) (rw (length-drop) k)) ∙ e)

  pub byte-again : at < length s → length s - at < 4 → g ≡ mixed h (get_or s at 0) → check_from g (drop (at + 1) s) ≡ w
  byte-again k l m = rw (m, ← drop-drop 1 at s, ← first) (sym (byte-first h (drop at s) (rw (length-drop) (omega arith)) (rw (length-drop) l)) ∙ e)
    where
      first : get_or (drop at s) 0 0 ≡ get_or s at 0
      first = rw (drop-cons s at 0)

-- ---- `entry_at`, return by return

module _ (log : List ℕ) (at : ℕ) where
  pub entry-end : length log ≤ at → End ≡ entry_at log at
  unfolding entry_at
  entry-end h = rw (le-leb (length log) at h)

  module _ (inside : at < length log) where
    pub entry-short : length log - at < record_shortest → Cut ≡ entry_at log at
    unfolding entry_at
    entry-short h = rw (lt-leb (length log) at inside, lt-ltb (length log - at) record_shortest h)

    module _ (long : record_shortest ≤ length log - at) (len : ℕ) (told : len ≡ field log at 4) where
      entry-told : entry_by log at len ≡ entry_at log at
      unfolding entry_at
      entry-told = rw (lt-leb (length log) at inside, le-ltb (length log - at) record_shortest long, told)

      pub entry-small : len < record_shortest → Damaged ≡ entry_at log at
      entry-small h = rw (lt-ltb len record_shortest h) at entry-told

      module _ (whole : record_shortest ≤ len) where
        pub entry-cut : length log - at < len → Cut ≡ entry_at log at
        entry-cut h = rw (le-ltb len record_shortest whole, lt-ltb (length log - at) len h) at entry-told

        module _ (fits : len ≤ length log - at) (stop : ℕ) (ends : stop ≡ at + len - check_length) where
          checked-part : take (stop - at) (drop at log) ≡ part log at (len - check_length)
          unfolding part
          checked-part = let n : stop - at ≡ len - check_length = omega arith in rw n

          module _ (sum : ℕ) (sums : sum ≡ check_of (take (stop - at) (drop at log))) (own : ℕ) (owns : own ≡ field log stop 4) where
            entry-by : cond (eqb sum own) (Record (record { kind = field log (at + 4) 1; start = at + before_length; stop = stop })) Damaged ≡ entry_at log at
            entry-by = rw (sums, checked-part, owns, ends) (rw (le-ltb len record_shortest whole, le-ltb (length log - at) len fits) at entry-told)

            pub entry-wrong : (sum ≡ own → ⊥) → Damaged ≡ entry_at log at
            entry-wrong h = rw (ne_eqb sum own h) at entry-by

            pub entry-right : sum ≡ own → (kind : ℕ) → kind ≡ field log (at + 4) 1 → Record (record { kind = kind; start = at + before_length; stop = stop }) ≡ entry_at log at
            entry-right h kind k = rw k (rw (eq-eqb sum own h) at entry-by)

-- ---- what a whole record satisfies

pub record Whole (log : List ℕ) (at : ℕ) (p : Place) : Type 0 where
  pub first : p.start ≡ at + before_length
  pub order : p.start ≤ p.stop
  pub inside : p.stop + check_length ≤ length log

clash : {A : Type 0} → ◌≡◌ {A = ℕ} 0 1 → A
clash e = absurd (omega arith)

tag : Entry → ℕ
tag End = 1
tag Cut = 1
tag Damaged = 1
tag (Record p) = 0

place_in : Entry → Place → Place
place_in End q = q
place_in Cut q = q
place_in Damaged q = q
place_in (Record p) q = p

pub whole : (log : List ℕ) (at : ℕ) (p : Place) → entry_at log at ≡ Record p → Whole log at p
unfolding entry_at tag place_in
whole log at p e = beyond (leb (length log) at) refl e
  where
    found : (q : Place) → q ≡ p → q.start ≡ at + before_length → q.start ≤ q.stop → q.stop + check_length ≤ length log → Whole log at p
    found q s a b d = record { first = rw (← s) a; order = rw (← s) b; inside = rw (← s) d }

    sum : (t : Bool) (len : ℕ) → record_shortest ≤ len → len ≤ length log - at → at < length log
        → cond t (Record (record { kind = field log (at + 4) 1; start = at + before_length; stop = at + len - check_length })) Damaged ≡ Record p → Whole log at p
    sum true len a b i k = found (record { kind = field log (at + 4) 1; start = at + before_length; stop = at + len - check_length }) (ap (λ (x : Entry). place_in x p) k) refl (omega arith) (omega arith)
    sum false len a b i k = clash (ap tag (sym k))

    long : (t : Bool) (len : ℕ) → ltb (length log - at) len ≡ t → record_shortest ≤ len → at < length log
        → cond t Cut (cond (eqb (check_of (part log at (len - check_length))) (field log (at + len - check_length) check_length)) (Record (record { kind = field log (at + 4) 1; start = at + before_length; stop = at + len - check_length })) Damaged) ≡ Record p → Whole log at p
    long true len h a i k = clash (ap tag (sym k))
    long false len h a i k = sum (eqb (check_of (part log at (len - check_length))) (field log (at + len - check_length) check_length)) len a (ltb-false (length log - at) len h) i k

    short : (t : Bool) (len : ℕ) → ltb len record_shortest ≡ t → at < length log
        → cond t Damaged (cond (ltb (length log - at) len) Cut (cond (eqb (check_of (part log at (len - check_length))) (field log (at + len - check_length) check_length)) (Record (record { kind = field log (at + 4) 1; start = at + before_length; stop = at + len - check_length })) Damaged)) ≡ Record p → Whole log at p
    short true len h i k = clash (ap tag (sym k))
    short false len h i k = long (ltb (length log - at) len) len refl (ltb-false len record_shortest h) i k

    enough : (t : Bool) → at < length log → cond t Cut (entry_by log at (field log at 4)) ≡ Record p → Whole log at p
    enough true i k = clash (ap tag (sym k))
    enough false i k = short (ltb (field log at 4) record_shortest) (field log at 4) refl i k

    beyond : (t : Bool) → leb (length log) at ≡ t → cond t End (cond (ltb (length log - at) record_shortest) Cut (entry_by log at (field log at 4))) ≡ Record p → Whole log at p
    beyond true h k = clash (ap tag (sym k))
    beyond false h k = enough (ltb (length log - at) record_shortest) (leb-false (length log) at h) k

-- ---- what a head tells

pub head-long : (log : List ℕ) (headed : Bool) → headed ≡ is_head log → headed ≡ true → head_length ≤ length log
unfolding is_head
head-long log headed is e = leb-true head_length (length log) (and-true (leb head_length (length log)) _ (sym is ∙ e)).0
