-- The letters that have a message, one by one, over plain values.
-- Assumes nothing.
use Prim.Native.Nat.{ℕ, zero, suc, ◌+◌, ◌*◌, ◌-◌, ◌≤◌, ◌<◌}
use mathlib.Core.Path.{◌≡◌, refl, sym, ap, ◌∙◌, subst}
use mathlib.Core.Bool.{Bool, true, false, not, cond}
use mathlib.Core.List.{List, [], ◌∷◌, ◌++◌, append-nil}
use mathlib.Core.Logic.{◌⊎◌, inl, inr}
use mir.Val.{bool_byte}
use Rattle.std.specs.Prelude.{Option, None, Some}
use native.Mathlib.Omega.{arith}
use native.Mathlib.Numerals.{add-one}
use borrow.Author.Tests.{ne_eqb, eq-eqb}
use lib.Dec.{eqb}
use lib.ListN.{length, take, drop, length-append}
use Rattle.field.specs.Field.{field, splice}
use Rattle.field.specs.Ascii.{A, D, S, Z}
use Rattle.field.proofs.Laws.{field-part-0, splice-join}
use Rattle.field.proofs.ZeroLaws.{splice-nothing}
use Rattle.lists.specs.Lists.{member, cons_option}
use Rattle.lists.proofs.Searches.{less_one}
use Rattle.block.specs.Written.{joined}
use Rattle.text.specs.Form.{symbol_length}
use Rattle.quote.specs.declared.Quote.{Quote}
use Rattle.quote.specs.Quote.{is_quoted, quote_in, quote_length}
use Rattle.page.specs.Layout.{slot_at}
use Rattle.page.specs.Page.{quotes_in}
use Rattle.slots.proofs.ReadLaws.{quote-condition}
use Rattle.snapshot.specs.Snapshot.{Shown, shown_of, is_shown, shown_at, shown_from}
use Rattle.snapshot.specs.Feed.{participant, participant_length}
use Rattle.snapshot.proofs.MessageLaws.{length-participant}
use Rattle.feed.specs.code.Blocks.{shown_in, of_p}

-- ---- one letter

module _ (p : List ℕ) (l : ℕ) where
  pub shown-d : l ≡ D → false ≡ is_shown (quotes_in p) l
  unfolding is_shown member
  shown-d e = rw e

  pub shown-s : l ≡ S → false ≡ is_shown (quotes_in p) l
  unfolding is_shown member
  shown-s e = rw e

  pub shown-quoted : (c : ℕ) (t : Bool) → A ≤ l → l ≤ Z → (l ≡ D → ⊥) → (l ≡ S → ⊥) → c ≡ field p (slot_at l) 1 → t ≡ is_quoted c → t ≡ is_shown (quotes_in p) l
  unfolding is_shown member quote_in
  shown-quoted c t a z d s e q =
      q ∙ ap is_quoted (e ∙ sym (field-part-0 p (slot_at l) quote_length 1 (omega arith))) ∙ rw (ne_eqb l D d, ne_eqb l S s, quote-condition p l a z)

  -- where a letter is left out by either of the two tests
  pub hidden-s : (l ≡ D → ⊥) → ((l ≡ D → ⊥) × (l ≡ S)) ⊎ (l ≡ D) → not (eqb l S) ≡ is_shown (quotes_in p) l
  hidden-s d (inl h) = ap not (eq-eqb l S h.1) ∙ shown-s h.1
  hidden-s d (inr e) = absurd (d e)

  pub hidden-d : l ≡ D → not (eqb l D) ≡ is_shown (quotes_in p) l
  hidden-d e = ap not (eq-eqb l D e) ∙ shown-d e

-- ---- a count and one letter more

pub counted : (n m : ℕ) (t : Bool) → m ≡ bool_byte t → n + m ≡ n + cond t 1 0
counted n m true e = ap (λ (k : ℕ). n + k) e
counted n m false e = ap (λ (k : ℕ). n + k) e

-- a count moves by one at most
pub count_low : (n m : ℕ) (t : Bool) → m ≡ n + cond t 1 0 → m ≤ n + 1
count_low n m true e = omega arith
count_low n m false e = omega arith

-- ---- from one letter to the next

module _ (q : ℕ → Quote) where
  pub shown-step : (l to : ℕ) → l < to → shown_from q (to - l) l ≡ cons_option (shown_at q l) (shown_from q (to - (l + 1)) (l + 1))
  shown-step l to h =
      ap (λ (n : ℕ). shown_from q n l) (less_one to l h)
      ∙ ap (λ (m : ℕ). cons_option (shown_at q l) (shown_from q (to - (l + 1)) m)) (sym (add-one l))

  pub shown-end : (l to : ℕ) → to ≤ l → shown_from q (to - l) l ≡ []
  shown-end l to h = let e : to - l ≡ 0 = omega arith in ap (λ (n : ℕ). shown_from q n l) e

  one : (t : Bool) (v : Shown) (vs : List Shown) → length (cons_option (cond t (Some v) None) vs) ≡ cond t 1 0 + length vs
  one true v vs = omega arith
  one false v vs = omega arith

  count-step : (l to : ℕ) → l < to → length (shown_from q (to - l) l) ≡ cond (is_shown q l) 1 0 + length (shown_from q (to - (l + 1)) (l + 1))
  count-step l to h = ap length (shown-step l to h) ∙ one (is_shown q l) (shown_of l (q l)) (shown_from q (to - (l + 1)) (l + 1))

  -- ---- the loops that count

  pub count-again : (l to n m w : ℕ) (t : Bool) → l < to → n + length (shown_from q (to - l) l) ≡ w → t ≡ is_shown q l → m ≡ n + cond t 1 0
      → m + length (shown_from q (to - (l + 1)) (l + 1)) ≡ w
  count-again l to n m w t h inv e s =
      let d : ◌≡◌ {A = ℕ} (cond t 1 0) (cond (is_shown q l) 1 0) = ap (λ (u : Bool). cond u 1 0) e in
      omega (arith, count-step l to h, d)

  pub count-end : (l to n w : ℕ) → to ≤ l → n + length (shown_from q (to - l) l) ≡ w → n ≡ w
  count-end l to n w h inv = let e : length (shown_from q (to - l) l) ≡ 0 = ap length (shown-end l to h) in omega arith

  pub one_more : (t : Bool) → cond {A = ℕ} t 1 0 ≤ 1
  one_more true = omega arith
  one_more false = omega arith

  -- ---- letters before and from a letter on

  shown-split : (m n l : ℕ) → shown_from q (m + n) l ≡ shown_from q m l ++ shown_from q n (l + m)
  shown-split zero n l = let e : 0 + n ≡ n = omega arith in let f : l ≡ l + 0 = omega arith in (λ i. shown_from q (e i) (f i))
  shown-split (suc m) n l =
      let e : suc m + n ≡ suc (m + n) = omega arith in
      let f : suc l + m ≡ l + suc m = omega arith in
      ap (λ (k : ℕ). shown_from q k l) e ∙ go (shown_at q l) (shown-split m n (suc l) ∙ ap (λ (k : ℕ). shown_from q m (suc l) ++ shown_from q n k) f)
    where
      go : (o : Option Shown) → shown_from q (m + n) (suc l) ≡ shown_from q m (suc l) ++ shown_from q n (l + suc m)
          → cons_option o (shown_from q (m + n) (suc l)) ≡ cons_option o (shown_from q m (suc l)) ++ shown_from q n (l + suc m)
      go None e = e
      go (Some v) e = ap (λ (vs : List Shown). v ∷ vs) e

  pub split_at : (l r to : ℕ) → l ≤ r → r ≤ to → shown_from q (to - l) l ≡ shown_from q (r - l) l ++ shown_from q (to - r) r
  split_at l r to a z =
      let e : to - l ≡ (r - l) + (to - r) = omega arith in
      let f : l + (r - l) ≡ r = omega arith in
      ap (λ (n : ℕ). shown_from q n l) e ∙ shown-split (r - l) (to - r) l ∙ ap (λ (n : ℕ). shown_from q (r - l) l ++ shown_from q (to - r) n) f

  take-front : {B : Type 0} (a b : List B) (n : ℕ) → length a ≡ n → take n (a ++ b) ≡ a
  take-front [] b n e = subst (λ (k : ℕ). take k b ≡ []) e refl
  take-front (x ∷ a) b n e = subst (λ (k : ℕ). take k (x ∷ (a ++ b)) ≡ x ∷ a) e (ap (λ (k : List _). x ∷ k) (take-front a b (length a) refl))

  drop-front : {B : Type 0} (a b : List B) (n : ℕ) → length a ≡ n → drop n (a ++ b) ≡ b
  drop-front [] b n e = subst (λ (k : ℕ). drop k b ≡ b) e refl
  drop-front (x ∷ a) b n e = subst (λ (k : ℕ). drop k (x ∷ (a ++ b)) ≡ b) e (drop-front a b (length a) refl)

  module _ (r to n : ℕ) (a : A ≤ r) (z : r ≤ to) (c : n + length (shown_from q (to - r) r) ≡ length (shown_from q (to - A) A)) where
    count-front : length (shown_from q (r - A) A) ≡ n
    count-front = omega (arith, ap length (split_at A r to a z), length-append (shown_from q (r - A) A) (shown_from q (to - r) r))

    pub first-are : take n (shown_from q (to - A) A) ≡ shown_from q (r - A) A
    first-are = ap (take n) (split_at A r to a z) ∙ take-front (shown_from q (r - A) A) (shown_from q (to - r) r) n count-front

    pub rest-are : drop n (shown_from q (to - A) A) ≡ shown_from q (to - r) r
    rest-are = ap (drop n) (split_at A r to a z) ∙ drop-front (shown_from q (r - A) A) (shown_from q (to - r) r) n count-front

    pub first_count : length (shown_from q (r - A) A) ≡ n
    first_count = count-front

-- ---- their messages

module _ (s : List ℕ) (n : length s ≡ symbol_length) where
  pub length-letters : (vs : List Shown) → length (joined (of_p s vs)) ≡ participant_length * length vs
  length-letters [] = refl
  length-letters (v ∷ vs) = omega (arith, length-append (participant s v) (joined (of_p s vs)), length-participant s v n, length-letters vs)

  joined-option : (o : Option Shown) (vs : List Shown) → joined (of_p s (cons_option o vs)) ≡ joined (of_p s (cons_option o [])) ++ joined (of_p s vs)
  joined-option None vs = refl
  joined-option (Some v) vs = ap (λ (l : List ℕ). l ++ joined (of_p s vs)) (sym (append-nil (participant s v)))

  length-option : (o : Option Shown) (vs : List Shown) → length (cons_option o vs) ≡ length (cons_option o []) + length vs
  length-option None vs = omega arith
  length-option (Some v) vs = omega arith

  module _ (p : List ℕ) (l : ℕ) where
    abbrev o : Option Shown
    o = shown_at (quotes_in p) l

    pub room-shown : (at k : ℕ) → is_shown (quotes_in p) l ≡ true → at + participant_length * length (cons_option o []) ≤ k → at + participant_length ≤ k
    room-shown at k t h = let r : at + participant_length * 1 ≤ k = rw t at h in omega arith

    pub put-shown : (at : ℕ) (q : Quote) (b b' : List ℕ) → is_shown (quotes_in p) l ≡ true → q ≡ quotes_in p l → b' ≡ splice b at (participant s (shown_of l q))
        → (b' ≡ splice b at (joined (of_p s (cons_option o [])))) × (at + participant_length ≡ at + participant_length * length (cons_option o []))
    put-shown at q b b' t e w =
        rw t (w ∙ ap (λ (k : Quote). splice b at (participant s (shown_of l k))) e ∙ ap (splice b at) (sym (append-nil (participant s (shown_of l (quotes_in p l))))), omega arith)

    pub put-hidden : (at : ℕ) (b : List ℕ) → is_shown (quotes_in p) l ≡ false
        → (b ≡ splice b at (joined (of_p s (cons_option o [])))) × (at ≡ at + participant_length * length (cons_option o []))
    put-hidden at b t = rw t (sym (splice-nothing b at), omega arith)

    -- ---- the loop that writes them

    module _ (to : ℕ) (h : l < to) where
      pub room-again : (end end' k : ℕ) → end + participant_length * length (shown_in p l to) ≤ k → end' ≡ end + participant_length * length (cons_option o []) → end' + participant_length * length (shown_in p (l + 1) to) ≤ k
      room-again end end' k r e = omega (arith, ap length (shown-step (quotes_in p) l to h), length-option o (shown_in p (l + 1) to))

      pub room-one : (end k : ℕ) → end + participant_length * length (shown_in p l to) ≤ k → end + participant_length * length (cons_option o []) ≤ k
      room-one end k r = omega (arith, ap length (shown-step (quotes_in p) l to h), length-option o (shown_in p (l + 1) to))

      pub letters-again : (end end' : ℕ) (b b' w : List ℕ) → splice b end (joined (of_p s (shown_in p l to))) ≡ w → b' ≡ splice b end (joined (of_p s (cons_option o []))) → end' ≡ end + participant_length * length (cons_option o [])
          → splice b' end' (joined (of_p s (shown_in p (l + 1) to))) ≡ w
      letters-again end end' b b' w inv e f =
          (λ i. splice (e i) (f i) (joined (of_p s (shown_in p (l + 1) to))))
          ∙ splice-join b end (participant_length * length (cons_option o [])) (joined (of_p s (cons_option o []))) (joined (of_p s (shown_in p (l + 1) to))) (length-letters (cons_option o []))
          ∙ ap (splice b end) (sym (joined-option o (shown_in p (l + 1) to)))
          ∙ ap (λ (vs : List Shown). splice b end (joined (of_p s vs))) (sym (shown-step (quotes_in p) l to h))
          ∙ inv

    pub letters-end : (to end : ℕ) (b w : List ℕ) → to ≤ l → splice b end (joined (of_p s (shown_in p l to))) ≡ w → b ≡ w
    letters-end to end b w h inv =
        sym (splice-nothing b end) ∙ ap (λ (vs : List Shown). splice b end (joined (of_p s vs))) (sym (shown-end (quotes_in p) l to h)) ∙ inv
