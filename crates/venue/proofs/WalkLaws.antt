-- A venue's block walked message by message.
-- Assumes nothing.
use Prim.Native.Nat.{ℕ, ◌+◌, ◌-◌, ◌≤◌, ◌<◌}
use mathlib.Core.Path.{◌≡◌, refl, sym, ap, ◌∙◌}
use mathlib.Core.Bool.{Bool, true, false, ◌&&◌}
use mathlib.Core.List.{List, [], ◌∷◌}
use native.Mathlib.Omega.{arith}
use native.Mathlib.Nat.{sub-zero}
use lib.Dec.{leb}
use lib.ListN.{length, take, drop}
use borrow.Author.Tests.{le-leb, leb-true}
use Rattle.field.specs.Field.{part, field}
use Rattle.field.proofs.Laws.{length_part}
use Rattle.lists.proofs.Tests.{and-true}
use Rattle.lists.proofs.Searches.{less_one}
use Rattle.venueform.specs.Form.{venue_header}
use Rattle.venuerules.specs.Rules.{message_good, message_placed}
use Rattle.venue.specs.code.Each.{all_by}
use Rattle.venue.specs.Venue.{lies_at, ends_at, laid_from, next_at, venue_from, messages_good, messages_placed}

-- a whole message stands at p
pub record Lies (b : List ℕ) (p : ℕ) : Type 0 where
  pub header : p + venue_header ≤ length b
  pub long : venue_header ≤ field b p 2
  pub inside : p + field b p 2 ≤ length b

module _ (b : List ℕ) (p : ℕ) where
  pub lies-is : lies_at b p ≡ true → Lies b p
  lies-is e =
      let h = and-true (leb (p + venue_header) (length b)) _ e in
      let l = and-true (leb venue_header (field b p 2)) (leb (p + field b p 2) (length b)) h.1 in
      record { header = leb-true (p + venue_header) (length b) h.0; long = leb-true venue_header (field b p 2) l.0; inside = leb-true (p + field b p 2) (length b) l.1 }

  -- ---- where the next one starts

  next-whole : p + 2 ≤ length b → p + field b p 2 ≤ length b → p + field b p 2 ≡ next_at b p
  unfolding next_at
  next-whole h l = rw (le-leb (p + 2) (length b) h, le-leb (p + field b p 2) (length b) l)

  pub next-is : Lies b p → next_at b p ≡ p + field b p 2
  next-is s = sym (next-whole (omega (arith, s.header)) s.inside)

  -- the part that is lent
  pub lent_is : (e : ℕ) → e ≡ p + field b p 2 → take (e - p) (drop p b) ≡ part b p (field b p 2)
  unfolding part
  lent_is e h =
      let n : e - p ≡ field b p 2 = omega arith in
      ap (λ (k : ℕ). take k (drop p b)) n

  pub lent_length : (e : ℕ) → Lies b p → e ≡ next_at b p → length (take (e - p) (drop p b)) ≡ field b p 2
  lent_length e s n = ap length (lent_is e (n ∙ next-is s)) ∙ length_part b p (field b p 2) s.inside

-- ---- a walk: messages from i on, the first of them at p

module _ (b : List ℕ) (c i p : ℕ) where
  laid-step : i < c → laid_from b p (c - i) ≡ (lies_at b p && laid_from b (p + field b p 2) (c - (i + 1)))
  unfolding laid_from
  laid-step h = rw (less_one c i h)

  pub laid-fails : (w : Bool) → i < c → laid_from b p (c - i) ≡ w → lies_at b p ≡ false → false ≡ w
  laid-fails w h inv e = sym (ap (λ (t : Bool). t && laid_from b (p + field b p 2) (c - (i + 1))) e) ∙ sym (laid-step h) ∙ inv

  pub laid-again : (w : Bool) (e : ℕ) → i < c → laid_from b p (c - i) ≡ w → lies_at b p ≡ true → e ≡ next_at b p → laid_from b e (c - (i + 1)) ≡ w
  laid-again w e h inv l n =
      ap (λ (k : ℕ). laid_from b k (c - (i + 1))) (n ∙ next-is b p (lies-is b p l))
      ∙ sym (ap (λ (t : Bool). t && laid_from b (p + field b p 2) (c - (i + 1))) l) ∙ sym (laid-step h) ∙ inv

  pub laid_end : (w : Bool) → c ≤ i → laid_from b p (c - i) ≡ w → ends_at b p ≡ w
  unfolding laid_from
  laid_end w h inv =
      let z : c - i ≡ 0 = omega arith in
      rw z at inv

  -- the message at p, and those behind it
  pub here : i < c → laid_from b p (c - i) ≡ true → Lies b p
  here h l = lies-is b p (and-true (lies_at b p) _ (sym (laid-step h) ∙ l)).0

  pub there : (e : ℕ) → i < c → laid_from b p (c - i) ≡ true → e ≡ next_at b p → laid_from b e (c - (i + 1)) ≡ true
  there e h l n = laid-again true e h l (and-true (lies_at b p) _ (sym (laid-step h) ∙ l)).0 n

  pub messages-step : (e : ℕ) → i < c → laid_from b p (c - i) ≡ true → e ≡ next_at b p → venue_from b p (c - i) ≡ take (e - p) (drop p b) ∷ venue_from b e (c - (i + 1))
  unfolding venue_from
  messages-step e h l n =
      let q : e ≡ p + field b p 2 = n ∙ next-is b p (here h l) in
      rw (less_one c i h) (λ j. sym (lent_is b p e q) j ∷ venue_from b (sym q j) (c - (i + 1)))

  messages-none : c ≤ i → venue_from b p (c - i) ≡ []
  unfolding venue_from
  messages-none h =
      let z : c - i ≡ 0 = omega arith in
      rw z

  -- ---- a rule of each message

  module _ (rule : ℕ → List ℕ → Bool) (w : Bool) (inv : all_by rule i (venue_from b p (c - i)) ≡ w) where
    all-step : (e : ℕ) → i < c → laid_from b p (c - i) ≡ true → e ≡ next_at b p
        → (rule i (take (e - p) (drop p b)) && all_by rule (i + 1) (venue_from b e (c - (i + 1)))) ≡ w
    unfolding all_by
    all-step e h l n = sym (ap (all_by rule i) (messages-step e h l n)) ∙ inv

    pub all-fails : (e : ℕ) → i < c → laid_from b p (c - i) ≡ true → e ≡ next_at b p → rule i (take (e - p) (drop p b)) ≡ false → false ≡ w
    all-fails e h l n g = sym (ap (λ (t : Bool). t && all_by rule (i + 1) (venue_from b e (c - (i + 1)))) g) ∙ all-step e h l n

    pub all-again : (e : ℕ) → i < c → laid_from b p (c - i) ≡ true → e ≡ next_at b p → rule i (take (e - p) (drop p b)) ≡ true
        → all_by rule (i + 1) (venue_from b e (c - (i + 1))) ≡ w
    all-again e h l n g = sym (ap (λ (t : Bool). t && all_by rule (i + 1) (venue_from b e (c - (i + 1)))) g) ∙ all-step e h l n

    pub all-end : c ≤ i → true ≡ w
    unfolding all_by
    all-end h = sym (ap (all_by rule i) (messages-none h)) ∙ inv

-- 78 and 79 of each message
pub all-good : (c s i : ℕ) (ms : List (List ℕ)) → all_by (message_good c s) i ms ≡ messages_good c s i ms
unfolding all_by messages_good
all-good c s i [] = refl
all-good c s i (m ∷ ms) = ap (λ (t : Bool). message_good c s i m && t) (all-good c s (i + 1) ms)

pub all-placed : (i : ℕ) (ms : List (List ℕ)) → all_by (λ j. message_placed) i ms ≡ messages_placed ms
unfolding all_by messages_placed
all-placed i [] = refl
all-placed i (m ∷ ms) = ap (λ (t : Bool). message_placed m && t) (all-placed (i + 1) ms)

-- nothing is taken off at the start
pub from_start : {A : Type 0} (f : ℕ → A) (c : ℕ) → f (c - 0) ≡ f c
from_start f c = ap f (sub-zero c)
