-- Messages of a venue's block that stand from a place on: the first, the rest, the first k of them and those behind, and what each is in our form.
-- Assumes nothing.
use Rattle.std.specs.Prelude.{Option, Some, None}
use Rattle.std.proofs.Common.{◌≡◌, ℕ, zero, suc, ◌+◌, ◌-◌, ◌*◌, ◌<◌, ◌≤◌, Bool, true, false, cond, not, ◌&&◌, List, [], ◌∷◌, map, length, take, drop, sym, refl, ap, ◌∙◌, arith, leb-true}
use Rattle.field.specs.Field.{part, field}
use Rattle.lists.specs.Lists.{at, sum}
use Rattle.lists.proofs.Tests.{clash, and-true}
use Rattle.lists.proofs.Searches.{less_one}
use Rattle.block.specs.Block.{block_longest, offset_at}
use Rattle.venueform.specs.declared.Form.{Form}
use Rattle.text.specs.Form.{letter_good}
use Rattle.venueform.specs.Form.{participant_in, from_finra, layout_of, item_count}
use Rattle.venuerules.specs.Rules.{length_good, quote_good, layout_good, header_good, control_good, message_good, our_length, condition_held, quote_placed, placed_by, message_placed}
use Rattle.venuequote.specs.Quote.{converted_by, converted, length_by, converted_length}
use Rattle.venuequote.specs.code.Ready.{ready_by, ready}
use Rattle.venuequote.proofs.WriteLaws.{length-converted}
use Rattle.venue.specs.Venue.{venue_first, venue_count, venue_sequence, lies_at, laid_from, block_good, next_at, venue_from, venue_messages, messages_good, messages_placed, venue_number}
use Rattle.venue.proofs.BlockLaws.{Sound, sound-is}
use Rattle.venue.proofs.WalkLaws.{Lies, lies-is, next-is, lent_is}
use Rattle.venuerun.specs.code.Walk.{stands, lengths_from, converted_from, place_of}

-- ---- a message that can be converted

pub ready-length : (m : List ℕ) → ready m ≡ true → (lot : ℕ) → length (converted lot m) ≡ converted_length m
unfolding ready converted converted_length
ready-length m r lot = go (layout_of m) r
  where
    go : (l : Option Form) → ready_by m l ≡ true → length (converted_by lot m l) ≡ length_by m l
    go (Some f) e = length-converted f m (and-true (length_good f m) _ e).0 lot
    go None e = refl

-- 36 bytes at least, and no more than a block can carry
pub ready-fits : (m : List ℕ) → ready m ≡ true → (36 ≤ converted_length m) × (offset_at 1 + converted_length m ≤ block_longest)
unfolding ready converted_length
ready-fits m r = go (layout_of m) r
  where
    go : (l : Option Form) → ready_by m l ≡ true → (36 ≤ length_by m l) × (offset_at 1 + length_by m l ≤ block_longest)
    go (Some f) e = (low f.round (item_count f m), leb-true (offset_at 1 + our_length f m) block_longest (and-true (length_good f m) _ e).1)
      where
        low : (t : Bool) (n : ℕ) → 36 ≤ cond t 60 36 + 12 * n
        low true n = omega arith
        low false n = omega arith
    go None e = clash (sym e)

-- 78 and 79 passed
message-ready : (c s i : ℕ) (m : List ℕ) → message_good c s i m ≡ true → message_placed m ≡ true → ready m ≡ true
unfolding message_good message_placed ready quote_good quote_placed
message-ready c s i m g p = go (layout_of m) (and-true (control_good c s m) _ (and-true (header_good i m) _ g).1).1 p
  where
    go : (l : Option Form) → layout_good m l ≡ true → placed_by m l ≡ true → ready_by m l ≡ true
    go (Some f) a b = rw (and-true (length_good f m) _ a).0 (and-true (condition_held f m) _ (and-true (not (from_finra m)) _ (and-true (letter_good (participant_in m)) _ b).1).1).1
    go None a b = b

stands-all : (b : List ℕ) (c s k i p : ℕ) → laid_from b p k ≡ true → messages_good c s i (venue_from b p k) ≡ true → messages_placed (venue_from b p k) ≡ true → stands b p k ≡ true
unfolding laid_from messages_good messages_placed venue_from stands
stands-all b c s zero i p l g q = refl
stands-all b c s (suc k) i p l g q =
    let a = and-true (lies_at b p) _ l in
    let x = and-true (message_good c s i (part b p (field b p 2))) _ g in
    let y = and-true (message_placed (part b p (field b p 2))) _ q in
    rw (a.0, message-ready c s i (part b p (field b p 2)) x.0 y.0, stands-all b c s k (i + 1) (p + field b p 2) a.1 x.1 y.1)

-- a venue's block that is neither 78 nor 79
pub record Ready (b : List ℕ) : Type 0 where
  pub sound : Sound b
  pub stand : stands b venue_first (venue_count b) ≡ true

pub ready-is : (b : List ℕ) → venue_number b ≡ 0 → Ready b
unfolding venue_number
ready-is b e = go (block_good b && messages_good (venue_count b) (venue_sequence b) 0 (venue_messages b)) (messages_placed (venue_messages b)) refl refl e
  where
    go : (t u : Bool) → (block_good b && messages_good (venue_count b) (venue_sequence b) 0 (venue_messages b)) ≡ t → messages_placed (venue_messages b) ≡ u → ◌≡◌ {A = ℕ} (cond t (cond u 0 79) 78) 0 → Ready b
    go true true g p z =
        let a = and-true (block_good b) _ g in
        let s = sound-is b a.0 in
        record { sound = s; stand = stands-all b (venue_count b) (venue_sequence b) (venue_count b) 0 venue_first s.laid a.1 p }
    go true false g p z = absurd (omega (arith, z))
    go false u g p z = absurd (omega (arith, z))

-- ---- the first and the rest

module _ (b : List ℕ) (c i p : ℕ) (h : i < c) (s : stands b p (c - i) ≡ true) where
  step : (lies_at b p && (ready (part b p (field b p 2)) && stands b (p + field b p 2) (c - (i + 1)))) ≡ true
  unfolding stands
  step = sym (ap (stands b p) (less_one c i h)) ∙ s

  pub here : Lies b p
  here = lies-is b p (and-true (lies_at b p) _ step).0

  module _ (e : ℕ) (n : e ≡ next_at b p) where
    pub reached : e ≡ p + field b p 2
    reached = n ∙ next-is b p here

    pub ready-here : ready (take (e - p) (drop p b)) ≡ true
    ready-here = ap ready (lent_is b p e reached) ∙ (and-true (ready (part b p (field b p 2))) _ (and-true (lies_at b p) _ step).1).0

    pub there : stands b e (c - (i + 1)) ≡ true
    there = ap (λ (q : ℕ). stands b q (c - (i + 1))) reached ∙ (and-true (ready (part b p (field b p 2))) _ (and-true (lies_at b p) _ step).1).1

    pub messages-next : venue_from b p (c - i) ≡ take (e - p) (drop p b) ∷ venue_from b e (c - (i + 1))
    unfolding venue_from
    messages-next = ap (venue_from b p) (less_one c i h) ∙ (λ j. sym (lent_is b p e reached) j ∷ venue_from b (sym reached j) (c - (i + 1)))

    pub lengths-next : (l : ℕ) → l ≡ converted_length (take (e - p) (drop p b)) → lengths_from b p (c - i) ≡ l ∷ lengths_from b e (c - (i + 1))
    lengths-next l q = ap (map converted_length) messages-next ∙ ap (λ (x : ℕ). x ∷ lengths_from b e (c - (i + 1))) (sym q)

pub messages-none : (b : List ℕ) (c i p : ℕ) → c ≤ i → venue_from b p (c - i) ≡ []
unfolding venue_from
messages-none b c i p h =
    let z : c - i ≡ 0 = omega arith in
    rw z

-- ---- the first k, and those behind

module _ (b : List ℕ) where
  pub stands-take : (k n p : ℕ) → k ≤ n → stands b p n ≡ true → stands b p k ≡ true
  unfolding stands
  stands-take zero n p h s = refl
  stands-take (suc k) zero p h s = absurd (omega arith)
  stands-take (suc k) (suc n) p h s =
      let a = and-true (lies_at b p) _ s in
      let r = and-true (ready (part b p (field b p 2))) _ a.1 in
      rw (a.0, r.0, stands-take k n (p + field b p 2) (omega arith) r.1)

  pub stands-drop : (k n p : ℕ) → k ≤ n → stands b p n ≡ true → stands b (place_of b p k) (n - k) ≡ true
  unfolding stands place_of
  stands-drop zero n p h s =
      let z : n - 0 ≡ n = omega arith in
      ap (stands b p) z ∙ s
  stands-drop (suc k) zero p h s = absurd (omega arith)
  stands-drop (suc k) (suc n) p h s =
      let a = and-true (lies_at b p) _ s in
      let r = and-true (ready (part b p (field b p 2))) _ a.1 in
      let z : suc n - suc k ≡ n - k = omega arith in
      ap (stands b (place_of b (p + field b p 2) k)) z ∙ stands-drop k n (p + field b p 2) (omega arith) r.1

  pub from-take : (k n p : ℕ) → k ≤ n → take k (venue_from b p n) ≡ venue_from b p k
  unfolding venue_from
  from-take zero n p h = refl
  from-take (suc k) zero p h = absurd (omega arith)
  from-take (suc k) (suc n) p h = ap (λ (l : List (List ℕ)). part b p (field b p 2) ∷ l) (from-take k n (p + field b p 2) (omega arith))

  pub from-drop : (k n p : ℕ) → k ≤ n → drop k (venue_from b p n) ≡ venue_from b (place_of b p k) (n - k)
  unfolding venue_from place_of
  from-drop zero n p h =
      let z : n ≡ n - 0 = omega arith in
      ap (venue_from b p) z
  from-drop (suc k) zero p h = absurd (omega arith)
  from-drop (suc k) (suc n) p h =
      let z : n - k ≡ suc n - suc k = omega arith in
      from-drop k n (p + field b p 2) (omega arith) ∙ ap (venue_from b (place_of b (p + field b p 2) k)) z

  pub length_from : (n p : ℕ) → length (venue_from b p n) ≡ n
  unfolding venue_from
  length_from zero p = refl
  length_from (suc n) p = ap suc (length_from n (p + field b p 2))

  -- 36 bytes for each message
  pub stands-long : (n p : ℕ) → stands b p n ≡ true → 36 * n ≤ sum (lengths_from b p n)
  unfolding stands venue_from sum
  stands-long zero p s = omega arith
  stands-long (suc n) p s =
      let a = and-true (lies_at b p) _ s in
      let r = and-true (ready (part b p (field b p 2))) _ a.1 in
      omega (arith, (ready-fits (part b p (field b p 2)) r.0).0, stands-long n (p + field b p 2) r.1)

  -- and 26 of the source's
  pub stands-few : (n p : ℕ) → p ≤ length b → stands b p n ≡ true → p + 26 * n ≤ length b
  unfolding stands
  stands-few zero p h s = omega arith
  stands-few (suc n) p h s =
      let a = and-true (lies_at b p) _ s in
      let l = lies-is b p a.0 in
      omega (arith, l.long, stands-few n (p + field b p 2) l.inside (and-true (ready (part b p (field b p 2))) _ a.1).1)

  module _ (lots : List ℕ) where
    -- the length of each in our form
    pub converted-lengths : (n p i : ℕ) → stands b p n ≡ true → map length (converted_from lots i (venue_from b p n)) ≡ lengths_from b p n
    unfolding stands venue_from converted_from
    converted-lengths zero p i s = refl
    converted-lengths (suc n) p i s =
        let a = and-true (lies_at b p) _ s in
        let r = and-true (ready (part b p (field b p 2))) _ a.1 in
        λ j. ready-length (part b p (field b p 2)) r.0 (at lots i) j ∷ converted-lengths n (p + field b p 2) (i + 1) r.1 j

module _ (lots : List ℕ) where
  pub converted-take : (k i : ℕ) (xs : List (List ℕ)) → take k (converted_from lots i xs) ≡ converted_from lots i (take k xs)
  unfolding converted_from
  converted-take zero i xs = refl
  converted-take (suc k) i [] = refl
  converted-take (suc k) i (x ∷ xs) = ap (λ (l : List (List ℕ)). converted (at lots i) x ∷ l) (converted-take k (i + 1) xs)

  pub converted-drop : (k i : ℕ) (xs : List (List ℕ)) → drop k (converted_from lots i xs) ≡ converted_from lots (i + k) (drop k xs)
  unfolding converted_from
  converted-drop zero i xs =
      let z : i ≡ i + 0 = omega arith in
      ap (λ (j : ℕ). converted_from lots j xs) z
  converted-drop (suc k) i [] = refl
  converted-drop (suc k) i (x ∷ xs) =
      let z : (i + 1) + k ≡ i + suc k = omega arith in
      converted-drop k (i + 1) xs ∙ ap (λ (j : ℕ). converted_from lots j (drop k xs)) z
