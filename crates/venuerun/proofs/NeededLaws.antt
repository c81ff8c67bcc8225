-- The needed length as the code works it out, message by message, and each `return` of the checks.
-- Assumes nothing.
use Rattle.std.proofs.Common.{◌≡◌, ℕ, ◌+◌, ◌-◌, ◌*◌, ◌<◌, ◌≤◌, Bool, true, false, cond, eqb, ltb, List, ◌∷◌, map, take, drop, sym, refl, ap, ◌∙◌, arith, le-ltb, lt-ltb, eq-eqb}
use Rattle.block.specs.Block.{block_longest, offset_at}
use Rattle.venuequote.specs.Quote.{converted_length}
use Rattle.venue.specs.Venue.{venue_first, venue_count, next_at, venue_number}
use Rattle.venuerun.specs.declared.Fill.{Fill}
use Rattle.venuerun.specs.Run.{with_one, fill_into, filled, needed_of, needed_told, convert_number}
use Rattle.venuerun.specs.code.Walk.{stands, lengths_from, filled_with}
use Rattle.venuerun.proofs.PackLaws.{fill_start, fill-again, fill-fits}
use Rattle.venuerun.proofs.StandLaws.{Ready, ready-is, ready-fits, ready-here, there, lengths-next, messages-none}

-- the block that is being filled, at message i of c, which stands at p
pub record Needing (b : List ℕ) (c : ℕ) (f : Fill) (p i : ℕ) : Type 0 where
  pub low : i ≤ c
  pub stand : stands b p (c - i) ≡ true
  pub used : f.used ≤ block_longest
  pub closed : f.closed ≤ 1000 * i
  pub going : f.closed + fill_into f.used (lengths_from b p (c - i)) ≡ needed_of b

pub needed-start : (b : List ℕ) (c : ℕ) → venue_number b ≡ 0 → c ≡ venue_count b → Needing b c (record { used = offset_at 0; closed = 0 }) venue_first 0
unfolding needed_of
needed-start b c z e =
    record {
      low = omega arith;
      stand = s;
      used = omega arith;
      closed = omega arith;
      going = first (c - 0) (omega (arith, e, r.sound.some)) s ∙ ap (λ (k : ℕ). filled (lengths_from b venue_first k)) (n ∙ e) ∙ whole;
    }
  where
    r : Ready b
    r = ready-is b z

    n : c - 0 ≡ c
    n = omega arith

    s : stands b venue_first (c - 0) ≡ true
    s = ap (stands b venue_first) (n ∙ e) ∙ r.stand

    whole : filled (lengths_from b venue_first (venue_count b)) ≡ needed_of b
    whole = refl

    first : (k : ℕ) → 0 < k → stands b venue_first k ≡ true → 0 + fill_into (offset_at 0) (lengths_from b venue_first k) ≡ filled (lengths_from b venue_first k)
    first k h t =
        let o : k - 0 ≡ k = omega arith in
        let u : stands b venue_first (k - 0) ≡ true = ap (stands b venue_first) o ∙ t in
        let m : List ℕ = take (next_at b venue_first - venue_first) (drop venue_first b) in
        let l : lengths_from b venue_first k ≡ converted_length m ∷ lengths_from b (next_at b venue_first) (k - (0 + 1)) =
        ap (lengths_from b venue_first) (sym o) ∙ lengths-next b k 0 venue_first h u (next_at b venue_first) refl (converted_length m) refl in
        rw l (fill_start (converted_length m) (lengths_from b (next_at b venue_first) (k - (0 + 1))) (omega (arith, (ready-fits m (ready-here b k 0 venue_first h u (next_at b venue_first) refl)).1)))

module _ (b : List ℕ) (c : ℕ) (f : Fill) (p i : ℕ) (g : Needing b c f p i) where
  module _ (h : i < c) (e n : ℕ) (q : e ≡ next_at b p) (en : n ≡ converted_length (take (e - p) (drop p b))) where
    fits : with_one (offset_at 0) n ≤ block_longest
    fits = omega (arith, en, (ready-fits (take (e - p) (drop p b)) (ready-here b c i p h g.stand e q)).1)

    pub needed-with : c < 256 → (f.used ≤ block_longest) × ((f.closed ≤ 1000000) × (n ≤ block_longest))
    needed-with k = (g.used, (omega (arith, g.closed), omega (arith, fits)))

    pub needed-again : (w : Fill) → w ≡ filled_with f n → Needing b c w e (i + 1)
    needed-again w ew =
        let k = fill-fits f w n fits g.used ew in
        record {
          low = omega arith;
          stand = there b c i p h g.stand e q;
          used = k.0;
          closed = omega (arith, k.1, g.closed);
          going = fill-again f w n (needed_of b) (lengths_from b e (c - (i + 1))) (ap (λ (l : List ℕ). f.closed + fill_into f.used l) (sym (lengths-next b c i p h g.stand e q n en)) ∙ g.going) ew;
        }

  pub needed-end : c ≤ i → f.closed + f.used ≡ needed_of b
  unfolding fill_into
  needed-end h = sym (ap (λ (l : List (List ℕ)). f.closed + fill_into f.used (map converted_length l)) (messages-none b c i p h)) ∙ g.going

-- ---- 78, 79

pub told-refused : (b : List ℕ) (n : ℕ) → n ≡ venue_number b → eqb n 0 ≡ false → 0 ≡ needed_told b
unfolding needed_told
told-refused b n e h = rw (← e, h)

pub told-done : (b : List ℕ) (l : ℕ) → 0 ≡ venue_number b → l ≡ needed_of b → l ≡ needed_told b
unfolding needed_told
told-done b l e q = rw (← e) q

-- ---- 80

module _ (b : List ℕ) (room n l : ℕ) (en : n ≡ venue_number b) (el : l ≡ needed_told b) where
  abbrev Judged : ℕ → ℕ → Type 0
  Judged k m = (k ≡ convert_number b room) × (m ≡ cond (eqb (convert_number b room) 0) (needed_of b) 0)

  number-refused : eqb n 0 ≡ false → convert_number b room ≡ n
  unfolding convert_number
  number-refused h = rw (← en, h)

  needed-is : n ≡ 0 → l ≡ needed_of b
  unfolding needed_told
  needed-is h = el ∙ rw (← en, eq-eqb n 0 h)

  number-good : n ≡ 0 → (t : Bool) → ltb room l ≡ t → convert_number b room ≡ cond t 80 0
  unfolding convert_number
  number-good h t q = rw (← en, eq-eqb n 0 h, ← needed-is h, q)

  pub judge-refused : eqb n 0 ≡ false → Judged n 0
  judge-refused h = (sym (number-refused h), rw (number-refused h, h))

  pub judge-short : n ≡ 0 → room < l → Judged 80 0
  judge-short h s =
      let k : convert_number b room ≡ 80 = number-good h true (lt-ltb room l s) in
      (sym k, rw k)

  pub judge-done : n ≡ 0 → l ≤ room → Judged n l
  judge-done h s =
      let k : convert_number b room ≡ 0 = number-good h false (le-ltb room l s) in
      (h ∙ sym k, rw k (needed-is h))
