-- Bytes written one after another, over plain values.
-- Assumes nothing.
use Prim.Native.Nat.{ℕ, ◌+◌, ◌*◌, ◌-◌, ◌≤◌, ◌<◌}
use mathlib.Core.Path.{◌≡◌, refl, sym, ap, ◌∙◌}
use mathlib.Core.List.{List, [], ◌∷◌, ◌++◌}
use native.Mathlib.Omega.{arith}
use lib.ListN.{length, replicate, set, length-append}
use Rattle.field.specs.Field.{part, splice, be_bytes}
use Rattle.field.proofs.Laws.{splice-one, splice-join, splice-part, be_bytes-one, length-be_bytes, length_part}
use Rattle.lists.proofs.Searches.{less_one}
use Rattle.text.specs.Form.{symbol_length}
use Rattle.quote.specs.declared.Level.{Level}
use Rattle.quote.specs.declared.Quote.{Quote}
use Rattle.entries.specs.Publication.{entry_length}
use Rattle.snapshot.specs.Snapshot.{Priced, Shown, BothEntries, priced_of, shown_of, both_in}
use Rattle.snapshot.specs.Feed.{spaces, zeros, opened, national_side, consolidated, priced_bytes, participant, finra_side, finra_message, feed_front, opened_length, national_length, priced_length, finra_side_length, consolidated_length, participant_length, finra_length}

-- ---- one piece behind the other

-- n bytes x written from at on
pub record Written (b : List ℕ) (at n : ℕ) (x b' : List ℕ) : Type 0 where
  pub long : length x ≡ n
  pub is : b' ≡ splice b at x

pub begin : (b : List ℕ) (at n : ℕ) (x b' : List ℕ) → length x ≡ n → b' ≡ splice b at x → Written b at n x b'
begin b at n x b' l e = record { long = l; is = e }

pub behind : {b : List ℕ} {at n : ℕ} {x b' : List ℕ} → Written b at n x b' → (m k : ℕ) (z b'' : List ℕ) → length z ≡ m → n + m ≡ k → b'' ≡ splice b' (at + n) z → Written b at k (x ++ z) b''
behind {b} {at} {n} {x} {b'} r m k z b'' l s e =
    record {
      long = length-append x z ∙ omega (arith, r.long, l);
      is = e ∙ ap (λ (c : List ℕ). splice c (at + n) z) r.is ∙ splice-join b at n x z r.long;
    }

-- ---- the messages

module _ (b : List ℕ) (at : ℕ) where
  pub opened-is : (n t p : ℕ) (s b1 b2 b3 b4 b5 : List ℕ) → t < 256 → p < 256 → length s ≡ symbol_length
      → b1 ≡ splice b at (be_bytes 2 n) → b2 ≡ splice b1 (at + 2) (be_bytes 1 82) → b3 ≡ splice b2 (at + 3) (be_bytes 1 t) → b4 ≡ splice b3 (at + 4) (be_bytes 1 p) → b5 ≡ splice b4 (at + 5) s
      → b5 ≡ splice b at (opened n t p s)
  unfolding opened be_bytes
  opened-is n t p s b1 b2 b3 b4 b5 ft fp l e1 e2 e3 e4 e5 =
      let r1 = begin b at 2 (be_bytes 2 n) b1 refl e1 in
      let r2 = behind r1 1 3 (82 ∷ []) b2 refl refl e2 in
      let r3 = behind r2 1 4 (t ∷ []) b3 refl refl (e3 ∙ ap (splice b2 (at + 3)) (be_bytes-one t ft)) in
      let r4 = behind r3 1 5 (p ∷ []) b4 refl refl (e4 ∙ ap (splice b3 (at + 4)) (be_bytes-one p fp)) in
      (behind r4 symbol_length opened_length s b5 l refl e5).is

  length-opened : (n t p : ℕ) (s : List ℕ) → length s ≡ symbol_length → length (opened n t p s) ≡ opened_length
  unfolding opened be_bytes
  length-opened n t p s l = omega (arith, l)

  pub national-is : (e b1 b2 b3 : List ℕ) → length e ≡ entry_length → b1 ≡ splice b at (part e 0 2) → b2 ≡ splice b1 (at + 2) (part e 4 12) → b3 ≡ splice b2 (at + 14) (spaces 4)
      → b3 ≡ splice b at (national_side e)
  unfolding national_side
  national-is e b1 b2 b3 l e1 e2 e3 =
      let r1 = begin b at 2 (part e 0 2) b1 (length_part e 0 2 (omega arith)) e1 in
      let r2 = behind r1 12 14 (part e 4 12) b2 (length_part e 4 12 (omega arith)) refl e2 in
      (behind r2 4 18 (spaces 4) b3 refl refl e3).is

  length-national : (e : List ℕ) → length e ≡ entry_length → length (national_side e) ≡ national_length
  unfolding national_side
  length-national e l =
      length-append (part e 0 2 ++ part e 4 12) (spaces 4) ∙ omega (arith, length-append (part e 0 2) (part e 4 12), length_part e 0 2 (omega arith), length_part e 4 12 (omega arith))

  pub consolidated-is : (s e b1 b2 b3 b4 b5 b6 : List ℕ) → length s ≡ symbol_length → length e ≡ 2 * entry_length
      → b1 ≡ splice b at (opened consolidated_length 67 83 s) → b2 ≡ splice b1 (at + 16) (spaces 1) → b3 ≡ splice b2 (at + 17) (zeros 41)
      → b4 ≡ splice b3 (at + 58) (national_side (part e 0 16)) → b5 ≡ splice b4 (at + 76) (national_side (part e 16 16)) → b6 ≡ splice b5 (at + 94) (spaces 8)
      → b6 ≡ splice b at (consolidated s (both_in e))
  unfolding consolidated
  consolidated-is s e b1 b2 b3 b4 b5 b6 l m e1 e2 e3 e4 e5 e6 =
      let r1 = begin b at 16 (opened consolidated_length 67 83 s) b1 (length-opened consolidated_length 67 83 s l) e1 in
      let r2 = behind r1 1 17 (spaces 1) b2 refl refl e2 in
      let r3 = behind r2 41 58 (zeros 41) b3 refl refl e3 in
      let r4 = behind r3 18 76 (national_side (part e 0 16)) b4 (length-national (part e 0 16) (length_part e 0 16 (omega arith))) refl e4 in
      let r5 = behind r4 18 94 (national_side (part e 16 16)) b5 (length-national (part e 16 16) (length_part e 16 16 (omega arith))) refl e5 in
      (behind r5 8 102 (spaces 8) b6 refl refl e6).is

  pub priced-is : (l : Level) (b1 b2 : List ℕ) → b1 ≡ splice b at (be_bytes 8 l.price) → b2 ≡ splice b1 (at + 8) (be_bytes 4 l.size) → b2 ≡ splice b at (priced_bytes (priced_of l))
  unfolding priced_bytes
  priced-is l b1 b2 e1 e2 = (behind (begin b at 8 (be_bytes 8 l.price) b1 (length-be_bytes 8 l.price) e1) 4 12 (be_bytes 4 l.size) b2 (length-be_bytes 4 l.size) refl e2).is

  length-priced : (p : Priced) → length (priced_bytes p) ≡ priced_length
  unfolding priced_bytes
  length-priced p = length-append (be_bytes 8 p.price) (be_bytes 4 p.size) ∙ omega (arith, length-be_bytes 8 p.price, length-be_bytes 4 p.size)

  pub participant-is : (l : ℕ) (q : Quote) (s b1 b2 b3 b4 b5 b6 b7 : List ℕ) → q.condition < 256 → length s ≡ symbol_length
      → b1 ≡ splice b at (opened participant_length 80 l s) → b2 ≡ splice b1 (at + 16) (be_bytes 1 q.condition) → b3 ≡ splice b2 (at + 17) (priced_bytes (priced_of q.bid))
      → b4 ≡ splice b3 (at + 29) (priced_bytes (priced_of q.offer)) → b5 ≡ splice b4 (at + 41) (spaces 4) → b6 ≡ splice b5 (at + 45) (zeros 16) → b7 ≡ splice b6 (at + 61) (spaces 1)
      → b7 ≡ splice b at (participant s (shown_of l q))
  unfolding participant
  participant-is l q s b1 b2 b3 b4 b5 b6 b7 f m e1 e2 e3 e4 e5 e6 e7 =
      let r1 = begin b at 16 (opened participant_length 80 l s) b1 (length-opened participant_length 80 l s m) e1 in
      let r2 = behind r1 1 17 (q.condition ∷ []) b2 refl refl (e2 ∙ ap (splice b1 (at + 16)) (be_bytes-one q.condition f)) in
      let r3 = behind r2 12 29 (priced_bytes (priced_of q.bid)) b3 (length-priced (priced_of q.bid)) refl e3 in
      let r4 = behind r3 12 41 (priced_bytes (priced_of q.offer)) b4 (length-priced (priced_of q.offer)) refl e4 in
      let r5 = behind r4 4 45 (spaces 4) b5 refl refl e5 in
      let r6 = behind r5 16 61 (zeros 16) b6 refl refl e6 in
      (behind r6 1 62 (spaces 1) b7 refl refl e7).is

  pub finra-side-is : (e b1 b2 b3 : List ℕ) → length e ≡ entry_length → b1 ≡ splice b at (spaces 1) → b2 ≡ splice b1 (at + 1) (part e 4 12) → b3 ≡ splice b2 (at + 13) (part e 0 4)
      → b3 ≡ splice b at (finra_side e)
  unfolding finra_side
  finra-side-is e b1 b2 b3 l e1 e2 e3 =
      let r1 = begin b at 1 (spaces 1) b1 refl e1 in
      let r2 = behind r1 12 13 (part e 4 12) b2 (length_part e 4 12 (omega arith)) refl e2 in
      (behind r2 4 17 (part e 0 4) b3 (length_part e 0 4 (omega arith)) refl e3).is

  length-finra-side : (e : List ℕ) → length e ≡ entry_length → length (finra_side e) ≡ finra_side_length
  unfolding finra_side
  length-finra-side e l =
      length-append (spaces 1 ++ part e 4 12) (part e 0 4) ∙ omega (arith, length_part e 0 4 (omega arith), length_part e 4 12 (omega arith))

  pub finra-is : (s e b1 b2 b3 b4 b5 b6 : List ℕ) → length s ≡ symbol_length → length e ≡ 2 * entry_length
      → b1 ≡ splice b at (opened finra_length 70 68 s) → b2 ≡ splice b1 (at + 16) (finra_side (part e 0 16)) → b3 ≡ splice b2 (at + 33) (finra_side (part e 16 16))
      → b4 ≡ splice b3 (at + 50) (spaces 1) → b5 ≡ splice b4 (at + 51) (zeros 16) → b6 ≡ splice b5 (at + 67) (spaces 1)
      → b6 ≡ splice b at (finra_message s (both_in e))
  unfolding finra_message
  finra-is s e b1 b2 b3 b4 b5 b6 l m e1 e2 e3 e4 e5 e6 =
      let r1 = begin b at 16 (opened finra_length 70 68 s) b1 (length-opened finra_length 70 68 s l) e1 in
      let r2 = behind r1 17 33 (finra_side (part e 0 16)) b2 (length-finra-side (part e 0 16) (length_part e 0 16 (omega arith))) refl e2 in
      let r3 = behind r2 17 50 (finra_side (part e 16 16)) b3 (length-finra-side (part e 16 16) (length_part e 16 16 (omega arith))) refl e3 in
      let r4 = behind r3 1 51 (spaces 1) b4 refl refl e4 in
      let r5 = behind r4 16 67 (zeros 16) b5 refl refl e5 in
      (behind r5 1 68 (spaces 1) b6 refl refl e6).is

  pub front-is : (n q c f : ℕ) (b1 b2 b3 b4 b5 b6 : List ℕ) → c < 256 → f < 256 → b1 ≡ splice b at (be_bytes 1 11) → b2 ≡ splice b1 (at + 1) (be_bytes 2 n) → b3 ≡ splice b2 (at + 3) (be_bytes 4 q)
      → b4 ≡ splice b3 (at + 7) (be_bytes 1 c) → b5 ≡ splice b4 (at + 8) (be_bytes 1 f) → b6 ≡ splice b5 (at + 9) (zeros 15)
      → b6 ≡ splice b at (feed_front n q c f 0)
  unfolding feed_front be_bytes
  front-is n q c f b1 b2 b3 b4 b5 b6 fc ff e1 e2 e3 e4 e5 e6 =
      let r1 = begin b at 1 (11 ∷ []) b1 refl e1 in
      let r2 = behind r1 2 3 (be_bytes 2 n) b2 refl refl e2 in
      let r3 = behind r2 4 7 (be_bytes 4 q) b3 refl refl e3 in
      let r4 = behind r3 1 8 (c ∷ []) b4 refl refl (e4 ∙ ap (splice b3 (at + 7)) (be_bytes-one c fc)) in
      let r5 = behind r4 1 9 (f ∷ []) b5 refl refl (e5 ∙ ap (splice b4 (at + 8)) (be_bytes-one f ff)) in
      (behind r5 15 24 (zeros 15) b6 refl refl e6).is
