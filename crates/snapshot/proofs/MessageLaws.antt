-- Each message, written and read: its length, its symbol and what it carries.
-- Assumes nothing.
use Prim.Native.Nat.{ℕ, zero, suc, ◌+◌, ◌^◌, ◌≤◌, ◌<◌}
use mathlib.Core.Path.{◌≡◌, refl, sym, ap, ◌∙◌, subst}
use mathlib.Core.Bool.{Bool, true, false}
use mathlib.Core.List.{List, [], ◌∷◌, ◌++◌}
use native.Mathlib.Omega.{arith}
use lib.ListN.{length, drop}
use Rattle.field.specs.Field.{be, part, field, be_bytes}
use Rattle.field.proofs.Laws.{be-be_bytes}
use Rattle.lists.specs.Lists.{at}
use Rattle.text.specs.Form.{symbol_length}
use Rattle.entries.specs.Publication.{entry_length}
use Rattle.snapshot.specs.Snapshot.{Priced, Shown, BothEntries, Snapshot}
use Rattle.snapshot.specs.Feed.{opened, national_side, consolidated, priced_bytes, participant, finra_side, finra_message, consolidated_length, participant_length, finra_length}
use Rattle.snapshot.specs.Receiver.{message_header, symbol_in, is_consolidated, is_participant, is_finra, national_in, finra_in, shown_in, carried_both}

-- ---- a list of n elements, element by element

abbrev spread : ℕ → List ℕ → List ℕ
spread zero l = []
spread (suc n) l = at l 0 ∷ spread n (drop 1 l)

spread-is : (n : ℕ) (l : List ℕ) → length l ≡ n → spread n l ≡ l
spread-is zero [] e = refl
spread-is zero (x ∷ l) e = absurd (omega arith)
spread-is (suc n) [] e = absurd (omega arith)
spread-is (suc n) (x ∷ l) e = ap (λ (k : List ℕ). x ∷ k) (spread-is n l (omega arith))

-- ---- what a message is of

-- a message begins with its length
pub record Laid (m : List ℕ) : Type 0 where
  pub told : field m 0 2 ≡ length m
  pub long : message_header ≤ length m

-- a message with this symbol, of one of the three types
pub record Typed (s m : List ℕ) (c p f : Bool) : Type 0 where
  pub symbol : symbol_in m ≡ s
  pub is_c : is_consolidated m ≡ c
  pub is_p : is_participant m ≡ p
  pub is_f : is_finra m ≡ f

-- two entries of a publication
pub record Sized (e : BothEntries) : Type 0 where
  pub bid : length e.bid ≡ entry_length
  pub offer : length e.offer ≡ entry_length

pub record PricedFits (p : Priced) : Type 0 where
  pub price : p.price < 256 ^ 8
  pub size : p.size < 256 ^ 4

pub record ShownFits (v : Shown) : Type 0 where
  pub bid : PricedFits v.bid
  pub offer : PricedFits v.offer

-- ---- Consolidated

module _ (s : List ℕ) (e : BothEntries) (n : length s ≡ symbol_length) (z : Sized e) where
  abbrev whole : (List ℕ → BothEntries → Type 0) → Type 0
  whole Q = Q (spread 11 s) (record { bid = spread 16 e.bid; offer = spread 16 e.offer }) → Q s e

  by-spread : (Q : List ℕ → BothEntries → Type 0) → whole Q
  by-spread Q q =
      subst (λ (l : List ℕ). Q l e) (spread-is 11 s n)
      (subst (λ (l : List ℕ). Q (spread 11 s) (record { bid = l; offer = e.offer })) (spread-is 16 e.bid z.bid)
      (subst (λ (l : List ℕ). Q (spread 11 s) (record { bid = spread 16 e.bid; offer = l })) (spread-is 16 e.offer z.offer) q))

  pub length-consolidated : length (consolidated s e) ≡ consolidated_length
  unfolding consolidated opened national_side part be_bytes
  length-consolidated = by-spread (λ l d. length (consolidated l d) ≡ consolidated_length) refl

  pub laid-consolidated : Laid (consolidated s e)
  unfolding consolidated opened national_side part be_bytes field be
  laid-consolidated = by-spread (λ l d. Laid (consolidated l d)) (record { told = refl; long = omega arith })

  pub typed-consolidated : Typed s (consolidated s e) true false false
  unfolding consolidated opened national_side part be_bytes
  typed-consolidated = by-spread (λ l d. Typed l (consolidated l d) true false false) (record { symbol = refl; is_c = refl; is_p = refl; is_f = refl })

  pub national-back : national_in (consolidated s e) ≡ carried_both e
  unfolding consolidated opened national_side part be_bytes
  national-back = by-spread (λ l d. national_in (consolidated l d) ≡ carried_both d) refl

  -- ---- FINRA

  pub length-finra : length (finra_message s e) ≡ finra_length
  unfolding finra_message opened finra_side part be_bytes
  length-finra = by-spread (λ l d. length (finra_message l d) ≡ finra_length) refl

  pub laid-finra : Laid (finra_message s e)
  unfolding finra_message opened finra_side part be_bytes field be
  laid-finra = by-spread (λ l d. Laid (finra_message l d)) (record { told = refl; long = omega arith })

  pub typed-finra : Typed s (finra_message s e) false false true
  unfolding finra_message opened finra_side part be_bytes
  typed-finra = by-spread (λ l d. Typed l (finra_message l d) false false true) (record { symbol = refl; is_c = refl; is_p = refl; is_f = refl })

  pub finra-back : finra_in (finra_message s e) ≡ e
  unfolding finra_message opened finra_side part be_bytes
  finra-back = by-spread (λ l d. finra_in (finra_message l d) ≡ d) refl

-- ---- Participant

module _ (s : List ℕ) (v : Shown) (n : length s ≡ symbol_length) where
  shown-spread : (Q : List ℕ → Type 0) → Q (spread 11 s) → Q s
  shown-spread Q q = subst Q (spread-is 11 s n) q

  pub length-participant : length (participant s v) ≡ participant_length
  unfolding participant opened priced_bytes be_bytes
  length-participant = shown-spread (λ l. length (participant l v) ≡ participant_length) refl

  pub laid-participant : Laid (participant s v)
  unfolding participant opened priced_bytes be_bytes field part be
  laid-participant = shown-spread (λ l. Laid (participant l v)) (record { told = refl; long = omega arith })

  pub typed-participant : Typed s (participant s v) false true false
  unfolding participant opened priced_bytes be_bytes part
  typed-participant = shown-spread (λ l. Typed l (participant l v) false true false) (record { symbol = refl; is_c = refl; is_p = refl; is_f = refl })

  pub letter-back : at (participant s v) 4 ≡ v.letter
  unfolding participant opened priced_bytes be_bytes
  letter-back = shown-spread (λ l. at (participant l v) 4 ≡ v.letter) refl

  pub shown-back : ShownFits v → shown_in (participant s v) ≡ v
  unfolding participant opened priced_bytes be_bytes field part be
  shown-back f = shown-spread (λ l. shown_in (participant l v) ≡ v)
      (λ i. record {
        letter = v.letter;
        condition = v.condition;
        bid = record { price = be-be_bytes 8 v.bid.price f.bid.price i; size = be-be_bytes 4 v.bid.size f.bid.size i };
        offer = record { price = be-be_bytes 8 v.offer.price f.offer.price i; size = be-be_bytes 4 v.offer.size f.offer.size i };
      })
