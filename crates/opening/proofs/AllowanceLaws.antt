-- The allowance's bytes written: what a write there leaves of the opening. The pages stay.
-- Assumes nothing.
use Rattle.std.proofs.Common.{◌≡◌, ℕ, ◌+◌, ◌≤◌, eqb, List, length, ap, ◌∙◌, arith}
use borrow.Rule.Slice.PartMut.{put_mid}
use Rattle.field.specs.Field.{Bytes, be, part, field, splice}
use Rattle.field.proofs.Laws.{length_part, length-splice, bytes-splice, part-before, part-put, lent_back}
use Rattle.allowance.specs.Allowance.{allowance_length, allowance_in}
use Rattle.opening.specs.Opening.{symbols_of, lines_in, allowance_on, on_allowance, rest_in, page_at, pages_in}
use Rattle.opening.proofs.OpeningLaws.{Sound, Front, sound-by, count_by, lines-by, pages-by, opening-page}
use Rattle.opening.specs.Layout.{n_at, day_at, line_length, line_at, allowance_at, opening_length}

pub length-allowance : (b : List ℕ) → opening_length ≤ length b → length (part b allowance_at allowance_length) ≡ allowance_length
length-allowance b h = length_part b allowance_at allowance_length (omega arith)

module _ (n : ℕ) (b : List ℕ) (sd : Sound n b) (r : List ℕ) (w : length r ≡ allowance_length) where
  abbrev pub allowed : List ℕ
  allowed = splice b allowance_at r

  room : allowance_at + allowance_length ≤ length b
  room = omega (arith, sd.size)

  allowed-head : Front b allowed allowance_at
  allowed-head at m h = part-before b allowance_at r at m (omega (arith, room)) h

  pub allowed-sound : Sound n allowed
  allowed-sound = sound-by b allowed n sd (length-splice b allowance_at r (omega (arith, w, room))) (λ at m h. allowed-head at m (omega arith))

  pub allowed-bytes : Bytes b → Bytes r → Bytes allowed
  allowed-bytes y z = bytes-splice b allowance_at r y z

  pub allowed-page : (k : ℕ) → page_at allowed k ≡ page_at b k
  allowed-page k = opening-page b allowance_at r (omega (arith, w)) k

  pub allowed-pages : pages_in allowed ≡ pages_in b
  allowed-pages = pages-by b allowed (count_by b allowed (λ at m h. allowed-head at m (omega arith))) (λ k h. allowed-page k)

  allowed-is : allowance_on allowed ≡ allowance_in r
  unfolding allowance_on
  allowed-is = ap allowance_in (part-put b allowance_at r allowance_length w (omega (arith, room)))

  pub allowed-rest : rest_in allowed ≡ record { n = (rest_in b).n; lines = (rest_in b).lines; day = (rest_in b).day; allowance = allowance_in r }
  unfolding rest_in symbols_of field
  allowed-rest =
      let s : be (part allowed n_at 1) ≡ be (part b n_at 1) = ap be (allowed-head n_at 1 (omega arith)) in
      let d : eqb (be (part allowed day_at 1)) 1 ≡ eqb (be (part b day_at 1)) 1 = ap (λ (l : List ℕ). eqb (be l) 1) (allowed-head day_at 1 (omega arith)) in
      let l : lines_in allowed ≡ lines_in b = lines-by b allowed (λ i h. allowed-head (line_at i) line_length (omega arith)) in
      λ k. record { n = s k; lines = l k; day = d k; allowance = allowed-is k }

-- ---- the code's way: the allowance's part lent

pub lent-allowance : (b : List ℕ) (g : List ℕ → List ℕ) (last : List ℕ) → opening_length ≤ length b → length last ≡ allowance_length
    → last ≡ g (part b allowance_at allowance_length) → put_mid allowance_at allowance_length b last ≡ on_allowance g b
unfolding on_allowance
lent-allowance b g last h w e = lent_back allowance_at allowance_length b last w ∙ ap (splice b allowance_at) e
