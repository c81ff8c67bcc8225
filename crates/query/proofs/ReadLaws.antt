-- What a read answers, for each `return` of the code.
-- Assumes nothing.
use Prim.Native.Nat.{ℕ, ◌+◌, ◌-◌, ◌<◌, ◌≤◌}
use mathlib.Core.Path.{◌≡◌, refl, sym, ap, ◌∙◌}
use mathlib.Core.Bool.{Bool, true, false, ◌&&◌, cond}
use mathlib.Core.List.{List, []}
use native.Mathlib.Omega.{arith}
use lib.Dec.{ltb}
use lib.ListN.{length, take, drop}
use borrow.Author.Tests.{lt-ltb, le-ltb}
use Rattle.field.specs.Field.{be, part, splice}
use Rattle.field.proofs.Laws.{length_part, part-part}
use Rattle.std.specs.Prelude.{Some, Option, Ok}
use Rattle.text.specs.Form.{symbol_good}
use Rattle.update.proofs.SearchLaws.{is_at}
use Rattle.opening.specs.Opening.{sound, rest_in, page_at, pages_in, page_place, reading_at}
use Rattle.line.specs.Line.{done}
use Rattle.line.proofs.GateLaws.{never-done}
use Rattle.numbers.specs.declared.Refusal.{Refusal}
use Rattle.numbers.specs.Numbers.{answered, number_of as refusal_number}
use Rattle.calls.specs.code.Known.{found_of}
use Rattle.calls.proofs.KnownLaws.{Placed, listed-number, listed_passed, placed-room}
use Rattle.calls.specs.Call.{Call, read, number_of, bare, published, answer_of, published_on, number_on, answer_on, call}
use Rattle.work.specs.Work.{listed_of}
use Rattle.calls.specs.Buffers.{read_out}
use Rattle.work.proofs.PlaceLaws.{listed_at}
use Rattle.entries.specs.Publication.{publication_length}
use Rattle.page.specs.Layout.{entries_at, page_length}
use Rattle.opening.specs.Layout.{page_start, symbols_most}
use Rattle.update.specs.Parts.{reading_of}
use Rattle.calls.specs.Call.{entries_in}
use Rattle.page.specs.Layout.{kept_entries}

pub splice-none : (p : List ℕ) → splice p 0 [] ≡ p
unfolding splice
splice-none p = refl

-- a listed page lies in the book
pub listed-room : (b x : List ℕ) (k : ℕ) → sound b ≡ true → Ok k ≡ found_of b x → (page_start k + page_length ≤ length b) × (k < symbols_most)
listed-room b x k s e = placed-room b x k (listed_passed b x s k e)

-- the bytes that are lent, and their room
pub lent-part : (b : List ℕ) (a w : ℕ) → take (a + w - a) (drop a b) ≡ part b a w
unfolding part
lent-part b a w = let n : a + w - a ≡ w = omega arith in rw n

pub lent-room : (b p : List ℕ) (a : ℕ) → a + publication_length ≤ length b → publication_length ≤ length p → 0 + length (take (a + publication_length - a) (drop a b)) ≤ length p
lent-room b p a h r =
    let l : length (take (a + publication_length - a) (drop a b)) ≡ publication_length = ap length (lent-part b a publication_length) ∙ length_part b a publication_length h in
    omega (arith, l, r)

module _ (b : List ℕ) where
  -- a read copies 96 bytes of the page
  pub published-at : (s k : ℕ) → page_place b s ≡ Some k → published_on b s ≡ kept_entries (page_at b k)
  unfolding reading_of
  published-at s k e = ap (λ (f : Option ℕ). entries_in (reading_at b f)) e

  module _ (x : List ℕ) (room : ℕ) where
    read_number : sound b ≡ true → number_on b (read x room) ≡ cond (ltb room publication_length) 9 (cond (symbol_good x && is_at (page_place b (be x))) 0 10)
    unfolding number_on number_of
    read_number s = rw (s, listed_at b (be x))

    pub read_short : sound b ≡ true → room < publication_length → 9 ≡ number_on b (read x room)
    read_short s h = sym (read_number s ∙ rw (lt-ltb room publication_length h))

    module _ (s : sound b ≡ true) (h : publication_length ≤ room) where
      pub read-listed : answered (found_of b x) ≡ number_on b (read x room)
      read-listed = listed-number b x ∙ sym (read_number s ∙ rw (le-ltb room publication_length h))

  module _ (x p : List ℕ) where
    abbrev asked : Call
    asked = read x (length p)

    read_answer : answer_on b asked ≡ published (number_on b asked) (published_on b (be x))
    unfolding number_on answer_of done
    read_answer = go (sound b) (number_of (rest_in b) (listed_of (pages_in b)) asked)
      where
        go : (t : Bool) (n : ℕ) → cond t (published (cond t n 1) (published_on b (be x))) (bare 1) ≡ published (cond t n 1) (published_on b (be x))
        go true n = refl
        go false n = refl

    read-out : (n : ℕ) → n ≡ number_on b asked → read_out b x p ≡ record { number = n; publication = splice p 0 (cond (done n) (published_on b (be x)) []) }
    unfolding read_out call
    read-out n e = rw (read_answer, ← e)

    -- a refused read fills no byte
    pub read-refused : (r : Refusal) → refusal_number r ≡ number_on b asked → record { number = refusal_number r; publication = p } ≡ read_out b x p
    read-refused r e = sym (read-out (refusal_number r) e ∙ rw (never-done r, splice-none p))

    pub read_done : (p' : List ℕ) (k : ℕ) → sound b ≡ true → publication_length ≤ length p → Ok k ≡ found_of b x → p' ≡ splice p 0 (part b (page_start k + entries_at) publication_length)
        → record { number = 0; publication = p' } ≡ read_out b x p
    unfolding done page_at
    read_done p' k s h e pe =
        let z : Placed b x k = listed_passed b x s k e in
        let q : published_on b (be x) ≡ part b (page_start k + entries_at) publication_length =
        published-at (be x) k z.place ∙ part-part b (page_start k) page_length entries_at publication_length (omega arith) in
        sym (read-out 0 (ap answered e ∙ read-listed x (length p) s h) ∙ rw (q, pe))
