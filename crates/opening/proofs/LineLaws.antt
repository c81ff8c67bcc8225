-- Lines and the day: what each write in the opening leaves. The pages stay.
-- Assumes nothing.
use Rattle.std.proofs.Common.{◌≡◌, ℕ, ◌+◌, ◌*◌, ◌^◌, ◌<◌, ◌≤◌, Bool, true, false, cond, not, eqb, ltb, List, ◌++◌, length, sym, refl, ap, ◌∙◌, arith, ltb-true, lt-ltb}
use mathlib.Core.Path.{fun_ext}
use Rattle.std.specs.Prelude.{Option, None, Some}
use Rattle.field.specs.Field.{Bytes, be, part, field, splice, be_bytes}
use Rattle.field.proofs.Laws.{be-be_bytes, bytes-be_bytes, bytes-append, bytes-splice, length-splice, part-before, part-behind}
use Rattle.lists.specs.Lists.{upper}
use Rattle.lists.proofs.Tests.{clash, and-true, Cut, equal, apart, cut, upper-low}
use Rattle.text.specs.Form.{letter_good}
use Rattle.update.proofs.TableLaws.{cell_same, cell_other}
use Rattle.opening.specs.declared.Line.{Line}
use Rattle.opening.specs.Opening.{symbols_of, line_in, line_bytes, lines_in, allowance_on, rest_in, page_at, pages_in}
use Rattle.opening.proofs.OpeningLaws.{Sound, Front, sound-by, count_by, allowance-by, pages-by, opening-page}
use Rattle.allowance.specs.Allowance.{allowance_length}
use Rattle.opening.specs.Layout.{lines_at, line_length, line_count, n_at, day_at, allowance_at, line_at}

-- ---- a line's record

-- its letter is one, and its numbers fit
pub record LineFits (x : Line) : Type 0 where
  pub good : letter_good x.letter ≡ true
  pub expected : x.expected < 256 ^ 4
  pub count : x.count < 256 ^ 8

pub line-upper : (x : Line) → letter_good x.letter ≡ true → upper x.letter ≡ true
line-upper x g = (and-true (upper x.letter) (not (eqb x.letter 83)) g).0

pub length-line : (x : Line) → length (line_bytes x) ≡ line_length
unfolding line_bytes be_bytes
length-line x = refl

pub bytes-line : (x : Line) → Bytes (line_bytes x)
unfolding line_bytes
bytes-line x =
    bytes-append (be_bytes 1 x.letter ++ be_bytes 4 x.expected) (be_bytes 8 x.count)
    (bytes-append (be_bytes 1 x.letter) (be_bytes 4 x.expected) (bytes-be_bytes 1 x.letter) (bytes-be_bytes 4 x.expected)) (bytes-be_bytes 8 x.count)

pub line-back : (x : Line) → LineFits x → line_in (line_bytes x) ≡ Some x
unfolding line_in line_bytes be_bytes field part
line-back x f =
    let a : be (be_bytes 1 x.letter) ≡ x.letter = be-be_bytes 1 x.letter (omega (arith, (upper-low x.letter (line-upper x f.good)).1)) in
    let d : be (be_bytes 4 x.expected) ≡ x.expected = be-be_bytes 4 x.expected f.expected in
    let c : be (be_bytes 8 x.count) ≡ x.count = be-be_bytes 8 x.count f.count in
    let e : letter_good (be (be_bytes 1 x.letter)) ≡ true = rw a f.good in
    let g : cond (letter_good (be (be_bytes 1 x.letter))) (Some (record { letter = be (be_bytes 1 x.letter); expected = be (be_bytes 4 x.expected); count = be (be_bytes 8 x.count) })) None ≡ Some x =
    rw e (λ i. Some (record { letter = a i; expected = d i; count = c i })) in
    g

-- an open line is one of 64, and its letter is one
pub line-open : (b : List ℕ) (i : ℕ) (x : Line) → lines_in b i ≡ Some x → (i < line_count) × (letter_good x.letter ≡ true)
unfolding lines_in line_in
line-open b i x e = go (ltb i line_count) refl (letter_good (field (part b (line_at i) line_length) 0 1)) refl e
  where
    go : (t : Bool) → ltb i line_count ≡ t → (u : Bool) → letter_good (field (part b (line_at i) line_length) 0 1) ≡ u
        → cond t (cond u (Some (record { letter = field (part b (line_at i) line_length) 0 1; expected = field (part b (line_at i) line_length) 1 4; count = field (part b (line_at i) line_length) 5 8 })) None) None ≡ Some x
        → (i < line_count) × (letter_good x.letter ≡ true)
    go true h true g e =
        let q : field (part b (line_at i) line_length) 0 1 ≡ x.letter = ap (λ (o : Option Line). elim o [ None ↦ 0 | Some y ↦ y.letter ]) e in
        (ltb-true i line_count h, sym (ap letter_good q) ∙ g)
    go true h false g e = clash (cc)
    go false h u g e = clash (cc)

-- ---- one line written

module _ (n : ℕ) (b : List ℕ) (sd : Sound n b) (i : ℕ) (low : i < line_count) (x : Line) where
  abbrev pub lined : List ℕ
  lined = splice b (line_at i) (line_bytes x)

  line-room : lines_at + line_count * line_length ≤ length b
  line-room = omega (arith, sd.size)

  lined-head : Front b lined lines_at
  lined-head at m h = part-before b (line_at i) (line_bytes x) at m (omega (arith, line-room)) (omega arith)

  pub lined-sound : Sound n lined
  lined-sound = sound-by b lined n sd (length-splice b (line_at i) (line_bytes x) (omega (arith, length-line x, line-room))) lined-head

  pub lined-bytes : Bytes b → Bytes lined
  lined-bytes y = bytes-splice b (line_at i) (line_bytes x) y (bytes-line x)

  pub lined-page : (k : ℕ) → page_at lined k ≡ page_at b k
  lined-page k = opening-page b (line_at i) (line_bytes x) (omega (arith, length-line x)) k

  pub lined-pages : pages_in lined ≡ pages_in b
  lined-pages = pages-by b lined (count_by b lined lined-head) (λ k h. lined-page k)

  pub lined-lines : LineFits x → lines_in lined ≡ (λ j. cond (eqb j i) (Some x) (lines_in b j))
  unfolding lines_in
  lined-lines f = fun_ext (λ j. go j (cut j i) (ltb j line_count) refl)
    where
      go : (j : ℕ) → Cut j i → (t : Bool) → ltb j line_count ≡ t → cond t (line_in (part lined (line_at j) line_length)) None ≡ cond (eqb j i) (Some x) (cond t (line_in (part b (line_at j) line_length)) None)
      go j (equal y e) true h = rw (y, e) (ap line_in (cell_same b lines_at line_length line_count i (line_bytes x) line-room low (length-line x)) ∙ line-back x f)
      go j (equal y e) false h = clash (sym (let z : ltb j line_count ≡ true = rw e (lt-ltb i line_count low) in z) ∙ h)
      go j (apart y e) true h = rw y (ap line_in (cell_other b lines_at line_length line_count i (line_bytes x) line-room low (length-line x) j (λ z. e (sym z))))
      go j (apart y e) false h = rw y

  pub lined-rest : LineFits x → rest_in lined ≡ record { n = (rest_in b).n; lines = λ j. cond (eqb j i) (Some x) ((rest_in b).lines j); day = (rest_in b).day; allowance = (rest_in b).allowance }
  unfolding rest_in symbols_of field
  lined-rest f =
      let s : be (part lined n_at 1) ≡ be (part b n_at 1) = ap be (lined-head n_at 1 (omega arith)) in
      let d : eqb (be (part lined day_at 1)) 1 ≡ eqb (be (part b day_at 1)) 1 = ap (λ (l : List ℕ). eqb (be l) 1) (lined-head day_at 1 (omega arith)) in
      let a : allowance_on lined ≡ allowance_on b =
      allowance-by b lined (part-behind b (line_at i) (line_bytes x) allowance_at allowance_length (omega (arith, length-line x))) in
      λ k. record { n = s k; lines = lined-lines f k; day = d k; allowance = a k }
