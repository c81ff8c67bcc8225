-- "each letter has at most one line" can be had: a made book has it, and a line that is opened for a letter without one keeps it.
-- Assumes nothing.
use Prim.Native.Nat.{ℕ, ◌<◌}
use mathlib.Core.Path.{◌≡◌, refl, sym, ap, ◌∙◌}
use mathlib.Core.Bool.{Bool, true, false, cond}
use mathlib.Core.List.{List}
use Rattle.std.specs.Prelude.{Option, None, Some}
use lib.Dec.{eqb, lit<}
use Rattle.lists.proofs.Tests.{clash, Cut, equal, apart, cut}
use Rattle.text.specs.Form.{letter_good}
use Rattle.opening.specs.declared.Line.{Line}
use Rattle.opening.specs.Layout.{line_count}
use Rattle.opening.specs.Opening.{sound, symbols_of, lines_in, Rest, rest_in, pages_in, fresh_bytes}
use Rattle.opening.proofs.OpeningLaws.{Sound, sound-of}
use Rattle.opening.proofs.LineLaws.{lined, lined-lines}
use Rattle.opening.proofs.FreshLaws.{fresh-rest}
use Rattle.line.specs.Line.{done}
use Rattle.work.specs.Work.{listed_of}
use Rattle.calls.specs.Call.{open_line, after_call, number_on, call}
use Rattle.calls.proofs.NumberLaws.{number_same, open_done, unsound}
use Rattle.mixing.specs.Mixing.{OneLineEach}

pub fresh-one : (n : ℕ) → OneLineEach (fresh_bytes n)
unfolding rest_in
fresh-one n i j x y e f l = clash (let z : None ≡ Some x = sym (ap (λ (r : Rest). r.lines i) (fresh-rest n)) ∙ e in cc)

-- no line has the letter
abbrev pub NoLine : List ℕ → ℕ → Type 0
NoLine b l = (j : ℕ) (y : Line) → lines_in b j ≡ Some y → y.letter ≡ l → ⊥

module _ (b : List ℕ) (o : OneLineEach b) (i l : ℕ) (z : NoLine b l) where
  abbrev new : Line
  new = record { letter = l; expected = 1; count = 0 }

  lined-one : (n : ℕ) (sd : Sound n b) (h : i < line_count) → letter_good l ≡ true → OneLineEach (lined n b sd i h new)
  lined-one n sd h g j k x y e f m = go (cut j i) (cut k i) (sym (ap (λ (t : ℕ → Option Line). t j) lines) ∙ e) (sym (ap (λ (t : ℕ → Option Line). t k) lines) ∙ f)
    where
      lines : lines_in (lined n b sd i h new) ≡ (λ j. cond (eqb j i) (Some new) (lines_in b j))
      lines = lined-lines n b sd i h new (record { good = g; expected = lit< tt; count = lit< tt })

      letter : (w : Line) → Some new ≡ Some w → w.letter ≡ l
      letter w p = sym (ap (λ (t : Option Line). elim t [ None ↦ 0 | Some r ↦ r.letter ]) p)

      go : Cut j i → Cut k i → cond (eqb j i) (Some new) (lines_in b j) ≡ Some x → cond (eqb k i) (Some new) (lines_in b k) ≡ Some y → j ≡ k
      go (equal s p) (equal t q) e f = p ∙ sym q
      go (equal s p) (apart t q) e f = absurd (z k y (rw t at f) (sym m ∙ letter x (rw s at e)))
      go (apart s p) (equal t q) e f = absurd (z j x (rw s at e) (m ∙ letter y (rw t at f)))
      go (apart s p) (apart t q) e f = o j k x y (rw s at e) (rw t at f) m

  pub open-one : OneLineEach (call b (open_line i l)).bytes
  unfolding call after_call
  open-one = go (sound b) refl
    where
      by : Sound (symbols_of b) b → (t : Bool) → done (number_on b (open_line i l)) ≡ t → OneLineEach (cond t (after_call b (open_line i l)) b)
      by sd true d =
          let g = open_done (rest_in b) (listed_of (pages_in b)) i l (rw (number_same (symbols_of b) b sd (open_line i l)) at d) in
          lined-one (symbols_of b) sd g.0 g.1
      by sd false d = o

      go : (t : Bool) → sound b ≡ t → OneLineEach (cond (done (number_on b (open_line i l))) (after_call b (open_line i l)) b)
      go true e = by (sound-of b e) (done (number_on b (open_line i l))) refl
      go false e = rw (unsound b (open_line i l) e refl) o
