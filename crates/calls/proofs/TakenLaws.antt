-- The block call by what its checks give.
-- Assumes nothing.
use Prim.Native.Nat.{ℕ, ◌≤◌, ◌<◌}
use mathlib.Core.Path.{◌≡◌, refl, sym, ap, ◌∙◌}
use mathlib.Core.Bool.{Bool, true, false, cond}
use mathlib.Core.List.{List, []}
use Rattle.std.specs.Prelude.{Option, None, Some, Result, Ok, Err}
use native.Mathlib.Omega.{arith}
use lib.Dec.{ltb, eqb}
use lib.ListN.{length}
use Rattle.field.specs.Field.{part, splice}
use Rattle.field.proofs.Laws.{splice-part}
use Rattle.block.specs.Block.{messages_of, count_in, idle_block, checked, answer_length}
use Rattle.opening.specs.declared.Line.{Line}
use Rattle.line.specs.code.Gate.{Gate}
use Rattle.line.specs.code.Gate as gate
use Rattle.opening.specs.Opening.{sound, lines_in, rest_in, line_after}
use Rattle.line.specs.Line.{on_line, block_number, done, gap_told, advanced, settled, checked_number_of}
use Rattle.allowance.specs.Allowance.{is_used_up}
use Rattle.calls.specs.Call.{Answer, bare, number_of, letter_of, line_answer, answer_of, report, advance_on, after_call, number_on, call}
use Rattle.told.specs.Told.{quads, tally}
use Rattle.work.specs.Work.{messages_on, told_on}
use Rattle.work.specs.code.Steps.{Ran, ran}
use Rattle.calls.specs.Buffers.{report_of, TakenBlock, taken}
use Rattle.line.specs.code.Gate.{gate_on, gate_of}
use Rattle.lists.specs.Lists.{upper}
use Rattle.lists.proofs.Tests.{clash}
use borrow.Author.Tests.{ltb-false}
use Rattle.told.specs.declared.Tally.{Tally}
use Rattle.numbers.specs.declared.Refusal.{Refusal}
use Rattle.block.proofs.CheckLaws.{passed}
use Rattle.opening.proofs.LineLaws.{line-upper, line-open}
use Rattle.line.proofs.GateLaws.{block-nine, refused-done}
use Rattle.opening.specs.Layout.{line_count}

-- the book, the report and the answer buffer by what the checks give
abbrev pub taken_by : List ℕ → ℕ → List ℕ → List ℕ → Gate → TakenBlock
taken_by b i k a (gate.bare n) = record { bytes = b; report = record { number = n; gap = 0; expected = 0; count = 0; accepted = 0; partly = 0; rejected = 0 }; answer = a }
taken_by b i k a (gate.refused n r) =
    record { bytes = b; report = record { number = n; gap = 0; expected = r.expected; count = r.count; accepted = 0; partly = 0; rejected = 0 }; answer = a }
taken_by b i k a (gate.taken n g c x f) =
    record {
      bytes = settled i x f (ran x.letter k b a).book;
      report =
          record {
            number = n;
            gap = g;
            expected = x.expected;
            count = x.count;
            accepted = (ran x.letter k b a).tally.accepted;
            partly = (ran x.letter k b a).tally.partly;
            rejected = (ran x.letter k b a).tally.rejected;
          };
      answer = (ran x.letter k b a).answer;
    }

-- nothing filled
nothing : (a : List ℕ) → splice a 0 [] ≡ a
unfolding part
nothing a = splice-part a 0 0 (omega arith)

-- a block moves no letter
pub letter-stays : (r : Line) (k : List ℕ) → (advanced r k).letter ≡ r.letter
unfolding advanced
letter-stays r k = go _ (idle_block k)
  where
    go : (n : ℕ) (t : Bool) → (cond {A = Line} t r (line_after r n (count_in k))).letter ≡ r.letter
    go n true = refl
    go n false = refl

module _ (b : List ℕ) (i : ℕ) (k a : List ℕ) (day used : Bool) where
  abbrev numbered : Bool → Bool → Option Line → ℕ
  numbered s t o = cond s (cond t 9 (on_line day used k o)) 1

  abbrev answered : Bool → Bool → Option Line → Answer
  answered s t o = cond s (cond (eqb (numbered s t o) 9) (bare (numbered s t o)) (line_answer (numbered s t o) k (told_on b (letter_of o) (messages_of k)) o)) (bare 1)

  -- a block of number n on a line with record r
  abbrev lined : Line → ℕ → Bool → Answer
  lined r n d = cond d (report n (gap_told r k) (advanced r k) (told_on b r.letter (messages_of k))) (report n 0 r [])

  line-is : (r : Line) (n : ℕ) (d : Bool)
      → ◌≡◌ {A = TakenBlock}
      (record { bytes = cond d (settled i (advanced r k) (idle_block k) (messages_on r.letter (messages_of k) b)) b; report = report_of (lined r n d); answer = splice a 0 (lined r n d).answers })
      (taken_by b i k a (cond d (gate.taken n (gap_told r k) (count_in k) (advanced r k) (idle_block k)) (gate.refused n r)))
  unfolding ran tally quads
  line-is r n true = rw (letter-stays r k)
  line-is r n false = λ j. record { bytes = b; report = report_of (report n 0 r []); answer = nothing a j }

  by : (s t : Bool) (o : Option Line)
      → ◌≡◌ {A = TakenBlock}
      (record { bytes = cond (done (numbered s t o)) (advance_on i k o (messages_on (letter_of o) (messages_of k) b)) b; report = report_of (answered s t o); answer = splice a 0 (answered s t o).answers })
      (taken_by b i k a (cond s (cond t (gate.bare 9) (gate_on day used k o)) (gate.bare 1)))
  unfolding done
  by false t o = λ j. record { bytes = b; report = report_of (bare 1); answer = nothing a j }
  by true true o = λ j. record { bytes = b; report = report_of (bare 9); answer = nothing a j }
  by true false None = λ j. record { bytes = b; report = report_of (bare 21); answer = nothing a j }
  by true false (Some r) = rw (block-nine r day used k) (line-is r (block_number r day used k) (done (block_number r day used k)))

pub taken_is : (b : List ℕ) (i : ℕ) (k a : List ℕ) → taken b i k a ≡ taken_by b i k a (gate_of b i k (length a))
unfolding taken call number_on number_of answer_of after_call gate_of rest_in
taken_is b i k a = by b i k a (rest_in b).day (is_used_up (rest_in b).allowance i) (sound b) (ltb (length a) answer_length) (lines_in b i)

-- ---- what a block has behind the checks

pub record Entered (b : List ℕ) (i : ℕ) (k : List ℕ) (room c : ℕ) (x : Line) : Type 0 where
  pub good : sound b ≡ true
  pub wide : answer_length ≤ room
  pub low : i < line_count
  pub passes : checked k ≡ Ok c
  pub letter : upper x.letter ≡ true

-- a block that is taken has passed its own checks
pub taken-passes : (r : Line) (day used : Bool) (k : List ℕ) → done (block_number r day used k) ≡ true → checked k ≡ Ok (count_in k)
unfolding block_number
taken-passes r day used k = go (checked k) refl
  where
    go : (x : Result ℕ Refusal) → checked k ≡ x → done (checked_number_of r day used k x) ≡ true → x ≡ Ok (count_in k)
    go (Ok c) e h = ap Ok (passed k c e).counted
    go (Err n) e h = clash (sym h ∙ refused-done k n e)

pub entered : (b : List ℕ) (i : ℕ) (k : List ℕ) (room : ℕ) (n g c : ℕ) (x : Line) (f : Bool) → gate_of b i k room ≡ gate.taken n g c x f → Entered b i k room c x
unfolding gate_of
entered b i k room n g c x f = go (sound b) refl (ltb room answer_length) refl (lines_in b i) refl
  where
    line : (r : Line) → lines_in b i ≡ Some r → sound b ≡ true → answer_length ≤ room → (d : Bool) → done (block_number r (rest_in b).day (is_used_up (rest_in b).allowance i) k) ≡ d
        → cond d (gate.taken (block_number r (rest_in b).day (is_used_up (rest_in b).allowance i) k) (gap_told r k) (count_in k) (advanced r k) (idle_block k)) (gate.refused (block_number r (rest_in b).day (is_used_up (rest_in b).allowance i) k) r) ≡ gate.taken n g c x f
        → Entered b i k room c x
    line r eo es h true ed e =
        let ec : count_in k ≡ c = cc in
        let ex : advanced r k ≡ x = cc in
        record {
          good = es;
          wide = h;
          low = (line-open b i r eo).0;
          passes = taken-passes r (rest_in b).day (is_used_up (rest_in b).allowance i) k ed ∙ ap Ok ec;
          letter = sym (ap (λ (l : Line). upper l.letter) ex) ∙ ap upper (letter-stays r k) ∙ line-upper r (line-open b i r eo).1;
        }
    line r eo es h false ed e = clash (cc)

    go : (s : Bool) → sound b ≡ s → (t : Bool) → ltb room answer_length ≡ t → (o : Option Line) → lines_in b i ≡ o
        → cond s (cond t (gate.bare 9) (gate_on (rest_in b).day (is_used_up (rest_in b).allowance i) k o)) (gate.bare 1) ≡ gate.taken n g c x f → Entered b i k room c x
    go false es t et o eo e = clash (cc)
    go true es true et o eo e = clash (cc)
    go true es false et None eo e = clash (cc)
    go true es false et (Some r) eo e = line r eo es (ltb-false room answer_length et) (done (block_number r (rest_in b).day (is_used_up (rest_in b).allowance i) k)) refl e

-- ---- the call, by the arm that the checks gave

module _ (b : List ℕ) (i : ℕ) (k a : List ℕ) where
  pub taken-by : (g h : Gate) → g ≡ gate_of b i k (length a) → g ≡ h → taken_by b i k a h ≡ taken b i k a
  taken-by g h e f = sym (taken_is b i k a ∙ ap (taken_by b i k a) (sym e ∙ f))

  -- b₁, a₁, t: what the run leaves; b₂: the book with the line written and the block charged
  pub taken-run : (w : Gate) (n g c : ℕ) (x : Line) (f : Bool) (b₁ a₁ : List ℕ) (t : Tally) (b₂ : List ℕ) → w ≡ gate_of b i k (length a) → w ≡ gate.taken n g c x f
      → ◌≡◌ {A = Ran} (record { book = b₁; answer = a₁; tally = t }) (ran x.letter k b a) → b₂ ≡ settled i x f b₁
      → ◌≡◌ {A = TakenBlock}
      (record { bytes = b₂; report = record { number = n; gap = g; expected = x.expected; count = x.count; accepted = t.accepted; partly = t.partly; rejected = t.rejected }; answer = a₁ })
      (taken b i k a)
  taken-run w n g c x f b₁ a₁ t b₂ e h r p =
      rw p
      (ap (λ (y : Ran). record { bytes = settled i x f y.book; report = record { number = n; gap = g; expected = x.expected; count = x.count; accepted = y.tally.accepted; partly = y.tally.partly; rejected = y.tally.rejected }; answer = y.answer }) r
      ∙ taken-by w (gate.taken n g c x f) e h)
