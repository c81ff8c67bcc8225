-- Two blocks on lines of different letters, neither refused with 86: in either order the same bytes, and each is told the same but for its flags.
-- Assumes nothing.
use Prim.Native.Nat.{ℕ, ◌<◌}
use mathlib.Core.Path.{◌≡◌, refl, sym, ap, ◌∙◌, subst}
use mathlib.Core.Bool.{Bool, true, false, ◌||◌, cond}
use mathlib.Core.List.{List, map}
use Rattle.std.specs.Prelude.{Option, None, Some}
use Rattle.field.specs.Field.{Bytes}
use Rattle.lists.specs.Lists.{upper}
use Rattle.block.specs.Block.{idle_block, messages_of}
use Rattle.opening.specs.declared.Line.{Line}
use Rattle.opening.specs.Layout.{line_count}
use Rattle.opening.specs.Opening.{lines_in, rest_in}
use Rattle.opening.proofs.OpeningLaws.{Sound}
use Rattle.opening.proofs.PageLaws.{kept-sound}
use Rattle.line.specs.Line.{done, advanced}
use Rattle.work.specs.Work.{messages_on, told_on}
use Rattle.work.proofs.KeptLaws.{messages-kept}
use Rattle.calls.specs.Call.{take, Answer, letter_of, call}
use Rattle.calls.proofs.SoundLaws.{call_stays}
use Rattle.mixing.specs.Mixing.{without_flags}
use Rattle.mixing.proofs.MessageSwaps.{messages-swap, quiet, told_same}
use Rattle.mixing.proofs.LineSwaps.{settle_set, settle-behind, settle-swap, messages-after, told-after, unset}
use Rattle.mixing.proofs.StepLaws.{Passes, number_for, settle_on, step_by, answer_by, step_is, answer-is, none_done, answer-quiet, unheard, low, up, mid-sound, day-stays, unset-stays, line_stays, Alone, alone-lines, step-alone}

-- ---- two blocks that are taken

module _ (n : ℕ) (b : List ℕ) (sd : Sound n b) (i j : ℕ) (d : i ≡ j → ⊥) (kx ky : List ℕ) where
  module _ (off : Bool) (x y : Line) (ex : lines_in b i ≡ Some x) (ey : lines_in b j ≡ Some y) (l : x.letter ≡ y.letter → ⊥) where
    ux : upper x.letter ≡ true
    ux = up n b sd i kx x ex

    uy : upper y.letter ≡ true
    uy = up n b sd j ky y ey

    -- what each writes into the opening
    abbrev sx : List ℕ → List ℕ
    sx z = settle_set i (advanced x kx) (idle_block kx || off) z

    abbrev sy : List ℕ → List ℕ
    sy z = settle_set j (advanced y ky) (idle_block ky || off) z

    both-taken : sy (messages_on y.letter (messages_of ky) (sx (messages_on x.letter (messages_of kx) b)))
        ≡ sx (messages_on x.letter (messages_of kx) (sy (messages_on y.letter (messages_of ky) b)))
    both-taken =
        let ax : Line = advanced x kx in
        let ay : Line = advanced y ky in
        let mx : List ℕ = messages_on x.letter (messages_of kx) b in
        let my : List ℕ = messages_on y.letter (messages_of ky) b in
        let fx : Sound n mx = mid-sound n b sd i kx x ex in
        let fy : Sound n my = mid-sound n b sd j ky y ey in
        let hx : i < line_count = low n b sd i kx x ex in
        let hy : j < line_count = low n b sd j ky y ey in
        let f : Sound n (messages_on x.letter (messages_of kx) my) =
        kept-sound my (messages_on x.letter (messages_of kx) my) (messages-kept n x.letter ux (messages_of kx) my fy) n fy in
        ap sy (messages-after n sx (settle-behind i hx n ax (idle_block kx || off)) y.letter uy (messages_of ky) mx fx)
        ∙ ap (λ (z : List ℕ). sy (sx z)) (messages-swap n x.letter y.letter ux uy l (messages_of ky) (messages_of kx) b sd)
        ∙ settle-swap n j i hy hx (λ e. d (sym e)) ay ax (idle_block ky || off) (idle_block kx || off) (messages_on x.letter (messages_of kx) my) f
        ∙ ap sx (sym (messages-after n sy (settle-behind j hy n ay (idle_block ky || off)) x.letter ux (messages_of kx) my fy))

    -- the second is told what it would be told first
    told-taken : map quiet (told_on (sx (messages_on x.letter (messages_of kx) b)) y.letter (messages_of ky)) ≡ map quiet (told_on b y.letter (messages_of ky))
    told-taken =
        told-after n sx (settle-behind i (low n b sd i kx x ex) n (advanced x kx) (idle_block kx || off)) y.letter uy (messages_of ky) (messages_on x.letter (messages_of kx) b) (mid-sound n b sd i kx x ex)
        ∙ told_same n y.letter x.letter uy ux (λ e. l (sym e)) (messages_of kx) (messages_of ky) b sd

  -- ---- two blocks, refused ones among them

  module _ (a : Alone b) (day off : Bool) (rx ry : ℕ) where
    letters : (x y : Line) → lines_in b i ≡ Some x → lines_in b j ≡ Some y → x.letter ≡ y.letter → ⊥
    letters x y e f = alone-lines b a i j d x y e f

    steps-swap : (o q : Option Line) → lines_in b i ≡ o → lines_in b j ≡ q → step_by day off q j ky ry (step_by day off o i kx rx b) ≡ step_by day off o i kx rx (step_by day off q j ky ry b)
    steps-swap o q e f = go o q e f (done (number_for day o kx rx)) refl (done (number_for day q ky ry)) refl
      where
        go : (o q : Option Line) → lines_in b i ≡ o → lines_in b j ≡ q → (t : Bool) → done (number_for day o kx rx) ≡ t → (u : Bool) → done (number_for day q ky ry) ≡ u
            → cond u (settle_on j ky off q (messages_on (letter_of q) (messages_of ky) (cond t (settle_on i kx off o (messages_on (letter_of o) (messages_of kx) b)) b))) (cond t (settle_on i kx off o (messages_on (letter_of o) (messages_of kx) b)) b)
            ≡ cond t (settle_on i kx off o (messages_on (letter_of o) (messages_of kx) (cond u (settle_on j ky off q (messages_on (letter_of q) (messages_of ky) b)) b))) (cond u (settle_on j ky off q (messages_on (letter_of q) (messages_of ky) b)) b)
        go o q e f true s false v = refl
        go o q e f false s true v = refl
        go o q e f false s false v = refl
        go None q e f true s true v = absurd (none_done day kx rx s)
        go (Some x) None e f true s true v = absurd (none_done day ky ry v)
        go (Some x) (Some y) e f true s true v = both-taken off x y e f (letters x y e f)

    told-stays : (o q : Option Line) → lines_in b i ≡ o → lines_in b j ≡ q → done (number_for day q ky ry) ≡ true
        → map quiet (told_on (step_by day off o i kx rx b) (letter_of q) (messages_of ky)) ≡ map quiet (told_on b (letter_of q) (messages_of ky))
    told-stays o q e f v = go o q e f (done (number_for day o kx rx)) refl v
      where
        go : (o q : Option Line) → lines_in b i ≡ o → lines_in b j ≡ q → (t : Bool) → done (number_for day o kx rx) ≡ t → done (number_for day q ky ry) ≡ true
            → map quiet (told_on (cond t (settle_on i kx off o (messages_on (letter_of o) (messages_of kx) b)) b) (letter_of q) (messages_of ky)) ≡ map quiet (told_on b (letter_of q) (messages_of ky))
        go o q e f false s v = refl
        go None q e f true s v = absurd (none_done day kx rx s)
        go (Some x) None e f true s v = absurd (none_done day ky ry v)
        go (Some x) (Some y) e f true s v = told-taken off x y e f (letters x y e f)

    answers_stay : (o q : Option Line) → lines_in b i ≡ o → lines_in b j ≡ q
        → without_flags (answer_by day q ky ry (told_on (step_by day off o i kx rx b) (letter_of q) (messages_of ky))) ≡ without_flags (answer_by day q ky ry (told_on b (letter_of q) (messages_of ky)))
    answers_stay o q e f = go (done (number_for day q ky ry)) refl
      where
        go : (u : Bool) → done (number_for day q ky ry) ≡ u
            → without_flags (answer_by day q ky ry (told_on (step_by day off o i kx rx b) (letter_of q) (messages_of ky))) ≡ without_flags (answer_by day q ky ry (told_on b (letter_of q) (messages_of ky)))
        go true v =
            answer-quiet day q ky ry (told_on (step_by day off o i kx rx b) (letter_of q) (messages_of ky)) ∙ ap (answer_by day q ky ry) (told-stays o q e f v)
            ∙ sym (answer-quiet day q ky ry (told_on b (letter_of q) (messages_of ky)))
        go false v = ap without_flags (unheard day q ky ry (told_on (step_by day off o i kx rx b) (letter_of q) (messages_of ky)) (told_on b (letter_of q) (messages_of ky)) v)

-- ---- two calls

abbrev pub after : List ℕ → ℕ → List ℕ → ℕ → List ℕ
after b i k room = (call b (take i k room)).bytes

abbrev pub told : List ℕ → ℕ → List ℕ → ℕ → Answer
told b i k room = without_flags (call b (take i k room)).answer

module _ (n : ℕ) (b : List ℕ) (sd : Sound n b) (i : ℕ) (k : List ℕ) (room : ℕ) where
  pub after-sound : Sound n (after b i k room)
  after-sound = (call_stays n b sd (take i k room)).sound

  pub after-bytes : Bytes b → Bytes (after b i k room)
  after-bytes = (call_stays n b sd (take i k room)).bytes

  pub after-alone : Passes b i k room → Alone b → Alone (after b i k room)
  after-alone p a =
      subst (λ (z : List ℕ). Alone z) (sym (step_is n b sd i k room p)) (step-alone n b sd i k (rest_in b).day (unset b) room (lines_in b i) refl a)

module _ (n : ℕ) (b : List ℕ) (sd : Sound n b) (i j : ℕ) (d : i ≡ j → ⊥) (kx : List ℕ) (rx : ℕ) (p : Passes b i kx rx) where
  -- line j, the day and whether an allowance is set are as they were
  pub second : {A : Type 0} (f : Bool → Bool → Option Line → List ℕ → A)
      → f (rest_in (after b i kx rx)).day (unset (after b i kx rx)) (lines_in (after b i kx rx) j) (after b i kx rx)
      ≡ f (rest_in b).day (unset b) (lines_in b j) (step_by (rest_in b).day (unset b) (lines_in b i) i kx rx b)
  second f =
      ap (λ (z : List ℕ). f (rest_in z).day (unset z) (lines_in z j) z) (step_is n b sd i kx rx p)
      ∙ (λ t. f (day-stays n b sd i kx (rest_in b).day (unset b) rx (lines_in b i) refl t) (unset-stays n b sd i kx (rest_in b).day (unset b) rx (lines_in b i) refl t)
      (line_stays n b sd i kx (rest_in b).day (unset b) rx (lines_in b i) refl j d t)
      (step_by (rest_in b).day (unset b) (lines_in b i) i kx rx b))

  module _ (ky : List ℕ) (ry : ℕ) (q : Passes (after b i kx rx) j ky ry) where
    after-after : after (after b i kx rx) j ky ry ≡ step_by (rest_in b).day (unset b) (lines_in b j) j ky ry (step_by (rest_in b).day (unset b) (lines_in b i) i kx rx b)
    after-after = step_is n (after b i kx rx) (after-sound n b sd i kx rx) j ky ry q ∙ second (λ w v o z. step_by w v o j ky ry z)

    told-behind : told (after b i kx rx) j ky ry
        ≡ without_flags (answer_by (rest_in b).day (lines_in b j) ky ry (told_on (step_by (rest_in b).day (unset b) (lines_in b i) i kx rx b) (letter_of (lines_in b j)) (messages_of ky)))
    told-behind =
        ap without_flags (answer-is n (after b i kx rx) (after-sound n b sd i kx rx) j ky ry q ∙ second (λ w v o z. answer_by w o ky ry (told_on z (letter_of o) (messages_of ky))))

-- blocks on two lines, taken or refused otherwise than with 86: in either order the book is the same to the byte, and each is told the same but for its flags
module _ (n : ℕ) (b : List ℕ) (sd : Sound n b) (a : Alone b) (i j : ℕ) (d : i ≡ j → ⊥) (kx ky : List ℕ) (rx ry : ℕ) (p : Passes b i kx rx) (q : Passes (after b i kx rx) j ky ry) (u : Passes b j ky ry) where
  pub block-swap : Passes (after b j ky ry) i kx rx → after (after b i kx rx) j ky ry ≡ after (after b j ky ry) i kx rx
  block-swap v =
      after-after n b sd i j d kx rx p ky ry q
      ∙ steps-swap n b sd i j d kx ky a (rest_in b).day (unset b) rx ry (lines_in b i) (lines_in b j) refl refl
      ∙ sym (after-after n b sd j i (λ e. d (sym e)) ky ry u kx rx v)

  pub told-swap : told (after b i kx rx) j ky ry ≡ told b j ky ry
  told-swap =
      told-behind n b sd i j d kx rx p ky ry q
      ∙ answers_stay n b sd i j d kx ky a (rest_in b).day (unset b) rx ry (lines_in b i) (lines_in b j) refl refl
      ∙ sym (ap without_flags (answer-is n b sd j ky ry u))
