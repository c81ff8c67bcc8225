-- The frame, on any bytes: a block changes no byte of a page whose symbol no accepted or partly accepted message in it touches.
-- Assumes nothing.
use Prim.Native.Nat.{ℕ, ◌<◌}
use mathlib.Core.Path.{◌≡◌, refl, sym, ap, ◌∙◌}
use mathlib.Core.Bool.{Bool, true, false, cond}
use mathlib.Core.List.{List, [], ◌∷◌}
use Rattle.std.specs.Prelude.{Option, None, Some}
use native.Mathlib.Omega.{arith}
use lib.Dec.{eqb}
use lib.ListN.{length}
use borrow.Author.Tests.{eq-eqb}
use Rattle.lists.specs.Lists.{upper}
use Rattle.lists.proofs.Tests.{clash, Cut, equal, apart, cut}
use Rattle.message.specs.declared.Kind.{Kind}
use Rattle.message.specs.declared.Kind.TheVariants as kind
use Rattle.message.specs.Message.{kind_of, symbol_of, Part, round_part, odd_part, maker_part, finra_part, status_part, round_part_of, partly_taken, whole_by, parts_of}
use Rattle.block.specs.Block.{idle_block, messages_of}
use Rattle.update.specs.Parts.{known_of, round_on, odd_on_page, maker_on, status_on}
use Rattle.field.specs.Field.{part, splice}
use Rattle.allowance.specs.Allowance.{allowance_length, charged_bytes}
use Rattle.allowance.proofs.ByteLaws.{length-charged}
use Rattle.update.proofs.EntryLaws.{Kept}
use Rattle.update.proofs.SlotLaws.{round-kept, odd-kept}
use Rattle.update.proofs.MakerLaws.{maker-kept}
use Rattle.update.proofs.StatusLaws.{status-kept}
use Rattle.message.proofs.SpokenLaws.{Shaped, AllShaped, shaped}
use Rattle.opening.specs.declared.Line.{Line}
use Rattle.opening.specs.Opening.{symbols_of, sound, line_bytes, lines_in, on_allowance, rest_in, page_at, pages_in, reading_for, on_page}
use Rattle.opening.specs.Layout.{allowance_at, line_at, line_count}
use Rattle.opening.proofs.AllowanceLaws.{length-allowance, allowed-page}
use Rattle.line.specs.Line.{done, advanced, settled}
use Rattle.calls.specs.Call.{take, letter_of, advance_on, after_call, number_on, call}
use Rattle.work.specs.Work.{listed_of, part_on, parts_on, code_on, message_on, messages_on, told_on}
use Rattle.opening.proofs.OpeningLaws.{Sound, sound-of}
use Rattle.opening.proofs.PageLaws.{kept-sound, place-hit, on-other}
use Rattle.work.proofs.PartLaws.{part-kept}
use Rattle.opening.proofs.LineLaws.{line-upper, line-open, lined-sound, lined-page}
use Rattle.calls.proofs.NumberLaws.{number_same, unsound, take_done}
use Rattle.work.proofs.KeptLaws.{message-kept, messages-kept}
use Rattle.review.specs.Frame.{touches_by, touches, touched, taken_of, taken_on}
use Rattle.review.proofs.KeptLaws.{partly-is}
use Rattle.page.specs.Layout.{page_length, page_symbol}

-- ---- a part of another symbol

abbrev part_touches : Part → ℕ → Bool
part_touches (round_part t l q) s = eqb t s
part_touches (odd_part t l o) s = eqb t s
part_touches (maker_part t m q) s = eqb t s
part_touches (finra_part c) s = true
part_touches (status_part t x) s = eqb t s

abbrev NoneTouches : List Part → ℕ → Type 0
NoneTouches [] s = Unit {0}
NoneTouches (p ∷ ps) s = (part_touches p s ≡ false) × NoneTouches ps s

module _ (n j : ℕ) where
  abbrev symbol_here : List ℕ → ℕ
  symbol_here b = page_symbol (page_at b j)

  on-framed : (b : List ℕ) → Sound n b → (t : ℕ) (h : List ℕ → List ℕ) → ((p : List ℕ) → length p ≡ page_length → Kept p (h p)) → eqb t (symbol_here b) ≡ false → page_at (on_page t h b) j ≡ page_at b j
  on-framed b sd t h keeps e = on-other n b sd t h keeps j (λ z. clash (sym (eq-eqb t (symbol_here b) (sym (place-hit b t j z).1)) ∙ e))

  part-framed : (p : Part) (b : List ℕ) → Sound n b → Shaped p → part_touches p (symbol_here b) ≡ false → page_at (part_on p b) j ≡ page_at b j
  unfolding part_on
  part-framed (round_part t l q) b sd u e = on-framed b sd t (round_on l q) (λ p w. round-kept p w l u q) e
  part-framed (odd_part t l o) b sd u e = on-framed b sd t (odd_on_page l o) (λ p w. odd-kept p w l u o) e
  part-framed (maker_part t m q) b sd u e = on-framed b sd t (maker_on m q) (λ p w. maker-kept m q p w) e
  part-framed (finra_part c) b sd u e = clash e
  part-framed (status_part t x) b sd u e = on-framed b sd t (status_on x) (λ p w. status-kept x p w) e

  parts-framed : (ps : List Part) (b : List ℕ) → Sound n b → AllShaped ps → (s : ℕ) → s ≡ symbol_here b → NoneTouches ps s → page_at (parts_on ps b) j ≡ page_at b j
  unfolding parts_on
  parts-framed [] b sd u s q e = refl
  parts-framed (p ∷ ps) b sd u s q e =
      let f : page_at (part_on p b) j ≡ page_at b j = part-framed p b sd u.0 (ap (part_touches p) (sym q) ∙ e.0) in
      parts-framed ps (part_on p b) (kept-sound b (part_on p b) (part-kept n p b sd u.0) n sd) u.1 s (q ∙ ap (λ (l : List ℕ). page_symbol l) (sym f)) e.1 ∙ f

-- ---- one message

whole-none : (m : List ℕ) (s : ℕ) (k : Kind) → touches_by m s k ≡ false → NoneTouches (whole_by m k) s
whole-none m s kind.Inquiry e = tt
whole-none m s kind.Close e = clash e
whole-none m s kind.Open e = clash e
whole-none m s kind.Test e = tt
whole-none m s kind.RoundLot e = (e, (e, tt))
whole-none m s (kind.OddLot f) e = (e, tt)
whole-none m s kind.Maker e = (e, tt)
whole-none m s kind.Status e = (e, tt)
whole-none m s kind.Unknown e = tt

-- accepted or partly accepted
abbrev takes : ℕ → List ℕ → Bool
takes c m = cond (eqb c 0) true (partly_taken c m)

-- the parts of a message that is not taken, or does not touch the symbol
parts_none : (c : ℕ) (m : List ℕ) (s : ℕ) → (takes c m ≡ true → touches m s ≡ false) → NoneTouches (parts_of c m) s
unfolding parts_of
parts_none c m s h = go (cut c 0) (partly_taken c m) refl h
  where
    go : Cut c 0 → (p : Bool) → partly_taken c m ≡ p → (cond (eqb c 0) true p ≡ true → touches m s ≡ false)
        → NoneTouches (cond (eqb c 0) (whole_by m (kind_of m)) (cond p (round_part_of m ∷ []) [])) s
    go (equal t z) p f h = rw t (whole-none m s (kind_of m) (h (rw t)))
    go (apart t z) true f h =
        let k : kind_of m ≡ kind.RoundLot = (partly-is c m f).0 in
        let e : touches_by m s kind.RoundLot ≡ false = rw k at (h (rw t)) in
        rw t (e, tt)
    go (apart t z) false f h = rw t tt

module _ (n j letter : ℕ) (u : upper letter ≡ true) (s : ℕ) where
  message-framed : (m b : List ℕ) → Sound n b → s ≡ page_symbol (page_at b j) → (takes (code_on letter m b) m ≡ true → touches m s ≡ false) → page_at (message_on letter m b) j ≡ page_at b j
  message-framed m b sd q h =
      parts-framed n j (parts_of (code_on letter m b) m) b sd (shaped (known_of (reading_for b (symbol_of m))) letter m u) s q (parts_none (code_on letter m b) m s h)

  -- ---- the messages of a block

  touched-head : (t : Bool) (m : List ℕ) (ms : List (List ℕ)) → touched (cond t (m ∷ ms) ms) s ≡ false → (t ≡ true → touches m s ≡ false) × (touched ms s ≡ false)
  unfolding touched
  touched-head true m ms e = go (touches m s) e
    where
      go : (x : Bool) → cond x true (touched ms s) ≡ false → (true ≡ true → x ≡ false) × (touched ms s ≡ false)
      go true e = clash e
      go false e = ((λ y. refl), e)
  touched-head false m ms e = ((λ y. clash (sym y)), e)

  messages-framed : (ms : List (List ℕ)) (b : List ℕ) → Sound n b → s ≡ page_symbol (page_at b j) → touched (taken_of ms (told_on b letter ms)) s ≡ false → page_at (messages_on letter ms b) j ≡ page_at b j
  unfolding messages_on told_on taken_of
  messages-framed [] b sd q e = refl
  messages-framed (m ∷ ms) b sd q e =
      let h = touched-head (takes (code_on letter m b) m) m (taken_of ms (told_on (message_on letter m b) letter ms)) e in
      let f : page_at (message_on letter m b) j ≡ page_at b j = message-framed m b sd q h.0 in
      messages-framed ms (message_on letter m b) (kept-sound b (message_on letter m b) (message-kept n letter u m b sd) n sd) (q ∙ ap (λ (l : List ℕ). page_symbol l) (sym f)) h.1 ∙ f

-- ---- a block

-- the line's record and the charge are in the opening
settled-page : (n : ℕ) (b : List ℕ) → Sound n b → (i : ℕ) → i < line_count → (x : Line) (free : Bool) (j : ℕ) → page_at (settled i x free b) j ≡ page_at b j
unfolding settled on_allowance
settled-page n b sd i h x true j = lined-page n b sd i h x j
settled-page n b sd i h x false j =
    let b₁ : List ℕ = splice b (line_at i) (line_bytes x) in
    let s₁ : Sound n b₁ = lined-sound n b sd i h x in
    let a : List ℕ = part b₁ allowance_at allowance_length in
    allowed-page n b₁ s₁ (charged_bytes a i) (length-charged a (length-allowance b₁ (omega (arith, s₁.size))) i h) j ∙ lined-page n b sd i h x j

sound-framed : (n : ℕ) (b : List ℕ) → Sound n b → (i : ℕ) (k : List ℕ) (room j : ℕ) → done (number_on b (take i k room)) ≡ true
    → touched (taken_of (messages_of k) (told_on b (letter_of (lines_in b i)) (messages_of k))) (page_symbol (page_at b j)) ≡ false
    → page_at (advance_on i k (lines_in b i) (messages_on (letter_of (lines_in b i)) (messages_of k) b)) j ≡ page_at b j
unfolding rest_in
sound-framed n b sd i k room j d = go (lines_in b i) refl
  where
    go : (o : Option Line) → lines_in b i ≡ o → touched (taken_of (messages_of k) (told_on b (letter_of o) (messages_of k))) (page_symbol (page_at b j)) ≡ false
        → page_at (advance_on i k o (messages_on (letter_of o) (messages_of k) b)) j ≡ page_at b j
    go None e t = absurd (take_done (rest_in b) (listed_of (pages_in b)) i k room (rw (number_same n b sd (take i k room)) at d) e)
    go (Some r) e t =
        let g = line-open b i r e in
        let u : upper r.letter ≡ true = line-upper r g.1 in
        let b₁ : List ℕ = messages_on r.letter (messages_of k) b in
        settled-page n b₁ (kept-sound b b₁ (messages-kept n r.letter u (messages_of k) b sd) n sd) i g.0 (advanced r k) (idle_block k) j
        ∙ messages-framed n j r.letter u (page_symbol (page_at b j)) (messages_of k) b sd refl t

pub block-frame : (b : List ℕ) (i : ℕ) (k : List ℕ) (room j : ℕ) → touched (taken_on b i k room) (page_symbol (page_at b j)) ≡ false → page_at (call b (take i k room)).bytes j ≡ page_at b j
unfolding call taken_on after_call
block-frame b i k room j t = on (sound b) refl
  where
    go : sound b ≡ true → (d : Bool) → done (number_on b (take i k room)) ≡ d
        → touched (cond d (taken_of (messages_of k) (told_on b (letter_of (lines_in b i)) (messages_of k))) []) (page_symbol (page_at b j)) ≡ false
        → page_at (cond d (advance_on i k (lines_in b i) (messages_on (letter_of (lines_in b i)) (messages_of k) b)) b) j ≡ page_at b j
    go e true d t = sound-framed (symbols_of b) b (sound-of b e) i k room j d t
    go e false d t = refl

    on : (x : Bool) → sound b ≡ x → page_at (cond (done (number_on b (take i k room))) (advance_on i k (lines_in b i) (messages_on (letter_of (lines_in b i)) (messages_of k) b)) b) j ≡ page_at b j
    on true e = go e (done (number_on b (take i k room))) refl t
    on false e = rw (unsound b (take i k room) e refl)
