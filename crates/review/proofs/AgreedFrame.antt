-- The frame between a book and a reviewer that agree.
-- Assumes nothing.
use Prim.Native.Nat.{ℕ}
use mathlib.Core.Path.{◌≡◌, refl, sym, ap, ◌∙◌}
use mathlib.Core.Bool.{Bool, true, false, cond}
use mathlib.Core.List.{List, []}
use Rattle.std.specs.Prelude.{Option, None, Some}
use Rattle.field.specs.Field.{Bytes}
use Rattle.update.proofs.EntryLaws.{bytes-every}
use Rattle.block.specs.Block.{messages_of}
use Rattle.opening.specs.declared.Line.{Line}
use Rattle.opening.specs.Opening.{lines_in, rest_in, page_at, pages_in, page_place}
use Rattle.line.specs.Line.{done}
use Rattle.calls.specs.Call.{take, number_of, letter_of, call}
use Rattle.work.specs.Work.{listed_of, told_on}
use Rattle.opening.proofs.OpeningLaws.{Sound}
use Rattle.opening.proofs.PageLaws.{place-hit}
use Rattle.calls.proofs.NumberLaws.{number_same, take_done}
use Rattle.review.specs.Reviewer.{parts, told_r, Review, rest_after, symbols_after, history_after, review_call}
use Rattle.review.specs.Lists.{are_bytes}
use Rattle.review.specs.Frame.{touched, taken_of, taken_on, taken_r, bytes_at, page_of}
use Rattle.review.proofs.Agree.{Core}
use Rattle.review.proofs.CallLaws.{Held, Agrees, view_of, view-is, call-agrees}
use Rattle.review.proofs.AnswerLaws.{told_line}
use Rattle.review.proofs.FrameLaws.{block-frame}
use Rattle.review.proofs.PlaceLaws.{place_in, place_is}
use Rattle.page.specs.Layout.{page_symbol}

-- book and reviewer take the same messages
taken-view : (n : ℕ) (b : List ℕ) (h : List (List ℕ)) → Sound n b → Bytes b → Core (parts h) (pages_in b) → (i : ℕ) (k : List ℕ) (room : ℕ) → Bytes k
    → taken_on b i k room ≡ taken_r (view_of b h) i k room
unfolding taken_on taken_r rest_in
taken-view n b h sd y c i k room z = rw (number_same n b sd (take i k room)) (go (done (number_of (rest_in b) (listed_of (pages_in b)) (take i k room))) refl (lines_in b i) refl)
  where
    go : (d : Bool) → done (number_of (rest_in b) (listed_of (pages_in b)) (take i k room)) ≡ d → (o : Option Line) → lines_in b i ≡ o
        → cond d (taken_of (messages_of k) (told_on b (letter_of o) (messages_of k))) [] ≡ cond d (taken_of (messages_of k) (told_r (listed_of (pages_in b)) h (letter_of o) (messages_of k))) []
    go true d None e = absurd (take_done (rest_in b) (listed_of (pages_in b)) i k room d e)
    go true d (Some r) e = rw (told_line n b h sd y c i r k e z)
    go false d o e = refl

-- a block changes no list of symbols
symbols-stay : (v : Review) (i : ℕ) (k : List ℕ) (room : ℕ) → (review_call v (take i k room)).symbols ≡ v.symbols
unfolding review_call symbols_after
symbols-stay v i k room = go (done (number_of v.rest v.symbols (take i k room)))
  where
    go : (t : Bool)
        → (cond t (record { rest = rest_after v.rest (take i k room); symbols = v.symbols; history = history_after v.rest v.symbols v.history (take i k room) }) v).symbols ≡ v.symbols
    go true = refl
    go false = refl

module _ (n : ℕ) (b : List ℕ) (v : Review) (a : Agrees n b v) (i : ℕ) (k : List ℕ) (room : ℕ) (z : are_bytes k ≡ true) where
  abbrev after : List ℕ
  after = (call b (take i k room)).bytes

  place-stays : (s : ℕ) → page_place after s ≡ page_place b s
  place-stays s =
      let h : Held after (review_call v (take i k room)) = (call-agrees n b v (take i k room) z a).held in
      place_is after s h.core.once ∙ ap (place_in s 0) (h.listed ∙ symbols-stay v i k room ∙ sym a.held.listed) ∙ sym (place_is b s a.held.core.once)

  taken-same : taken_on b i k room ≡ taken_r v i k room
  taken-same = taken-view n b v.history a.sound a.bytes a.held.core i k room (bytes-every k z) ∙ ap (λ (w : Review). taken_r w i k room) (view-is b v a.held)

  pub agreed-frame : (s : ℕ) → touched (taken_r v i k room) s ≡ false → page_of after s ≡ page_of b s
  unfolding page_of
  agreed-frame s t = rw (place-stays s) (go (page_place b s) refl)
    where
      go : (o : Option ℕ) → page_place b s ≡ o → bytes_at after o ≡ bytes_at b o
      go (Some j) e =
          let q : page_symbol (page_at b j) ≡ s = (place-hit b s j e).1 in
          block-frame b i k room j (ap (touched (taken_on b i k room)) q ∙ ap (λ (ms : List (List ℕ)). touched ms s) taken-same ∙ t)
      go None e = refl
