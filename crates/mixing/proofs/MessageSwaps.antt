-- Messages of two letters on a book of any bytes, in either order: the same bytes and the same codes.
-- Assumes nothing.
use Prim.Native.Nat.{ℕ}
use mathlib.Core.Path.{◌≡◌, refl, sym, ap, ◌∙◌}
use mathlib.Core.Bool.{true}
use mathlib.Core.List.{List, [], ◌∷◌, map}
use Rattle.lists.specs.Lists.{upper}
use Rattle.std.specs.Prelude.{Option}
use Rattle.message.specs.Message.{symbol_of, partly_taken, Part, parts_of}
use Rattle.update.specs.Parts.{reading_of, known_by, known_of}
use Rattle.told.specs.declared.Told.{Told}
use Rattle.opening.specs.Opening.{reading_at, reading_for}
use Rattle.opening.proofs.OpeningLaws.{Sound}
use Rattle.opening.proofs.PageLaws.{kept-sound}
use Rattle.work.specs.Work.{part_on, parts_on, code_on, message_on, messages_on, told_on}
use Rattle.work.proofs.KeptLaws.{message-kept}
use Rattle.regions.proofs.SentLaws.{AllSent, sent}
use Rattle.mixing.proofs.PartSwaps.{Primary, SentOn, sent-sound, still-sent, code_stays, part-swap}

abbrev pub AllSentOn : List ℕ → ℕ → List Part → Type 0
AllSentOn b l rs = AllSent (Primary b l) l rs

-- what is sent to a book is sent to it after a part
all-still : (n : ℕ) (b : List ℕ) → Sound n b → (l : ℕ) → upper l ≡ true → (r : Part) → SentOn b l r → (j : ℕ) (ts : List Part) → AllSentOn b j ts → AllSentOn (part_on r b) j ts
all-still n b sd l u r x j [] a = tt
all-still n b sd l u r x j (t ∷ ts) a = (still-sent n b sd l u r x j t a.0, all-still n b sd l u r x j ts a.1)

module _ (n l j : ℕ) (u : upper l ≡ true) (v : upper j ≡ true) (d : l ≡ j → ⊥) where
  -- ---- parts

  one-parts : (t : Part) (rs : List Part) (b : List ℕ) → SentOn b j t → AllSentOn b l rs → Sound n b → part_on t (parts_on rs b) ≡ parts_on rs (part_on t b)
  unfolding parts_on
  one-parts t [] b y a sd = refl
  one-parts t (r ∷ rs) b y a sd =
      one-parts t rs (part_on r b) (still-sent n b sd l u r a.0 j t y) (all-still n b sd l u r a.0 l rs a.1) (sent-sound n b sd l u r a.0)
      ∙ ap (parts_on rs) (part-swap n b sd l j u v d r t a.0 y)

  parts-swap : (ts rs : List Part) (b : List ℕ) → AllSentOn b j ts → AllSentOn b l rs → Sound n b → parts_on ts (parts_on rs b) ≡ parts_on rs (parts_on ts b)
  unfolding parts_on
  parts-swap [] rs b z a sd = refl
  parts-swap (t ∷ ts) rs b z a sd =
      ap (parts_on ts) (one-parts t rs b z.0 a sd)
      ∙ parts-swap ts rs (part_on t b) (all-still n b sd j v t z.0 j ts z.1) (all-still n b sd j v t z.0 l rs a) (sent-sound n b sd j v t z.0)

  code-parts : (m : List ℕ) (rs : List Part) (b : List ℕ) → AllSentOn b l rs → Sound n b → code_on j m (parts_on rs b) ≡ code_on j m b
  unfolding parts_on
  code-parts m [] b a sd = refl
  code-parts m (r ∷ rs) b a sd =
      code-parts m rs (part_on r b) (all-still n b sd l u r a.0 l rs a.1) (sent-sound n b sd l u r a.0) ∙ code_stays n b sd l u r a.0 j v d m

-- ---- messages

-- the parts of a message on a book are of its line's letter
pub sent-on : (l : ℕ) (m b : List ℕ) → AllSentOn b l (parts_of (code_on l m b) m)
unfolding known_of known_by reading_of
sent-on l m b = sent (Primary b l) (known_of (reading_for b (symbol_of m))) l m one
  where
    one : (known_of (reading_for b (symbol_of m))).primary ≡ l → Primary b l (symbol_of m)
    one e k f =
        sym (ap (λ (r : Option ℕ). (known_of (reading_at b r)).primary) f) ∙ e

pub message-sound : (n l : ℕ) → upper l ≡ true → (m b : List ℕ) → Sound n b → Sound n (message_on l m b)
message-sound n l u m b sd = kept-sound b (message_on l m b) (message-kept n l u m b sd) n sd

-- a message of l leaves the code of one of j
code-message : (n l j : ℕ) → upper l ≡ true → upper j ≡ true → (l ≡ j → ⊥) → (m m' b : List ℕ) → Sound n b → code_on j m' (message_on l m b) ≡ code_on j m' b
code-message n l j u v d m m' b sd = code-parts n l j u v d m' (parts_of (code_on l m b) m) b (sent-on l m b) sd

flip : (l j : ℕ) → (l ≡ j → ⊥) → j ≡ l → ⊥
flip l j d e = d (sym e)

module _ (n l j : ℕ) (u : upper l ≡ true) (v : upper j ≡ true) (d : l ≡ j → ⊥) where
  message-swap : (m m' b : List ℕ) → Sound n b → message_on j m' (message_on l m b) ≡ message_on l m (message_on j m' b)
  message-swap m m' b sd =
      ap (λ (c : ℕ). parts_on (parts_of c m') (message_on l m b)) (code-message n l j u v d m m' b sd)
      ∙ parts-swap n l j u v d (parts_of (code_on j m' b) m') (parts_of (code_on l m b) m) b (sent-on j m' b) (sent-on l m b) sd
      ∙ ap (λ (c : ℕ). parts_on (parts_of c m) (message_on j m' b)) (sym (code-message n j l v u (flip l j d) m' m b sd))

  one-messages : (m' : List ℕ) (ms : List (List ℕ)) (b : List ℕ) → Sound n b → message_on j m' (messages_on l ms b) ≡ messages_on l ms (message_on j m' b)
  unfolding messages_on
  one-messages m' [] b sd = refl
  one-messages m' (m ∷ ms) b sd = one-messages m' ms (message_on l m b) (message-sound n l u m b sd) ∙ ap (messages_on l ms) (message-swap m m' b sd)

  -- two blocks' messages
  pub messages-swap : (ts ms : List (List ℕ)) (b : List ℕ) → Sound n b → messages_on j ts (messages_on l ms b) ≡ messages_on l ms (messages_on j ts b)
  unfolding messages_on
  messages-swap [] ms b sd = refl
  messages-swap (t ∷ ts) ms b sd = ap (messages_on j ts) (one-messages t ms b sd) ∙ messages-swap ts ms (message_on j t b) (message-sound n j v t b sd)

-- ---- what is told of them, but for the flags

abbrev pub quiet : Told → Told
quiet t = record { code = t.code; flags = 0; partly = t.partly }

module _ (n l j : ℕ) (u : upper l ≡ true) (v : upper j ≡ true) (d : l ≡ j → ⊥) where
  told-one : (m' : List ℕ) (ms : List (List ℕ)) (b : List ℕ) → Sound n b → map quiet (told_on (message_on j m' b) l ms) ≡ map quiet (told_on b l ms)
  unfolding told_on
  told-one m' [] b sd = refl
  told-one m' (m ∷ ms) b sd =
      let c : code_on l m (message_on j m' b) ≡ code_on l m b = code-message n j l v u (flip l j d) m' m b sd in
      let r : map quiet (told_on (message_on l m (message_on j m' b)) l ms) ≡ map quiet (told_on (message_on l m b) l ms) =
      ap (λ (x : List ℕ). map quiet (told_on x l ms)) (sym (message-swap n l j u v d m m' b sd)) ∙ told-one m' ms (message_on l m b) (message-sound n l u m b sd) in
      λ i. record { code = c i; flags = 0; partly = partly_taken (c i) m } ∷ r i

  pub told_same : (ts ms : List (List ℕ)) (b : List ℕ) → Sound n b → map quiet (told_on (messages_on j ts b) l ms) ≡ map quiet (told_on b l ms)
  unfolding messages_on
  told_same [] ms b sd = refl
  told_same (t ∷ ts) ms b sd = told_same ts ms (message_on j t b) (message-sound n j v t b sd) ∙ told-one t ms b sd
