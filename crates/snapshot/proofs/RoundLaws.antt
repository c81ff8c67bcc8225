-- A snapshot that is written decodes to what it carries; its blocks and bytes are those told beforehand; no block is over 1,000 bytes.
-- Assumes nothing.
use Prim.Native.Nat.{ℕ, zero, suc, ◌+◌, ◌*◌, ◌-◌, ◌%◌, ◌≤◌, ◌<◌}
use mathlib.Core.Path.{◌≡◌, refl, sym, ap, subst, ◌∙◌}
use mathlib.Core.Bool.{Bool, true, false, ◌&&◌, cond}
use mathlib.Core.Logic.{◌⊎◌, inl, inr, ⊎_elim}
use mathlib.Core.List.{List, [], ◌∷◌, ◌++◌, map, append_assoc, append-nil}
use Rattle.std.specs.Prelude.{Option, None, Some}
use native.Mathlib.Omega.{arith}
use borrow.Author.Tests.{le-leb, lt-leb, eq-eqb, leb-true, leb-false}
use lib.Dec.{leb, eqb}
use lib.ListN.{length, take, drop, length-append, length-map, take-append-drop}
use Rattle.lists.specs.Lists.{same_list, bind_option}
use Rattle.block.specs.Written.{joined}
use Rattle.snapshot.specs.Snapshot.{Shown, BothEntries, Snapshot}
use Rattle.snapshot.specs.Feed.{participant, finra_message, feed_longest, feed_messages, feed_block, feed_from, feed_blocks, feed_bytes}
use Rattle.snapshot.specs.Receiver.{received, symbol_in, letter_in, is_consolidated, is_participant, is_finra, is_known, is_about, every_message, chosen, is_distinct, shown_in, snapshot_by, snapshot_in, decoded, carried}
use Rattle.snapshot.specs.Sizes.{letters_most, letters_alone, letters_first, feed_count, feed_length}
use Rattle.snapshot.proofs.MessageLaws.{ShownFits, Typed, typed-consolidated, typed-participant, typed-finra, national-back, finra-back, letter-back, shown-back}
use Rattle.snapshot.proofs.BlockLaws.{Fills, AllFill, ungrouped, run-back, short-block}
use Rattle.snapshot.proofs.PackLaws.{map-append, Measured, opening, of_letters, closing, only, blocks-one, fills_one, length-one, first_one, second_one, groups-two, blocks-two, fills_first, fills-second, length-block-first, length-block-second}

same-list : (s : List ℕ) → same_list s s ≡ true
unfolding same_list
same-list [] = refl
same-list (x ∷ s) = rw (eq-eqb x x refl, same-list s)

abbrev pub AllShown : List Shown → Type 0
AllShown [] = Unit {0}
AllShown (v ∷ vs) = ShownFits v × AllShown vs

-- ---- lengths alone

module _ (x : Snapshot) (w : Measured x) where
  -- ---- up to 13 letters, and from 14 on

  length-only : length x.letters ≤ letters_alone → length (feed_bytes x) ≡ feed_length (length x.letters)
  unfolding feed_bytes
  length-only h = ap (λ (bs : List (List ℕ)). length (joined bs)) (blocks-one x w h) ∙ ap length (append-nil (feed_block 1 4 (only x w h))) ∙ length-one x w h

  length_both : letters_first ≤ length x.letters → length (feed_bytes x) ≡ feed_length (length x.letters)
  unfolding feed_bytes
  length_both h =
      let a = feed_block 1 1 (first_one x w h) in
      let b = feed_block 16 3 (second_one x w h) in
      ap (λ (bs : List (List ℕ)). length (joined bs)) (blocks-two x w h) ∙ length-append a (b ++ []) ∙ ap (λ (l : List ℕ). length a + length l) (append-nil b)
      ∙ omega (arith, length-block-first x w h, length-block-second x w h)

  pub cases : (length x.letters ≤ letters_alone) ⊎ (letters_first ≤ length x.letters)
  cases = go (leb (length x.letters) letters_alone) refl
    where
      go : (t : Bool) → leb (length x.letters) letters_alone ≡ t → (length x.letters ≤ letters_alone) ⊎ (letters_first ≤ length x.letters)
      go true e = inl (leb-true (length x.letters) letters_alone e)
      go false e = inr (leb-false (length x.letters) letters_alone e)

  pub length-feed : length (feed_bytes x) ≡ feed_length (length x.letters)
  length-feed = ⊎_elim length-only length_both cases

  -- ---- the number of blocks, and their lengths

  pub count-feed : length (feed_blocks x) ≡ feed_count (length x.letters)
  unfolding feed_count
  count-feed = ⊎_elim (λ h. ap length (blocks-one x w h) ∙ rw (le-leb (length x.letters) letters_alone h)) (λ h. ap length (blocks-two x w h) ∙ rw (lt-leb (length x.letters) letters_alone (omega arith))) cases

  -- "blocks (2.1 to 2.4) of at most 1,000 bytes"
  pub blocks-short : every_message (λ b. leb (length b) feed_longest) (feed_blocks x) ≡ true
  blocks-short = ⊎_elim one two cases
    where
      one : length x.letters ≤ letters_alone → every_message (λ b. leb (length b) feed_longest) (feed_blocks x) ≡ true
      one h = rw (blocks-one x w h, short-block 1 4 (only x w h) (fills_one x w h))

      two : letters_first ≤ length x.letters → every_message (λ b. leb (length b) feed_longest) (feed_blocks x) ≡ true
      two h = rw (blocks-two x w h, short-block 1 1 (first_one x w h) (fills_first x w h), short-block 16 3 (second_one x w h) (fills-second x w h))

-- ---- what a subscriber reads

-- and whose numbers have the widths of 002's, no letter coming twice
pub record Whole (x : Snapshot) : Type 0 where
  pub measured : Measured x
  pub fits : AllShown x.letters
  pub once : is_distinct (map (λ (v : Shown). v.letter) x.letters) ≡ true

module _ (x : Snapshot) (whole : Whole x) where
  abbrev w : Measured x
  w = whole.measured

  abbrev s : List ℕ
  s = x.symbol

  abbrev last : List ℕ
  last = finra_message s x.finra

  first-typed : Typed s (opening x w) true false false
  first-typed = typed-consolidated s x.national w.symbol w.national

  last-typed : Typed s last false false true
  last-typed = typed-finra s x.finra w.symbol w.finra

  letter-typed : (v : Shown) → Typed s (participant s v) false true false
  letter-typed v = typed-participant s v w.symbol

  -- ---- the messages by type

  no-consolidated : (vs : List Shown) → chosen is_consolidated (closing x w vs) ≡ []
  no-consolidated [] = rw last-typed.is_c
  no-consolidated (v ∷ vs) = rw ((letter-typed v).is_c, no-consolidated vs)

  participants : (vs : List Shown) → chosen is_participant (closing x w vs) ≡ of_letters x w vs
  participants [] = rw last-typed.is_p
  participants (v ∷ vs) = rw ((letter-typed v).is_p, participants vs)

  finras : (vs : List Shown) → chosen is_finra (closing x w vs) ≡ last ∷ []
  finras [] = rw last-typed.is_f
  finras (v ∷ vs) = rw ((letter-typed v).is_f, finras vs)

  known : (vs : List Shown) → every_message is_known (closing x w vs) ≡ true
  known [] = rw (last-typed.is_c, last-typed.is_p, last-typed.is_f)
  known (v ∷ vs) = rw ((letter-typed v).is_c, (letter-typed v).is_p, known vs)

  about : (vs : List Shown) → every_message (is_about s) (closing x w vs) ≡ true
  about [] = rw (last-typed.symbol, same-list s)
  about (v ∷ vs) = rw ((letter-typed v).symbol, same-list s, about vs)

  about-first : (vs : List Shown) → every_message (is_about (symbol_in (opening x w))) (closing x w vs) ≡ true
  about-first vs = subst (λ (t : List ℕ). every_message (is_about t) (closing x w vs) ≡ true) (sym first-typed.symbol) (about vs)

  letters-back : (vs : List Shown) → map letter_in (of_letters x w vs) ≡ map (λ (v : Shown). v.letter) vs
  letters-back [] = refl
  letters-back (v ∷ vs) = λ i. letter-back s v w.symbol i ∷ letters-back vs i

  all_back : (vs : List Shown) → AllShown vs → map shown_in (of_letters x w vs) ≡ vs
  all_back [] f = refl
  all_back (v ∷ vs) f = λ i. shown-back s v w.symbol f.0 i ∷ all_back vs f.1 i

  -- ---- the snapshot from its messages

  snapshot-back : snapshot_in (feed_messages x) ≡ Some (carried x)
  unfolding snapshot_in feed_messages
  snapshot-back =
      let o = opening x w in
      let vs = x.letters in
      let d : is_distinct (map letter_in (of_letters x w vs)) ≡ true = ap is_distinct (letters-back vs) ∙ whole.once in
      rw (first-typed.is_c, no-consolidated vs, first-typed.is_p, participants vs, first-typed.is_f, finras vs)
      (rw (about-first vs, first-typed.symbol, first-typed.is_c, known vs, same-list s, d)
      (λ i. Some (record { symbol = s; national = national-back s x.national w.symbol w.national i; finra = finra-back s x.finra w.symbol w.finra i; letters = all_back vs whole.fits i })))

  -- ---- the messages from the blocks

  messages-count : length (feed_messages x) ≡ length x.letters + 2
  unfolding feed_messages
  messages-count = ap suc (length-append (of_letters x w x.letters) (last ∷ []) ∙ ap (λ (n : ℕ). n + 1) (length-map x.letters (participant s))) ∙ omega arith

  received-run : (g : List (List ℕ)) (gs : List (List (List ℕ))) → feed_blocks x ≡ feed_from 1 true (g ∷ gs) → Fills g → AllFill gs → length gs < length (feed_bytes x)
      → ungrouped (g ∷ gs) ≡ feed_messages x → received (length (feed_bytes x)) 1 true (feed_bytes x) ≡ Some (feed_messages x)
  unfolding feed_bytes
  received-run g gs b f fs h u =
      ap (λ (bs : List (List ℕ)). received (length (feed_bytes x)) 1 true (joined bs)) b
      ∙ run-back gs (length (feed_bytes x)) 1 true g f fs h (omega (arith, ap length u, messages-count, w.few)) ∙ ap Some u

  parted : (h : letters_first ≤ length x.letters) → ungrouped (first_one x w h ∷ second_one x w h ∷ []) ≡ feed_messages x
  unfolding feed_messages
  parted h =
      let vs = x.letters in
      let a = of_letters x w (take letters_first vs) in
      let c = of_letters x w (drop letters_first vs) in
      ap (λ (ms : List (List ℕ)). opening x w ∷ (a ++ ms)) (append-nil (c ++ (last ∷ [])))
      ∙ ap (λ (ms : List (List ℕ)). opening x w ∷ ms) (sym (append_assoc a c (last ∷ [])) ∙ ap (λ (ms : List (List ℕ)). ms ++ (last ∷ [])) (sym (map-append (participant s) (take letters_first vs) (drop letters_first vs)) ∙ ap (of_letters x w) (take-append-drop letters_first vs)))

  long-enough : 2 < length (feed_bytes x)
  unfolding feed_length
  long-enough = omega (arith, length-feed x w)

  received-only : length x.letters ≤ letters_alone → received (length (feed_bytes x)) 1 true (feed_bytes x) ≡ Some (feed_messages x)
  unfolding feed_from feed_messages
  received-only h = received-run (only x w h) [] (blocks-one x w h) (fills_one x w h) tt (omega (arith, long-enough)) (append-nil (only x w h))

  received-both : letters_first ≤ length x.letters → received (length (feed_bytes x)) 1 true (feed_bytes x) ≡ Some (feed_messages x)
  received-both h = received-run (first_one x w h) (second_one x w h ∷ []) (groups-two x w h) (fills_first x w h) (fills-second x w h, tt) (omega (arith, long-enough)) (parted h)

  -- the theorem
  pub decoded-back : decoded (feed_bytes x) ≡ Some (carried x)
  unfolding decoded
  decoded-back = rw (⊎_elim received-only received-both (cases x w)) snapshot-back
