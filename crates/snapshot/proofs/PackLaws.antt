-- Which messages each block has: one block up to 13 letters, two from 14 on; their lengths.
-- Assumes nothing.
use Prim.Native.Nat.{ℕ, zero, suc, ◌+◌, ◌*◌, ◌-◌, ◌%◌, ◌≤◌, ◌<◌}
use mathlib.Core.Path.{◌≡◌, refl, sym, ap, ap₂, ◌∙◌}
use mathlib.Core.Bool.{Bool, true, false, cond}
use mathlib.Core.Logic.{◌⊎◌, inl, inr}
use mathlib.Core.List.{List, [], ◌∷◌, ◌++◌, map, append-nil}
use native.Mathlib.Omega.{arith}
use borrow.Author.Tests.{le-leb, lt-leb, eqb-true}
use lib.Dec.{leb, eqb}
use lib.ListN.{length, take, drop, replicate, length-append, length-take, length-drop, length-map, take-append-drop}
use lib.Seq.{length-take-le, take-append-le, drop-append-le}
use Rattle.lists.specs.Lists.{all}
use Rattle.text.specs.Form.{symbol_length}
use Rattle.lists.proofs.Searches.{all-each}
use Rattle.block.specs.Written.{joined}
use Rattle.snapshot.specs.Snapshot.{Priced, Shown, BothEntries, Snapshot}
use Rattle.snapshot.specs.Feed.{consolidated, participant, finra_message, consolidated_length, participant_length, finra_length, feed_messages, feed_header, feed_longest, evened, fitting, grouped, feed_block, feed_from, feed_blocks, feed_bytes}
use Rattle.snapshot.specs.Sizes.{letters_most, letters_alone, letters_first, feed_count, feed_length}
use Rattle.snapshot.proofs.MessageLaws.{Sized, length-consolidated, length-participant, length-finra, laid-consolidated, laid-participant, laid-finra}
use Rattle.snapshot.proofs.BlockLaws.{AllLaid, Fills, AllFill, ungrouped, length-with}

-- ---- "as many messages as fit" goes by the lengths alone

abbrev fitting_by : ℕ → List ℕ → ℕ
fitting_by used [] = 0
fitting_by used (n ∷ ns) = cond (leb (evened (used + n)) feed_longest) (suc (fitting_by (used + n) ns)) 0

fitting-by : (used : ℕ) (ms : List (List ℕ)) → fitting used ms ≡ fitting_by used (map length ms)
unfolding fitting
fitting-by used [] = refl
fitting-by used (m ∷ ms) = rw (fitting-by (used + length m) ms)

-- the lengths of k Participant messages and FINRA's
abbrev tail_lengths : ℕ → List ℕ
tail_lengths k = replicate k participant_length ++ (finra_length ∷ [])

-- by computing, for every number of letters
abbrev first_test : ℕ → Bool
first_test k = eqb (fitting_by feed_header (consolidated_length ∷ tail_lengths k)) (cond (leb k letters_alone) (k + 2) (letters_first + 1))

firsts : all first_test 0 (letters_most + 1) ≡ true
unfolding all
firsts = refl

first-fitting : (k : ℕ) → k ≤ letters_most → fitting_by feed_header (consolidated_length ∷ tail_lengths k) ≡ cond (leb k letters_alone) (k + 2) (letters_first + 1)
first-fitting k h = eqb-true _ _ (all-each first_test 0 (letters_most + 1) firsts k (omega arith) (omega arith))

abbrev last_test : ℕ → Bool
last_test j = eqb (fitting_by feed_header (tail_lengths j)) (j + 1)

lasts : all last_test 0 (letters_most - letters_first + 1) ≡ true
unfolding all
lasts = refl

last-fitting : (j : ℕ) → j ≤ letters_most - letters_first → fitting_by feed_header (tail_lengths j) ≡ j + 1
last-fitting j h = eqb-true _ _ (all-each last_test 0 (letters_most - letters_first + 1) lasts j (omega arith) (omega arith))

-- ---- lists

take_all : {A : Type 0} (l : List A) (n : ℕ) → n ≡ length l → take n l ≡ l
take_all [] n e = rw e
take_all (x ∷ l) n e = rw e (ap (λ (k : List _). x ∷ k) (take_all l (length l) refl))

drop_all : {A : Type 0} (l : List A) (n : ℕ) → n ≡ length l → drop n l ≡ []
drop_all [] n e = rw e
drop_all (x ∷ l) n e = rw e (drop_all l (length l) refl)

take-map : {A B : Type 0} (f : A → B) (n : ℕ) (l : List A) → take n (map f l) ≡ map f (take n l)
take-map f zero l = refl
take-map f (suc n) [] = refl
take-map f (suc n) (x ∷ l) = ap (λ (k : List _). f x ∷ k) (take-map f n l)

drop-map : {A B : Type 0} (f : A → B) (n : ℕ) (l : List A) → drop n (map f l) ≡ map f (drop n l)
drop-map f zero l = refl
drop-map f (suc n) [] = refl
drop-map f (suc n) (x ∷ l) = drop-map f n l

pub map-append : {A B : Type 0} (f : A → B) (a b : List A) → map f (a ++ b) ≡ map f a ++ map f b
map-append f [] b = refl
map-append f (x ∷ a) b = ap (λ (k : List _). f x ∷ k) (map-append f a b)

grouped-none : (n : ℕ) → grouped n [] ≡ []
unfolding grouped
grouped-none zero = refl
grouped-none (suc n) = refl

grouped-all : (n : ℕ) (ms : List (List ℕ)) → 1 ≤ n → 1 ≤ length ms → fitting feed_header ms ≡ length ms → grouped n ms ≡ ms ∷ []
unfolding grouped
grouped-all zero ms a b e = absurd (omega arith)
grouped-all (suc n) [] a b e = absurd (omega arith)
grouped-all (suc n) (m ∷ ms) a b e = rw (e, take_all (m ∷ ms) (suc (length ms)) refl, drop_all (m ∷ ms) (suc (length ms)) refl, grouped-none n)

grouped-some : (n j : ℕ) (m : List ℕ) (ms : List (List ℕ)) → fitting feed_header (m ∷ ms) ≡ suc j → grouped (suc n) (m ∷ ms) ≡ (m ∷ take j ms) ∷ grouped n (drop j ms)
unfolding grouped
grouped-some n j m ms e = rw e

-- ---- the messages of a snapshot

-- a snapshot whose fields have the lengths of 002's
pub record Measured (x : Snapshot) : Type 0 where
  pub symbol : length x.symbol ≡ symbol_length
  pub national : Sized x.national
  pub finra : Sized x.finra
  pub few : length x.letters ≤ letters_most

module _ (x : Snapshot) (w : Measured x) where
  abbrev pub opening : List ℕ
  opening = consolidated x.symbol x.national

  abbrev pub of_letters : List Shown → List (List ℕ)
  of_letters vs = map (participant x.symbol) vs

  abbrev pub closing : List Shown → List (List ℕ)
  closing vs = of_letters vs ++ (finra_message x.symbol x.finra ∷ [])

  length-closing : (vs : List Shown) → length (closing vs) ≡ suc (length vs)
  length-closing [] = refl
  length-closing (v ∷ vs) = ap suc (length-closing vs)

  lengths : (vs : List Shown) → map length (closing vs) ≡ tail_lengths (length vs)
  lengths [] = λ i. length-finra x.symbol x.finra w.symbol w.finra i ∷ []
  lengths (v ∷ vs) = λ i. length-participant x.symbol v w.symbol i ∷ lengths vs i

  pub joined-letters : (vs : List Shown) → length (joined (of_letters vs)) ≡ participant_length * length vs
  joined-letters [] = refl
  joined-letters (v ∷ vs) =
      omega (arith, length-append (participant x.symbol v) (joined (of_letters vs)), length-participant x.symbol v w.symbol, joined-letters vs)

  pub joined-closing : (vs : List Shown) → length (joined (closing vs)) ≡ participant_length * length vs + finra_length
  joined-closing [] = length-append (finra_message x.symbol x.finra) [] ∙ omega (arith, length-finra x.symbol x.finra w.symbol w.finra)
  joined-closing (v ∷ vs) =
      omega (arith, length-append (participant x.symbol v) (joined (closing vs)), length-participant x.symbol v w.symbol, joined-closing vs)

  joined-opening : (ms : List (List ℕ)) → length (joined (opening ∷ ms)) ≡ consolidated_length + length (joined ms)
  joined-opening ms = length-append opening (joined ms) ∙ ap (λ (n : ℕ). n + length (joined ms)) (length-consolidated x.symbol x.national w.symbol w.national)

  laid-letters : (vs : List Shown) → AllLaid (of_letters vs)
  laid-letters [] = tt
  laid-letters (v ∷ vs) = (laid-participant x.symbol v w.symbol, laid-letters vs)

  laid-closing : (vs : List Shown) → AllLaid (closing vs)
  laid-closing [] = (laid-finra x.symbol x.finra w.symbol w.finra, tt)
  laid-closing (v ∷ vs) = (laid-participant x.symbol v w.symbol, laid-closing vs)

  laid-opening : (ms : List (List ℕ)) → AllLaid ms → AllLaid (opening ∷ ms)
  laid-opening ms l = (laid-consolidated x.symbol x.national w.symbol w.national, l)

  -- ---- one block

  module _ (h : length x.letters ≤ letters_alone) where
    abbrev pub only : List (List ℕ)
    only = opening ∷ closing x.letters

    pub blocks-one : feed_blocks x ≡ feed_block 1 4 only ∷ []
    unfolding feed_blocks feed_messages feed_from
    blocks-one =
        let f : fitting feed_header only ≡ length only =
        fitting-by feed_header only
        ∙ (λ i. fitting_by feed_header (length-consolidated x.symbol x.national w.symbol w.national i ∷ lengths x.letters i))
        ∙ first-fitting (length x.letters) w.few ∙ rw (le-leb (length x.letters) letters_alone h) (omega (arith, length-closing x.letters)) in
        ap (feed_from 1 true) (grouped-all (length only) only (omega arith) (omega arith) f)

    pub fills_one : Fills only
    fills_one =
        let n : length (joined only) ≡ consolidated_length + (participant_length * length x.letters + finra_length) = joined-opening (closing x.letters) ∙ ap (λ (i : ℕ). consolidated_length + i) (joined-closing x.letters) in
        record { laid = laid-opening (closing x.letters) (laid-closing x.letters); some = omega arith; few = omega (arith, length-closing x.letters); short = omega (arith, n) }

    pub length-one : length (feed_block 1 4 only) ≡ feed_length (length x.letters)
    unfolding feed_block feed_length feed_count
    length-one =
        let n : length (joined only) ≡ consolidated_length + (participant_length * length x.letters + finra_length) = joined-opening (closing x.letters) ∙ ap (λ (i : ℕ). consolidated_length + i) (joined-closing x.letters) in
        length-with 1 4 only _ ∙ rw (le-leb (length x.letters) letters_alone h) (omega (arith, n))

  -- ---- two

  module _ (h : letters_first ≤ length x.letters) where
    abbrev pub first_one : List (List ℕ)
    first_one = opening ∷ of_letters (take letters_first x.letters)

    abbrev pub second_one : List (List ℕ)
    second_one = closing (drop letters_first x.letters)

    length-first : length first_one ≡ 15
    length-first = ap suc (length-map (take letters_first x.letters) (participant x.symbol) ∙ length-take-le letters_first x.letters h)

    length_rest : length (drop letters_first x.letters) ≡ length x.letters - letters_first
    length_rest = length-drop letters_first x.letters

    pub groups-two : feed_blocks x ≡ feed_from 1 true (first_one ∷ second_one ∷ [])
    unfolding feed_blocks feed_messages
    groups-two =
        let vs = x.letters in
        let f : fitting feed_header (opening ∷ closing vs) ≡ 15 =
        fitting-by feed_header (opening ∷ closing vs)
        ∙ (λ i. fitting_by feed_header (length-consolidated x.symbol x.national w.symbol w.national i ∷ lengths vs i))
        ∙ first-fitting (length vs) w.few ∙ rw (lt-leb (length vs) letters_alone (omega arith)) in
        let n : length (of_letters vs) ≡ length vs = length-map vs (participant x.symbol) in
        let t : take letters_first (closing vs) ≡ of_letters (take letters_first vs) = take-append-le letters_first (of_letters vs) _ (omega (arith, n)) ∙ take-map (participant x.symbol) letters_first vs in
        let d : drop letters_first (closing vs) ≡ second_one = drop-append-le letters_first (of_letters vs) _ (omega (arith, n)) ∙ ap (λ (ms : List (List ℕ)). ms ++ (finra_message x.symbol x.finra ∷ [])) (drop-map (participant x.symbol) letters_first vs) in
        let l : fitting feed_header second_one ≡ length second_one =
        fitting-by feed_header second_one ∙ ap (fitting_by feed_header) (lengths (drop letters_first vs)) ∙ last-fitting (length (drop letters_first vs)) (omega (arith, length_rest, w.few)) ∙ omega (arith, length-closing (drop letters_first vs)) in
        let g : grouped (length (opening ∷ closing vs)) (opening ∷ closing vs) ≡ first_one ∷ second_one ∷ [] =
        grouped-some (length (closing vs)) letters_first opening (closing vs) f
        ∙ (λ i. (opening ∷ t i) ∷ grouped (length (closing vs)) (d i))
        ∙ ap (λ (gs : List (List (List ℕ))). first_one ∷ gs) (grouped-all (length (closing vs)) second_one (omega (arith, length-closing vs)) (omega (arith, length-closing (drop letters_first vs))) l) in
        ap (feed_from 1 true) g

    pub blocks-two : feed_blocks x ≡ feed_block 1 1 first_one ∷ feed_block 16 3 second_one ∷ []
    unfolding feed_from
    blocks-two = groups-two ∙ (λ i. feed_block 1 1 first_one ∷ feed_block (1 + length-first i) 3 second_one ∷ [])

    joined-first : length (joined first_one) ≡ consolidated_length + participant_length * letters_first
    joined-first = joined-opening (of_letters (take letters_first x.letters)) ∙ ap (λ (i : ℕ). consolidated_length + i) (joined-letters (take letters_first x.letters) ∙ ap (λ (i : ℕ). participant_length * i) (length-take-le letters_first x.letters h))

    joined-second : length (joined second_one) ≡ participant_length * (length x.letters - letters_first) + finra_length
    joined-second = joined-closing (drop letters_first x.letters) ∙ ap (λ (i : ℕ). participant_length * i + finra_length) length_rest

    pub fills_first : Fills first_one
    fills_first =
        record { laid = laid-opening (of_letters (take letters_first x.letters)) (laid-letters (take letters_first x.letters)); some = omega arith; few = omega (arith, length-first); short = omega (arith, joined-first) }

    pub fills-second : Fills second_one
    fills-second =
        let c : length second_one ≡ suc (length (drop letters_first x.letters)) = length-closing (drop letters_first x.letters) in
        record { laid = laid-closing (drop letters_first x.letters); some = omega (arith, c); few = omega (arith, c, length_rest, w.few); short = omega (arith, joined-second, w.few) }

    pub length-block-first : length (feed_block 1 1 first_one) ≡ 994
    unfolding feed_block
    length-block-first = length-with 1 1 first_one _ ∙ omega (arith, joined-first)

    pub length-block-second : length (feed_block 16 3 second_one) + 994 ≡ feed_length (length x.letters)
    unfolding feed_block feed_length feed_count
    length-block-second =
        ap (λ (n : ℕ). n + 994) (length-with 16 3 second_one _) ∙ rw (lt-leb (length x.letters) letters_alone (omega arith)) (omega (arith, joined-second))
