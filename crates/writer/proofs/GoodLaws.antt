-- The facts of lengths that pass check 71, and the messages that they cut.
-- Assumes nothing.
use Prim.Native.Nat.{ℕ, suc, ◌+◌, ◌≤◌, ◌<◌}
use mathlib.Core.Path.{◌≡◌, refl, sym, ap, ◌∙◌}
use mathlib.Core.Bool.{Bool, true, false}
use mathlib.Core.List.{List, [], ◌∷◌, ◌++◌, map}
use native.Mathlib.Omega.{arith}
use lib.Dec.{leb, eqb}
use lib.ListN.{length, take, drop, get_or, length-drop, take-append-drop}
use lib.Seq.{length-take-le, drop-cons, take_at, drop_at}
use native.Mathlib.Numerals.{add-one}
use borrow.Author.Tests.{leb-true, eqb-true, le-leb, lt-leb, eq-eqb, ne_eqb}
use Rattle.lists.specs.Lists.{every, sum}
use Rattle.lists.proofs.Tests.{and-true}
use Rattle.block.specs.Block.{block_longest, message_shortest, messages_most}
use Rattle.block.specs.Written.{joined, length_with, cut_by, lengths_good}

pub record Good (ns : List ℕ) (n : ℕ) : Type 0 where
  pub some : 1 ≤ length ns
  pub few : length ns ≤ messages_most
  pub long : every (leb message_shortest) ns ≡ true
  pub adds : sum ns ≡ n
  pub short : length_with (length ns) n ≤ block_longest

pub good-is : (ns : List ℕ) (n : ℕ) → lengths_good ns n ≡ true → Good ns n
unfolding lengths_good
good-is ns n e =
    let a = and-true (leb 1 (length ns)) _ e in
    let b = and-true (leb (length ns) messages_most) _ a.1 in
    let c = and-true (every (leb message_shortest) ns) _ b.1 in
    let d = and-true (eqb (sum ns) n) _ c.1 in
    record { some = leb-true 1 (length ns) a.0; few = leb-true (length ns) messages_most b.0; long = c.0; adds = eqb-true (sum ns) n d.0; short = leb-true (length_with (length ns) n) block_longest d.1 }

-- ---- each `return` of the check

module _ (ns : List ℕ) (n : ℕ) where
  pub good_none : length ns < 1 → false ≡ lengths_good ns n
  unfolding lengths_good
  good_none h = rw (lt-leb 1 (length ns) h)

  pub good-many : 1 ≤ length ns → 45 < length ns → false ≡ lengths_good ns n
  unfolding lengths_good
  good-many a h = rw (le-leb 1 (length ns) a, lt-leb (length ns) messages_most h)

  module _ (a : 1 ≤ length ns) (b : length ns ≤ messages_most) where
    pub good-short : every (leb message_shortest) ns ≡ false → false ≡ lengths_good ns n
    unfolding lengths_good
    good-short h = rw (le-leb 1 (length ns) a, le-leb (length ns) messages_most b, h)

    module _ (c : every (leb message_shortest) ns ≡ true) where
      pub good-sum : (sum ns ≡ n → ⊥) → false ≡ lengths_good ns n
      unfolding lengths_good
      good-sum h = rw (le-leb 1 (length ns) a, le-leb (length ns) messages_most b, c, ne_eqb (sum ns) n h)

      pub good-last : sum ns ≡ n → (t : Bool) → t ≡ leb (length_with (length ns) n) block_longest → t ≡ lengths_good ns n
      unfolding lengths_good
      good-last h t e = rw (le-leb 1 (length ns) a, le-leb (length ns) messages_most b, c, eq-eqb (sum ns) n h) e

-- ---- the messages that they cut

pub cut-count : (ns b : List ℕ) → length (cut_by ns b) ≡ length ns
unfolding cut_by
cut-count [] b = refl
cut-count (n ∷ ns) b = ap suc (cut-count ns (drop n b))

pub cut-lengths : (ns b : List ℕ) → sum ns ≤ length b → map length (cut_by ns b) ≡ ns
unfolding cut_by sum
cut-lengths [] b h = refl
cut-lengths (n ∷ ns) b h = λ i. length-take-le n b (omega arith) i ∷ cut-lengths ns (drop n b) (simp length-drop (omega arith)) i

pub cut-joined : (ns b : List ℕ) → sum ns ≡ length b → joined (cut_by ns b) ≡ b
unfolding cut_by sum
cut-joined [] [] h = refl
cut-joined [] (x ∷ b) h = absurd (omega arith)
cut-joined (n ∷ ns) b h = ap (λ (l : List ℕ). take n b ++ l) (cut-joined ns (drop n b) (simp length-drop (omega arith))) ∙ take-append-drop n b

-- messages laid end to end are cut by their lengths
pub cut-back : (ms : List (List ℕ)) → cut_by (map length ms) (joined ms) ≡ ms
unfolding cut_by
cut-back [] = refl
cut-back (m ∷ ms) =
    λ i. take_at m (joined ms) (length m) refl i ∷ (ap (cut_by (map length ms)) (drop_at m (joined ms) (length m) refl) ∙ cut-back ms) i

-- ---- lengths from i on, each 20 or more

every-at : (ns : List ℕ) (i : ℕ) → i < length ns → every (leb message_shortest) (drop i ns) ≡ true → (leb message_shortest (get_or ns i 0) ≡ true) × (every (leb message_shortest) (drop (i + 1) ns) ≡ true)
unfolding every
every-at ns i h e =
    let d : drop i ns ≡ get_or ns i 0 ∷ drop (i + 1) ns = drop-cons ns i 0 h ∙ ap (λ (k : ℕ). get_or ns i 0 ∷ drop k ns) (sym (add-one i)) in
    and-true (leb message_shortest (get_or ns i 0)) (every (leb message_shortest) (drop (i + 1) ns)) (rw d at e)

pub first-long : (ns : List ℕ) (i : ℕ) → i < length ns → every (leb message_shortest) (drop i ns) ≡ true → 20 ≤ get_or ns i 0
first-long ns i h e = leb-true 20 (get_or ns i 0) (every-at ns i h e).0

pub rest-long : (ns : List ℕ) (i : ℕ) → i < length ns → every (leb message_shortest) (drop i ns) ≡ true → every (leb message_shortest) (drop (i + 1) ns) ≡ true
rest-long ns i h e = (every-at ns i h e).1
