-- What the answer to a taken block satisfies, on any bytes: its counts are those of its messages; its bytes are four for each message, each under 256.
-- Assumes nothing.
use Prim.Native.Nat.{ℕ, zero, suc, ◌+◌, ◌*◌, ◌^◌, ◌≤◌, ◌<◌}
use mathlib.Core.Path.{◌≡◌, refl, sym, ap, ◌∙◌}
use mathlib.Core.Bool.{Bool, true, false, not, ◌&&◌, cond}
use mathlib.Core.List.{List, [], ◌∷◌}
use Rattle.std.specs.Prelude.{Option, None, Some}
use native.Mathlib.Omega.{arith}
use lib.Bits.{or_lt}
use lib.Dec.{ltb, eqb, lit<}
use lib.ListN.{length}
use Rattle.field.specs.Field.{Bytes}
use Rattle.lists.specs.Lists.{at, member, every}
use Rattle.lists.proofs.Tests.{clash, Cut, equal, apart, cut}
use Rattle.entries.specs.Publication.{same_entry, flag, change_flags}
use Rattle.message.specs.Message.{kind_of, symbol_of, partly_by, partly_taken}
use Rattle.message.proofs.SpokenLaws.{partly-no}
use Rattle.block.specs.Block.{count_in, messages_from, messages_of, messages_most, answer_length}
use Rattle.block.proofs.CheckLaws.{Passed, passed}
use Rattle.update.specs.Parts.{known_of}
use Rattle.update.proofs.CellLaws.{member_below}
use Rattle.opening.specs.declared.Line.{Line}
use Rattle.opening.specs.Opening.{sound, Rest, rest_in, pages_in, reading_for}
use Rattle.allowance.specs.Allowance.{is_used_up}
use Rattle.line.specs.Line.{block_number, on_line, done}
use Rattle.calls.specs.Call.{take, number_of, Answer, bare, line_answer, letter_of, answer_of, lot_on, published_on, candidates_on, quotes_on, number_on, call}
use Rattle.told.specs.Told.{quads, tally, is_accepted, is_partly, is_rejected}
use Rattle.work.specs.Work.{Listed, listed_of, flags_of, publications, code_on, message_on, told_on}
use Rattle.told.specs.declared.Told.{Told}
use Rattle.calls.proofs.NumberLaws.{unsound}
use Rattle.calls.proofs.TakenLaws.{taken-passes}
use Rattle.review.specs.Numbers.{codes}
use Rattle.review.proofs.NumberLaws.{code-known}
use Rattle.review.proofs.ReportLaws.{number-told}

-- ---- flags

flag-most : (k : ℕ) (t : Bool) → flag k t ≤ 2 ^ k
flag-most k true = omega arith
flag-most k false = omega arith

change-below : (a b : List ℕ) → change_flags a b < 2 ^ 6
unfolding change_flags
change-below a b =
    omega (arith, flag-most 0 (same_entry a b 0), flag-most 1 (same_entry a b 1), flag-most 2 (same_entry a b 2), flag-most 3 (same_entry a b 3), flag-most 4 (same_entry a b 4), flag-most 5 (same_entry a b 5))

flags-below : (xs ys : List (List ℕ)) → flags_of xs ys < 2 ^ 6
unfolding flags_of
flags-below [] ys = lit< tt
flags-below (x ∷ xs) [] = lit< tt
flags-below (x ∷ xs) (y ∷ ys) = or_lt 6 (change_flags x y) (flags_of xs ys) (change-below x y) (flags-below xs ys)

-- ---- what is told of a message

-- not both accepted and partly accepted; the code is one of document 01's
record Clean (t : Told) : Type 0 where
  apart : is_accepted t ≡ true → is_partly t ≡ false
  code : member codes t.code ≡ true
  flags : t.flags < 64

abbrev AllClean : List Told → Type 0
AllClean [] = Unit {0}
AllClean (t ∷ ts) = Clean t × AllClean ts

accepted-whole : (c : ℕ) (m : List ℕ) → eqb c 0 ≡ true → partly_taken c m ≡ false
unfolding partly_taken
accepted-whole c m e = go (cut c 0) e
  where
    go : Cut c 0 → eqb c 0 ≡ true → partly_by c (kind_of m) ≡ false
    go (equal t p) e = rw p (partly-no 0 (kind_of m) refl)
    go (apart t p) e = clash (sym e ∙ t)

told-clean : (b : List ℕ) (letter : ℕ) (ms : List (List ℕ)) → AllClean (told_on b letter ms)
unfolding told_on
told-clean b letter [] = tt
told-clean b letter (m ∷ ms) = (
  record {
    apart = accepted-whole (code_on letter m b) m;
    code = code-known (known_of (reading_for b (symbol_of m))) letter m;
    flags = flags-below (publications (pages_in b)) (publications (pages_in (message_on letter m b)));
  },
  told-clean (message_on letter m b) letter ms,
)

told-length : (b : List ℕ) (letter : ℕ) (ms : List (List ℕ)) → length (told_on b letter ms) ≡ length ms
unfolding told_on
told-length b letter [] = refl
told-length b letter (m ∷ ms) = ap suc (told-length (message_on letter m b) letter ms)

from-length : (k : List ℕ) (i n : ℕ) → length (messages_from k i n) ≡ n
unfolding messages_from
from-length k i zero = refl
from-length k i (suc n) = ap suc (from-length k (i + 1) n)

messages-length : (k : List ℕ) → length (messages_of k) ≡ count_in k
unfolding messages_of
messages-length k = from-length k 0 (count_in k)

-- ---- counts and bytes

tally-sum : (ts : List Told) → AllClean ts → tally is_accepted ts + tally is_partly ts + tally is_rejected ts ≡ length ts
unfolding tally
tally-sum [] c = refl
tally-sum (t ∷ ts) c = go (eqb t.code 0) t.partly c.0.apart (tally-sum ts c.1)
  where
    go : (a p : Bool) → (a ≡ true → p ≡ false) → tally is_accepted ts + tally is_partly ts + tally is_rejected ts ≡ length ts
        → cond a 1 0 + tally is_accepted ts + (cond p 1 0 + tally is_partly ts) + (cond (not a && not p) 1 0 + tally is_rejected ts) ≡ suc (length ts)
    go true true h e = clash (h refl)
    go true false h e = omega arith
    go false true h e = omega arith
    go false false h e = omega arith

quads-length : (i : ℕ) (ts : List Told) → length (quads i ts) ≡ 4 * length ts
unfolding quads
quads-length i [] = refl
quads-length i (t ∷ ts) = omega (arith, quads-length (i + 1) ts)

four_bytes : (a b c d : ℕ) (l : List ℕ) → a < 256 → b < 256 → c < 256 → d < 256 → Bytes l → Bytes (a ∷ b ∷ c ∷ d ∷ l)
four_bytes a b c d l e f g h y zero = e
four_bytes a b c d l e f g h y (suc zero) = f
four_bytes a b c d l e f g h y (suc (suc zero)) = g
four_bytes a b c d l e f g h y (suc (suc (suc zero))) = h
four_bytes a b c d l e f g h y (suc (suc (suc (suc j)))) = y j

quads-bytes : (i : ℕ) (ts : List Told) → i + length ts ≤ 256 → AllClean ts → Bytes (quads i ts)
unfolding quads every
quads-bytes i [] h c = λ j. lit< tt
quads-bytes i (t ∷ ts) h c =
    let f : t.flags < 64 = c.0.flags in
    four_bytes i t.code t.flags 0 (quads (i + 1) ts) (omega arith) (member_below codes 256 t.code refl c.0.code) (omega arith) (lit< tt)
    (quads-bytes (i + 1) ts (omega arith) c.1)

-- the four bytes of message j: "i, the code, the change flags and 0"
pub record Quad (l : List ℕ) (j i : ℕ) : Type 0 where
  pub index : at l (4 * j) ≡ i
  pub code : member codes (at l (4 * j + 1)) ≡ true
  pub flags : at l (4 * j + 2) < 64
  pub zero : at l (4 * j + 3) ≡ 0

next-quad : (l : List ℕ) (a b c d j i : ℕ) → Quad l j i → Quad (a ∷ b ∷ c ∷ d ∷ l) (suc j) i
next-quad l a b c d j i q =
    let e : 4 * suc j ≡ suc (suc (suc (suc (4 * j)))) = omega arith in
    let f : 4 * suc j + 1 ≡ suc (suc (suc (suc (4 * j + 1)))) = omega arith in
    let g : 4 * suc j + 2 ≡ suc (suc (suc (suc (4 * j + 2)))) = omega arith in
    let h : 4 * suc j + 3 ≡ suc (suc (suc (suc (4 * j + 3)))) = omega arith in
    record { index = rw e q.index; code = rw f q.code; flags = rw g q.flags; zero = rw h q.zero }

quad_at : (i : ℕ) (ts : List Told) → AllClean ts → (j : ℕ) → j < length ts → Quad (quads i ts) j (i + j)
unfolding quads
quad_at i [] c j h = absurd (omega arith)
quad_at i (t ∷ ts) c zero h = record { index = omega arith; code = c.0.code; flags = c.0.flags; zero = refl }
quad_at i (t ∷ ts) c (suc j) h =
    let e : i + suc j ≡ i + 1 + j = omega arith in
    rw e (next-quad (quads (i + 1) ts) i t.code t.flags 0 j (i + 1 + j) (quad_at (i + 1) ts c.1 j (omega arith)))

-- ---- a block that is taken has passed checks 30 to 34

-- the answer to a taken block
pub record BlockTold (k : List ℕ) (a : Answer) : Type 0 where
  pub some : 1 ≤ count_in k
  pub few : count_in k ≤ messages_most
  -- each message is accepted, partly accepted or rejected
  pub counts : a.accepted + a.partly + a.rejected ≡ count_in k
  pub size : length a.answers ≡ 4 * count_in k
  pub bytes : Bytes a.answers
  pub quad : (j : ℕ) → j < count_in k → Quad a.answers j j

line-told : (b : List ℕ) (q : ℕ) (k : List ℕ) (r : Line) (day used : Bool) → q ≡ block_number r day used k → done q ≡ true → BlockTold k (line_answer q k (told_on b r.letter (messages_of k)) (Some r))
unfolding block_number
line-told b q k r day used e d =
    let p : Passed k (count_in k) = passed k (count_in k) (taken-passes r day used k (sym (ap done e) ∙ d)) in
    let ts : List Told = told_on b r.letter (messages_of k) in
    let c : AllClean ts = told-clean b r.letter (messages_of k) in
    let l : length ts ≡ count_in k = told-length b r.letter (messages_of k) ∙ messages-length k in
    rw d
    (record {
      some = p.table.some;
      few = p.table.few;
      counts = tally-sum ts c ∙ l;
      size = quads-length 0 ts ∙ ap (λ (n : ℕ). 4 * n) l;
      bytes = quads-bytes 0 ts (omega (arith, l, p.table.few)) c;
      quad = λ j h. let e : 0 + j ≡ j = omega arith in rw e at (quad_at 0 ts c j (omega (arith, l)));
    })

done-nine : (q : ℕ) → done q ≡ true → eqb q 9 ≡ false
unfolding done
done-nine q d = go (cut q 9)
  where
    go : Cut q 9 → eqb q 9 ≡ false
    go (equal t e) = clash (sym (let z : done 9 ≡ true = ap done (sym e) ∙ d in z))
    go (apart t e) = t

take-told : (b : List ℕ) (r : Rest) (ls : List Listed) (i : ℕ) (k : List ℕ) (room : ℕ) → done (number_of r ls (take i k room)) ≡ true
    → BlockTold k (answer_of r (lot_on b) (told_on b) (published_on b) (candidates_on b) (quotes_on b) (number_of r ls (take i k room)) (take i k room))
unfolding answer_of number_of done
take-told b r ls i k room d = go (ltb room answer_length) (r.lines i) d
  where
    go : (t : Bool) (o : Option Line) → done (cond t 9 (on_line r.day (is_used_up r.allowance i) k o)) ≡ true
        → BlockTold k (cond {A = Answer} (eqb (cond t 9 (on_line r.day (is_used_up r.allowance i) k o)) 9) (bare (cond t 9 (on_line r.day (is_used_up r.allowance i) k o))) (line_answer (cond t 9 (on_line r.day (is_used_up r.allowance i) k o)) k (told_on b (letter_of o) (messages_of k)) o))
    go true o d = clash (sym d)
    go false None d = clash (sym d)
    go false (Some x) d = rw (done-nine (block_number x r.day (is_used_up r.allowance i) k) d) (line-told b (block_number x r.day (is_used_up r.allowance i) k) k x r.day (is_used_up r.allowance i) refl d)

-- whatever the bytes of the book and of the block
pub block-told : (b : List ℕ) (i : ℕ) (k : List ℕ) (room : ℕ) → done (call b (take i k room)).answer.number ≡ true → BlockTold k (call b (take i k room)).answer
unfolding call number_on
block-told b i k room e = go (sound b) refl
  where
    d : done (number_on b (take i k room)) ≡ true
    d = sym (ap done (number-told b (take i k room) refl)) ∙ e

    go : (t : Bool) → sound b ≡ t
        → BlockTold k (cond {A = Answer} (sound b) (answer_of (rest_in b) (lot_on b) (told_on b) (published_on b) (candidates_on b) (quotes_on b) (cond (sound b) (number_of (rest_in b) (listed_of (pages_in b)) (take i k room)) 1) (take i k room)) (bare 1))
    go true s = let c : done (number_of (rest_in b) (listed_of (pages_in b)) (take i k room)) ≡ true = rw s at d in rw s (take-told b (rest_in b) (listed_of (pages_in b)) i k room c)
    go false s = clash (sym d ∙ unsound b (take i k room) s refl)
