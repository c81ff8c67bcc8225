-- T-09 (document 02): "For every two mixings of these blocks, the publications, the line records and each message's code are equal at the end. Change flags
-- may differ. This is to hold for all blocks, refused ones among them." T-14: "T-09 then covers lists in which none was refused here": if in one mixing no
-- block is answered with 86, in none is one.
-- It rests on `call`, `bytes_after` and `answers` (calls/specs/Call.antt), and on `Mixing`, `OneLineEach`, `heard`, `NoneRefused` and `Same` (specs/Mixing.antt).
-- Assumes nothing.
use Prim.Native.Nat.{ℕ}
use mathlib.Core.Path.{◌≡◌, refl, sym, ap, ◌∙◌}
use mathlib.Core.Bool.{Bool, true, false}
use mathlib.Core.List.{List, map}
use Rattle.field.specs.Field.{Bytes}
use Rattle.opening.specs.Opening.{sound, symbols_of, lines_in}
use Rattle.opening.proofs.OpeningLaws.{sound-of}
use Rattle.calls.specs.Call.{Call, read, Answer, call, bytes_after, answers}
use Rattle.mixing.specs.Mixing.{Received, calls, Mixing, OneLineEach, codes_in, codes, NoneRefused, Same}
use Rattle.mixing.proofs.StepLaws.{alone_of}
use Rattle.mixing.proofs.LineSwaps.{unset}
use Rattle.mixing.proofs.MoveLaws.{Moved, sound-mixings, none-mixings, none-used, unset-passes}

mixed : (b : List ℕ) → Bytes b → OneLineEach b → (f : ℕ → List Received) (xs ys : List Received) → Mixing f xs → Mixing f ys → NoneRefused b ys → Moved b ys xs
mixed b v o f xs ys p q w = go (sound b) refl
  where
    go : (t : Bool) → sound b ≡ t → Moved b ys xs
    go true e = sound-mixings (symbols_of b) xs ys (λ i. p i ∙ sym (q i)) b (sound-of b e) v (alone_of b o) w
    go false e = none-mixings b e xs ys (λ i. p i ∙ sym (q i))

-- for all memory b, any bytes, in which each letter has at most one line, all blocks f of each line and all mixings xs and ys of them, if no block of ys is
-- refused with 86: every byte of the book is the same at the end, and each line hears the same. b need be no book, and the day need not be open: the blocks
-- are then refused alike
pub mixings : (b : List ℕ) → Bytes b → OneLineEach b → (f : ℕ → List Received) (xs ys : List Received) → Mixing f xs → Mixing f ys → NoneRefused b ys → Same b xs ys
mixings b v o f xs ys p q w =
    let r : Same b ys xs = (mixed b v o f xs ys p q w).same in
    record { book = sym r.book; told = λ i. sym (r.told i) }

-- and none of xs is refused with 86 either
pub none-refused : (b : List ℕ) → Bytes b → OneLineEach b → (f : ℕ → List Received) (xs ys : List Received) → Mixing f xs → Mixing f ys → NoneRefused b ys → NoneRefused b xs
none-refused b v o f xs ys p q w = (mixed b v o f xs ys p q w).none

-- without an allowance no block ever is: T-09 covers every list
pub none-without : (b : List ℕ) → unset b ≡ true → (xs : List Received) → NoneRefused b xs
none-without b u xs = go (sound b) refl
  where
    go : (t : Bool) → sound b ≡ t → NoneRefused b xs
    go true e = unset-passes (symbols_of b) xs b (sound-of b e) u
    go false e = none-used b e xs

-- ---- in document 02's words

module _ (b : List ℕ) (v : Bytes b) (o : OneLineEach b) (f : ℕ → List Received) (xs ys : List Received) (p : Mixing f xs) (q : Mixing f ys) (w : NoneRefused b ys) where
  -- "the publications": every read of every symbol
  pub same-publications : (s : List ℕ) (room : ℕ) → (call (bytes_after b (calls xs)) (read s room)).answer ≡ (call (bytes_after b (calls ys)) (read s room)).answer
  same-publications s room = ap (λ (c : List ℕ). (call c (read s room)).answer) (mixings b v o f xs ys p q w).book

  -- "the line records": letter, next expected number and count of every line
  pub same-records : lines_in (bytes_after b (calls xs)) ≡ lines_in (bytes_after b (calls ys))
  same-records = ap lines_in (mixings b v o f xs ys p q w).book

  -- "and each message's code": line by line and block by block
  pub same_codes : (i : ℕ) → codes i xs (answers b (calls xs)) ≡ codes i ys (answers b (calls ys))
  same_codes i = ap (λ (l : List Answer). map (λ (a : Answer). codes_in a.answers) l) ((mixings b v o f xs ys p q w).told i)

  -- whatever calls follow are answered alike, change flags too
  pub same_after : (cs : List Call) → answers (bytes_after b (calls xs)) cs ≡ answers (bytes_after b (calls ys)) cs
  same_after cs = ap (λ (c : List ℕ). answers c cs) (mixings b v o f xs ys p q w).book
