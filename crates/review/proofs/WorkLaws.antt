-- The messages of a block, on readings: they stay as the history has them, and codes and flags are the reviewer's.
-- Assumes nothing.
use Prim.Native.Nat.{ℕ, ◌<◌}
use mathlib.Core.Path.{◌≡◌, refl, sym, ap, ◌∙◌}
use mathlib.Core.Bool.{Bool, true, false, cond}
use mathlib.Core.Logic.{◌⊎◌, inl, inr}
use mathlib.Core.List.{List, [], ◌∷◌}
use native.Mathlib.Omega.{arith}
use lib.Dec.{ltb, leb, eqb}
use lib.ListN.{length}
use borrow.Author.Tests.{ltb-true, leb-true, ne_eqb}
use Rattle.quote.specs.declared.Quote.{Quote}
use Rattle.lists.specs.Lists.{is_some}
use Rattle.lists.proofs.Tests.{clash, Cut, equal, apart, cut}
use Rattle.message.specs.declared.Kind.TheVariants as kind
use Rattle.message.specs.declared.Message.{Message}
use Rattle.message.specs.Message.{quote_at, symbol_of, maker_name, message_of, Known, maker_code, code_by, code_of, Part, round_part_of, odd_part_of, maker_part_of, status_of, status_part_of, partly_taken, parts_of, round_lot_odd, odd_lot_odd}
use Rattle.message.proofs.SpokenLaws.{Spoken, refused, idle, finra, round, odd, maker, status, spoken, parts-refused, parts_whole, parts-round, parts-odd, parts-maker, parts-status}
use Rattle.page.specs.Page.{occupied}
use Rattle.makers.specs.Makers.{find_maker}
use Rattle.update.specs.Parts.{Reading, known_by, known_of}
use Rattle.update.proofs.Model.{part_reading}
use Rattle.work.specs.Work.{Listed, is_listed, find_reading, listed_of, flags_of, publications}
use Rattle.told.specs.declared.Told.{Told}
use Rattle.review.specs.Reviewer.{parts, reviewed, code_r, message_r, messages_r, entries_r, told_r}
use Rattle.review.proofs.CellLaws.{Room}
use Rattle.review.proofs.SilentLaws.{names}
use Rattle.review.proofs.Agree.{Good, good-reviewed, AllGood, Core, ReadingOf, missing, found, reading-of, known_same}
use Rattle.review.proofs.PartLaws.{RoomFor, cells_in, core-part, part-listed}
use Rattle.review.proofs.CodeLaws.{Takes, takes_whole, takes-partly, round-taken, odd-taken, MakerTaken, maker-taken, status-taken, long}
use Rattle.review.proofs.KeptLaws.{onto, kept-parts}
use Rattle.page.specs.Layout.{maker_count}

-- ---- the book's work, on readings

abbrev pub parts_reading : List Part → List Reading → List Reading
parts_reading [] rs = rs
parts_reading (p ∷ ps) rs = parts_reading ps (part_reading p rs)

abbrev pub code_in : ℕ → List ℕ → List Reading → ℕ
code_in letter m rs = code_of (known_of (find_reading (symbol_of m) rs)) letter m

abbrev pub message_reading : ℕ → List ℕ → List Reading → List Reading
message_reading letter m rs = parts_reading (parts_of (code_in letter m rs) m) rs

abbrev pub messages_reading : ℕ → List (List ℕ) → List Reading → List Reading
messages_reading letter [] rs = rs
messages_reading letter (m ∷ ms) rs = messages_reading letter ms (message_reading letter m rs)

abbrev pub told_reading : List Reading → ℕ → List (List ℕ) → List Told
told_reading rs letter [] = []
told_reading rs letter (m ∷ ms) =
    record {
      code = code_in letter m rs;
      flags = flags_of (publications rs) (publications (message_reading letter m rs));
      partly = partly_taken (code_in letter m rs) m;
    } ∷ told_reading (message_reading letter m rs) letter ms

-- ---- parts that the readings take

pub record Ready (p : Part) (rs : List Reading) : Type 0 where
  pub room : RoomFor p rs
  pub listed : (s : ℕ) → is_listed s (listed_of rs) ≡ false → names p s ≡ false

abbrev pub AllReady : List Part → List Reading → Type 0
AllReady [] rs = Unit {0}
AllReady (p ∷ ps) rs = Ready p rs × AllReady ps (part_reading p rs)

parts-core : (ps : List Part) (h : List Part) (rs : List Reading) → Core h rs → AllReady ps rs → Core (onto ps h) (parts_reading ps rs)
parts-core [] h rs c r = c
parts-core (p ∷ ps) h rs c r = parts-core ps (p ∷ h) (part_reading p rs) (core-part p h rs c r.0.room r.0.listed) r.1

pub parts-listed : (ps : List Part) (rs : List Reading) → listed_of (parts_reading ps rs) ≡ listed_of rs
parts-listed [] rs = refl
parts-listed (p ∷ ps) rs = parts-listed ps (part_reading p rs) ∙ part-listed p rs

-- ---- what is known of a symbol

module _ (h : List Part) (rs : List Reading) (g : AllGood h rs) (s : ℕ) where
  listed-is : (known_of (find_reading s rs)).listed ≡ true → is_listed s (listed_of rs) ≡ true
  unfolding known_of
  listed-is e = go (reading-of s h rs g)
    where
      go : ReadingOf s h rs → is_listed s (listed_of rs) ≡ true
      go (missing a b) = clash (sym (rw a at e))
      go (found r a b w d) = b

  -- a listed symbol is the only one that a part of it names
  only : (known_of (find_reading s rs)).listed ≡ true → (k : ℕ) → is_listed k (listed_of rs) ≡ false → eqb s k ≡ false
  only e k f = ne_eqb s k (λ p. clash (sym (listed-is e) ∙ ap (λ (j : ℕ). is_listed j (listed_of rs)) p ∙ f))

  -- without 49 a cell is the maker's, or one is free, unless its quote is empty
  room_of : (m : ℕ) (q : Quote) → (known_of (find_reading s rs)).listed ≡ true → maker_code (known_of (find_reading s rs)) m q ≡ 0 → Room m q (cells_in (find_reading s rs))
  unfolding maker_code known_of known_by Room
  room_of m q k e n = go (reading-of s h rs g) k (rw n at e)
    where
      at : (r : Reading) → Good h r → (b : Bool) → is_some (find_maker m r.cells) ≡ b → (d : Bool) → ltb (length (occupied r.cells)) maker_count ≡ d
          → ◌≡◌ {A = ℕ} (cond b 0 (cond d 0 49)) 0 → (is_some (find_maker m r.cells) ≡ true) ⊎ (length (occupied r.cells) < length r.cells)
      at r d true y u z e = inl y
      at r d false y true z e = inr (omega (arith, d.size, ltb-true (length (occupied r.cells)) maker_count z))
      at r d false y false z e = absurd (omega arith)

      go : ReadingOf s h rs → (known_of (find_reading s rs)).listed ≡ true → ◌≡◌ {A = ℕ} (cond ((known_of (find_reading s rs)).stands m) 0 (cond (ltb (known_of (find_reading s rs)).count maker_count) 0 49)) 0
          → (is_some (find_maker m (cells_in (find_reading s rs))) ≡ true) ⊎ (length (occupied (cells_in (find_reading s rs))) < length (cells_in (find_reading s rs)))
      go (missing a b) k e = clash (sym (rw a at k))
      go (found r a b w d) k e = rw a (at r d (is_some (find_maker m r.cells)) refl (ltb (length (occupied r.cells)) maker_count) refl (rw a at e))

-- ---- one message

module _ (letter : ℕ) (m : List ℕ) (h : List Part) (rs : List Reading) (g : AllGood h rs) (c : ℕ) (x : code_in letter m rs ≡ c) where
  abbrev e : Known
  e = known_of (find_reading (symbol_of m) rs)

  -- a part of the message's symbol, that symbol being known
  named : (p : Part) → ((s : ℕ) → names p s ≡ eqb (symbol_of m) s) → RoomFor p rs → e.listed ≡ true → Ready p rs
  named p f room k = record { room = room; listed = λ s d. f s ∙ only h rs g (symbol_of m) k s d }

  -- the second part of a message
  named-then : (p q : Part) → ((s : ℕ) → names q s ≡ eqb (symbol_of m) s) → RoomFor q (part_reading p rs) → e.listed ≡ true → Ready q (part_reading p rs)
  named-then p q f room k = record { room = room; listed = λ s d. f s ∙ only h rs g (symbol_of m) k s (rw (part-listed p rs) at d) }

  ready-by : (y : Message) → code_by e letter m y ≡ c → Spoken letter m y → AllReady (parts_of c m) rs
  ready-by y q (refused k lo hi) = rw (parts-refused c m (omega arith) (omega arith)) tt
  ready-by y q (idle w) = rw (← q, parts_whole m, w) tt
  ready-by y q (finra k d w) = rw (← q, parts_whole m, w) (record { room = tt; listed = λ s d. refl }, tt)
  ready-by y q (round l k n) = rw (parts-round c m k) (go (cut c 0) (leb 60 c) refl)
    where
      part-ready : Takes c → Ready (round_part_of m) rs
      part-ready t = named _ (λ s. refl) tt (round-taken e letter m c t (round_lot_odd m) q).known

      go : Cut c 0 → (p : Bool) → leb 60 c ≡ p → AllReady (cond (eqb c 0) (round_part_of m ∷ odd_part_of m (round_lot_odd m) ∷ []) (cond p (round_part_of m ∷ []) [])) rs
      go (equal t z) p f =
          rw t (part-ready (takes_whole c z), (named-then _ _ (λ s. refl) tt (round-taken e letter m c (takes_whole c z) (round_lot_odd m) q).known, tt))
      go (apart t z) true f = rw t (part-ready (takes-partly c (leb-true 60 c f)), tt)
      go (apart t z) false f = rw t tt
  ready-by y q (odd l k n) = rw (parts-odd c m k) (go (cut c 0))
    where
      go : Cut c 0 → AllReady (cond (eqb c 0) (odd_part_of m (odd_lot_odd m) ∷ []) []) rs
      go (equal t z) = rw t (named _ (λ s. refl) tt (odd-taken e letter m c (takes_whole c z) (odd_lot_odd m) q).known, tt)
      go (apart t z) = rw t tt
  ready-by y q (maker k n) = rw (parts-maker c m k) (go (cut c 0))
    where
      go : Cut c 0 → AllReady (cond (eqb c 0) (maker_part_of m ∷ []) []) rs
      go (equal t z) =
          let r : MakerTaken e letter m c (takes_whole c z) = maker-taken e letter m c (takes_whole c z) q in
          rw t (named _ (λ s. refl) (room_of h rs g (symbol_of m) (maker_name m) (quote_at m) r.known (r.room ∙ z)) r.known, tt)
      go (apart t z) = rw t tt
  ready-by y q (status k n) = rw (parts-status c m k) (go (cut c 0))
    where
      go : Cut c 0 → AllReady (cond (eqb c 0) (status_part_of m ∷ []) []) rs
      go (equal t z) = rw t (named _ (λ s. refl) tt (status-taken e letter m c (takes_whole c z) (status_of m) q), tt)
      go (apart t z) = rw t tt

  message-ready : AllReady (parts_of c m) rs
  unfolding code_of
  message-ready = ready-by (message_of letter m) x (spoken letter m)

module _ (letter : ℕ) (m : List ℕ) (hist : List (List ℕ)) (rs : List Reading) (co : Core (parts hist) rs) where
  pub code_same : code_in letter m rs ≡ code_r (listed_of rs) letter m hist
  code_same = ap (λ (z : Known). code_of z letter m) (known_same (parts hist) rs co (symbol_of m))

  pub message-listed : listed_of (message_reading letter m rs) ≡ listed_of rs
  message-listed = parts-listed (parts_of (code_in letter m rs) m) rs

  pub message-core : Core (parts (message_r (listed_of rs) letter m hist)) (message_reading letter m rs)
  message-core =
      rw (sym code_same, kept-parts (code_in letter m rs) m hist (λ t k. long (known_of (find_reading (symbol_of m) rs)) letter m (code_in letter m rs) t refl k))
      (parts-core (parts_of (code_in letter m rs) m) (parts hist) rs co (message-ready letter m (parts hist) rs co.good (code_in letter m rs) refl))

-- ---- a block

entries-same : (hist : List (List ℕ)) (rs : List Reading) → AllGood (parts hist) rs → publications rs ≡ entries_r (listed_of rs) hist
unfolding listed_of
entries-same hist [] g = refl
entries-same hist (r ∷ rs) g =
    let a : r.entries ≡ reviewed hist r.symbol = good-reviewed (parts hist) r g.0 in
    let b : publications rs ≡ entries_r (listed_of rs) hist = entries-same hist rs g.1 in
    λ i. a i ∷ b i

module _ (letter : ℕ) (ls : List Listed) where
  pub messages-core : (ms : List (List ℕ)) (hist : List (List ℕ)) (rs : List Reading) → ls ≡ listed_of rs → Core (parts hist) rs
      → Core (parts (messages_r ls letter ms hist)) (messages_reading letter ms rs)
  messages-core [] hist rs e c = c
  messages-core (m ∷ ms) hist rs e c =
      messages-core ms (message_r ls letter m hist) (message_reading letter m rs) (e ∙ sym (message-listed letter m hist rs c))
      (rw e (message-core letter m hist rs c))

  pub messages-listed : (ms : List (List ℕ)) (rs : List Reading) → listed_of (messages_reading letter ms rs) ≡ listed_of rs
  messages-listed [] rs = refl
  messages-listed (m ∷ ms) rs = messages-listed ms (message_reading letter m rs) ∙ parts-listed (parts_of (code_in letter m rs) m) rs

  pub told_same : (ms : List (List ℕ)) (hist : List (List ℕ)) (rs : List Reading) → ls ≡ listed_of rs → Core (parts hist) rs
      → told_reading rs letter ms ≡ told_r ls hist letter ms
  told_same [] hist rs e c = refl
  told_same (m ∷ ms) hist rs e c =
      let l : ls ≡ listed_of (message_reading letter m rs) = e ∙ sym (message-listed letter m hist rs c) in
      let d : Core (parts (message_r ls letter m hist)) (message_reading letter m rs) = rw e (message-core letter m hist rs c) in
      let k : code_in letter m rs ≡ code_r ls letter m hist = rw e (code_same letter m hist rs c) in
      let p : publications rs ≡ entries_r ls hist = rw e (entries-same hist rs c.good) in
      let q : publications (message_reading letter m rs) ≡ entries_r ls (message_r ls letter m hist) =
      entries-same (message_r ls letter m hist) (message_reading letter m rs) d.good ∙ ap (λ (z : List Listed). entries_r z (message_r ls letter m hist)) (sym l) in
      let r : told_reading (message_reading letter m rs) letter ms ≡ told_r ls (message_r ls letter m hist) letter ms =
      told_same ms (message_r ls letter m hist) (message_reading letter m rs) l d in
      λ i. record { code = k i; flags = flags_of (p i) (q i); partly = partly_taken (k i) m } ∷ r i
