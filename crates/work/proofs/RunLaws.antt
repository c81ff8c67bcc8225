-- The run over a block's messages: what is still to be worked gives what the whole gives.
-- Assumes nothing.
use Prim.Native.Nat.{ℕ, ◌+◌, ◌*◌, ◌-◌, ◌≤◌, ◌<◌}
use mathlib.Core.Path.{◌≡◌, refl, sym, ◌∙◌}
use mathlib.Core.Bool.{true}
use mathlib.Core.List.{List, ◌∷◌}
use native.Mathlib.Omega.{arith}
use lib.ListN.{length, take, drop}
use Rattle.field.specs.Field.{part, splice}
use Rattle.field.proofs.Laws.{splice-part}
use Rattle.lists.specs.Lists.{upper}
use Rattle.lists.proofs.Searches.{less_one}
use Rattle.block.specs.Block.{count_in, start_at, message_at, messages_from, messages_of, checked}
use Rattle.std.specs.Prelude.{Ok}
use Rattle.block.proofs.CheckLaws.{passed}
use Rattle.block.proofs.StartLaws.{next_start, start-within}
use Rattle.told.specs.declared.Tally.{Tally}
use Rattle.opening.specs.Opening.{sound, symbols_of}
use Rattle.told.specs.Told.{quads, tally, is_accepted, is_partly, is_rejected}
use Rattle.work.specs.Work.{message_on, messages_on, told_on}
use Rattle.told.specs.declared.Told.{Told}
use Rattle.told.specs.code.Steps.{quad, tally_with, tally_of}
use Rattle.work.specs.code.Steps.{told_one, Ran, ran}
use Rattle.opening.proofs.OpeningLaws.{sound-is, sound-of}
use Rattle.opening.proofs.PageLaws.{OpeningKept, kept-sound}
use Rattle.work.proofs.KeptLaws.{message-kept}
use Rattle.told.proofs.AnswerLaws.{quads-join, plus, tally-step, at_most_one}

-- ---- the loop

pub record Going (letter : ℕ) (block : List ℕ) (c : ℕ) (b₀ a₀ b a : List ℕ) (t : Tally) (i : ℕ) : Type 0 where
  pub low : i ≤ c
  pub good : sound b ≡ true
  pub size : length b ≡ length b₀
  pub room : length a ≡ length a₀
  pub accepted : t.accepted ≤ i
  pub partly : t.partly ≤ i
  pub rejected : t.rejected ≤ i
  pub books : messages_on letter (messages_from block i (c - i)) b ≡ messages_on letter (messages_from block 0 c) b₀
  pub told : splice a (4 * i) (quads i (told_on b letter (messages_from block i (c - i)))) ≡ splice a₀ 0 (quads 0 (told_on b₀ letter (messages_from block 0 c)))
  pub counts : plus t (tally_of (told_on b letter (messages_from block i (c - i)))) ≡ tally_of (told_on b₀ letter (messages_from block 0 c))

module _ (letter : ℕ) (block : List ℕ) (c : ℕ) (b₀ a₀ : List ℕ) where
  pub going_start : sound b₀ ≡ true → Going letter block c b₀ a₀ b₀ a₀ (record { accepted = 0; partly = 0; rejected = 0 }) 0
  going_start s =
      let z : c - 0 ≡ c = omega arith in
      let y : 4 * 0 ≡ 0 = omega arith in
      record {
        low = omega arith;
        good = s;
        size = refl;
        room = refl;
        accepted = omega arith;
        partly = omega arith;
        rejected = omega arith;
        books = rw z;
        told = rw (z, y);
        counts = rw z (none-plus (tally_of (told_on b₀ letter (messages_from block 0 c))));
      }
    where
      none-plus : (t : Tally) → plus (record { accepted = 0; partly = 0; rejected = 0 }) t ≡ t
      none-plus t =
          let x : 0 + t.accepted ≡ t.accepted = omega arith in
          let y : 0 + t.partly ≡ t.partly = omega arith in
          let w : 0 + t.rejected ≡ t.rejected = omega arith in
          λ i. record { accepted = x i; partly = y i; rejected = w i }

  module _ (b a : List ℕ) (t : Tally) (i : ℕ) (h : i < c) (g : Going letter block c b₀ a₀ b a t i) (u : upper letter ≡ true) where
    abbrev m : List ℕ
    m = message_at block i

    abbrev ms : List (List ℕ)
    ms = messages_from block (i + 1) (c - (i + 1))

    next : messages_from block i (c - i) ≡ m ∷ ms
    unfolding messages_from
    next = rw (less_one c i h)

    kept : OpeningKept b (message_on letter m b)
    kept = message-kept (symbols_of b) letter u m b (sound-of b g.good)

    -- b': the book after message i; a': the answer buffer; t': the counts
    pub going-again : (b' a' : List ℕ) (t' : Tally) (w : Told) → w ≡ told_one letter m b → b' ≡ message_on letter m b → a' ≡ splice a (4 * i) (quad i w) → t' ≡ tally_with t w
        → length b' ≡ length b → length a' ≡ length a → Going letter block c b₀ a₀ b' a' t' (i + 1)
    unfolding messages_on told_on tally_with
    going-again b' a' t' w ew eb ea et lb la =
        record {
          low = omega arith;
          good = rw eb (sound-is (symbols_of b) (message_on letter m b) (kept-sound b (message_on letter m b) kept (symbols_of b) (sound-of b g.good)));
          size = lb ∙ g.size;
          room = la ∙ g.room;
          accepted = rw et (omega (arith, g.accepted, at_most_one (is_accepted w)));
          partly = rw et (omega (arith, g.partly, at_most_one (is_partly w)));
          rejected = rw et (omega (arith, g.rejected, at_most_one (is_rejected w)));
          books = rw eb (rw next at g.books);
          told = rw (ea, ew, eb) (quads-join a i (told_one letter m b) (told_on (message_on letter m b) letter ms) ∙ (rw next at g.told));
          counts = rw (et, ew, eb) (tally-step t (told_one letter m b) (told_on (message_on letter m b) letter ms) ∙ (rw next at g.counts));
        }

  pub going_end : (b a : List ℕ) (t : Tally) (i : ℕ) → c ≤ i → 4 * i ≤ length a → c ≡ count_in block → Going letter block c b₀ a₀ b a t i
      → ◌≡◌ {A = Ran} (record { book = b; answer = a; tally = t }) (ran letter block b₀ a₀)
  unfolding ran messages_of messages_from messages_on told_on quads tally part
  going_end b a t i l r e g =
      let z : c - i ≡ 0 = omega arith in
      let n : t.accepted + 0 ≡ t.accepted = omega arith in
      let x : b ≡ messages_on letter (messages_from block 0 c) b₀ = rw z at g.books in
      let y : a ≡ splice a₀ 0 (quads 0 (told_on b₀ letter (messages_from block 0 c))) = sym (splice-part a (4 * i) 0 (omega arith)) ∙ (rw z at g.told) in
      let w : plus t (record { accepted = 0; partly = 0; rejected = 0 }) ≡ tally_of (told_on b₀ letter (messages_from block 0 c)) = rw z at g.counts in
      rw (← e) (λ j. record { book = x j; answer = y j; tally = (sym (plus_none t) ∙ w) j })
    where
      plus_none : (t : Tally) → plus t (record { accepted = 0; partly = 0; rejected = 0 }) ≡ t
      plus_none t =
          let x : t.accepted + 0 ≡ t.accepted = omega arith in
          let y : t.partly + 0 ≡ t.partly = omega arith in
          let w : t.rejected + 0 ≡ t.rejected = omega arith in
          λ i. record { accepted = x i; partly = y i; rejected = w i }

-- ---- a message of a block that passed its checks

pub message-place : (k : List ℕ) (c i a e : ℕ) → checked k ≡ Ok c → i < c → a ≡ start_at k i → e ≡ start_at k (i + 1) → (a ≤ e) × (e ≤ length k)
message-place k c i a e p h ha he =
    let q = passed k c p in
    let n = next_start k q.table.apart i (omega (arith, q.counted)) in
    let w = start-within k q.table.apart (i + 1) (omega (arith, q.counted)) in
    (omega (arith, ha, he, n), omega (arith, he, w))

pub message-is : (k : List ℕ) (i a e : ℕ) → a ≡ start_at k i → e ≡ start_at k (i + 1) → take (e - a) (drop a k) ≡ message_at k i
unfolding message_at part
message-is k i a e ha he = rw (ha, he)
