-- "a round quote since Start of Day" (document 02, T-07), for the reviewer: of every history that calls leave, the condition tells it. Start of Day empties
-- the history, and each Q K in it has a condition that check 46 takes.
-- Assumes nothing.
use Prim.Native.Nat.{ℕ}
use mathlib.Core.Path.{◌≡◌, refl, sym, ap, ◌∙◌}
use mathlib.Core.Bool.{Bool, true, false, not, ◌&&◌, cond}
use mathlib.Core.List.{List, [], ◌∷◌}
use native.Mathlib.Omega.{arith}
use lib.Dec.{leb, eqb}
use borrow.Author.Tests.{eqb-true, leb-true}
use Rattle.lists.specs.Lists.{or_else, is_some, member}
use Rattle.lists.proofs.Tests.{clash, Cut, equal, apart, cut}
use Rattle.quote.specs.Quote.{no_quote, is_quoted, with_times}
use Rattle.message.specs.declared.Message.{Message}
use Rattle.message.specs.Message.{symbol_of, quote_at, round_conditions, message_of, Known, code_by, code_of, Part, round_part, odd_part, maker_part, finra_part, status_part, round_part_of, odd_part_of, maker_part_of, status_part_of, parts_of, round_lot_odd, odd_lot_odd}
use Rattle.message.proofs.SpokenLaws.{Spoken, refused, idle, finra, round, odd, maker, status, spoken, parts-refused, parts_whole, parts-round, parts-odd, parts-maker, parts-status}
use Rattle.block.specs.Block.{messages_of}
use Rattle.calls.specs.Call.{Call, make, add, open_line, start_day, end_day, take, read, protected, convert_len, convert, snapshot_len, snapshot, try_order, set_allowance, tick, number_of, letter_of}
use Rattle.line.specs.Line.{done}
use Rattle.work.specs.Work.{Listed}
use Rattle.review.specs.Runs.{latest}
use Rattle.review.specs.Reviewer.{parts, rounds_of, quote_of, known_to, code_r, message_r, messages_r, Review, rest_after, symbols_after, history_after, review_call, fresh_review, review_after}
use Rattle.review.proofs.CodeLaws.{Takes, takes_whole, takes-partly, round-condition, long}
use Rattle.review.proofs.KeptLaws.{onto, kept-parts}

-- ---- parts with a condition

abbrev Conditioned : Part → Type 0
Conditioned (round_part s l q) = is_quoted q.condition ≡ true
Conditioned (odd_part s l o) = Unit {0}
Conditioned (maker_part s m q) = Unit {0}
Conditioned (finra_part c) = Unit {0}
Conditioned (status_part s x) = Unit {0}

abbrev AllConditioned : List Part → Type 0
AllConditioned [] = Unit {0}
AllConditioned (p ∷ ps) = Conditioned p × AllConditioned ps

-- a condition that Q K takes is one
taken-quoted : (c : ℕ) → member round_conditions c ≡ true → is_quoted c ≡ true
unfolding member
taken-quoted c e = go (eqb c 0) refl
  where
    go : (t : Bool) → eqb c 0 ≡ t → not t ≡ true
    go true z = clash (sym e ∙ ap (member round_conditions) (eqb-true c 0 z))
    go false z = refl

-- ---- a letter's quote

newest : (s l : ℕ) (h : List Part) → AllConditioned h → is_quoted (or_else (latest (rounds_of h s l)) no_quote).condition ≡ is_some (latest (rounds_of h s l))
unfolding rounds_of with_times
newest s l [] a = refl
newest s l (round_part t k q ∷ h) a = go (eqb t s && eqb k l) (newest s l h a.1)
  where
    go : (b : Bool) → is_quoted (or_else (latest (rounds_of h s l)) no_quote).condition ≡ is_some (latest (rounds_of h s l))
        → is_quoted (or_else (latest (cond b (q ∷ rounds_of h s l) (rounds_of h s l))) no_quote).condition ≡ is_some (latest (cond b (q ∷ rounds_of h s l) (rounds_of h s l)))
    go true e = a.0
    go false e = e
newest s l (odd_part t k o ∷ h) a = newest s l h a.1
newest s l (maker_part t m q ∷ h) a = newest s l h a.1
newest s l (finra_part c ∷ h) a = newest s l h a.1
newest s l (status_part t x ∷ h) a = newest s l h a.1

-- ---- what a message adds

onto-conditioned : (ps h : List Part) → AllConditioned ps → AllConditioned h → AllConditioned (onto ps h)
onto-conditioned [] h a b = b
onto-conditioned (p ∷ ps) h a b = onto-conditioned ps (p ∷ h) a.1 (a.0, b)

module _ (e : Known) (letter : ℕ) (m : List ℕ) (c : ℕ) where
  conditioned-by : (y : Message) → code_by e letter m y ≡ c → Spoken letter m y → AllConditioned (parts_of c m)
  conditioned-by y q (refused k lo hi) = rw (parts-refused c m (omega arith) (omega arith)) tt
  conditioned-by y q (idle w) = rw (← q, parts_whole m, w) tt
  conditioned-by y q (finra k d w) = rw (← q, parts_whole m, w) (tt, tt)
  conditioned-by y q (round l k n) = rw (parts-round c m k) (go (cut c 0) (leb 60 c) refl)
    where
      good : Takes c → Conditioned (round_part_of m)
      good t = taken-quoted (quote_at m).condition (round-condition e letter m c t (round_lot_odd m) q)

      go : Cut c 0 → (p : Bool) → leb 60 c ≡ p → AllConditioned (cond (eqb c 0) (round_part_of m ∷ odd_part_of m (round_lot_odd m) ∷ []) (cond p (round_part_of m ∷ []) []))
      go (equal t z) p f = rw t (good (takes_whole c z), (tt, tt))
      go (apart t z) true f = rw t (good (takes-partly c (leb-true 60 c f)), tt)
      go (apart t z) false f = rw t tt
  conditioned-by y q (odd l k n) = rw (parts-odd c m k) (go (eqb c 0))
    where
      go : (b : Bool) → AllConditioned (cond b (odd_part_of m (odd_lot_odd m) ∷ []) [])
      go true = (tt, tt)
      go false = tt
  conditioned-by y q (maker k n) = rw (parts-maker c m k) (go (eqb c 0))
    where
      go : (b : Bool) → AllConditioned (cond b (maker_part_of m ∷ []) [])
      go true = (tt, tt)
      go false = tt
  conditioned-by y q (status k n) = rw (parts-status c m k) (go (eqb c 0))
    where
      go : (b : Bool) → AllConditioned (cond b (status_part_of m ∷ []) [])
      go true = (tt, tt)
      go false = tt

  parts-good : code_of e letter m ≡ c → AllConditioned (parts_of c m)
  unfolding code_of
  parts-good x = conditioned-by (message_of letter m) x (spoken letter m)

-- ---- histories

module _ (ls : List Listed) (letter : ℕ) where
  message-good : (m : List ℕ) (h : List (List ℕ)) → AllConditioned (parts h) → AllConditioned (parts (message_r ls letter m h))
  message-good m h a =
      rw (kept-parts (code_r ls letter m h) m h (λ t k. long (known_to ls (parts h) (symbol_of m)) letter m (code_r ls letter m h) t refl k))
      (onto-conditioned (parts_of (code_r ls letter m h) m) (parts h) (parts-good (known_to ls (parts h) (symbol_of m)) letter m (code_r ls letter m h) refl) a)

  messages-good : (ms h : List (List ℕ)) → AllConditioned (parts h) → AllConditioned (parts (messages_r ls letter ms h))
  messages-good [] h a = a
  messages-good (m ∷ ms) h a = messages-good ms (message_r ls letter m h) (message-good m h a)

none-good : AllConditioned (parts [])
unfolding parts
none-good = tt

call-good : (v : Review) (c : Call) → AllConditioned (parts v.history) → AllConditioned (parts (review_call v c).history)
unfolding review_call history_after
call-good v c a = go (done (number_of v.rest v.symbols c))
  where
    after : (c : Call) → AllConditioned (parts (history_after v.rest v.symbols v.history c))
    after (make n) = none-good
    after (add s k p) = a
    after (open_line i l) = a
    after start_day = none-good
    after end_day = a
    after (take i b room) = messages-good v.symbols (letter_of (v.rest.lines i)) (messages_of b) v.history a
    after (read s room) = a
    after (protected s m x) = a
    after (convert_len x) = a
    after (convert x room) = a
    after (snapshot_len s) = a
    after (snapshot s room) = a
    after (try_order s m w room) = a
    after (set_allowance n ss) = a
    after tick = a

    go : (t : Bool)
        → AllConditioned (parts (cond t (record { rest = rest_after v.rest c; symbols = symbols_after v.symbols c; history = history_after v.rest v.symbols v.history c }) v).history)
    go true = after c
    go false = a

calls-good : (v : Review) (cs : List Call) → AllConditioned (parts v.history) → AllConditioned (parts (review_after v cs).history)
calls-good v [] a = a
calls-good v (c ∷ cs) a = calls-good (review_call v c) cs (call-good v c a)

-- after any list of calls: `is_quoted` of a letter's quote says whether the history, which Start of Day empties, has a round part of it naming the symbol
pub quoted-since-start : (n : ℕ) (cs : List Call) (s l : ℕ)
    → is_quoted (quote_of (parts (review_after (fresh_review n) cs).history) s l).condition ≡ is_some (latest (rounds_of (parts (review_after (fresh_review n) cs).history) s l))
unfolding quote_of
quoted-since-start n cs s l = newest s l (parts (review_after (fresh_review n) cs).history) (calls-good (fresh_review n) cs none-good)
