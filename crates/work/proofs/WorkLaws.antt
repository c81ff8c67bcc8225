-- A message on a book, by what it says: the one page of its symbol, or every page. For code that has read the message and found the page.
-- Assumes nothing.
use Prim.Native.Nat.{ℕ, ◌<◌}
use mathlib.Core.Path.{◌≡◌, refl, sym, ap, ◌∙◌}
use mathlib.Core.Bool.{Bool, true, false, cond}
use mathlib.Core.List.{List, [], ◌∷◌}
use native.Mathlib.Omega.{arith}
use lib.Dec.{leb, eqb}
use lib.ListN.{length}
use Rattle.lists.specs.Lists.{upper}
use Rattle.std.specs.Prelude.{Some, None, Option}
use Rattle.quote.specs.declared.Quote.{Quote}
use Rattle.levels.specs.Levels.{Odd}
use Rattle.message.specs.declared.Message.{Message}
use Rattle.message.specs.declared.Message.TheVariants as says
use Rattle.message.specs.Message.{symbol_of, quote_at, maker_name, round_lot_odd, odd_lot_odd, odd_of, message_of, Known, code_by, code_of, Part, round_part, odd_part, maker_part_of, status_of, status_part_of, parts_of}
use Rattle.update.specs.Parts.{known_of, round_on, odd_on_page, maker_on, finra_on, status_on}
use Rattle.update.proofs.EntryLaws.{Kept}
use Rattle.update.proofs.SlotLaws.{round-kept, odd-kept}
use Rattle.message.proofs.SpokenLaws.{Spoken, refused, idle, finra, round, odd, maker, status, spoken, parts-refused, parts_whole, parts-round, parts-odd, parts-maker, parts-status}
use Rattle.update.proofs.WorkLaws.{page_code, page_after}
use Rattle.opening.specs.Opening.{symbols_of, page_at, set_page, reading_for, page_place, on_page, each_page}
use Rattle.work.specs.Work.{part_on, parts_on, code_on, message_on}
use Rattle.opening.proofs.OpeningLaws.{Sound, length-page}
use Rattle.opening.proofs.PageLaws.{place-hit}
use Rattle.work.proofs.PlaceLaws.{code_at, set-none, on-at, on-twice, on-nowhere}
use Rattle.page.specs.Layout.{page_length}

-- the book after a message that says x
abbrev pub said_on : ℕ → List ℕ → List ℕ → Message → List ℕ
said_on letter m b (says.Refused k) = b
said_on letter m b says.Idle = b
said_on letter m b (says.Finra c) = each_page (finra_on c) 0 (symbols_of b) b
said_on letter m b (says.RoundLot f q o) = on_page (symbol_of m) (page_after letter m (says.RoundLot f q o)) b
said_on letter m b (says.OddLot o) = on_page (symbol_of m) (page_after letter m (says.OddLot o)) b
said_on letter m b (says.Maker f name q) = on_page (symbol_of m) (page_after letter m (says.Maker f name q)) b
said_on letter m b (says.Status x) = on_page (symbol_of m) (page_after letter m (says.Status x)) b

-- ---- the parts of a message, as one change of its symbol's page

-- c is the code that the page gives
module _ (n : ℕ) (b : List ℕ) (sd : Sound n b) (s : ℕ) (code : List ℕ → ℕ) (c : ℕ) (here : (k : ℕ) → page_place b s ≡ Some k → code (page_at b k) ≡ c) where
  -- found at k, or nowhere
  on-by : (g : List ℕ → List ℕ) (x : List ℕ) → ((k : ℕ) → page_place b s ≡ Some k → x ≡ set_page b k (g (page_at b k))) → (page_place b s ≡ None → x ≡ b) → x ≡ on_page s g b
  on-by g x f h = go (page_place b s) refl
    where
      go : (r : Option ℕ) → page_place b s ≡ r → x ≡ on_page s g b
      go (Some k) e = f k e ∙ sym (on-at n b sd s k e g)
      go None e = h e ∙ sym (on-nowhere n b sd s e g)

  below : (k : ℕ) → page_place b s ≡ Some k → k < n
  below k e = omega (arith, (place-hit b s k e).0, sd.count)

  stays : (k : ℕ) → page_place b s ≡ Some k → b ≡ set_page b k (page_at b k)
  stays k e = sym (set-none n b sd k (below k e))

  -- one part, with code 0
  one_on : (r : Part) (g : List ℕ → List ℕ) → part_on r b ≡ on_page s g b → parts_on (cond (eqb c 0) (r ∷ []) []) b ≡ on_page s (λ p. cond (eqb (code p) 0) (g p) p) b
  unfolding parts_on
  one_on r g d =
      on-by (λ p. cond (eqb (code p) 0) (g p) p) (parts_on (cond (eqb c 0) (r ∷ []) []) b) (λ k e. rw (here k e) (found k e (eqb c 0))) (λ e. missing e (eqb c 0))
    where
      found : (k : ℕ) → page_place b s ≡ Some k → (t : Bool) → parts_on (cond t (r ∷ []) []) b ≡ set_page b k (cond t (g (page_at b k)) (page_at b k))
      found k e true = d ∙ on-at n b sd s k e g
      found k e false = stays k e

      missing : page_place b s ≡ None → (t : Bool) → parts_on (cond t (r ∷ []) []) b ≡ b
      missing e true = d ∙ on-nowhere n b sd s e g
      missing e false = refl

  -- a Q K: both parts with code 0, the round part with 60 or more
  both-on : (l : ℕ) → upper l ≡ true → (q : Quote) (o : Odd)
      → parts_on (cond (eqb c 0) (round_part s l q ∷ odd_part s l o ∷ []) (cond (leb 60 c) (round_part s l q ∷ []) [])) b
      ≡ on_page s (λ p. cond (eqb (code p) 0) (odd_on_page l o (round_on l q p)) (cond (leb 60 (code p)) (round_on l q p) p)) b
  unfolding parts_on part_on
  both-on l u q o =
      on-by (λ p. cond (eqb (code p) 0) (odd_on_page l o (round_on l q p)) (cond (leb 60 (code p)) (round_on l q p) p))
      (parts_on (cond (eqb c 0) (round_part s l q ∷ odd_part s l o ∷ []) (cond (leb 60 c) (round_part s l q ∷ []) [])) b)
      (λ k e. rw (here k e) (found k e (eqb c 0) (leb 60 c))) (λ e. missing e (eqb c 0) (leb 60 c))
    where
      found : (k : ℕ) → page_place b s ≡ Some k → (t v : Bool)
          → parts_on (cond t (round_part s l q ∷ odd_part s l o ∷ []) (cond v (round_part s l q ∷ []) [])) b
          ≡ set_page b k (cond t (odd_on_page l o (round_on l q (page_at b k))) (cond v (round_on l q (page_at b k)) (page_at b k)))
      found k e true v =
          let w : length (page_at b k) ≡ page_length = length-page n b sd k (below k e) in
          let x : Kept (page_at b k) (round_on l q (page_at b k)) = round-kept (page_at b k) w l u q in
          on-twice n b sd s k e (round_on l q) (odd_on_page l o) x (odd-kept (round_on l q (page_at b k)) x.size l u o).size
      found k e false true = on-at n b sd s k e (round_on l q)
      found k e false false = stays k e

      missing : page_place b s ≡ None → (t v : Bool) → parts_on (cond t (round_part s l q ∷ odd_part s l o ∷ []) (cond v (round_part s l q ∷ []) [])) b ≡ b
      missing e true v = ap (on_page s (odd_on_page l o)) (on-nowhere n b sd s e (round_on l q)) ∙ on-nowhere n b sd s e (odd_on_page l o)
      missing e false true = on-nowhere n b sd s e (round_on l q)
      missing e false false = refl

-- ---- the message

module _ (n : ℕ) (b : List ℕ) (sd : Sound n b) (letter : ℕ) (u : upper letter ≡ true) (m : List ℕ) where
  abbrev e : Known
  e = known_of (reading_for b (symbol_of m))

  message-by : (c : ℕ) → ((k : ℕ) → page_place b (symbol_of m) ≡ Some k → page_code letter m (page_at b k) ≡ c)
      → (x : Message) → code_by e letter m x ≡ c → Spoken letter m x → parts_on (parts_of c m) b ≡ said_on letter m b x
  unfolding parts_on part_on
  message-by c here x q (refused k lo hi) = rw (parts-refused c m (omega arith) (omega arith))
  message-by c here x q (idle w) = rw (← q, parts_whole m, w)
  message-by c here x q (finra k d w) = rw (← q, parts_whole m, w)
  message-by c here x q (round l k z) =
      rw (parts-round c m k)
      (ap (λ (z : ℕ). parts_on (cond (eqb c 0) (round_part (symbol_of m) z (quote_at m) ∷ odd_part (symbol_of m) z (odd_of m (round_lot_odd m)) ∷ []) (cond (leb 60 c) (round_part (symbol_of m) z (quote_at m) ∷ []) [])) b) l
      ∙ both-on n b sd (symbol_of m) (page_code letter m) c here letter u (quote_at m) (odd_of m (round_lot_odd m)))
  message-by c here x q (odd l k z) =
      rw (parts-odd c m k)
      (ap (λ (z : ℕ). parts_on (cond (eqb c 0) (odd_part (symbol_of m) z (odd_of m (odd_lot_odd m)) ∷ []) []) b) l
      ∙ one_on n b sd (symbol_of m) (page_code letter m) c here (odd_part (symbol_of m) letter (odd_of m (odd_lot_odd m))) (odd_on_page letter (odd_of m (odd_lot_odd m))) refl)
  message-by c here x q (maker k z) =
      rw (parts-maker c m k) (one_on n b sd (symbol_of m) (page_code letter m) c here (maker_part_of m) (maker_on (maker_name m) (quote_at m)) refl)
  message-by c here x q (status k z) =
      rw (parts-status c m k) (one_on n b sd (symbol_of m) (page_code letter m) c here (status_part_of m) (status_on (status_of m)) refl)

  -- a message changes the page of its symbol alone, or every page
  pub message-on : message_on letter m b ≡ said_on letter m b (message_of letter m)
  unfolding code_of
  message-on = message-by (code_on letter m b) (λ k e. sym (code_at letter m b k e)) (message_of letter m) refl (spoken letter m)
