-- Change flags: those of a message that changes one page are that page's; those of FINRA Close and Open are all pages' together.
-- Assumes nothing.
use Prim.Native.Nat.{ℕ, zero, suc, ◌+◌, ◌≤◌, ◌<◌}
use mathlib.Core.Path.{◌≡◌, refl, sym, ap, ◌∙◌}
use mathlib.Core.Bool.{true}
use mathlib.Core.List.{List, ◌∷◌, map}
use native.Mathlib.Omega.{arith}
use native.Mathlib.Numerals.{add-one}
use lib.Bits.{bit_or, or_zero_l, or_zero_r}
use lib.ListN.{length}
use Rattle.lists.specs.Lists.{range, upper}
use Rattle.std.specs.Prelude.{Some, None, Option}
use Rattle.lists.proofs.Tests.{Cut, equal, apart, cut}
use Rattle.message.specs.declared.Message.{Message}
use Rattle.message.specs.declared.Message.TheVariants as says
use Rattle.message.specs.Message.{symbol_of, message_of, partly_taken}
use Rattle.entries.specs.Publication.{change_flags}
use Rattle.update.specs.Parts.{Reading, reading_of, finra_on}
use Rattle.update.proofs.TableLaws.{map-map-range}
use Rattle.update.proofs.SearchLaws.{found_by}
use Rattle.update.proofs.EntryLaws.{Kept}
use Rattle.update.proofs.MakerLaws.{finra-kept}
use Rattle.update.proofs.UpdateLaws.{flags-none}
use Rattle.update.proofs.WorkLaws.{page_code, page_after, said-kept}
use Rattle.opening.specs.Opening.{symbols_of, count_of, page_at, pages_in, page_place, on_page, each_page}
use Rattle.work.specs.Work.{flags_of, publications, code_on, message_on, told_on}
use Rattle.finra.specs.code.Flags.{or_from, finra_flags}
use Rattle.opening.proofs.OpeningLaws.{Sound}
use Rattle.opening.proofs.PageLaws.{at_same, nowhere, kept-count, place-hit, on-kept, on_same, on-other, each-kept, each-page}
use Rattle.work.proofs.WorkLaws.{said_on, message-on}
use Rattle.page.specs.Layout.{page_length, kept_entries}

-- ---- publications before and after

module _ (f g : ℕ → List ℕ) where
  flags-from : (n i : ℕ) → flags_of (map f (range n i)) (map g (range n i)) ≡ or_from (λ k. change_flags (f k) (g k)) i n
  unfolding flags_of or_from
  flags-from zero i = refl
  flags-from (suc n) i = rw (add-one i) (ap (bit_or (change_flags (f i) (g i))) (flags-from n (suc i)))

-- where nothing is set, and where one place is
or-none : (f : ℕ → ℕ) (n i : ℕ) → ((j : ℕ) → i ≤ j → f j ≡ 0) → or_from f i n ≡ 0
unfolding or_from
or-none f zero i h = refl
or-none f (suc n) i h = rw (h i (omega arith), or-none f n (i + 1) (λ j l. h j (omega arith)))

or-one : (f : ℕ → ℕ) (n i k : ℕ) → i ≤ k → k < i + n → ((j : ℕ) → (j ≡ k → ⊥) → f j ≡ 0) → or_from f i n ≡ f k
unfolding or_from
or-one f zero i k lo hi h = absurd (omega arith)
or-one f (suc n) i k lo hi h = go (cut i k) (λ l. or-one f n (i + 1) k l (omega arith) h)
  where
    go : Cut i k → (i + 1 ≤ k → or_from f (i + 1) n ≡ f k) → bit_or (f i) (or_from f (i + 1) n) ≡ f k
    go (equal t e) down = rw (e, or-none f n (k + 1) (λ j l. h j (λ z. omega arith))) (or_zero_r (f k))
    go (apart t e) down = rw (h i e, down (omega (arith, e))) (or_zero_l (f k))

or-ext : (f g : ℕ → ℕ) (n i : ℕ) → ((j : ℕ) → i ≤ j → j < i + n → f j ≡ g j) → or_from f i n ≡ or_from g i n
unfolding or_from
or-ext f g zero i h = refl
or-ext f g (suc n) i h = rw (h i (omega arith) (omega arith)) (ap (bit_or (g i)) (or-ext f g n (i + 1) (λ j l u. h j (omega arith) (omega arith))))

-- ---- of a book before and after

-- the bytes that a read of page k copies
abbrev pub kept_on : List ℕ → ℕ → List ℕ
kept_on b k = kept_entries (page_at b k)

entries-are : (b : List ℕ) → publications (pages_in b) ≡ map (kept_on b) (range (count_of b) 0)
unfolding pages_in reading_of
entries-are b = map-map-range (λ (r : Reading). r.entries) (λ k. reading_of (page_at b k)) (count_of b) 0

module _ (b b' : List ℕ) (count : count_of b' ≡ count_of b) where
  abbrev changes : ℕ → ℕ
  changes k = change_flags (kept_on b k) (kept_on b' k)

  -- the flags are those of all counted pages together
  pub flags-all : flags_of (publications (pages_in b)) (publications (pages_in b')) ≡ or_from (λ k. change_flags (kept_on b k) (kept_on b' k)) 0 (count_of b)
  flags-all = rw (entries-are b, entries-are b', count) (flags-from (kept_on b) (kept_on b') (count_of b) 0)

  unchanged : (j : ℕ) → page_at b' j ≡ page_at b j → changes j ≡ 0
  unchanged j e = ap (λ (p : List ℕ). change_flags (kept_on b j) (kept_entries p)) e ∙ flags-none (kept_on b j)

  -- where page k alone changed, its own
  pub flags-one : (k : ℕ) → k < count_of b → ((j : ℕ) → (j ≡ k → ⊥) → page_at b' j ≡ page_at b j)
      → flags_of (publications (pages_in b)) (publications (pages_in b')) ≡ change_flags (kept_on b k) (kept_on b' k)
  flags-one k h o = flags-all ∙ or-one changes (count_of b) 0 k (omega arith) (omega arith) (λ j z. unchanged j (o j z))

  -- where none did, none
  pub flags-nothing : ((j : ℕ) → page_at b' j ≡ page_at b j) → flags_of (publications (pages_in b)) (publications (pages_in b')) ≡ 0
  flags-nothing o = flags-all ∙ or-none changes (count_of b) 0 (λ j l. unchanged j (o j))

-- ---- of a message

-- the flags of page k where h changes it
abbrev pub flags_by : (List ℕ → List ℕ) → List ℕ → ℕ → ℕ
flags_by h b k = change_flags (kept_on b k) (kept_entries (h (page_at b k)))

module _ (n : ℕ) (b : List ℕ) (sd : Sound n b) (h : List ℕ → List ℕ) (keeps : (p : List ℕ) → length p ≡ page_length → Kept p (h p)) where
  pub flags-on : (s : ℕ) → flags_of (publications (pages_in b)) (publications (pages_in (on_page s h b))) ≡ found_by (flags_by h b) 0 (page_place b s)
  flags-on s = go (page_place b s) refl
    where
      count : count_of (on_page s h b) ≡ count_of b
      count = kept-count b (on_page s h b) (on-kept n b sd s h keeps)

      go : (r : Option ℕ) → page_place b s ≡ r → flags_of (publications (pages_in b)) (publications (pages_in (on_page s h b))) ≡ found_by (flags_by h b) 0 r
      go (Some k) e =
          flags-one b (on_page s h b) count k (place-hit b s k e).0 (λ j z. on-other n b sd s h keeps j (λ y. z (at_same j k (sym y ∙ e))))
          ∙ ap (λ (p : List ℕ). change_flags (kept_on b k) (kept_entries p)) (on_same n b sd s h keeps k e)
      go None e = flags-nothing b (on_page s h b) count (λ j. on-other n b sd s h keeps j (λ y. nowhere j (sym e ∙ y)))

  pub flags-each : flags_of (publications (pages_in b)) (publications (pages_in (each_page h 0 (symbols_of b) b))) ≡ or_from (flags_by h b) 0 (count_of b)
  flags-each = flags-all b (each_page h 0 (symbols_of b) b) (kept-count b (each_page h 0 (symbols_of b) b) (each-kept n h keeps b sd)) ∙ or_same
    where
      or_same : or_from (λ k. change_flags (kept_on b k) (kept_on (each_page h 0 (symbols_of b) b) k)) 0 (count_of b) ≡ or_from (flags_by h b) 0 (count_of b)
      or_same = or-ext _ _ (count_of b) 0
          (λ j l k. ap (λ (p : List ℕ). change_flags (kept_on b j) (kept_entries p)) (each-page n h keeps b sd j (omega (arith, sd.count))))

-- the flags of a message that says x
abbrev pub said_flags : ℕ → List ℕ → List ℕ → Message → ℕ
said_flags letter m b (says.Refused k) = 0
said_flags letter m b says.Idle = 0
said_flags letter m b (says.Finra c) = finra_flags c b
said_flags letter m b (says.RoundLot f q o) = found_by (flags_by (page_after letter m (says.RoundLot f q o)) b) 0 (page_place b (symbol_of m))
said_flags letter m b (says.OddLot o) = found_by (flags_by (page_after letter m (says.OddLot o)) b) 0 (page_place b (symbol_of m))
said_flags letter m b (says.Maker f name q) = found_by (flags_by (page_after letter m (says.Maker f name q)) b) 0 (page_place b (symbol_of m))
said_flags letter m b (says.Status x) = found_by (flags_by (page_after letter m (says.Status x)) b) 0 (page_place b (symbol_of m))

module _ (n : ℕ) (b : List ℕ) (sd : Sound n b) (letter : ℕ) (u : upper letter ≡ true) (m : List ℕ) where
  keeps : (x : Message) (p : List ℕ) → length p ≡ page_length → Kept p (page_after letter m x p)
  keeps x p w = said-kept letter u m p w (page_code letter m p) x

  said-flags : (x : Message) → flags_of (publications (pages_in b)) (publications (pages_in (said_on letter m b x))) ≡ said_flags letter m b x
  said-flags (says.Refused k) = flags-nothing b b refl (λ j. refl)
  said-flags says.Idle = flags-nothing b b refl (λ j. refl)
  said-flags (says.Finra c) = flags-each n b sd (finra_on c) (λ p w. finra-kept c p w)
  said-flags (says.RoundLot f q o) = flags-on n b sd (page_after letter m (says.RoundLot f q o)) (keeps (says.RoundLot f q o)) (symbol_of m)
  said-flags (says.OddLot o) = flags-on n b sd (page_after letter m (says.OddLot o)) (keeps (says.OddLot o)) (symbol_of m)
  said-flags (says.Maker f name q) = flags-on n b sd (page_after letter m (says.Maker f name q)) (keeps (says.Maker f name q)) (symbol_of m)
  said-flags (says.Status x) = flags-on n b sd (page_after letter m (says.Status x)) (keeps (says.Status x)) (symbol_of m)

  -- a message's flags are those of the page that it changes, of FINRA Close and Open those of all counted pages together
  pub message-flags : flags_of (publications (pages_in b)) (publications (pages_in (message_on letter m b))) ≡ said_flags letter m b (message_of letter m)
  message-flags = ap (λ (z : List ℕ). flags_of (publications (pages_in b)) (publications (pages_in z))) (message-on n b sd letter u m) ∙ said-flags (message_of letter m)

  -- what is told of a block's messages, one message more: its code, its flags, and the rest on the book after it
  pub told-step : (ms : List (List ℕ)) → told_on b letter (m ∷ ms)
      ≡ record { code = code_on letter m b; flags = said_flags letter m b (message_of letter m); partly = partly_taken (code_on letter m b) m }
      ∷ told_on (said_on letter m b (message_of letter m)) letter ms
  unfolding told_on
  told-step ms = λ i. record { code = code_on letter m b; flags = message-flags i; partly = partly_taken (code_on letter m b) m } ∷ told_on (message-on n b sd letter u m i) letter ms
