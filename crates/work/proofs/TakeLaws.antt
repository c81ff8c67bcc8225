-- One message of a block, as the code works it: by what it says, and by the page that a search finds for its symbol.
-- Assumes nothing.
use Prim.Native.Nat.{ℕ}
use mathlib.Core.Path.{◌≡◌, refl, sym, ◌∙◌}
use mathlib.Core.Bool.{Bool, true, false}
use mathlib.Core.List.{List}
use Rattle.std.specs.Prelude.{None, Some}
use Rattle.lists.specs.Lists.{upper}
use Rattle.lists.proofs.Tests.{clash}
use Rattle.message.specs.declared.Message.{Message}
use Rattle.message.specs.declared.Message.TheVariants as says
use Rattle.message.specs.Message.{symbol_of, message_of, Known, code_by, code_of}
use Rattle.update.specs.Parts.{known_of}
use Rattle.update.proofs.WorkLaws.{page_code, page_after}
use Rattle.update.proofs.UpdateLaws.{told, updated_by, update-is}
use Rattle.opening.specs.Opening.{page_at, set_page, pages_in, page_place, reading_for}
use Rattle.work.specs.Work.{flags_of, publications, code_on, message_on}
use Rattle.opening.proofs.OpeningLaws.{Sound}
use Rattle.work.proofs.PlaceLaws.{code_at, code-nowhere, on-at, on-nowhere}
use Rattle.work.proofs.WorkLaws.{said_on, message-on}
use Rattle.work.proofs.FlagLaws.{said_flags, message-flags}

-- the messages that name a symbol
abbrev pub names : Message → Bool
names (says.Refused k) = false
names says.Idle = false
names (says.Finra c) = false
names (says.RoundLot f q o) = true
names (says.OddLot o) = true
names (says.Maker f name q) = true
names (says.Status x) = true

-- the code of one that names none
abbrev pub said_code : Message → ℕ
said_code (says.Refused k) = k
said_code says.Idle = 0
said_code (says.Finra c) = 0
said_code (says.RoundLot f q o) = 0
said_code (says.OddLot o) = 0
said_code (says.Maker f name q) = 0
said_code (says.Status x) = 0

module _ (n : ℕ) (b : List ℕ) (sd : Sound n b) (letter : ℕ) (u : upper letter ≡ true) (m : List ℕ) where
  -- what a message gets, and the book after it
  pub record Worked (code flags : ℕ) (after : List ℕ) : Type 0 where
    pub code_is : code_on letter m b ≡ code
    pub flags-are : flags_of (publications (pages_in b)) (publications (pages_in (message_on letter m b))) ≡ flags
    pub book-is : message_on letter m b ≡ after

  module _ (k : ℕ) (e : page_place b (symbol_of m) ≡ Some k) where
    abbrev page : List ℕ
    page = page_at b k

    on-said : (x : Message) → names x ≡ true → said_on letter m b x ≡ set_page b k (page_after letter m x page)
    on-said (says.Refused j) h = clash (sym h)
    on-said says.Idle h = clash (sym h)
    on-said (says.Finra c) h = clash (sym h)
    on-said (says.RoundLot f q o) h = on-at n b sd (symbol_of m) k e (page_after letter m (says.RoundLot f q o))
    on-said (says.OddLot o) h = on-at n b sd (symbol_of m) k e (page_after letter m (says.OddLot o))
    on-said (says.Maker f name q) h = on-at n b sd (symbol_of m) k e (page_after letter m (says.Maker f name q))
    on-said (says.Status x) h = on-at n b sd (symbol_of m) k e (page_after letter m (says.Status x))

    flags-said : (x : Message) → names x ≡ true → said_flags letter m b x ≡ (told (page_code letter m page) page (page_after letter m x page)).effect.flags
    flags-said (says.Refused j) h = clash (sym h)
    flags-said says.Idle h = clash (sym h)
    flags-said (says.Finra c) h = clash (sym h)
    flags-said (says.RoundLot f q o) h = rw e
    flags-said (says.OddLot o) h = rw e
    flags-said (says.Maker f name q) h = rw e
    flags-said (says.Status x) h = rw e

    -- a message that names a symbol, whose page is found at k: what the page's code answers for that page
    pub worked-at : names (message_of letter m) ≡ true
        → Worked (updated_by letter m page (message_of letter m)).effect.code (updated_by letter m page (message_of letter m)).effect.flags (set_page b k (updated_by letter m page (message_of letter m)).page)
    worked-at h =
        rw (update-is letter m page)
        (record {
          code_is = code_at letter m b k e;
          flags-are = message-flags n b sd letter u m ∙ flags-said (message_of letter m) h;
          book-is = message-on n b sd letter u m ∙ on-said (message_of letter m) h;
        })

  module _ (e : page_place b (symbol_of m) ≡ None) where
    unlisted : (x : Message) → names x ≡ true → code_by (known_of None) letter m x ≡ 45
    unfolding known_of
    unlisted (says.Refused j) h = clash (sym h)
    unlisted says.Idle h = clash (sym h)
    unlisted (says.Finra c) h = clash (sym h)
    unlisted (says.RoundLot f q o) h = refl
    unlisted (says.OddLot o) h = refl
    unlisted (says.Maker f name q) h = refl
    unlisted (says.Status x) h = refl

    no-flags : (x : Message) → names x ≡ true → said_flags letter m b x ≡ 0
    no-flags (says.Refused j) h = clash (sym h)
    no-flags says.Idle h = clash (sym h)
    no-flags (says.Finra c) h = clash (sym h)
    no-flags (says.RoundLot f q o) h = rw e
    no-flags (says.OddLot o) h = rw e
    no-flags (says.Maker f name q) h = rw e
    no-flags (says.Status x) h = rw e

    same-book : (x : Message) → names x ≡ true → said_on letter m b x ≡ b
    same-book (says.Refused j) h = clash (sym h)
    same-book says.Idle h = clash (sym h)
    same-book (says.Finra c) h = clash (sym h)
    same-book (says.RoundLot f q o) h = on-nowhere n b sd (symbol_of m) e (page_after letter m (says.RoundLot f q o))
    same-book (says.OddLot o) h = on-nowhere n b sd (symbol_of m) e (page_after letter m (says.OddLot o))
    same-book (says.Maker f name q) h = on-nowhere n b sd (symbol_of m) e (page_after letter m (says.Maker f name q))
    same-book (says.Status x) h = on-nowhere n b sd (symbol_of m) e (page_after letter m (says.Status x))

    -- whose page is not found: 45, and nothing changes
    pub worked-nowhere : names (message_of letter m) ≡ true → Worked 45 0 b
    unfolding code_of
    worked-nowhere h =
        record {
          code_is = code-nowhere letter m b e ∙ unlisted (message_of letter m) h;
          flags-are = message-flags n b sd letter u m ∙ no-flags (message_of letter m) h;
          book-is = message-on n b sd letter u m ∙ same-book (message_of letter m) h;
        }

  code-else : (e : Known) (x : Message) → names x ≡ false → code_by e letter m x ≡ said_code x
  code-else e (says.Refused j) h = refl
  code-else e says.Idle h = refl
  code-else e (says.Finra c) h = refl
  code-else e (says.RoundLot f q o) h = clash h
  code-else e (says.OddLot o) h = clash h
  code-else e (says.Maker f name q) h = clash h
  code-else e (says.Status x) h = clash h

  -- one that names no symbol: refused, idle, or FINRA Close or Open on every page
  pub worked-else : names (message_of letter m) ≡ false → Worked (said_code (message_of letter m)) (said_flags letter m b (message_of letter m)) (said_on letter m b (message_of letter m))
  unfolding code_of
  worked-else h =
      record {
        code_is = code-else (known_of (reading_for b (symbol_of m))) (message_of letter m) h;
        flags-are = message-flags n b sd letter u m;
        book-is = message-on n b sd letter u m;
      }
