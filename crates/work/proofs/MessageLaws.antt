-- One message as the code works it: the length that its type has, and what is told of it, by the page that is lent.
-- Assumes nothing.
use Prim.Native.Nat.{ℕ, ◌+◌, ◌*◌, ◌-◌, ◌≤◌, ◌<◌}
use mathlib.Core.Path.{◌≡◌, refl, sym, ap, ◌∙◌}
use mathlib.Core.Bool.{Bool, true, false}
use mathlib.Core.List.{List}
use native.Mathlib.Omega.{arith}
use lib.Dec.{leb}
use lib.ListN.{length, take, drop, length-drop}
use lib.Seq.{take_all}
use borrow.Author.Tests.{lt-leb}
use Rattle.field.specs.Field.{be, part, field}
use Rattle.lists.specs.Lists.{upper}
use Rattle.std.specs.Prelude.{Some, None}
use Rattle.lists.proofs.Tests.{clash}
use Rattle.quote.specs.declared.Quote.{Quote}
use Rattle.text.specs.Form.{symbol_length}
use Rattle.message.specs.declared.OddPart.{OddPart}
use Rattle.message.specs.declared.Message.{Message}
use Rattle.message.specs.declared.Message.TheVariants as says
use Rattle.message.specs.Message.{kind_of, symbol_of, odd_length, odd_at, message_of, partly_taken, header_length, maker_length, status_length}
use Rattle.update.specs.Parts.{finra_on}
use Rattle.update.specs.code.Update.{Updated}
use Rattle.message.proofs.SpokenLaws.{Spoken, refused, idle, finra, round, odd, maker, status, spoken, partly-no}
use Rattle.update.proofs.WorkLaws.{page_code, page_after, said-kept}
use Rattle.update.proofs.UpdateLaws.{updated_by, update-is}
use Rattle.opening.specs.Opening.{sound, symbols_of, page_at, set_page, page_place, each_page}
use Rattle.work.specs.Work.{message_on}
use Rattle.told.specs.declared.Told.{Told}
use Rattle.finra.specs.code.Flags.{finra_flags}
use Rattle.work.specs.code.Steps.{told_one}
use Rattle.opening.proofs.OpeningLaws.{Sound, sound-of, length-page}
use Rattle.opening.proofs.PageLaws.{place-hit}
use Rattle.work.proofs.WorkLaws.{said_on}
use Rattle.work.proofs.FlagLaws.{said_flags}
use Rattle.finra.proofs.FinraLaws.{lent, back}
use Rattle.opening.proofs.WriteLaws.{lent-page, page-back}
use Rattle.work.proofs.TakeLaws.{names, said_code, Worked, worked-at, worked-nowhere, worked-else}
use Rattle.page.specs.Layout.{page_length}
use Rattle.opening.specs.Layout.{page_start, symbols_most}
use Rattle.levels.specs.Levels.{item_length}

-- ---- the length of a message that names a symbol

-- 42 is passed
abbrev pub Sized : List ℕ → Message → Type 0
Sized m (says.Refused k) = Unit {0}
Sized m says.Idle = Unit {0}
Sized m (says.Finra c) = Unit {0}
Sized m (says.RoundLot f q o) = length m ≡ odd_length o
Sized m (says.OddLot o) = length m ≡ odd_length o
Sized m (says.Maker f name q) = length m ≡ maker_length
Sized m (says.Status x) = length m ≡ status_length

-- the part of the message from the items on
abbrev pub items : List ℕ → OddPart → List ℕ
items m o = take (length m - o.items) (drop o.items m)

pub items-are : (m : List ℕ) (o : OddPart) → items m o ≡ drop o.items m
items-are m o = take_all (length m - o.items) (drop o.items m) (simp length-drop (omega arith))

module _ (letter : ℕ) (m : List ℕ) where
  sized : (x : Message) → Spoken letter m x → Sized m x
  sized x (refused c lo hi) = tt
  sized x (idle w) = tt
  sized x (finra c d w) = tt
  sized x (round l k z) = z
  sized x (odd l k z) = z
  sized x (maker k z) = z
  sized x (status k z) = z

  -- its symbol is inside
  symbol-by : (x : Message) → Spoken letter m x → names x ≡ true → header_length + symbol_length ≤ length m
  unfolding odd_at
  symbol-by x (refused c lo hi) h = clash (sym h)
  symbol-by x (idle w) h = clash (sym h)
  symbol-by x (finra c d w) h = clash (sym h)
  symbol-by x (round l k z) h = omega (arith, z)
  symbol-by x (odd l k z) h = omega (arith, z)
  symbol-by x (maker k z) h = omega (arith, z)
  symbol-by x (status k z) h = omega (arith, z)

  module _ (x : Message) (e : message_of letter m ≡ x) where
    spoken-as : Spoken letter m x
    spoken-as = rw e at (spoken letter m)

    pub symbol-inside : names x ≡ true → header_length + symbol_length ≤ length m
    symbol-inside h = symbol-by x spoken-as h

  -- so are the items of an odd part, which are lent to the message's end
  items-by : (o : OddPart) → length m ≡ odd_length o → (o.items ≤ length m) × (length (items m o) ≡ item_length * (o.bids + o.offers))
  items-by o l = (omega arith, rw (items-are m o) (simp length-drop (omega arith)))

  pub round_items : (f : ℕ) (q : Quote) (o : OddPart) → message_of letter m ≡ says.RoundLot f q o → (o.items ≤ length m) × (length (items m o) ≡ item_length * (o.bids + o.offers))
  round_items f q o e = items-by o (sized (says.RoundLot f q o) (spoken-as (says.RoundLot f q o) e))

  pub odd-items : (o : OddPart) → message_of letter m ≡ says.OddLot o → (o.items ≤ length m) × (length (items m o) ≡ item_length * (o.bids + o.offers))
  odd-items o e = items-by o (sized (says.OddLot o) (spoken-as (says.OddLot o) e))

-- ---- partly accepted: a Q K alone

low-code : (letter : ℕ) (m : List ℕ) (x : Message) → Spoken letter m x → leb 60 (said_code x) ≡ false
low-code letter m x (refused c lo hi) = lt-leb 60 c (omega arith)
low-code letter m x (idle w) = refl
low-code letter m x (finra c d w) = refl
low-code letter m x (round l k z) = refl
low-code letter m x (odd l k z) = refl
low-code letter m x (maker k z) = refl
low-code letter m x (status k z) = refl

-- by what the message says
abbrev pub partly_as : ℕ → Message → Bool
partly_as c (says.Refused k) = false
partly_as c says.Idle = false
partly_as c (says.Finra k) = false
partly_as c (says.RoundLot f q o) = leb 60 c
partly_as c (says.OddLot o) = false
partly_as c (says.Maker f name q) = false
partly_as c (says.Status x) = false

partly-named : (c letter : ℕ) (m : List ℕ) (x : Message) → Spoken letter m x → names x ≡ true → partly_taken c m ≡ partly_as c x
unfolding partly_taken
partly-named c letter m x (refused k lo hi) h = clash (sym h)
partly-named c letter m x (idle w) h = clash (sym h)
partly-named c letter m x (finra k d w) h = clash (sym h)
partly-named c letter m x (round l k z) h = rw k
partly-named c letter m x (odd l k z) h = rw k
partly-named c letter m x (maker k z) h = rw k
partly-named c letter m x (status k z) h = rw k

-- ---- what is told of it, and the book after it

-- the answer t and the book after a message on b are those of `Call`
abbrev pub Done : ℕ → List ℕ → List ℕ → Told → List ℕ → Type 0
Done letter m b t after = (t ≡ told_one letter m b) × (after ≡ message_on letter m b)

module _ (b : List ℕ) (s : sound b ≡ true) where
  abbrev sd : Sound (symbols_of b) b
  sd = sound-of b s

  -- the page that a search finds
  module _ (y k : ℕ) (p : page_place b y ≡ Some k) where
    below : k < symbols_of b
    below = omega (arith, (place-hit b y k p).0, sd.count)

    pub page-inside : (k < symbols_most) × (page_start k + page_length ≤ length b)
    page-inside = (omega (arith, below, sd.up), omega (arith, below, sd.size))

  module _ (letter : ℕ) (u : upper letter ≡ true) (m : List ℕ) where
    done : (code flags : ℕ) (partly : Bool) (after : List ℕ) → Worked (symbols_of b) b sd letter u m code flags after → partly_taken code m ≡ partly
        → Done letter m b (record { code = code; flags = flags; partly = partly }) after
    done code flags partly after w e =
        (sym (λ i. record { code = w.code_is i; flags = w.flags-are i; partly = (ap (λ (c : ℕ). partly_taken c m) w.code_is ∙ e) i }), sym w.book-is)

    module _ (x : Message) (e : message_of letter m ≡ x) where
      -- one that names no symbol
      pub told-else : names x ≡ false → Done letter m b (record { code = said_code x; flags = said_flags letter m b x; partly = false }) (said_on letter m b x)
      unfolding partly_taken
      told-else h =
          rw (← e)
          (done (said_code (message_of letter m)) (said_flags letter m b (message_of letter m)) false (said_on letter m b (message_of letter m))
          (worked-else (symbols_of b) b sd letter u m (rw e h)) (partly-no (said_code (message_of letter m)) (kind_of m) (low-code letter m (message_of letter m) (spoken letter m))))

      module _ (h : names x ≡ true) where
        named : names (message_of letter m) ≡ true
        named = rw e h

        -- one whose symbol is not found
        pub told-nowhere : page_place b (be (take symbol_length (drop header_length m))) ≡ None → Done letter m b (record { code = 45; flags = 0; partly = false }) b
        unfolding symbol_of field part partly_taken
        told-nowhere p = done 45 0 false b (worked-nowhere (symbols_of b) b sd letter u m p named) (partly-no 45 (kind_of m) refl)

        -- one whose symbol has page k: that page is lent, and comes back as the page's code left it
        pub told_at : (k : ℕ) → page_place b (be (take symbol_length (drop header_length m))) ≡ Some k → (code flags : ℕ) (page : List ℕ)
            → record { effect = record { code = code; flags = flags }; page = page } ≡ updated_by letter m (lent b k) x
            → Done letter m b (record { code = code; flags = flags; partly = partly_as code x }) (back b k page)
        unfolding symbol_of field part
        told_at k p code flags page q =
            let old : List ℕ = page_at b k in
            let r : record { effect = record { code = code; flags = flags }; page = page } ≡ updated_by letter m old (message_of letter m) = rw (e, ← lent-page b k) q in
            let z : page ≡ page_after letter m (message_of letter m) old = ap (λ (y : Updated). y.page) (r ∙ update-is letter m old) in
            let l : length old ≡ page_length = length-page (symbols_of b) b sd k (below (be (take symbol_length (drop header_length m))) k p) in
            rw (page-back b k page (ap length z ∙ (said-kept letter u m old l (page_code letter m old) (message_of letter m)).size))
            (done code flags (partly_as code x) (set_page b k page)
            (rw (← r) at (worked-at (symbols_of b) b sd letter u m k p named)) (partly-named code letter m x (spoken-as letter m x e) h))

    -- FINRA Close and Open
    pub told-finra : (c flags : ℕ) (after : List ℕ) → message_of letter m ≡ says.Finra c → flags ≡ finra_flags c b → after ≡ each_page (finra_on c) 0 (symbols_of b) b
        → Done letter m b (record { code = 0; flags = flags; partly = false }) after
    told-finra c flags after e f a = rw (f, a) (told-else (says.Finra c) e refl)
