-- T-12 on any bytes: what the two calls answer, and that a subscriber who decodes what is written reads the page's entries and quotes.
-- Assumes nothing.
use Prim.Native.Nat.{ℕ, ◌≤◌, ◌<◌}
use mathlib.Core.Path.{◌≡◌, refl, sym, ap, ◌∙◌}
use mathlib.Core.Bool.{Bool, true, false, ◌&&◌, cond}
use mathlib.Core.List.{List}
use Rattle.std.specs.Prelude.{Some, Option}
use native.Mathlib.Omega.{arith}
use lib.Dec.{lit<, eqb, leb}
use lib.ListN.{length}
use borrow.Author.Tests.{lt-ltb, le-ltb}
use Rattle.field.specs.Field.{Bytes, be, part}
use Rattle.field.specs.Low.{low}
use Rattle.field.proofs.Laws.{length_part, bytes-part}
use Rattle.lists.specs.Lists.{upper}
use Rattle.lists.proofs.Tests.{upper-low}
use Rattle.text.specs.Form.{symbol_good}
use Rattle.ranking.specs.declared.Side.{Side}
use Rattle.ranking.specs.declared.Side.TheVariants.{Bid, Offer}
use Rattle.quote.specs.declared.Level.{Level}
use Rattle.quote.specs.declared.Quote.{Quote}
use Rattle.quote.specs.Quote.{no_level, no_quote, quote_in, LevelFits, QuoteFits, quote_length}
use Rattle.quote.proofs.QuoteLaws.{quote-fits}
use Rattle.keys.specs.Keys.{key_length, quote_key}
use Rattle.entries.specs.Publication.{publication_length}
use Rattle.snapshot.specs.Snapshot.{Snapshot, snapshot_of}
use Rattle.snapshot.specs.Feed.{feed_longest, feed_blocks, feed_bytes}
use Rattle.snapshot.specs.Receiver.{every_message, decoded, carried}
use Rattle.snapshot.specs.Sizes.{feed_count, feed_length}
use Rattle.snapshot.proofs.RoundLaws.{Whole, length-feed, count-feed, blocks-short, decoded-back}
use Rattle.snapshot.proofs.ShownLaws.{whole_of}
use Rattle.page.specs.Layout.{entries_at, page_length, slot_at, quote_key_at, kept_entries}
use Rattle.page.specs.Page.{agreed, agreed_quote, quotes_in}
use Rattle.update.specs.Parts.{reading_of}
use Rattle.update.proofs.SearchLaws.{is_at}
use Rattle.opening.specs.Opening.{sound, rest_in, page_at, pages_in, page_place, reading_at}
use Rattle.opening.specs.Layout.{page_start}
use Rattle.opening.proofs.OpeningLaws.{bytes-page}
use Rattle.opening.proofs.ReadLaws.{found-room}
use Rattle.line.specs.Line.{done}
use Rattle.work.specs.Work.{listed_of}
use Rattle.work.proofs.PlaceLaws.{listed_at}
use Rattle.calls.specs.Call.{snapshot_len, snapshot, number_of, Answer, bare, fed, size_told, snapshot_told, answer_of, entries_in, published_on, quotes_for, quotes_on, after_call, number_on, answer_on, Outcome, call}
use Rattle.calls.proofs.NumberLaws.{symbol-eleven}

-- an answer goes by its number, of unsound bytes too
by_number : (f : ℕ → Answer) (t : Bool) (n : ℕ) → cond t (cond (done (cond t n 1)) (f (cond t n 1)) (bare (cond t n 1))) (bare 1) ≡ cond (done (cond t n 1)) (f (cond t n 1)) (bare (cond t n 1))
unfolding done
by_number f true n = refl
by_number f false n = refl

either : {A : Type 0} (t : Bool) (a : A) → cond t a a ≡ a
either true a = refl
either false a = refl

abbrev pub outcome : List ℕ → Answer → Outcome
outcome b a = record { bytes = b; answer = a }

-- a quote that fits still does where a key is not its own
agreed-fits : (kb ko : ℕ) (q : Quote) → QuoteFits q → QuoteFits (agreed_quote kb ko q)
unfolding agreed_quote agreed
agreed-fits kb ko q h = record { condition = h.condition; bid = side (eqb kb (quote_key Bid q)) q.bid h.bid; offer = side (eqb ko (quote_key Offer q)) q.offer h.offer }
  where
    side : (t : Bool) (v : Level) → LevelFits v → LevelFits (cond t v no_level)
    side true v h = h
    side false v h = record { price = lit< tt; size = lit< tt; time = lit< tt }

-- in a page of bytes every letter's quote fits
page-fits : (p : List ℕ) → length p ≡ page_length → Bytes p → (l : ℕ) → QuoteFits (quotes_in p l)
unfolding quotes_in
page-fits p w y l = go (upper l) refl
  where
    key : Side → ℕ
    key s = low p (quote_key_at s l) key_length

    stored : upper l ≡ true → QuoteFits (quote_in (part p (slot_at l) quote_length))
    stored u = quote-fits (part p (slot_at l) quote_length) (length_part p (slot_at l) quote_length (omega (arith, (upper-low l u).0, (upper-low l u).1))) (bytes-part p (slot_at l) quote_length y)

    go : (t : Bool) → upper l ≡ t → QuoteFits (cond t (agreed_quote (key Bid) (key Offer) (quote_in (part p (slot_at l) quote_length))) no_quote)
    go true u = agreed-fits (key Bid) (key Offer) (quote_in (part p (slot_at l) quote_length)) (stored u)
    go false u =
        record {
          condition = lit< tt;
          bid = record { price = lit< tt; size = lit< tt; time = lit< tt };
          offer = record { price = lit< tt; size = lit< tt; time = lit< tt };
        }

module _ (b x : List ℕ) where
  -- of page k
  abbrev pub page_feed : ℕ → Snapshot
  page_feed k = snapshot_of x (kept_entries (page_at b k)) (quotes_in (page_at b k))

  pub feed-at : (k : ℕ) → page_place b (be x) ≡ Some k → snapshot_of x (published_on b (be x)) (quotes_on b (be x)) ≡ page_feed k
  unfolding reading_of
  feed-at k e =
      ap (λ (f : Option ℕ). snapshot_of x (entries_in (reading_at b f)) (quotes_for (reading_at b f))) e

  -- 10
  abbrev numbered : ℕ
  numbered = cond (symbol_good x && is_at (page_place b (be x))) 0 10

  pub len-number : sound b ≡ true → number_on b (snapshot_len x) ≡ numbered
  unfolding number_on number_of
  len-number s = rw (s, listed_at b (be x))

  pub feed-number : (room : ℕ) → sound b ≡ true → number_on b (snapshot x room) ≡ numbered
  unfolding number_on number_of
  feed-number room s = rw (s, listed_at b (be x))

  -- "The book isn't changed", whatever is answered
  pub len-keeps : (call b (snapshot_len x)).bytes ≡ b
  unfolding call after_call
  len-keeps = either (done (number_on b (snapshot_len x))) b

  pub feed-keeps : (room : ℕ) → (call b (snapshot x room)).bytes ≡ b
  unfolding call after_call
  feed-keeps room = either (done (number_on b (snapshot x room))) b

  -- ---- answers

  len-answer : answer_on b (snapshot_len x)
      ≡ cond (done (number_on b (snapshot_len x))) (size_told (number_on b (snapshot_len x)) (snapshot_of x (published_on b (be x)) (quotes_on b (be x)))) (bare (number_on b (snapshot_len x)))
  unfolding number_on answer_of
  len-answer = by_number (λ n. size_told n (snapshot_of x (published_on b (be x)) (quotes_on b (be x)))) (sound b) (number_of (rest_in b) (listed_of (pages_in b)) (snapshot_len x))

  pub feed-answer : (room : ℕ) → answer_on b (snapshot x room)
      ≡ cond (done (number_on b (snapshot x room))) (snapshot_told (number_on b (snapshot x room)) room (snapshot_of x (published_on b (be x)) (quotes_on b (be x)))) (bare (number_on b (snapshot x room)))
  unfolding number_on answer_of
  feed-answer room = by_number (λ n. snapshot_told n room (snapshot_of x (published_on b (be x)) (quotes_on b (be x)))) (sound b) (number_of (rest_in b) (listed_of (pages_in b)) (snapshot x room))

  -- a refusal carries its number alone
  pub len-refused : (n : ℕ) → n ≡ number_on b (snapshot_len x) → done n ≡ false → record { bytes = b; answer = bare n } ≡ call b (snapshot_len x)
  unfolding call
  len-refused n e d = sym (rw (len-answer, ← e, d))

  pub feed-refused : (room n : ℕ) → n ≡ number_on b (snapshot x room) → done n ≡ false → record { bytes = b; answer = bare n } ≡ call b (snapshot x room)
  unfolding call
  feed-refused room n e d = sym (rw (feed-answer room, ← e, d))

  -- ---- of the page that is found

  module _ (k : ℕ) (s : sound b ≡ true) (g : symbol_good x ≡ true) (e : page_place b (be x) ≡ Some k) where
    pub len-told : outcome b (size_told 0 (page_feed k)) ≡ call b (snapshot_len x)
    unfolding call after_call done
    len-told = let n : number_on b (snapshot_len x) ≡ 0 = len-number s ∙ rw (g, e) in sym (rw (len-answer, n, feed-at k e))

    pub feed-told : (room : ℕ) → outcome b (snapshot_told 0 room (page_feed k)) ≡ call b (snapshot x room)
    unfolding call after_call done
    feed-told room = let n : number_on b (snapshot x room) ≡ 0 = feed-number room s ∙ rw (g, e) in sym (rw (feed-answer room, n, feed-at k e))

    -- ---- the theorem, on memory of any bytes

    module _ (y : Bytes b) where
      whole : Whole (page_feed k)
      unfolding page_at
      whole =
          let w : length (page_at b k) ≡ page_length = length_part b (page_start k) page_length (found-room b (be x) k (page_place b (be x)) s refl e).0 in
          whole_of (quotes_in (page_at b k)) x (kept_entries (page_at b k)) (symbol-eleven x g) (length_part (page_at b k) entries_at publication_length (omega (arith, w))) (page-fits (page_at b k) w (bytes-page b k y))

      -- k letters have a message
      abbrev pub letters : ℕ
      letters = length (page_feed k).letters

      -- "the number of blocks and bytes beforehand", in closed form
      pub len-blocks : (call b (snapshot_len x)).answer.found ≡ feed_count letters
      len-blocks = ap (λ (o : Outcome). o.answer.found) (sym len-told) ∙ count-feed (page_feed k) whole.measured

      pub len-bytes : (call b (snapshot_len x)).answer.amount ≡ feed_length letters
      len-bytes = ap (λ (o : Outcome). o.answer.amount) (sym len-told) ∙ length-feed (page_feed k) whole.measured

      -- "blocks .. of at most 1,000 bytes"
      pub feed-short : every_message (λ c. leb (length c) feed_longest) (feed_blocks (page_feed k)) ≡ true
      feed-short = blocks-short (page_feed k) whole.measured

      -- 81 exactly if the output is shorter than what is told beforehand
      pub feed-81 : (room : ℕ) → room < (call b (snapshot_len x)).answer.amount → outcome b (bare 81) ≡ call b (snapshot x room)
      feed-81 room h =
          let z : (call b (snapshot_len x)).answer.amount ≡ length (feed_bytes (page_feed k)) = ap (λ (o : Outcome). o.answer.amount) (sym len-told) in
          sym (ap (λ (t : Bool). outcome b (cond t (bare 81) (fed 0 (length (feed_blocks (page_feed k))) (length (feed_bytes (page_feed k))) (feed_bytes (page_feed k))))) (lt-ltb room (length (feed_bytes (page_feed k))) (omega (arith, z)))) ∙ feed-told room

      pub record Written (room : ℕ) : Type 0 where
        pub number : (call b (snapshot x room)).answer.number ≡ 0
        -- "and both equal those written"
        pub blocks : (call b (snapshot x room)).answer.found ≡ (call b (snapshot_len x)).answer.found
        pub bytes : (call b (snapshot x room)).answer.amount ≡ (call b (snapshot_len x)).answer.amount
        pub filled : length (call b (snapshot x room)).answer.output ≡ (call b (snapshot_len x)).answer.amount
        pub feed : (call b (snapshot x room)).answer.output ≡ feed_bytes (page_feed k)
        -- "Decoding by 002's layout yields"
        pub decodes : decoded (call b (snapshot x room)).answer.output ≡ Some (carried (page_feed k))

      pub feed-written : (room : ℕ) → (call b (snapshot_len x)).answer.amount ≤ room → Written room
      feed-written room h =
          let z : (call b (snapshot_len x)).answer.amount ≡ length (feed_bytes (page_feed k)) = ap (λ (o : Outcome). o.answer.amount) (sym len-told) in
          let w : (call b (snapshot x room)).answer ≡ fed 0 (length (feed_blocks (page_feed k))) (length (feed_bytes (page_feed k))) (feed_bytes (page_feed k)) =
          ap (λ (o : Outcome). o.answer) (sym (feed-told room)) ∙ ap (λ (t : Bool). cond t (bare 81) (fed 0 (length (feed_blocks (page_feed k))) (length (feed_bytes (page_feed k))) (feed_bytes (page_feed k)))) (le-ltb room (length (feed_bytes (page_feed k))) (omega (arith, z))) in
          record {
            number = ap (λ (a : Answer). a.number) w;
            blocks = ap (λ (a : Answer). a.found) w ∙ ap (λ (o : Outcome). o.answer.found) len-told;
            bytes = ap (λ (a : Answer). a.amount) w ∙ sym z;
            filled = ap (λ (a : Answer). length a.output) w ∙ sym z;
            feed = ap (λ (a : Answer). a.output) w;
            decodes = ap (λ (a : Answer). decoded a.output) w ∙ decoded-back (page_feed k) whole;
          }
