-- T-12's sentence, over lists of calls on a fresh book: what is written decodes to what the reviewer works out from the history alone.
-- Assumes nothing.
use Prim.Native.Nat.{ℕ, zero, suc, ◌≤◌}
use mathlib.Core.Path.{◌≡◌, refl, sym, ap, ◌∙◌}
use mathlib.Core.Bool.{Bool, true, false, not, ◌&&◌, cond}
use mathlib.Core.List.{List, [], ◌∷◌}
use Rattle.std.specs.Prelude.{Option, None, Some}
use lib.ListN.{length}
use Rattle.field.specs.Field.{be, be_bytes}
use Rattle.field.specs.Ascii.{A, D, S}
use Rattle.lists.specs.Lists.{map_option, or_else, is_some, member, collect, range, cons_option}
use Rattle.lists.proofs.Members.{In}
use Rattle.lists.proofs.Tests.{clash}
use Rattle.text.specs.Form.{symbol_good, symbol_length}
use Rattle.quote.specs.declared.Quote.{Quote}
use Rattle.quote.specs.Quote.{no_quote, is_quoted}
use Rattle.entries.specs.Publication.{publication}
use Rattle.snapshot.specs.Snapshot.{Shown, Snapshot, shown_of, is_shown, shown_at, shown_from, snapshot_of}
use Rattle.snapshot.specs.Receiver.{decoded, carried}
use Rattle.snapshot.proofs.EntryLaws.{entries_read, carried-entries}
use Rattle.update.proofs.SearchLaws.{is_at}
use Rattle.opening.specs.Opening.{sound, pages_in, page_place}
use Rattle.opening.proofs.OpeningLaws.{sound-is}
use Rattle.message.specs.Message.{Part}
use Rattle.work.specs.Work.{Listed, is_listed, listed_of}
use Rattle.work.proofs.PlaceLaws.{listed_at}
use Rattle.calls.specs.Call.{Call, make, snapshot_len, snapshot, call, bytes_after}
use Rattle.calls.proofs.SnapshotLaws.{feed-at, Written, feed-written}
use Rattle.review.specs.Runs.{latest}
use Rattle.review.specs.Reviewer.{parts, rounds_of, quote_of, reviewed_by, reviewed, Review, fresh_review, review_after}
use Rattle.review.specs.Recovered.{newest, latest_shown, letters_shown, entries_told, recovered}
use Rattle.review.specs.Lists.{blocks_are_bytes}
use Rattle.review.proofs.CallLaws.{Agrees}
use Rattle.review.proofs.AnswerLaws.{feed-same}
use Rattle.review.proofs.FeedLaws.{newest-shown}
use Rattle.review.proofs.QuotedLaws.{quoted-since-start}
use Rattle.review.proofs.RunLaws.{after-agrees, held-symbol}

-- ---- a letter's latest round part

-- a list of round parts that a condition tells
letter-shown : (l : ℕ) (rs : List Quote) → is_quoted (or_else (latest rs) no_quote).condition ≡ is_some (latest rs) → (t : Bool)
    → cond (not t && is_quoted (or_else (latest rs) no_quote).condition) (Some (shown_of l (or_else (latest rs) no_quote))) None ≡ cond t None (map_option (shown_of l) (newest rs))
letter-shown l rs e true = refl
letter-shown l [] e false = refl
letter-shown l (q ∷ qs) e false = ap (λ (t : Bool). cond t (Some (shown_of l (or_else (latest (q ∷ qs)) no_quote))) None) e ∙ ap Some (newest-shown l q qs)

module _ (n : ℕ) (cs : List Call) (s : ℕ) where
  abbrev h : List Part
  h = parts (review_after (fresh_review n) cs).history

  shown-latest : (l : ℕ) → shown_at (quote_of h s) l ≡ latest_shown h s l
  unfolding is_shown quote_of
  shown-latest l = letter-shown l (rounds_of h s l) (quoted-since-start n cs s l) (member (D ∷ S ∷ []) l)

  letters-latest : (k l : ℕ) → shown_from (quote_of h s) k l ≡ collect (latest_shown h s) (range k l)
  letters-latest zero l = refl
  letters-latest (suc k) l = λ i. cons_option (shown-latest l i) (letters-latest k (suc l) i)

  -- what is carried is what the reviewer works out
  pub carried-recovered : (x : List ℕ) → carried (snapshot_of x (reviewed (review_after (fresh_review n) cs).history s) (quote_of h s)) ≡ recovered (review_after (fresh_review n) cs).history x s
  unfolding reviewed_by recovered letters_shown
  carried-recovered x =
      carried-entries x (entries_told h s) (quote_of h s)
      ∙ (λ i. record { symbol = x; national = (entries_read x (entries_told h s) (quote_of h s)).national; finra = (entries_read x (entries_told h s) (quote_of h s)).finra; letters = letters-latest 26 A i })

-- ---- a book and its reviewer

module _ (n : ℕ) (b : List ℕ) (v : Review) (a : Agrees n b v) (x : List ℕ) (g : symbol_good x ≡ true) (l : is_listed (be x) v.symbols ≡ true) where
  listed : is_listed (be x) (listed_of (pages_in b)) ≡ true
  listed = ap (is_listed (be x)) a.held.listed ∙ l

  place : (k : ℕ) × (page_place b (be x) ≡ Some k)
  place = go (page_place b (be x)) refl (sym (listed_at b (be x)) ∙ listed)
    where
      go : (r : Option ℕ) → page_place b (be x) ≡ r → is_at r ≡ true → (k : ℕ) × (page_place b (be x) ≡ Some k)
      go (Some k) e t = (k, e)
      go None e t = clash (sym t)

  pub decodes : (room : ℕ) → (call b (snapshot_len x)).answer.amount ≤ room
      → ((call b (snapshot x room)).answer.number ≡ 0)
      × (decoded (call b (snapshot x room)).answer.output ≡ Some (carried (snapshot_of x (reviewed v.history (be x)) (quote_of (parts v.history) (be x)))))
  decodes room m =
      let w : Written b x place.0 (sound-is n b a.sound) g place.1 a.bytes room = feed-written b x place.0 (sound-is n b a.sound) g place.1 a.bytes room m in (
        w.number,
        w.decodes ∙ ap (λ (f : Snapshot). Some (carried f)) (sym (feed-at b x place.0 place.1) ∙ feed-same n b v.history a.sound a.bytes a.held.core x listed),
      )

-- ---- after every list of calls

module _ (m : List ℕ) (n : ℕ) (made : (call m (make n)).answer.number ≡ 0) (cs : List Call) (z : blocks_are_bytes cs ≡ true) where
  abbrev b : List ℕ
  b = bytes_after (call m (make n)).bytes cs

  abbrev v : Review
  v = review_after (fresh_review n) cs

  -- for each symbol that the reviewer holds, into an output of the length that is told beforehand, or a longer one
  pub recovery : (y : Listed) → In y v.symbols → (room : ℕ) → (call b (snapshot_len (be_bytes symbol_length y.symbol))).answer.amount ≤ room
      → ((call b (snapshot (be_bytes symbol_length y.symbol) room)).answer.number ≡ 0)
      × (decoded (call b (snapshot (be_bytes symbol_length y.symbol) room)).answer.output ≡ Some (recovered v.history (be_bytes symbol_length y.symbol) y.symbol))
  recovery y i room e =
      let w = held-symbol n cs y i in
      let d = decodes n b v (after-agrees m n made cs z) (be_bytes symbol_length y.symbol) w.0 (ap (λ (k : ℕ). is_listed k v.symbols) w.1.0 ∙ w.1.1) room e in
      (d.0, d.1 ∙ ap Some (carried-recovered n cs (be (be_bytes symbol_length y.symbol)) (be_bytes symbol_length y.symbol) ∙ ap (recovered v.history (be_bytes symbol_length y.symbol)) w.1.0))
