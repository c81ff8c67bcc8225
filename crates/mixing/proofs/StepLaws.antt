-- One block on a book of any bytes, where it is not refused with 86: by the day, its line and whether an allowance is set, and what it leaves of the opening.
-- Assumes nothing.
use Prim.Native.Nat.{ℕ, ◌+◌, ◌≤◌, ◌<◌}
use mathlib.Core.Path.{◌≡◌, refl, sym, ap, ◌∙◌}
use mathlib.Core.Bool.{Bool, true, false, ◌||◌, cond}
use mathlib.Core.List.{List, [], ◌∷◌, map}
use Rattle.std.specs.Prelude.{Option, None, Some, Result, Ok, Err}
use native.Mathlib.Omega.{arith}
use lib.Dec.{eqb, ltb, lit≤}
use lib.ListN.{length}
use borrow.Author.Tests.{ltb-true, lt-ltb}
use Rattle.field.specs.Field.{be, part, field, be_bytes}
use Rattle.field.proofs.Laws.{be-be_bytes, part-put, field-part-0, field-before}
use Rattle.lists.specs.Lists.{upper}
use Rattle.lists.proofs.Tests.{clash, Cut, equal, apart, cut, upper-low}
use Rattle.text.specs.Form.{letter_good}
use Rattle.allowance.specs.Allowance.{is_used_up}
use Rattle.block.specs.Block.{count_in, sequence_in, checked, idle_block, messages_of, answer_length}
use Rattle.block.specs.Sequence.{arrival_of}
use Rattle.block.specs.declared.Arrival.{Arrival}
use Rattle.numbers.specs.declared.Refusal.{Refusal}
use Rattle.told.specs.declared.Told.{Told}
use Rattle.told.specs.Told.{is_accepted, is_partly, is_rejected, quads, tally}
use Rattle.opening.specs.declared.Line.{Line}
use Rattle.opening.specs.Layout.{day_at, line_length, line_count, allowance_at, opening_length, book_length, line_at}
use Rattle.opening.specs.Opening.{line_in, line_bytes, lines_in, rest_in}
use Rattle.opening.proofs.OpeningLaws.{Sound, sound-is}
use Rattle.opening.proofs.PageLaws.{OpeningKept, kept-sound}
use Rattle.opening.proofs.LineLaws.{length-line, line-upper, line-open}
use Rattle.line.specs.Line.{arrival_number_of, line_number, checked_number_of, block_number, on_line, done, gap_told, advanced}
use Rattle.work.specs.Work.{messages_on, told_on}
use Rattle.work.proofs.KeptLaws.{messages-kept}
use Rattle.calls.specs.Call.{take, Answer, bare, report, line_answer, letter_of, number_of, answer_of, advance_on, after_call, number_on, call}
use Rattle.calls.proofs.NumberLaws.{number_same}
use Rattle.calls.proofs.TakenLaws.{letter-stays}
use Rattle.regions.proofs.RegionLaws.{within, in_within, of-within, Apart, part-read, local-reads}
use Rattle.mixing.specs.Mixing.{unflagged, without_flags, OneLineEach}
use Rattle.mixing.proofs.MessageSwaps.{quiet}
use Rattle.mixing.proofs.LineSwaps.{line_set, charge_at, charge_set, settle_set, own_of, settle-local, settle-behind, settled_is, unset, write-sound, head_apart, line-apart, set_apart}

-- ---- a block that is not refused with 86

-- its number: as if share or spare were left
abbrev pub number_for : Bool → Option Line → List ℕ → ℕ → ℕ
number_for day o k room = cond (ltb room answer_length) 9 (on_line day false k o)

abbrev pub Passes : List ℕ → ℕ → List ℕ → ℕ → Type 0
Passes b i k room = number_on b (take i k room) ≡ 86 → ⊥

left-same : (r : Line) (day : Bool) (k : List ℕ) → (block_number r day true k ≡ 86 → ⊥) → block_number r day true k ≡ block_number r day false k
unfolding block_number line_number
left-same r day k = go (checked k)
  where
    arrived : (a : Option Arrival) → (◌≡◌ {A = ℕ} (arrival_number_of true a) 86 → ⊥) → ◌≡◌ {A = ℕ} (arrival_number_of true a) (arrival_number_of false a)
    arrived (Some a) p = absurd (p refl)
    arrived None p = refl

    line : (s t : Bool) → (◌≡◌ {A = ℕ} (cond s 0 (cond t (arrival_number_of true (arrival_of (sequence_in k) r.expected (count_in k))) 20)) 86 → ⊥)
        → ◌≡◌ {A = ℕ} (cond s 0 (cond t (arrival_number_of true (arrival_of (sequence_in k) r.expected (count_in k))) 20))
        (cond s 0 (cond t (arrival_number_of false (arrival_of (sequence_in k) r.expected (count_in k))) 20))
    line true t p = refl
    line false true p = arrived (arrival_of (sequence_in k) r.expected (count_in k)) p
    line false false p = refl

    go : (x : Result ℕ Refusal) → (checked_number_of r day true k x ≡ 86 → ⊥) → checked_number_of r day true k x ≡ checked_number_of r day false k x
    go (Ok c) p = line (idle_block k) day p
    go (Err n) p = refl

left-for : (t day used : Bool) (k : List ℕ) (o : Option Line) → (◌≡◌ {A = ℕ} (cond t 9 (on_line day used k o)) 86 → ⊥)
    → ◌≡◌ {A = ℕ} (cond t 9 (on_line day used k o)) (cond t 9 (on_line day false k o))
left-for true day used k o p = refl
left-for false day false k o p = refl
left-for false day true k None p = refl
left-for false day true k (Some r) p = left-same r day k p

-- the line's record after a block, and its charge; off: no allowance is set
abbrev pub settle_on : ℕ → List ℕ → Bool → Option Line → List ℕ → List ℕ
settle_on i k off None b = b
settle_on i k off (Some r) b = settle_set i (advanced r k) (idle_block k || off) b

abbrev pub step_by : Bool → Bool → Option Line → ℕ → List ℕ → ℕ → List ℕ → List ℕ
step_by day off o i k room b = cond (done (number_for day o k room)) (settle_on i k off o (messages_on (letter_of o) (messages_of k) b)) b

abbrev pub answer_by : Bool → Option Line → List ℕ → ℕ → List Told → Answer
answer_by day o k room ts = cond (eqb (number_for day o k room) 9) (bare (number_for day o k room)) (line_answer (number_for day o k room) k ts o)

-- ---- its messages, on an open line

module _ (n : ℕ) (b : List ℕ) (sd : Sound n b) (i : ℕ) (k : List ℕ) (r : Line) (e : lines_in b i ≡ Some r) where
  pub low : i < line_count
  low = (line-open b i r e).0

  pub up : upper r.letter ≡ true
  up = line-upper r (line-open b i r e).1

  pub mid-kept : OpeningKept b (messages_on r.letter (messages_of k) b)
  mid-kept = messages-kept n r.letter up (messages_of k) b sd

  pub mid-sound : Sound n (messages_on r.letter (messages_of k) b)
  mid-sound = kept-sound b (messages_on r.letter (messages_of k) b) mid-kept n sd

  unset-mid : unset (messages_on r.letter (messages_of k) b) ≡ unset b
  unfolding field
  unset-mid = ap (λ (z : List ℕ). eqb (be z) 0) (mid-kept.front allowance_at 1 (omega arith))

  -- the opening but for the line's record and its charge
  one_apart : (off : Bool) (at m : ℕ) → at + m ≤ opening_length → Apart (own_of i) (within at m)
      → part (settle_set i (advanced r k) off (messages_on r.letter (messages_of k) b)) at m ≡ part b at m
  one_apart off at m h d =
      local-reads (book_length n) (own_of i) (within at m) (settle_set i (advanced r k) off) (λ z. part z at m) (settle-local i low n (advanced r k) off) (part-read (book_length n) at m) d
      (messages_on r.letter (messages_of k) b) mid-sound.size
      ∙ mid-kept.front at m h

-- ---- the call

module _ (n : ℕ) (b : List ℕ) (sd : Sound n b) (i : ℕ) (k : List ℕ) where
  advance-is : (o : Option Line) → lines_in b i ≡ o
      → advance_on i k o (messages_on (letter_of o) (messages_of k) b) ≡ settle_on i k (unset b) o (messages_on (letter_of o) (messages_of k) b)
  advance-is None e = refl
  advance-is (Some r) e =
      settled_is n i (low n b sd i k r e) (advanced r k) (idle_block k) (messages_on r.letter (messages_of k) b) (mid-sound n b sd i k r e).size
      ∙ ap (λ (t : Bool). settle_set i (advanced r k) (idle_block k || t) (messages_on r.letter (messages_of k) b)) (unset-mid n b sd i k r e)

  module _ (room : ℕ) (p : Passes b i k room) where
    pub number_is : number_on b (take i k room) ≡ number_for (rest_in b).day (lines_in b i) k room
    unfolding number_of rest_in
    number_is =
        number_same n b sd (take i k room)
        ∙ left-for (ltb room answer_length) (rest_in b).day (is_used_up (rest_in b).allowance i) k (lines_in b i) (λ z. p (number_same n b sd (take i k room) ∙ z))

    pub step_is : (call b (take i k room)).bytes ≡ step_by (rest_in b).day (unset b) (lines_in b i) i k room b
    unfolding call after_call
    step_is =
        ap (λ (z : ℕ). cond (done z) (advance_on i k (lines_in b i) (messages_on (letter_of (lines_in b i)) (messages_of k) b)) b) number_is
        ∙ ap (λ (z : List ℕ). cond (done (number_for (rest_in b).day (lines_in b i) k room)) z b) (advance-is (lines_in b i) refl)

    pub answer-is : (call b (take i k room)).answer ≡ answer_by (rest_in b).day (lines_in b i) k room (told_on b (letter_of (lines_in b i)) (messages_of k))
    unfolding call answer_of rest_in
    answer-is =
        rw (sound-is n b sd)
        (ap (λ (z : ℕ). cond (eqb z 9) (bare z) (line_answer z k (told_on b (letter_of (lines_in b i)) (messages_of k)) (lines_in b i))) number_is)

-- a line that is not open takes no block
pub none_done : (day : Bool) (k : List ℕ) (room : ℕ) → done (number_for day None k room) ≡ true → ⊥
unfolding done
none_done day k room = go (ltb room answer_length)
  where
    go : (t : Bool) → done (cond t 9 21) ≡ true → ⊥
    go true e = clash (sym e)
    go false e = clash (sym e)

-- ---- an answer without its flags is worked out from what is told without them

quads-quiet : (ts : List Told) (i : ℕ) → unflagged (quads i ts) ≡ quads i (map quiet ts)
unfolding quads
quads-quiet [] i = refl
quads-quiet (t ∷ ts) i = ap (λ (z : List ℕ). i ∷ t.code ∷ 0 ∷ 0 ∷ z) (quads-quiet ts (i + 1))

tally-quiet : (f : Told → Bool) → ((t : Told) → f t ≡ f (quiet t)) → (ts : List Told) → tally f ts ≡ tally f (map quiet ts)
unfolding tally
tally-quiet f e [] = refl
tally-quiet f e (t ∷ ts) = λ i. cond (e t i) 1 0 + tally-quiet f e ts i

report-quiet : (k gap : ℕ) (r : Line) (ts : List Told) → without_flags (report k gap r ts) ≡ report k gap r (map quiet ts)
report-quiet k gap r ts =
    λ i. record {
      number = k;
      gap = gap;
      expected = r.expected;
      count = r.count;
      accepted = tally-quiet is_accepted (λ t. refl) ts i;
      partly = tally-quiet is_partly (λ t. refl) ts i;
      rejected = tally-quiet is_rejected (λ t. refl) ts i;
      answers = quads-quiet ts 0 i;
      publication = [];
      found = 0;
      amount = 0;
      output = [];
    }

line_quiet : (k : ℕ) (b : List ℕ) (ts : List Told) (o : Option Line) → without_flags (line_answer k b ts o) ≡ line_answer k b (map quiet ts) o
line_quiet k b ts None = refl
line_quiet k b ts (Some r) = go (done k)
  where
    go : (t : Bool) → without_flags (cond t (report k (gap_told r b) (advanced r b) ts) (report k 0 r [])) ≡ cond t (report k (gap_told r b) (advanced r b) (map quiet ts)) (report k 0 r [])
    go true = report-quiet k (gap_told r b) (advanced r b) ts
    go false = report-quiet k 0 r []

module _ (day : Bool) (o : Option Line) (k : List ℕ) (room : ℕ) where
  pub answer-quiet : (ts : List Told) → without_flags (answer_by day o k room ts) ≡ answer_by day o k room (map quiet ts)
  answer-quiet ts = go (eqb (number_for day o k room) 9)
    where
      go : (t : Bool)
          → without_flags (cond t (bare (number_for day o k room)) (line_answer (number_for day o k room) k ts o)) ≡ cond t (bare (number_for day o k room)) (line_answer (number_for day o k room) k (map quiet ts) o)
      go true = refl
      go false = line_quiet (number_for day o k room) k ts o

  -- of a refused block nothing is told
  pub unheard : (ts us : List Told) → done (number_for day o k room) ≡ false → answer_by day o k room ts ≡ answer_by day o k room us
  unheard ts us v = ap (λ (z : Answer). cond (eqb (number_for day o k room) 9) (bare (number_for day o k room)) z) (line o)
    where
      line : (r : Option Line) → line_answer (number_for day o k room) k ts r ≡ line_answer (number_for day o k room) k us r
      line None = refl
      line (Some r) = rw v

-- ---- what a block on line i leaves of the opening

module _ (n : ℕ) (b : List ℕ) (sd : Sound n b) (i : ℕ) (k : List ℕ) (day off : Bool) (room : ℕ) where
  pub step-sound : (o : Option Line) → lines_in b i ≡ o → Sound n (step_by day off o i k room b)
  step-sound o e = go o e (done (number_for day o k room)) refl
    where
      go : (o : Option Line) → lines_in b i ≡ o → (t : Bool) → done (number_for day o k room) ≡ t → Sound n (cond t (settle_on i k off o (messages_on (letter_of o) (messages_of k) b)) b)
      go None e true f = absurd (none_done day k room f)
      go None e false f = sd
      go (Some r) e true f =
          write-sound n (settle_set i (advanced r k) (idle_block k || off)) (settle-behind i (low n b sd i k r e) n (advanced r k) (idle_block k || off)) (messages_on r.letter (messages_of k) b)
          (mid-sound n b sd i k r e)
      go (Some r) e false f = sd

  pub step-apart : (o : Option Line) → lines_in b i ≡ o → (at m : ℕ) → at + m ≤ opening_length → (i < line_count → Apart (own_of i) (within at m)) → part (step_by day off o i k room b) at m ≡ part b at m
  step-apart o e at m h d = go o e (done (number_for day o k room)) refl
    where
      go : (o : Option Line) → lines_in b i ≡ o → (t : Bool) → done (number_for day o k room) ≡ t
          → part (cond t (settle_on i k off o (messages_on (letter_of o) (messages_of k) b)) b) at m ≡ part b at m
      go None e true f = absurd (none_done day k room f)
      go None e false f = refl
      go (Some r) e true f = one_apart n b sd i k r e (idle_block k || off) at m h (d (low n b sd i k r e))
      go (Some r) e false f = refl

  -- the day, whether an allowance is set, and the other lines
  pub day-stays : (o : Option Line) → lines_in b i ≡ o → (rest_in (step_by day off o i k room b)).day ≡ (rest_in b).day
  unfolding rest_in field
  day-stays o e = ap (λ (z : List ℕ). eqb (be z) 1) (step-apart o e day_at 1 (omega arith) (λ h. head_apart i day_at 1 (omega arith)))

  pub unset-stays : (o : Option Line) → lines_in b i ≡ o → unset (step_by day off o i k room b) ≡ unset b
  unfolding field
  unset-stays o e = ap (λ (z : List ℕ). eqb (be z) 0) (step-apart o e allowance_at 1 (omega arith) (λ h. set_apart i h))

  pub line_stays : (o : Option Line) → lines_in b i ≡ o → (j : ℕ) → (i ≡ j → ⊥) → lines_in (step_by day off o i k room b) j ≡ lines_in b j
  unfolding lines_in
  line_stays o e j d = go (ltb j line_count) refl
    where
      go : (t : Bool) → ltb j line_count ≡ t → cond t (line_in (part (step_by day off o i k room b) (line_at j) line_length)) None ≡ cond t (line_in (part b (line_at j) line_length)) None
      go true h = ap line_in (step-apart o e (line_at j) line_length (omega (arith, ltb-true j line_count h)) (λ q. line-apart i j (ltb-true j line_count h) d))
      go false h = refl

  letter-apart : (o : Option Line) → lines_in b i ≡ o → (j : ℕ) → j < line_count → (i ≡ j → ⊥) → field (step_by day off o i k room b) (line_at j) 1 ≡ field b (line_at j) 1
  unfolding field
  letter-apart o e j h d =
      ap be
      (step-apart o e (line_at j) 1 (omega arith)
      (λ low q r s. let z = of-within (line_at j) 1 q s in line-apart i j h d q r (in_within (line_at j) line_length q z.0 (omega (arith, z.1)))))

-- ---- letters: "each letter has at most one line" stays true

letter-of : (b : List ℕ) (i : ℕ) (r : Line) → lines_in b i ≡ Some r → r.letter ≡ field b (line_at i) 1
unfolding lines_in line_in
letter-of b i r e = go (ltb i line_count) (letter_good (field (part b (line_at i) line_length) 0 1)) e
  where
    go : (t u : Bool)
        → cond t (cond u (Some (record { letter = field (part b (line_at i) line_length) 0 1; expected = field (part b (line_at i) line_length) 1 4; count = field (part b (line_at i) line_length) 5 8 })) None) None
        ≡ Some r
        → r.letter ≡ field b (line_at i) 1
    go true true e = sym (ap (λ (o : Option Line). elim o [ None ↦ 0 | Some y ↦ y.letter ]) e) ∙ field-part-0 b (line_at i) line_length 1 (lit≤ tt)
    go true false e = clash (cc)
    go false u e = clash (cc)

bytes-letter : (a : Line) → field (line_bytes a) 0 1 ≡ be (be_bytes 1 a.letter)
unfolding line_bytes be_bytes field part
bytes-letter a = refl

-- no two lines of one letter, by the letters' bytes
abbrev pub Alone : List ℕ → Type 0
Alone b = (i j : ℕ) → i < line_count → j < line_count → letter_good (field b (line_at i) 1) ≡ true → field b (line_at i) 1 ≡ field b (line_at j) 1 → i ≡ j

line-at : (b : List ℕ) (i : ℕ) → i < line_count → letter_good (field b (line_at i) 1) ≡ true
    → lines_in b i ≡ Some (record { letter = field (part b (line_at i) line_length) 0 1; expected = field (part b (line_at i) line_length) 1 4; count = field (part b (line_at i) line_length) 5 8 })
unfolding lines_in line_in
line-at b i h l =
    let e : letter_good (field (part b (line_at i) line_length) 0 1) ≡ true = ap letter_good (field-part-0 b (line_at i) line_length 1 (lit≤ tt)) ∙ l in
    rw (lt-ltb i line_count h, e)

pub alone_of : (b : List ℕ) → OneLineEach b → Alone b
alone_of b a i j h k l e =
    a i j _ _ (line-at b i h l) (line-at b j k (ap letter_good (sym e) ∙ l))
    (field-part-0 b (line_at i) line_length 1 (lit≤ tt) ∙ e ∙ sym (field-part-0 b (line_at j) line_length 1 (lit≤ tt)))

pub alone-lines : (b : List ℕ) → Alone b → (i j : ℕ) → (i ≡ j → ⊥) → (x y : Line) → lines_in b i ≡ Some x → lines_in b j ≡ Some y → x.letter ≡ y.letter → ⊥
alone-lines b a i j d x y e f l =
    let p = line-open b i x e in
    let q = line-open b j y f in
    d (a i j p.0 q.0 (ap letter_good (sym (letter-of b i x e)) ∙ p.1) (sym (letter-of b i x e) ∙ l ∙ letter-of b j y f))

module _ (n : ℕ) (b : List ℕ) (sd : Sound n b) (i : ℕ) (k : List ℕ) (day off : Bool) (room : ℕ) where
  own-letter : (o : Option Line) → lines_in b i ≡ o → i < line_count → field (step_by day off o i k room b) (line_at i) 1 ≡ field b (line_at i) 1
  own-letter o e h = go o e (done (number_for day o k room)) refl
    where
      charged : (c : List ℕ) → charge_at i ≤ length c → (t : Bool) → field (cond t c (charge_set i c)) (line_at i) 1 ≡ field c (line_at i) 1
      charged c v true = refl
      charged c v false = field-before c (charge_at i) (be_bytes 1 (field c (charge_at i) 1 + 1)) (line_at i) 1 v (omega arith)

      set : (r : Line) → lines_in b i ≡ Some r → field (settle_set i (advanced r k) (idle_block k || off) (messages_on r.letter (messages_of k) b)) (line_at i) 1 ≡ field b (line_at i) 1
      set r e =
          let a : Line = advanced r k in
          let m : List ℕ = messages_on r.letter (messages_of k) b in
          let l : a.letter ≡ r.letter = letter-stays r k in
          let v : length (line_set i a m) ≡ book_length n = (settle-local i h n a true).size m (mid-sound n b sd i k r e).size in
          charged (line_set i a m) (omega (arith, v)) (idle_block k || off)
          ∙ sym (field-part-0 (line_set i a m) (line_at i) line_length 1 (lit≤ tt))
          ∙ ap (λ (z : List ℕ). field z 0 1) (part-put m (line_at i) (line_bytes a) line_length (length-line a) (omega (arith, (mid-sound n b sd i k r e).size)))
          ∙ bytes-letter a
          ∙ be-be_bytes 1 a.letter (omega (arith, (upper-low r.letter (up n b sd i k r e)).1))
          ∙ l ∙ letter-of b i r e

      go : (o : Option Line) → lines_in b i ≡ o → (t : Bool) → done (number_for day o k room) ≡ t
          → field (cond t (settle_on i k off o (messages_on (letter_of o) (messages_of k) b)) b) (line_at i) 1 ≡ field b (line_at i) 1
      go None e true f = absurd (none_done day k room f)
      go None e false f = refl
      go (Some r) e true f = set r e
      go (Some r) e false f = refl

  letters-stay : (o : Option Line) → lines_in b i ≡ o → (j : ℕ) → j < line_count → field (step_by day off o i k room b) (line_at j) 1 ≡ field b (line_at j) 1
  letters-stay o e j h = go (cut i j)
    where
      go : Cut i j → field (step_by day off o i k room b) (line_at j) 1 ≡ field b (line_at j) 1
      go (equal t z) = ap (λ (x : ℕ). field (step_by day off o i k room b) (line_at x) 1) (sym z) ∙ own-letter o e (omega arith) ∙ ap (λ (x : ℕ). field b (line_at x) 1) z
      go (apart t z) = letter-apart n b sd i k day off room o e j h z

  pub step-alone : (o : Option Line) → lines_in b i ≡ o → Alone b → Alone (step_by day off o i k room b)
  step-alone o e a j m h q l f =
      let x = letters-stay o e j h in
      let y = letters-stay o e m q in
      a j m h q (ap letter_good (sym x) ∙ l) (sym x ∙ f ∙ y)
