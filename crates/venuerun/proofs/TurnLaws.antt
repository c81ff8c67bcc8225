-- The loops that write a run, turn by turn, over plain values.
-- Assumes nothing.
use Rattle.std.proofs.Common.{◌≡◌, ℕ, zero, suc, ◌+◌, ◌-◌, ◌*◌, ◌<◌, ◌≤◌, Bool, true, cond, leb, List, [], ◌∷◌, ◌++◌, map, length, get_or, take, drop, set, replicate, sym, refl, ap, ◌∙◌, append_assoc, append-nil, arith, length-append, length-drop, length-set, drop_of_length-le, length-take-le, drop_at, le-leb}
use lib.ListN.{length-map}
use borrow.Author.Tests.{lt-leb}
use borrow.Rule.Slice.PartMut.{put_mid}
use Rattle.field.specs.Field.{splice}
use Rattle.field.proofs.Laws.{splice-join, splice-one, lent_back, length-splice, take-splice}
use Rattle.field.proofs.ZeroLaws.{splice-nothing}
use Rattle.lists.specs.Lists.{at, sum}
use Rattle.block.specs.Block.{block_longest, messages_most, offset_at}
use Rattle.block.specs.Sequence.{next_of}
use Rattle.block.specs.Written.{joined, cut_by, written}
use Rattle.writer.proofs.GoodLaws.{cut-back}
use Rattle.venue.specs.Venue.{venue_first, venue_sequence, venue_count, next_at, venue_from, venue_messages, venue_number}
use Rattle.venuequote.proofs.WriteLaws.{whole}
use Rattle.venuequote.specs.Quote.{converted, converted_length}
use Rattle.venuerun.specs.declared.Fit.{Fit}
use Rattle.venuerun.specs.Run.{with_one, packed, run_from, run_of, filled, needed_of}
use Rattle.venuerun.specs.code.Walk.{stands, lengths_from, converted_from, fit_count, fit_used, place_of, fit_of}
use Rattle.venuerun.proofs.PackLaws.{count_most, used-most, used-is, count-first, run-cut, filled-cut}
use Rattle.venuerun.proofs.RunLaws.{filled-is-written}
use Rattle.venuerun.proofs.StandLaws.{ready-is, stands-long, ready-fits, reached, ready-here, there, lengths-next, messages-next, messages-none, stands-take, stands-drop, from-take, from-drop, length_from, converted-lengths, converted-take, converted-drop}

sum-lengths : (ms : List (List ℕ)) → sum (map length ms) ≡ length (joined ms)
unfolding sum
sum-lengths [] = refl
sum-lengths (m ∷ ms) = ap (λ (n : ℕ). length m + n) (sum-lengths ms) ∙ sym (length-append m (joined ms))

map-take : {A B : Type 0} (f : A → B) (k : ℕ) (xs : List A) → take k (map f xs) ≡ map f (take k xs)
map-take f zero xs = refl
map-take f (suc k) [] = refl
map-take {B = B} f (suc k) (x ∷ xs) = ap (λ (l : List B). f x ∷ l) (map-take f k xs)

map-drop : {A B : Type 0} (f : A → B) (k : ℕ) (xs : List A) → drop k (map f xs) ≡ map f (drop k xs)
map-drop f zero xs = refl
map-drop f (suc k) [] = refl
map-drop f (suc k) (x ∷ xs) = map-drop f k xs

-- ---- how many messages go into one block

abbrev pub fitting : List ℕ → ℕ → ℕ → ℕ → Fit
fitting b p k used =
    record {
      count = fit_count used (lengths_from b p k);
      len = fit_used used (lengths_from b p k);
      next = place_of b p (fit_count used (lengths_from b p k));
    }

-- i messages are in already
abbrev pub fitting_from : List ℕ → ℕ → ℕ → ℕ → ℕ → Fit
fitting_from b p k i used = record { count = i + (fitting b p k used).count; len = (fitting b p k used).len; next = (fitting b p k used).next }

pub fit-stands : (b : List ℕ) (p n : ℕ) → stands b p n ≡ true → stands b p (n - 0) ≡ true
fit-stands b p n s =
    let z : n - 0 ≡ n = omega arith in
    ap (stands b p) z ∙ s

pub fit-start : (b : List ℕ) (p n : ℕ) → fitting_from b p (n - 0) 0 (offset_at 0) ≡ fit_of b p n
unfolding fit_of
fit-start b p n =
    let z : n - 0 ≡ n = omega arith in
    let s : 0 + fit_count (offset_at 0) (lengths_from b p n) ≡ fit_count (offset_at 0) (lengths_from b p n) = omega arith in
    ap (λ (k : ℕ). fitting_from b p k 0 (offset_at 0)) z
    ∙ (λ j. record { count = s j; len = fit_used (offset_at 0) (lengths_from b p n); next = place_of b p (fit_count (offset_at 0) (lengths_from b p n)) })

pub fit-end : (b : List ℕ) (p n i used : ℕ) (w : Fit) → n ≤ i → i ≤ n → fitting_from b p (n - i) i used ≡ w → ◌≡◌ {A = Fit} (record { count = n; len = used; next = p }) w
unfolding fit_count fit_used place_of venue_from
fit-end b p n i used w h l inv =
    let z : n - i ≡ 0 = omega arith in
    let e : n ≡ i + 0 = omega arith in
    (λ j. record { count = e j; len = used; next = p }) ∙ sym (ap (λ (k : ℕ). fitting_from b p k i used) z) ∙ inv

module _ (b : List ℕ) (n i p used : ℕ) (w : Fit) (h : i < n) (s : stands b p (n - i) ≡ true) (inv : fitting_from b p (n - i) i used ≡ w) (e l : ℕ) (q : e ≡ next_at b p)
    (el : l ≡ converted_length (take (e - p) (drop p b))) where
  abbrev by : Bool → Fit
  by t =
      record {
        count = i + cond t (suc (fit_count (with_one used l) (lengths_from b e (n - (i + 1))))) 0;
        len = cond t (fit_used (with_one used l) (lengths_from b e (n - (i + 1)))) used;
        next = place_of b p (cond t (suc (fit_count (with_one used l) (lengths_from b e (n - (i + 1))))) 0);
      }

  opened : by (leb (with_one used l) block_longest) ≡ w
  unfolding fit_count fit_used
  opened =
      sym (ap (λ (ns : List ℕ). record { count = i + fit_count used ns; len = fit_used used ns; next = place_of b p (fit_count used ns) }) (lengths-next b n i p h s e q l el)) ∙ inv

  pub fit-again : (u : ℕ) → u ≡ with_one used l → u ≤ block_longest → fitting_from b e (n - (i + 1)) (i + 1) u ≡ w
  unfolding place_of
  fit-again u eu f =
      let k : with_one used l ≤ block_longest = omega arith in
      let m : ℕ = fit_count (with_one used l) (lengths_from b e (n - (i + 1))) in
      let z : (i + 1) + m ≡ i + suc m = omega arith in
      ap (fitting_from b e (n - (i + 1)) (i + 1)) eu
      ∙ (λ j. record { count = z j; len = fit_used (with_one used l) (lengths_from b e (n - (i + 1))); next = place_of b (reached b n i p h s e q j) m })
      ∙ sym (ap by (le-leb (with_one used l) block_longest k)) ∙ opened

  pub fit-stop : block_longest < with_one used l → ◌≡◌ {A = Fit} (record { count = i; len = used; next = p }) w
  unfolding place_of
  fit-stop f =
      let z : i ≡ i + 0 = omega arith in
      (λ j. record { count = z j; len = used; next = p }) ∙ sym (ap by (lt-leb (with_one used l) block_longest f)) ∙ opened

-- ---- one block of the run, and the rest

-- of messages, the first of which fits a block alone
run-first : (s k n : ℕ) (ns : List ℕ) (ms : List (List ℕ)) → map length ms ≡ n ∷ ns → with_one (offset_at 0) n ≤ block_longest → k ≡ fit_count (offset_at 0) (n ∷ ns) → k ≤ length ms
    → run_of s ms ≡ written s (take k ms) ∷ run_of (next_of s k) (drop k ms)
run-first s k n ns [] e h c l =
    let z : 0 ≡ suc (length ns) = ap length e in
    absurd (omega arith)
run-first s k n ns (m ∷ ms) e h c l =
    let z : length m ≡ n = ap (λ (x : List ℕ). get_or x 0 0) e in
    run-cut s m ms k (omega arith) (c ∙ ap (fit_count (offset_at 0)) (sym e)) l

module _ (b lots out w : List ℕ) (c i p a s : ℕ) (h : i < c) (st : stands b p (c - i) ≡ true) (room : a + filled (lengths_from b p (c - i)) ≡ length out)
    (f : Fit) (ef : f ≡ fit_of b p (c - i)) where
  abbrev n0 : ℕ
  n0 = converted_length (take (next_at b p - p) (drop p b))

  abbrev ns0 : List ℕ
  ns0 = lengths_from b (next_at b p) (c - (i + 1))

  lengths-are : lengths_from b p (c - i) ≡ n0 ∷ ns0
  lengths-are = lengths-next b c i p h st (next_at b p) refl n0 refl

  first_fits : with_one (offset_at 0) n0 ≤ block_longest
  first_fits = omega (arith, (ready-fits (take (next_at b p - p) (drop p b)) (ready-here b c i p h st (next_at b p) refl)).1)

  count-is : f.count ≡ fit_count (offset_at 0) (lengths_from b p (c - i))
  unfolding fit_of
  count-is = ap (λ (x : Fit). x.count) ef

  next-is : f.next ≡ place_of b p f.count
  unfolding fit_of
  next-is = ap (λ (x : Fit). x.next) ef ∙ ap (place_of b p) (sym count-is)

  used_all : f.len ≡ fit_used (offset_at 0) (lengths_from b p (c - i))
  unfolding fit_of
  used_all = ap (λ (x : Fit). x.len) ef

  some : 1 ≤ f.count
  some = omega (arith, count-is ∙ ap (fit_count (offset_at 0)) lengths-are ∙ count-first n0 ns0 first_fits)

  length-lengths : length (lengths_from b p (c - i)) ≡ c - i
  length-lengths = length-map (venue_from b p (c - i)) converted_length ∙ length_from b (c - i) p

  most : f.count ≤ c - i
  most = omega (arith, count-is, length-lengths, count_most (offset_at 0) (lengths_from b p (c - i)))

  lengths-first : take f.count (lengths_from b p (c - i)) ≡ lengths_from b p f.count
  lengths-first = map-take converted_length f.count (venue_from b p (c - i)) ∙ ap (map converted_length) (from-take b f.count (c - i) p most)

  left : (c - i) - f.count ≡ c - (i + f.count)
  left = omega arith

  messages-rest : drop f.count (venue_from b p (c - i)) ≡ venue_from b f.next (c - (i + f.count))
  messages-rest = from-drop b f.count (c - i) p most ∙ (λ j. venue_from b (sym next-is j) (left j))

  lengths-rest : drop f.count (lengths_from b p (c - i)) ≡ lengths_from b f.next (c - (i + f.count))
  lengths-rest = map-drop converted_length f.count (venue_from b p (c - i)) ∙ ap (map converted_length) messages-rest

  len_is : f.len ≡ offset_at f.count + sum (lengths_from b p f.count)
  len_is =
      used_all ∙ used-is (offset_at 0) (lengths_from b p (c - i))
      ∙ ap (λ (k : ℕ). offset_at 0 + (2 * k + sum (take k (lengths_from b p (c - i))))) (sym count-is)
      ∙ ap (λ (l : List ℕ). offset_at 0 + (2 * f.count + sum l)) lengths-first ∙ omega arith

  len-most : f.len ≤ block_longest
  len-most = omega (arith, used_all, used-most (offset_at 0) (lengths_from b p (c - i)) (omega arith))

  room-is : a + f.len + filled (lengths_from b f.next (c - (i + f.count))) ≡ length out
  room-is =
      let x : filled (lengths_from b p (c - i)) ≡ f.len + filled (lengths_from b f.next (c - (i + f.count))) =
      ap filled lengths-are ∙ filled-cut n0 ns0 first_fits
      ∙ (λ j. fit_used (offset_at 0) (sym lengths-are j) + filled (drop (fit_count (offset_at 0) (sym lengths-are j)) (sym lengths-are j)))
      ∙ (λ j. sym used_all j + filled (drop (sym count-is j) (lengths_from b p (c - i))))
      ∙ ap (λ (l : List ℕ). f.len + filled l) lengths-rest in
      omega (arith, x, room)

  stand-first : stands b p f.count ≡ true
  stand-first = stands-take b f.count (c - i) p most st

  stand-rest : stands b f.next (c - (i + f.count)) ≡ true
  stand-rest = (λ j. stands b (next-is j) (sym left j)) ∙ stands-drop b f.count (c - i) p most st

  abbrev ms : List (List ℕ)
  ms = converted_from lots i (venue_from b p (c - i))

  run_is : run_of s ms ≡ written s (converted_from lots i (venue_from b p f.count)) ∷ run_of (next_of s f.count) (converted_from lots (i + f.count) (venue_from b f.next (c - (i + f.count))))
  run_is =
      let l : map length ms ≡ lengths_from b p (c - i) = converted-lengths b lots (c - i) p i st in
      let k : length ms ≡ c - i = sym (length-map ms length) ∙ ap length l ∙ length-lengths in
      run-first s f.count n0 ns0 ms (l ∙ lengths-are) first_fits (count-is ∙ ap (fit_count (offset_at 0)) lengths-are) (omega (arith, k, most))
      ∙ (λ j. written s ((converted-take lots f.count i (venue_from b p (c - i)) ∙ ap (converted_from lots i) (from-take b f.count (c - i) p most)) j)
      ∷ run_of (next_of s f.count) ((converted-drop lots f.count i (venue_from b p (c - i)) ∙ ap (converted_from lots (i + f.count)) messages-rest) j))

  -- the block is written in its place, and the rest remains
  run-again : (z : List ℕ) (e : ℕ) → e ≡ a + f.len → z ≡ written s (converted_from lots i (venue_from b p f.count)) → length z ≡ length (take (e - a) (drop a out))
      → splice out a (joined (run_of s ms)) ≡ w
      → splice (put_mid a (e - a) out z) e (joined (run_of (next_of s f.count) (converted_from lots (i + f.count) (venue_from b f.next (c - (i + f.count)))))) ≡ w
  run-again z e ee ez lz inv =
      let d : e - a ≡ f.len = omega arith in
      let t : length (take (e - a) (drop a out)) ≡ f.len = ap (λ (k : ℕ). length (take k (drop a out))) d ∙ length-take-le f.len (drop a out) (simp length-drop (omega (arith, room-is))) in
      let rest : List ℕ = joined (run_of (next_of s f.count) (converted_from lots (i + f.count) (venue_from b f.next (c - (i + f.count))))) in
      (λ j. splice (lent_back a (e - a) out z (lz ∙ t ∙ sym d) j) (ee j) rest)
      ∙ splice-join out a f.len z rest (lz ∙ t)
      ∙ (λ j. splice out a (ez j ++ rest))
      ∙ ap (λ (x : List (List ℕ)). splice out a (joined x)) (sym run_is)
      ∙ inv

-- nothing remains
run_end : (b lots out w : List ℕ) (c i p a s : ℕ) → c ≤ i → splice out a (joined (run_of s (converted_from lots i (venue_from b p (c - i))))) ≡ w → out ≡ w
unfolding converted_from run_of run_from packed
run_end b lots out w c i p a s h inv =
    sym (splice-nothing out a) ∙ sym (ap (λ (l : List (List ℕ)). splice out a (joined (run_of s (converted_from lots i l)))) (messages-none b c i p h) ∙ none) ∙ inv
  where
    none : splice out a (joined (run_of s [])) ≡ splice out a []
    none = refl

-- the run that is being written: message i of c stands at p, the next block goes to a
pub record Running (b lots out0 : List ℕ) (c : ℕ) (out : List ℕ) (s p i a : ℕ) : Type 0 where
  pub low : i ≤ c
  pub stand : stands b p (c - i) ≡ true
  pub room : a + filled (lengths_from b p (c - i)) ≡ length out
  pub out_length : length out ≡ length out0
  pub going : splice out a (joined (run_of s (converted_from lots i (venue_from b p (c - i))))) ≡ joined (run_of (venue_sequence b) (converted_from lots 0 (venue_messages b)))

pub running-start : (b lots out : List ℕ) (c s : ℕ) → venue_number b ≡ 0 → length out ≡ needed_of b → c ≡ venue_count b → s ≡ venue_sequence b → Running b lots out c out s venue_first 0 0
unfolding needed_of
running-start b lots out c s z l ec es =
    let n : c - 0 ≡ venue_count b = omega (arith, ec) in
    let r = ready-is b z in
    let w : List ℕ = joined (run_of (venue_sequence b) (converted_from lots 0 (venue_messages b))) in
    let k : length w ≡ length out =
    filled-is-written (venue_sequence b) (converted_from lots 0 (venue_messages b)) ∙ ap filled (converted-lengths b lots (venue_count b) venue_first 0 r.stand) ∙ sym l in
    record {
      low = omega arith;
      stand = ap (stands b venue_first) n ∙ r.stand;
      room = ap (λ (j : ℕ). 0 + filled (lengths_from b venue_first j)) n ∙ omega (arith, l);
      out_length = refl;
      going = (λ j. splice out 0 (joined (run_of (es j) (converted_from lots 0 (venue_from b venue_first (n j)))))) ∙ whole out w k;
    }

module _ (b lots out0 : List ℕ) (c : ℕ) (out : List ℕ) (s p i a : ℕ) (g : Running b lots out0 c out s p i a) (h : i < c) (f : Fit) (ef : f ≡ fit_of b p (c - i)) where
  pub running-part : (e : ℕ) → e ≡ a + f.len → length (take (e - a) (drop a out)) ≡ f.len
  running-part e ee =
      let d : e - a ≡ f.len = omega arith in
      ap (λ (k : ℕ). length (take k (drop a out))) d ∙ length-take-le f.len (drop a out) (simp length-drop (omega (arith, room-is b lots out out0 c i p a s h g.stand g.room f ef)))

  pub running-count : (1 ≤ f.count) × (f.count ≤ c - i)
  running-count = (some b lots out out0 c i p a s h g.stand g.room f ef, most b lots out out0 c i p a s h g.stand g.room f ef)

  pub running-first : stands b p f.count ≡ true
  running-first = stand-first b lots out out0 c i p a s h g.stand g.room f ef

  pub running-len : (f.len ≡ offset_at f.count + sum (lengths_from b p f.count)) × (f.len ≤ block_longest)
  running-len = (len_is b lots out out0 c i p a s h g.stand g.room f ef, len-most b lots out out0 c i p a s h g.stand g.room f ef)

  pub running-room : a + f.len ≤ length out
  running-room = omega (arith, room-is b lots out out0 c i p a s h g.stand g.room f ef)

  pub running-again : (z : List ℕ) (e t : ℕ) → e ≡ a + f.len → z ≡ written s (converted_from lots i (venue_from b p f.count)) → length z ≡ length (take (e - a) (drop a out)) → t ≡ next_of s f.count
      → Running b lots out0 c (put_mid a (e - a) out z) t f.next (i + f.count) e
  running-again z e t ee ez lz et =
      let d : e - a ≡ f.len = omega arith in
      let q : length z ≡ f.len = lz ∙ running-part e ee in
      let lb : put_mid a (e - a) out z ≡ splice out a z = lent_back a (e - a) out z (q ∙ sym d) in
      let lo : length (put_mid a (e - a) out z) ≡ length out = ap length lb ∙ length-splice out a z (omega (arith, q, running-room)) in
      record {
        low = omega (arith, most b lots out out0 c i p a s h g.stand g.room f ef);
        stand = stand-rest b lots out out0 c i p a s h g.stand g.room f ef;
        room = omega (arith, lo, room-is b lots out out0 c i p a s h g.stand g.room f ef);
        out_length = lo ∙ g.out_length;
        going =
            (λ j. splice (put_mid a (e - a) out z) e (joined (run_of (et j) (converted_from lots (i + f.count) (venue_from b f.next (c - (i + f.count)))))))
            ∙ run-again b lots out _ c i p a s h g.stand g.room f ef z e ee ez lz g.going;
      }

pub running-end : (b lots out0 : List ℕ) (c : ℕ) (out : List ℕ) (s p i a : ℕ) → Running b lots out0 c out s p i a → c ≤ i → out ≡ joined (run_of (venue_sequence b) (converted_from lots 0 (venue_messages b)))
running-end b lots out0 c out s p i a g h = run_end b lots out _ c i p a s h g.going

-- ---- the messages of one block into their place

pub record Putting (b lots : List ℕ) (first i k : ℕ) (out0 lengths0 : List ℕ) (out lengths : List ℕ) (p a j : ℕ) : Type 0 where
  pub low : j ≤ k
  pub stand : stands b p (k - j) ≡ true
  pub room : a + sum (lengths_from b p (k - j)) ≡ length out0
  pub out_length : length out ≡ length out0
  pub lengths_length : length lengths ≡ length lengths0
  pub going : splice out a (joined (converted_from lots (i + j) (venue_from b p (k - j)))) ≡ splice out0 (offset_at k) (joined (converted_from lots i (venue_from b first k)))
  pub told : splice lengths j (lengths_from b p (k - j)) ≡ splice lengths0 0 (lengths_from b first k)

pub put-start : (b lots out lengths : List ℕ) (first i k : ℕ) → stands b first k ≡ true → offset_at k + sum (lengths_from b first k) ≡ length out → Putting b lots first i k out lengths out lengths first (offset_at k) 0
put-start b lots out lengths first i k s r =
    let z : k ≡ k - 0 = omega arith in
    let o : i + 0 ≡ i = omega arith in
    record {
      low = omega arith;
      stand = ap (stands b first) (sym z) ∙ s;
      room = ap (λ (n : ℕ). offset_at k + sum (lengths_from b first n)) (sym z) ∙ r;
      out_length = refl;
      lengths_length = refl;
      going = λ j. splice out (offset_at k) (joined (converted_from lots (o j) (venue_from b first (sym z j))));
      told = λ j. splice lengths 0 (lengths_from b first (sym z j));
    }

module _ (b lots : List ℕ) (first i k : ℕ) (out0 lengths0 out lengths : List ℕ) (p a j : ℕ) (g : Putting b lots first i k out0 lengths0 out lengths p a j) (h : j < k)
    (e n : ℕ) (q : e ≡ next_at b p) (en : n ≡ converted_length (take (e - p) (drop p b))) where
  lengths-now : lengths_from b p (k - j) ≡ n ∷ lengths_from b e (k - (j + 1))
  lengths-now = lengths-next b k j p h g.stand e q n en

  pub put-room : a + n + sum (lengths_from b e (k - (j + 1))) ≡ length out
  unfolding sum
  put-room =
      let x : sum (lengths_from b p (k - j)) ≡ n + sum (lengths_from b e (k - (j + 1))) = ap sum lengths-now in
      omega (arith, g.room, g.out_length, x)

  -- the part of the output that is lent
  pub put-lent : (to : ℕ) → to ≡ a + n → length (take (to - a) (drop a out)) ≡ n
  put-lent to et =
      let d : to - a ≡ n = omega arith in
      ap (λ (x : ℕ). length (take x (drop a out))) d ∙ length-take-le n (drop a out) (simp length-drop (omega (arith, put-room)))

  pub put-again : (z : List ℕ) (to v lot : ℕ) → to ≡ a + n → lot ≡ at lots (i + j) → z ≡ converted lot (take (e - p) (drop p b)) → length z ≡ length (take (to - a) (drop a out)) → j < length lengths → v ≡ n
      → Putting b lots first i k out0 lengths0 (put_mid a (to - a) out z) (set lengths j v) e to (j + 1)
  unfolding converted_from
  put-again z to v lot et el ez lz hl ev =
      let d : to - a ≡ n = omega arith in
      let lb : put_mid a (to - a) out z ≡ splice out a z = lent_back a (to - a) out z (lz ∙ put-lent to et ∙ sym d) in
      let ln : length z ≡ n = lz ∙ put-lent to et in
      let x : (i + j) + 1 ≡ i + (j + 1) = omega arith in
      let rest : List ℕ = joined (converted_from lots (i + (j + 1)) (venue_from b e (k - (j + 1)))) in
      let ms : joined (converted_from lots (i + j) (venue_from b p (k - j))) ≡ z ++ rest =
      ap (λ (l : List (List ℕ)). joined (converted_from lots (i + j) l)) (messages-next b k j p h g.stand e q)
      ∙ (λ t. converted (sym el t) (take (e - p) (drop p b)) ++ joined (converted_from lots (x t) (venue_from b e (k - (j + 1)))))
      ∙ ap (λ (l : List ℕ). l ++ rest) (sym ez) in
      record {
        low = omega arith;
        stand = there b k j p h g.stand e q;
        room = omega (arith, put-room, g.out_length);
        out_length = ap length lb ∙ length-splice out a z (omega (arith, ln, put-room)) ∙ g.out_length;
        lengths_length = length-set lengths j v ∙ g.lengths_length;
        going =
            (λ t. splice (lb t) (et t) rest) ∙ splice-join out a n z rest ln ∙ ap (splice out a) (sym ms) ∙ g.going;
        told =
            (λ t. splice (splice-one lengths j (ev t) hl t) (j + 1) (lengths_from b e (k - (j + 1))))
            ∙ splice-join lengths j 1 (n ∷ []) (lengths_from b e (k - (j + 1))) refl
            ∙ ap (splice lengths j) (sym lengths-now) ∙ g.told;
      }

pub put-end : (b lots : List ℕ) (first i k : ℕ) (out0 lengths0 out lengths : List ℕ) (p a j : ℕ) → Putting b lots first i k out0 lengths0 out lengths p a j → k ≤ j
    → (out ≡ splice out0 (offset_at k) (joined (converted_from lots i (venue_from b first k)))) × (lengths ≡ splice lengths0 0 (lengths_from b first k))
unfolding converted_from
put-end b lots first i k out0 lengths0 out lengths p a j g h =
    let z : venue_from b p (k - j) ≡ [] = messages-none b k j p h in (
      sym (splice-nothing out a) ∙ sym (ap (λ (l : List (List ℕ)). splice out a (joined (converted_from lots (i + j) l))) z) ∙ g.going,
      sym (splice-nothing lengths j) ∙ sym (ap (λ (l : List (List ℕ)). splice lengths j (map converted_length l)) z) ∙ g.told,
    )

-- ---- one block

-- no more than 26 messages fit
pub one-few : (b : List ℕ) (p k n : ℕ) → stands b p k ≡ true → offset_at k + sum (lengths_from b p k) ≡ n → n ≤ block_longest → k ≤ 26
one-few b p k n s r h = omega (arith, stands-long b k p s)

module _ (b lots out out1 lengths1 : List ℕ) (p i k m : ℕ) (s : stands b p k ≡ true) (r : offset_at k + sum (lengths_from b p k) ≡ length out) (few : k ≤ m)
    (eo : out1 ≡ splice out (offset_at k) (joined (converted_from lots i (venue_from b p k)))) (el : lengths1 ≡ splice (replicate m 0) 0 (lengths_from b p k)) where
  abbrev own : List (List ℕ)
  own = converted_from lots i (venue_from b p k)

  count-own : length (lengths_from b p k) ≡ k
  count-own = length-map (venue_from b p k) converted_length ∙ length_from b k p

  pub lent-lengths : take (k - 0) lengths1 ≡ lengths_from b p k
  lent-lengths =
      let z : k - 0 ≡ 0 + length (lengths_from b p k) = omega (arith, count-own) in
      ap (λ (n : ℕ). take n lengths1) z ∙ ap (take (0 + length (lengths_from b p k))) el ∙ take-splice 0 (replicate m 0) (lengths_from b p k)

  lengths-own : map length own ≡ lengths_from b p k
  lengths-own = converted-lengths b lots k p i s

  bytes-own : length (joined own) ≡ sum (lengths_from b p k)
  bytes-own = sym (sum-lengths own) ∙ ap sum lengths-own

  pub length-one : length out1 ≡ length out
  length-one = ap length eo ∙ length-splice out (offset_at k) (joined own) (omega (arith, bytes-own, r))

  pub one-frame : length out ≤ block_longest → k ≤ 26
      → (length out1 ≤ block_longest) × ((length (take (k - 0) lengths1) ≤ messages_most) × (offset_at (length (take (k - 0) lengths1)) + sum (take (k - 0) lengths1) ≡ length out1))
  one-frame h f = rw lent-lengths (omega (arith, length-one), (omega (arith, count-own), omega (arith, count-own, length-one, r)))

  pub one-is : (sequence : ℕ) (out2 : List ℕ) → out2 ≡ written sequence (cut_by (take (k - 0) lengths1) (drop (offset_at (length (take (k - 0) lengths1))) out1)) → out2 ≡ written sequence own
  unfolding splice
  one-is sequence out2 e =
      let n : length (take (k - 0) lengths1) ≡ k = ap length lent-lengths ∙ count-own in
      let t : length (take (offset_at k) out) ≡ offset_at k = length-take-le (offset_at k) out (omega arith) in
      let z : length out ≤ offset_at k + length (joined own) = omega (arith, bytes-own, r) in
      let d : drop (offset_at k) out1 ≡ joined own =
      ap (drop (offset_at k)) eo
      ∙ ap (drop (offset_at k)) (append_assoc (take (offset_at k) out) (joined own) (drop (offset_at k + length (joined own)) out))
      ∙ drop_at (take (offset_at k) out) (joined own ++ drop (offset_at k + length (joined own)) out) (offset_at k) t
      ∙ ap (λ (l : List ℕ). joined own ++ l) (drop_of_length-le out z)
      ∙ append-nil (joined own) in
      e ∙ (λ j. written sequence (cut_by (lent-lengths j) (drop (offset_at (n j)) out1))) ∙ ap (λ (l : List ℕ). written sequence (cut_by (lengths_from b p k) l)) d
      ∙ ap (λ (l : List ℕ). written sequence (cut_by l (joined own))) (sym lengths-own) ∙ ap (written sequence) (cut-back own)
