-- T-14's three claims, for every list of calls on a fresh book and for its last tick, so for every tick of every list: "a line's first blocks up to its share
-- are never refused by this rule, no line has more charged than share plus spare, and all together no more than B".
-- They rest on `review_after` (specs/Reviewer.antt), which says what B, shares and charges are after a list, and on `counted_in`, `block_on` (specs/Ticks.antt).
-- Assumes nothing.
use Prim.Native.Nat.{ℕ, zero, suc, ◌+◌, ◌≤◌, ◌<◌}
use mathlib.Core.Path.{◌≡◌, refl, sym, ap, ◌∙◌, subst}
use mathlib.Core.Bool.{Bool, true, false, not, ◌&&◌, cond}
use mathlib.Core.List.{List, [], ◌∷◌}
use Rattle.std.specs.Prelude.{Option, None, Some}
use native.Mathlib.Omega.{arith}
use lib.Dec.{eqb, ltb}
use lib.ListN.{length, replicate, set, get_or-eq_default}
use lib.Seq.{get_or-set_same, get_or-set_other}
use borrow.Author.Tests.{ltb-true, ltb-false, eq-eqb}
use Rattle.lists.specs.Lists.{at, sum, is_some, map_option}
use Rattle.lists.proofs.Tests.{clash, and-true, Cut, equal, apart, cut}
use Rattle.allowance.specs.Allowance.{Allowance, share_count, spare, share_used, spare_used, is_used_up, charged, ticked, no_charges}
use Rattle.allowance.proofs.ClaimLaws.{Fair, refused-used, line-most, all_most, fair-none, fair-set, fair-ticked, fair-charged}
use Rattle.block.specs.Block.{answer_length, idle_block}
use Rattle.opening.specs.declared.Line.{Line}
use Rattle.opening.specs.Layout.{line_count}
use Rattle.opening.specs.Opening.{Rest, rest_in, pages_in}
use Rattle.line.specs.Line.{advanced, block_number, on_line, done}
use Rattle.line.proofs.GateLaws.{left-number}
use Rattle.work.specs.Work.{Listed, listed_of}
use Rattle.calls.specs.Call.{Call, make, add, open_line, start_day, end_day, take, read, protected, convert_len, convert, snapshot_len, snapshot, try_order, set_allowance, tick, number_of, call, bytes_after}
use Rattle.calls.proofs.NumberLaws.{number_same, open_done, take_done, take_left, setting-done}
use Rattle.review.specs.Reviewer.{Review, restart, rest_after, symbols_after, history_after, review_call, review_after, fresh_review}
use Rattle.review.specs.Lists.{blocks_are_bytes}
use Rattle.review.specs.Ticks.{number_r, starts_tick, block_on, only, any_line, comes, counted_in}
use Rattle.review.proofs.CallLaws.{Agrees}
use Rattle.review.proofs.RunLaws.{after-agrees}
use Rattle.review.proofs.ReportLaws.{number-told}

-- ---- what stands after every call

-- only the 64 lines are open
record Sure (r : Rest) : Type 0 where
  fair : Fair r.allowance
  low : (i : ℕ) → is_some (r.lines i) ≡ true → i < line_count

map-some : {A B : Type 0} (f : A → B) (o : Option A) → is_some (map_option f o) ≡ is_some o
map-some f None = refl
map-some f (Some x) = refl

module _ (r : Rest) (ls : List Listed) (s : Sure r) where
  take-low : (i : ℕ) (b : List ℕ) (room : ℕ) → done (number_of r ls (take i b room)) ≡ true → i < line_count
  take-low i b room d = go (r.lines i) refl
    where
      go : (o : Option Line) → r.lines i ≡ o → i < line_count
      go None e = absurd (take_done r ls i b room d e)
      go (Some x) e = s.low i (ap is_some e)

  take-fair : (i : ℕ) (b : List ℕ) (room : ℕ) → done (number_of r ls (take i b room)) ≡ true → (t : Bool) → idle_block b ≡ t → Fair (cond t r.allowance (charged r.allowance i))
  take-fair i b room d true f = s.fair
  take-fair i b room d false f = go (r.lines i) refl
    where
      go : (o : Option Line) → r.lines i ≡ o → Fair (charged r.allowance i)
      go None e = absurd (take_done r ls i b room d e)
      go (Some x) e = fair-charged r.allowance i s.fair (take-low i b room d) (take_left r ls i b room x d e f)

  after-sure : (c : Call) → done (number_of r ls c) ≡ true → Sure (rest_after r c)
  unfolding rest_after
  after-sure (make n) d = record { fair = fair-none; low = λ i e. clash (sym e) }
  after-sure (add x k l) d = s
  after-sure (open_line i l) d = record { fair = s.fair; low = λ j e. go j (cut j i) e }
    where
      go : (j : ℕ) → Cut j i → is_some (cond (eqb j i) (Some (record { letter = l; expected = 1; count = 0 })) (r.lines j)) ≡ true → j < line_count
      go j (equal t q) e = let h = (open_done r ls i l d).0 in omega (arith, h, q)
      go j (apart t q) e = s.low j (rw t at e)
  after-sure start_day d = record { fair = s.fair; low = λ j e. s.low j (sym (map-some restart (r.lines j)) ∙ e) }
  after-sure end_day d = record { fair = s.fair; low = s.low }
  after-sure (take i b room) d = record { fair = take-fair i b room d (idle_block b) refl; low = λ j e. go j (cut j i) e }
    where
      go : (j : ℕ) → Cut j i → is_some (cond (eqb j i) (map_option (λ x. advanced x b) (r.lines i)) (r.lines j)) ≡ true → j < line_count
      go j (equal t q) e = let h = take-low i b room d in omega (arith, h, q)
      go j (apart t q) e = s.low j (rw t at e)
  after-sure (read x k) d = s
  after-sure (protected x m v) d = s
  after-sure (convert_len x) d = s
  after-sure (convert x k) d = s
  after-sure (snapshot_len x) d = s
  after-sure (snapshot x k) d = s
  after-sure (try_order x m w k) d = s
  after-sure (set_allowance k ss) d = record { fair = fair-set k ss (setting-done r ls k ss d); low = s.low }
  after-sure tick d = record { fair = fair-ticked r.allowance s.fair; low = s.low }

rest-is : (v : Review) (c : Call) → (review_call v c).rest ≡ cond (done (number_r v c)) (rest_after v.rest c) v.rest
unfolding review_call
rest-is v c =
    go (done (number_r v c)) (record { rest = rest_after v.rest c; symbols = symbols_after v.symbols c; history = history_after v.rest v.symbols v.history c })
  where
    go : (t : Bool) (w : Review) → (cond {A = Review} t w v).rest ≡ cond t w.rest v.rest
    go true w = refl
    go false w = refl

call-sure : (v : Review) (c : Call) → Sure v.rest → Sure (review_call v c).rest
call-sure v c s = subst (λ (r : Rest). Sure r) (sym (rest-is v c)) (go (done (number_r v c)) refl)
  where
    go : (t : Bool) → done (number_r v c) ≡ t → Sure (cond t (rest_after v.rest c) v.rest)
    go true e = after-sure v.rest v.symbols s c e
    go false e = s

-- ---- charges and counts

-- what is counted of the charges: those of a line, or all
record Measure (l : ℕ → Bool) (m : List ℕ → ℕ) : Type 0 where
  none : m no_charges ≡ 0
  more : (cs : List ℕ) (i : ℕ) → length cs ≡ share_count → i < share_count → m (set cs i (at cs i + 1)) ≡ cond (l i) (m cs + 1) (m cs)

zeros-at : (n i : ℕ) → at (replicate n 0) i ≡ 0
zeros-at zero i = refl
zeros-at (suc n) zero = refl
zeros-at (suc n) (suc i) = zeros-at n i

of-line : (i : ℕ) → Measure (only i) (λ cs. at cs i)
of-line i = record { none = zeros-at share_count i; more = λ cs j e h. go cs j (cut j i) (omega (arith, e)) }
  where
    go : (cs : List ℕ) (j : ℕ) → Cut j i → j < length cs → at (set cs j (at cs j + 1)) i ≡ cond (eqb j i) (at cs i + 1) (at cs i)
    go cs j (equal t q) h =
        ap (λ (k : ℕ). at (set cs j (at cs j + 1)) k) (sym q) ∙ get_or-set_same cs j (at cs j + 1) 0 h ∙ ap (λ (k : ℕ). at cs k + 1) q
        ∙ sym (ap (λ (b : Bool). cond b (at cs i + 1) (at cs i)) t)
    go cs j (apart t q) h = get_or-set_other cs j i (at cs j + 1) 0 (λ z. q (sym z)) ∙ sym (ap (λ (b : Bool). cond b (at cs i + 1) (at cs i)) t)

sum_zeros : (n : ℕ) → sum (replicate n 0) ≡ 0
unfolding sum
sum_zeros zero = refl
sum_zeros (suc n) = omega (arith, sum_zeros n)

sum_more : (cs : List ℕ) (i : ℕ) → i < length cs → sum (set cs i (at cs i + 1)) ≡ sum cs + 1
unfolding sum
sum_more [] i h = absurd (omega arith)
sum_more (c ∷ cs) zero h = omega arith
sum_more (c ∷ cs) (suc i) h = let g : i < length cs = omega arith in omega (arith, sum_more cs i g)

of-all : Measure any_line sum
of-all = record { none = sum_zeros share_count; more = λ cs i e h. sum_more cs i (omega (arith, e)) }

-- while an allowance is set, k is what is counted of its charges
abbrev Tells : (List ℕ → ℕ) → Allowance → ℕ → Type 0
Tells m a k = eqb a.blocks 0 ≡ false → m a.charges ≡ k

and-false : (x y : Bool) (k : ℕ) → cond (x && (y && false)) (k + 1) k ≡ k
and-false true true k = refl
and-false true false k = refl
and-false false y k = refl

and-not : (x y : Bool) (k : ℕ) → cond (x && (false && y)) (k + 1) k ≡ k
and-not true y k = refl
and-not false y k = refl

and-whole : (x : Bool) → x && true ≡ x
and-whole true = refl
and-whole false = refl

module _ (l : ℕ → Bool) (m : List ℕ → ℕ) (ms : Measure l m) where
  -- a block that is charged
  charged-tells : (a : Allowance) (i k : ℕ) → Fair a → i < line_count → Tells m a k → Tells m (charged a i) (cond (l i && true) (k + 1) k)
  unfolding charged
  charged-tells a i k f h w = go (eqb a.blocks 0) refl
    where
      go : (t : Bool) → eqb a.blocks 0 ≡ t → Tells m (cond t a (record { blocks = a.blocks; shares = a.shares; charges = set a.charges i (at a.charges i + 1) })) (cond (l i && true) (k + 1) k)
      go true z = λ e. clash (sym z ∙ e)
      go false z = λ e.
          ms.more a.charges i f.charges h ∙ ap (λ (q : ℕ). cond (l i) (q + 1) q) (w z) ∙ sym (ap (λ (t : Bool). cond t (k + 1) k) (and-whole (l i)))

  ticked-tells : (a : Allowance) → Tells m (ticked a) 0
  unfolding ticked
  ticked-tells a = go (eqb a.blocks 0) refl
    where
      go : (t : Bool) → eqb a.blocks 0 ≡ t → Tells m (cond t a (record { blocks = a.blocks; shares = a.shares; charges = no_charges })) 0
      go true z = λ e. clash (sym z ∙ e)
      go false z = λ e. ms.none

  module _ (v : Review) (k : ℕ) (s : Sure v.rest) (w : Tells m v.rest.allowance k) where
    -- a call that leaves the allowance
    same-tells : (r : Rest) → r.allowance ≡ v.rest.allowance → (t : Bool) → Tells m (cond {A = Rest} t r v.rest).allowance k
    same-tells r p true = λ z. ap (λ (a : Allowance). m a.charges) p ∙ w (sym (ap (λ (a : Allowance). eqb a.blocks 0) p) ∙ z)
    same-tells r p false = w

    take-tells : (i : ℕ) (b : List ℕ) (room : ℕ) (t : Bool) → done (number_r v (take i b room)) ≡ t
        → Tells m (cond {A = Rest} t (rest_after v.rest (take i b room)) v.rest).allowance (cond (l i && (not (idle_block b) && t)) (k + 1) k)
    unfolding rest_after
    take-tells i b room false e = λ z. w z ∙ sym (and-false (l i) (not (idle_block b)) k)
    take-tells i b room true e = go (idle_block b)
      where
        go : (t : Bool) → Tells m (cond t v.rest.allowance (charged v.rest.allowance i)) (cond (l i && (not t && true)) (k + 1) k)
        go true = λ z. w z ∙ sym (and-not (l i) true k)
        go false = charged-tells v.rest.allowance i k s.fair (take-low v.rest v.symbols s i b room e) w

    setting-tells : (n : ℕ) (ss : List ℕ) (t : Bool) → Tells m (cond {A = Rest} t (rest_after v.rest (set_allowance n ss)) v.rest).allowance (cond t 0 k)
    unfolding rest_after
    setting-tells n ss true = λ z. ms.none
    setting-tells n ss false = w

    make-tells : (n : ℕ) (t : Bool) → Tells m (cond {A = Rest} t (rest_after v.rest (make n)) v.rest).allowance (cond t 0 k)
    unfolding rest_after
    make-tells n true = λ z. clash z
    make-tells n false = w

    next : (c : Call) → Tells m (cond {A = Rest} (done (number_r v c)) (rest_after v.rest c) v.rest).allowance (cond (starts_tick v c) 0 (cond (block_on l done v c) (k + 1) k))
    unfolding rest_after number_of done
    next (make n) = make-tells n (done (number_r v (make n)))
    next (add x q p) = same-tells (rest_after v.rest (add x q p)) refl (done (number_r v (add x q p)))
    next (open_line i q) = same-tells (rest_after v.rest (open_line i q)) refl (done (number_r v (open_line i q)))
    next start_day = same-tells (rest_after v.rest start_day) refl (done (number_r v start_day))
    next end_day = same-tells (rest_after v.rest end_day) refl (done (number_r v end_day))
    next (take i b room) = take-tells i b room (done (number_r v (take i b room))) refl
    next (read x room) = same-tells (rest_after v.rest (read x room)) refl (done (number_r v (read x room)))
    next (protected x q p) = same-tells (rest_after v.rest (protected x q p)) refl (done (number_r v (protected x q p)))
    next (convert_len x) = same-tells (rest_after v.rest (convert_len x)) refl (done (number_r v (convert_len x)))
    next (convert x room) = same-tells (rest_after v.rest (convert x room)) refl (done (number_r v (convert x room)))
    next (snapshot_len x) = same-tells (rest_after v.rest (snapshot_len x)) refl (done (number_r v (snapshot_len x)))
    next (snapshot x room) = same-tells (rest_after v.rest (snapshot x room)) refl (done (number_r v (snapshot x room)))
    next (try_order x q p room) = same-tells (rest_after v.rest (try_order x q p room)) refl (done (number_r v (try_order x q p room)))
    next (set_allowance n ss) = setting-tells n ss (done (number_r v (set_allowance n ss)))
    next tick = ticked-tells v.rest.allowance

    next-tells : (c : Call) → Tells m (review_call v c).rest.allowance (cond (starts_tick v c) 0 (cond (block_on l done v c) (k + 1) k))
    next-tells c =
        subst (λ (r : Rest). Tells m r.allowance (cond (starts_tick v c) 0 (cond (block_on l done v c) (k + 1) k))) (sym (rest-is v c)) (next c)

  -- after a list
  run-tells : (v : Review) (cs : List Call) (k : ℕ) → Sure v.rest → Tells m v.rest.allowance k
      → (Sure (review_after v cs).rest) × (Tells m (review_after v cs).rest.allowance (counted_in (block_on l done) v cs k))
  unfolding counted_in
  run-tells v [] k s w = (s, w)
  run-tells v (c ∷ cs) k s w =
      run-tells (review_call v c) cs (cond (starts_tick v c) 0 (cond (block_on l done v c) (k + 1) k)) (call-sure v c s) (next-tells v k s w c)

-- ---- blocks that come to the check are no fewer than those charged

taken-comes : (l : ℕ → Bool) (v : Review) (c : Call) → block_on l done v c ≡ true → block_on l comes v c ≡ true
taken-comes l v (make n) e = clash (sym e)
taken-comes l v (add x q p) e = clash (sym e)
taken-comes l v (open_line i q) e = clash (sym e)
taken-comes l v start_day e = clash (sym e)
taken-comes l v end_day e = clash (sym e)
taken-comes l v (take i b room) e =
    let x = and-true (l i) (not (idle_block b) && done (number_r v (take i b room))) e in
    let y = and-true (not (idle_block b)) (done (number_r v (take i b room))) x.1 in
    λ j. x.0 j && (y.0 j && cond (y.1 j) true (eqb (number_r v (take i b room)) 86))
taken-comes l v (read x room) e = clash (sym e)
taken-comes l v (protected x q p) e = clash (sym e)
taken-comes l v (convert_len x) e = clash (sym e)
taken-comes l v (convert x room) e = clash (sym e)
taken-comes l v (snapshot_len x) e = clash (sym e)
taken-comes l v (snapshot x room) e = clash (sym e)
taken-comes l v (try_order x q p room) e = clash (sym e)
taken-comes l v (set_allowance n ss) e = clash (sym e)
taken-comes l v tick e = clash (sym e)

no-fewer : (l : ℕ → Bool) (v : Review) (cs : List Call) (k h : ℕ) → k ≤ h → counted_in (block_on l done) v cs k ≤ counted_in (block_on l comes) v cs h
unfolding counted_in
no-fewer l v [] k h g = g
no-fewer l v (c ∷ cs) k h g = no-fewer l (review_call v c) cs _ _ (go (starts_tick v c) (block_on l done v c) refl (block_on l comes v c) refl)
  where
    go : (t p : Bool) → block_on l done v c ≡ p → (q : Bool) → block_on l comes v c ≡ q → cond t 0 (cond p (k + 1) k) ≤ cond t 0 (cond q (h + 1) h)
    go true p e q f = omega arith
    go false true e true f = omega arith
    go false true e false f = clash (sym (taken-comes l v c e) ∙ f)
    go false false e true f = omega arith
    go false false e false f = g

-- ---- 86 says that share and spare are used

used-number : (r : Rest) (ls : List Listed) (i : ℕ) (b : List ℕ) (room : ℕ) → number_of r ls (take i b room) ≡ 86 → is_used_up r.allowance i ≡ true
unfolding number_of
used-number r ls i b room = go (is_used_up r.allowance i) (ltb room answer_length) (r.lines i)
  where
    go : (u t : Bool) (o : Option Line) → ◌≡◌ {A = ℕ} (cond t 9 (on_line r.day u b o)) 86 → u ≡ true
    go true t o e = refl
    go false true o e = absurd (omega arith)
    go false false None e = absurd (omega arith)
    go false false (Some x) e = clash (sym (eq-eqb (block_number x r.day false b) 86 e) ∙ left-number x r.day b)

used-set : (a : Allowance) (i : ℕ) → is_used_up a i ≡ true → eqb a.blocks 0 ≡ false
unfolding is_used_up
used-set a i = go (eqb a.blocks 0)
  where
    go : (t : Bool) → cond t false (share_used a i && spare_used a) ≡ true → t ≡ false
    go true e = clash (sym e)
    go false e = refl

-- ---- the claims, after the calls cs on a fresh book for n symbols

module _ (n : ℕ) (cs : List Call) where
  -- B, shares and charges
  abbrev stands : Allowance
  stands = (review_after (fresh_review n) cs).rest.allowance

  -- the blocks of line i that came to check 86 in this tick, and those charged in it: of line i, and of all
  abbrev came_on : ℕ → ℕ
  came_on i = counted_in (block_on (only i) comes) (fresh_review n) cs 0

  abbrev charged_on : ℕ → ℕ
  charged_on i = counted_in (block_on (only i) done) (fresh_review n) cs 0

  abbrev charged_on_all : ℕ
  charged_on_all = counted_in (block_on any_line done) (fresh_review n) cs 0

  tells : (l : ℕ → Bool) (m : List ℕ → ℕ) → Measure l m → (Sure (review_after (fresh_review n) cs).rest) × (Tells m stands (counted_in (block_on l done) (fresh_review n) cs 0))
  tells l m ms = run-tells l m ms (fresh_review n) cs 0 (record { fair = fair-none; low = λ i e. clash (sym e) }) (λ z. clash z)

  -- "a line's first blocks up to its share are never refused by this rule": one that is refused has as many blocks before it in its tick as its share
  pub first-pass : (i : ℕ) (b : List ℕ) (room : ℕ) → number_r (review_after (fresh_review n) cs) (take i b room) ≡ 86 → at stands.shares i ≤ came_on i
  first-pass i b room e =
      let r : Rest = (review_after (fresh_review n) cs).rest in
      let u : is_used_up stands i ≡ true = used-number r (review_after (fresh_review n) cs).symbols i b room e in
      let c : at stands.charges i ≡ charged_on i = (tells (only i) (λ xs. at xs i) (of-line i)).1 (used-set stands i u) in
      omega (arith, refused-used stands i u, c, no-fewer (only i) (fresh_review n) cs 0 0 (omega arith))

  -- "no line has more charged than share plus spare", while an allowance is set
  pub line-within : (i : ℕ) → eqb stands.blocks 0 ≡ false → charged_on i ≤ at stands.shares i + spare stands
  line-within i z = go (ltb i share_count) refl
    where
      t : (Sure (review_after (fresh_review n) cs).rest) × (Tells (λ xs. at xs i) stands (charged_on i))
      t = tells (only i) (λ xs. at xs i) (of-line i)

      go : (x : Bool) → ltb i share_count ≡ x → charged_on i ≤ at stands.shares i + spare stands
      go true e = omega (arith, t.1 z, line-most stands i t.0.fair (ltb-true i share_count e))
      go false e =
          let h : length stands.charges ≤ i = omega (arith, t.0.fair.charges, ltb-false i share_count e) in
          omega (arith, t.1 z, get_or-eq_default stands.charges 0 h)

  -- "and all together no more than B"
  pub all-within : eqb stands.blocks 0 ≡ false → charged_on_all ≤ stands.blocks
  all-within z = let t = tells any_line sum of-all in omega (arith, t.1 z, all_most stands t.0.fair)

  -- the first of them by the book's own answer: in memory m, in which make answered 0, after the calls
  pub book-first-pass : (m : List ℕ) → (call m (make n)).answer.number ≡ 0 → blocks_are_bytes cs ≡ true → (i : ℕ) (b : List ℕ) (room : ℕ)
      → (call (bytes_after (call m (make n)).bytes cs) (take i b room)).answer.number ≡ 86 → at stands.shares i ≤ came_on i
  book-first-pass m made bytes i b room e =
      let k : List ℕ = bytes_after (call m (make n)).bytes cs in
      let a : Agrees n k (review_after (fresh_review n) cs) = after-agrees m n made cs bytes in
      let q : number_of (rest_in k) (listed_of (pages_in k)) (take i b room) ≡ number_r (review_after (fresh_review n) cs) (take i b room) =
      λ j. number_of (a.held.rest j) (a.held.listed j) (take i b room) in
      first-pass i b room (sym q ∙ sym (number_same n k a.sound (take i b room)) ∙ sym (number-told k (take i b room) refl) ∙ e)
