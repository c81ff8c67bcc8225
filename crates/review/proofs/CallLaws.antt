-- Each call keeps the book and the reviewer together, and its answer is the reviewer's.
-- Assumes nothing.
use Prim.Native.Nat.{ℕ, ◌+◌, ◌^◌, ◌%◌, ◌≤◌, ◌<◌}
use mathlib.Core.Path.{◌≡◌, refl, sym, ap, ◌∙◌}
use mathlib.Core.Bool.{Bool, true, false, cond}
use mathlib.Core.List.{List, [], ◌∷◌, ◌++◌, map}
use Rattle.std.specs.Prelude.{Option, None, Some}
use native.Mathlib.Omega.{arith}
use lib.Dec.{ltb, leb, eqb, lit<, lit≤}
use lib.ListN.{length}
use Rattle.field.specs.Field.{Bytes, be, part, field, splice}
use Rattle.field.proofs.Laws.{field_lt, length_part, bytes-part}
use Rattle.allowance.specs.Allowance.{allowance_length, allowance_in, is_used_up, charged, charged_bytes, set_to, setting_bytes, ticked_bytes}
use Rattle.allowance.proofs.ByteLaws.{length-charged, length-ticked, ticked-view, length-setting, setting-view}
use Rattle.allowance.proofs.ClaimLaws.{Settable, settable}
use Rattle.allowance.proofs.ViewLaws.{charged-allowance}
use Rattle.lists.specs.Lists.{map_option}
use Rattle.lists.proofs.Tests.{clash}
use Rattle.text.specs.Form.{letter_good, symbol_length}
use Rattle.block.specs.Block.{count_in, sequence_in, messages_of, idle_block}
use Rattle.block.specs.Sequence.{gap_of, next_of, arrival_of}
use Rattle.update.specs.Parts.{Reading, emptied}
use Rattle.update.proofs.Model.{blank_reading, blanked}
use Rattle.update.proofs.EntryLaws.{bytes-every}
use Rattle.update.proofs.BlankLaws.{emptied-kept, emptied-reads}
use Rattle.opening.specs.declared.Line.{Line}
use Rattle.opening.specs.Opening.{Rest, symbols_of, count_of, line_in, line_bytes, lines_in, allowance_on, on_allowance, rest_in, pages_in, each_page, restart_lines}
use Rattle.line.specs.Line.{done, next_by, advanced, settled}
use Rattle.calls.specs.Call.{Call, make, add, open_line, start_day, end_day, take, read, protected, convert_len, convert, snapshot_len, snapshot, try_order, set_allowance, tick, number_of, letter_of, advance_on, after_call, call}
use Rattle.opening.proofs.AllowanceLaws.{length-allowance, allowed-pages, allowed-rest}
use Rattle.work.specs.Work.{Listed, listed_of, messages_on}
use Rattle.opening.proofs.OpeningLaws.{Sound, rest-by}
use Rattle.opening.proofs.PageLaws.{OpeningKept, kept-sound, each-kept, each-reads}
use Rattle.opening.proofs.LineLaws.{LineFits, line-upper, line-open, lined, lined-sound, lined-bytes, lined-pages, lined-rest}
use Rattle.opening.proofs.DayLaws.{dayed-pages, dayed-rest, relined-sound, relined-pages, relined-rest}
use Rattle.opening.proofs.FreshLaws.{fresh-rest, fresh-pages}
use Rattle.opening.proofs.AddLaws.{added, added-rest, added-pages}
use Rattle.calls.proofs.NumberLaws.{number_same, page-free, AddDone, add_done, open_done, take_done, take_left, setting-done, symbol-eleven}
use Rattle.calls.proofs.SoundLaws.{Stays, call_stays}
use Rattle.review.specs.Reviewer.{parts, messages_r, Review, set_line, restart, rest_after, symbols_after, history_after, review_call}
use Rattle.review.specs.Lists.{block_is_bytes}
use Rattle.review.proofs.Agree.{Core}
use Rattle.review.proofs.ListLaws.{core-none, emptied-listed, core-emptied, added-listed, core-added}
use Rattle.review.proofs.WorkLaws.{messages_reading, messages-core, messages-listed}
use Rattle.review.proofs.BytesLaws.{Done, messages-bytes, messages-done}
use Rattle.opening.specs.Layout.{allowance_at, day_at, line_length, line_count, line_at}

-- what the book's bytes and the reviewer share
pub record Held (b : List ℕ) (v : Review) : Type 0 where
  pub rest : rest_in b ≡ v.rest
  pub listed : listed_of (pages_in b) ≡ v.symbols
  pub core : Core (parts v.history) (pages_in b)

-- what holds between any two calls
pub record Agrees (n : ℕ) (b : List ℕ) (v : Review) : Type 0 where
  pub sound : Sound n b
  pub bytes : Bytes b
  pub held : Held b v

-- the reviewer that a book and a history give
abbrev pub view_of : List ℕ → List (List ℕ) → Review
view_of b h = record { rest = rest_in b; symbols = listed_of (pages_in b); history = h }

pub view-is : (b : List ℕ) (v : Review) → Held b v → view_of b v.history ≡ v
view-is b v a = λ i. record { rest = a.rest i; symbols = a.listed i; history = v.history }

-- ---- lines

-- what a line's bytes hold fits them
line-fits : (n : ℕ) (b : List ℕ) → Sound n b → Bytes b → (i : ℕ) (x : Line) → lines_in b i ≡ Some x → LineFits x
unfolding lines_in line_in
line-fits n b sd y i x e = let g = line-open b i x e in go g.0 (ltb i line_count) (letter_good (field (part b (line_at i) line_length) 0 1)) e
  where
    go : i < line_count → (t u : Bool)
        → cond t (cond u (Some (record { letter = field (part b (line_at i) line_length) 0 1; expected = field (part b (line_at i) line_length) 1 4; count = field (part b (line_at i) line_length) 5 8 })) None) None ≡ Some x
        → LineFits x
    go l true true q =
        let r : List ℕ = part b (line_at i) line_length in
        let w : length (part b (line_at i) line_length) ≡ line_length = length_part b (line_at i) line_length (omega (arith, sd.size)) in
        let z : Bytes (part b (line_at i) line_length) = bytes-part b (line_at i) line_length y in
        let p : ◌≡◌ {A = Line} (record { letter = field (part b (line_at i) line_length) 0 1; expected = field (part b (line_at i) line_length) 1 4; count = field (part b (line_at i) line_length) 5 8 }) x = cc in
        record {
          good = (line-open b i x e).1;
          expected = rw (sym p) (field_lt (part b (line_at i) line_length) 1 4 (omega arith) z);
          count = rw (sym p) (field_lt (part b (line_at i) line_length) 5 8 (omega arith) z);
        }
    go l true false q = clash (cc)
    go l false u q = clash (cc)

next_fits : (e s k : ℕ) → e < 256 ^ 4 → next_by e (arrival_of s e k) < 256 ^ 4
unfolding arrival_of next_of
next_fits e s k f = go (leb (gap_of s e) 2147483647)
  where
    go : (t : Bool) → next_by e (cond t (Some (record { gap = gap_of s e; next = ((s + k) % 4294967296) })) None) < 256 ^ 4
    go true = omega arith
    go false = f

advanced-fits : (x : Line) (b : List ℕ) → LineFits x → LineFits (advanced x b)
unfolding advanced
advanced-fits x b f = go (idle_block b)
  where
    go : (t : Bool)
        → LineFits (cond t x (record { letter = x.letter; expected = next_by x.expected (arrival_of (sequence_in b) x.expected (count_in b)); count = (x.count + count_in b) % 18446744073709551616 }))
    go true = f
    go false = record { good = f.good; expected = next_fits x.expected (sequence_in b) (count_in b) f.expected; count = omega arith }

-- ---- the block charged

-- what is read of a book whose line's record is written and the block charged, unless it is free
record SettledAs (i : ℕ) (x : Line) (free : Bool) (b : List ℕ) (old : Rest) (ps : List Reading) : Type 0 where
  rest : rest_in (settled i x free b) ≡ record { n = old.n; lines = old.lines; day = old.day; allowance = cond free old.allowance (charged old.allowance i) }
  pages : pages_in (settled i x free b) ≡ ps

settled-as : (n : ℕ) (b₁ : List ℕ) (i : ℕ) (x : Line) (free : Bool) → Sound n (splice b₁ (line_at i) (line_bytes x)) → Bytes (splice b₁ (line_at i) (line_bytes x)) → i < line_count
    → (free ≡ false → is_used_up (rest_in (splice b₁ (line_at i) (line_bytes x))).allowance i ≡ false)
    → SettledAs i x free b₁ (rest_in (splice b₁ (line_at i) (line_bytes x))) (pages_in (splice b₁ (line_at i) (line_bytes x)))
unfolding settled on_allowance rest_in allowance_on
settled-as n b₁ i x true sd y h u = record { rest = refl; pages = refl }
settled-as n b₁ i x false sd y h u =
    let b : List ℕ = splice b₁ (line_at i) (line_bytes x) in
    let a : List ℕ = part b allowance_at allowance_length in
    let l : length a ≡ allowance_length = length-allowance b (omega (arith, sd.size)) in
    let w : length (charged_bytes a i) ≡ allowance_length = length-charged a l i h in
    record { rest = allowed-rest n b sd (charged_bytes a i) w ∙ (λ j. record { n = (rest_in b).n; lines = (rest_in b).lines; day = (rest_in b).day; allowance = charged-allowance a i l (bytes-part b allowance_at allowance_length y) h (u refl) j }); pages = allowed-pages n b sd (charged_bytes a i) w }

-- ---- what a call that is done leaves

module _ (n : ℕ) (b : List ℕ) (h : List (List ℕ)) (sd : Sound n b) (y : Bytes b) (c : Core (parts h) (pages_in b)) where
  abbrev ls : List Listed
  ls = listed_of (pages_in b)

  abbrev Then : Call → Type 0
  Then k = Held (after_call b k) (record { rest = rest_after (rest_in b) k; symbols = symbols_after ls k; history = history_after (rest_in b) ls h k })

  abbrev IsDone : Call → Type 0
  IsDone k = done (number_of (rest_in b) ls k) ≡ true

  after-make : (k : ℕ) → IsDone (make k) → Then (make k)
  unfolding after_call rest_after symbols_after history_after listed_of parts
  after-make k d = record { rest = fresh-rest k; listed = ap listed_of (fresh-pages k); core = rw (fresh-pages k) core-none }

  after-add : (x : List ℕ) (l m : ℕ) → IsDone (add x l m) → Then (add x l m)
  unfolding after_call rest_after symbols_after history_after
  after-add x l m d =
      let g : AddDone (rest_in b) ls x l m = add_done (rest_in b) ls x l m d in
      let w : length x ≡ symbol_length = symbol-eleven x g.good in
      let r : count_of b < n = page-free n b sd g.room in
      let p : pages_in (added n b sd x l m w r) ≡ pages_in b ++ (blank_reading (be x) l m ∷ []) = added-pages n b sd x l m w r in
      record { rest = added-rest n b sd x l m w r; listed = ap listed_of p ∙ added-listed (pages_in b) (be x) l m; core = rw p (core-added (parts h) (pages_in b) (be x) l m c g.new) }

  after_open : (i l : ℕ) → IsDone (open_line i l) → Then (open_line i l)
  unfolding after_call rest_after symbols_after history_after
  after_open i l d =
      let g = open_done (rest_in b) ls i l d in
      let x : Line = record { letter = l; expected = 1; count = 0 } in
      let p : pages_in (lined n b sd i g.0 x) ≡ pages_in b = lined-pages n b sd i g.0 x in
      record {
        rest = lined-rest n b sd i g.0 x (record { good = g.1; expected = lit< tt; count = lit< tt });
        listed = ap listed_of p;
        core = rw p c;
      }

  -- every page emptied, every line restarted, the day open
  after-start : Then start_day
  unfolding after_call rest_after symbols_after history_after parts
  after-start =
      let b₁ : List ℕ = each_page emptied 0 (symbols_of b) b in
      let k : OpeningKept b b₁ = each-kept n emptied (λ p w. emptied-kept p w) b sd in
      let s₁ : Sound n b₁ = kept-sound b b₁ k n sd in
      let s₂ : Sound n (restart_lines 0 line_count b₁) = relined-sound n b₁ s₁ in
      let p : pages_in (splice (restart_lines 0 line_count b₁) day_at (1 ∷ [])) ≡ map blanked (pages_in b) =
      dayed-pages n (restart_lines 0 line_count b₁) s₂ 1 (lit≤ tt) ∙ relined-pages n b₁ s₁ ∙ each-reads n emptied (λ p w. emptied-kept p w) b sd blanked (λ p w. emptied-reads p w) in
      let r : rest_in b₁ ≡ rest_in b = rest-by b b₁ k.front in
      record {
        rest = dayed-rest n (restart_lines 0 line_count b₁) s₂ 1 (lit≤ tt)
            ∙ (λ i. record { n = (relined-rest n b₁ s₁ i).n; lines = (relined-rest n b₁ s₁ i).lines; day = true; allowance = (relined-rest n b₁ s₁ i).allowance })
            ∙ (λ i. record { n = (r i).n; lines = λ j. map_option restart ((r i).lines j); day = true; allowance = (r i).allowance });
        listed = ap listed_of p ∙ emptied-listed (pages_in b);
        core = rw p (core-emptied (pages_in b) c.once);
      }

  after-end : Then end_day
  unfolding after_call rest_after symbols_after history_after
  after-end =
      let p : pages_in (splice b day_at (0 ∷ [])) ≡ pages_in b = dayed-pages n b sd 0 (lit≤ tt) in
      record { rest = dayed-rest n b sd 0 (lit≤ tt); listed = ap listed_of p; core = rw p c }

  after-take : (i : ℕ) (x : List ℕ) (k : ℕ) → Bytes x → IsDone (take i x k) → Then (take i x k)
  unfolding after_call rest_after symbols_after history_after rest_in
  after-take i x k z d = go (lines_in b i) refl
    where
      go : (o : Option Line) → lines_in b i ≡ o
          → Held (advance_on i x o (messages_on (letter_of o) (messages_of x) b))
          (record {
            rest =
                record {
                  n = (rest_in b).n;
                  lines = λ j. cond (eqb j i) (map_option (λ r. advanced r x) o) ((rest_in b).lines j);
                  day = (rest_in b).day;
                  allowance = cond (idle_block x) (rest_in b).allowance (charged (rest_in b).allowance i);
                };
            symbols = ls;
            history = messages_r ls (letter_of o) (messages_of x) h;
          })
      go None e = absurd (take_done (rest_in b) ls i x k d e)
      go (Some r) e =
          let b₁ : List ℕ = messages_on r.letter (messages_of x) b in
          let f : LineFits r = line-fits n b sd y i r e in
          let l : i < line_count = (line-open b i r e).0 in
          let t : Done b b₁ (messages_reading r.letter (messages_of x) (pages_in b)) =
          messages-done n r.letter (line-upper r f.good) (messages_of x) b (messages-bytes x z) sd y c.once in
          let s₁ : Sound n b₁ = kept-sound b b₁ t.kept n sd in
          let q : rest_in b₁ ≡ rest_in b = rest-by b b₁ t.kept.front in
          let b₂ : List ℕ = lined n b₁ s₁ i l (advanced r x) in
          let s₂ : Sound n b₂ = lined-sound n b₁ s₁ i l (advanced r x) in
          let y₂ : Bytes b₂ = lined-bytes n b₁ s₁ i l (advanced r x) (t.kept.bytes y) in
          let u : rest_in b₂ ≡ record { n = (rest_in b).n; lines = set_line i (advanced r x) (rest_in b).lines; day = (rest_in b).day; allowance = (rest_in b).allowance } =
          lined-rest n b₁ s₁ i l (advanced r x) (advanced-fits r x f)
          ∙ (λ j. record { n = (q j).n; lines = set_line i (advanced r x) (q j).lines; day = (q j).day; allowance = (q j).allowance }) in
          let p : pages_in b₂ ≡ messages_reading r.letter (messages_of x) (pages_in b) = lined-pages n b₁ s₁ i l (advanced r x) ∙ t.pages in
          let m : SettledAs i (advanced r x) (idle_block x) b₁ (rest_in b₂) (pages_in b₂) =
          settled-as n b₁ i (advanced r x) (idle_block x) s₂ y₂ l (λ e₂. rw (← ap (λ (w : Rest). w.allowance) u) at (take_left (rest_in b) ls i x k r d e e₂)) in
          record {
            rest = m.rest ∙ (λ j. record { n = (u j).n; lines = (u j).lines; day = (u j).day; allowance = cond (idle_block x) (u j).allowance (charged (u j).allowance i) });
            listed = ap listed_of (m.pages ∙ p) ∙ messages-listed r.letter ls (messages_of x) (pages_in b);
            core = rw (m.pages ∙ p) (messages-core r.letter ls (messages_of x) h (pages_in b) refl c);
          }

  after_read : (x : List ℕ) (k : ℕ) → Then (read x k)
  unfolding after_call rest_after symbols_after history_after
  after_read x k = record { rest = refl; listed = refl; core = c }

  after-protected : (x : List ℕ) (m v : ℕ) → Then (protected x m v)
  unfolding after_call rest_after symbols_after history_after
  after-protected x m v = record { rest = refl; listed = refl; core = c }

  after-convert-len : (x : List ℕ) → Then (convert_len x)
  unfolding rest_after symbols_after history_after after_call
  after-convert-len x = record { rest = refl; listed = refl; core = c }

  after-convert : (x : List ℕ) (k : ℕ) → Then (convert x k)
  unfolding rest_after symbols_after history_after after_call
  after-convert x k = record { rest = refl; listed = refl; core = c }

  after-len : (x : List ℕ) → Then (snapshot_len x)
  unfolding after_call rest_after symbols_after history_after
  after-len x = record { rest = refl; listed = refl; core = c }

  after-snapshot : (x : List ℕ) (k : ℕ) → Then (snapshot x k)
  unfolding after_call rest_after symbols_after history_after
  after-snapshot x k = record { rest = refl; listed = refl; core = c }

  after-order : (x : List ℕ) (m w k : ℕ) → Then (try_order x m w k)
  unfolding after_call rest_after symbols_after history_after
  after-order x m w k = record { rest = refl; listed = refl; core = c }

  after-setting : (k : ℕ) (ss : List ℕ) → IsDone (set_allowance k ss) → Then (set_allowance k ss)
  unfolding after_call rest_after symbols_after history_after
  after-setting k ss d =
      let s : Settable k ss = settable k ss (setting-done (rest_in b) ls k ss d) in
      let w : length (setting_bytes k ss) ≡ allowance_length = length-setting k ss s.whole in
      let p : pages_in (splice b allowance_at (setting_bytes k ss)) ≡ pages_in b = allowed-pages n b sd (setting_bytes k ss) w in
      let v : allowance_in (setting_bytes k ss) ≡ set_to k ss = setting-view k ss s.whole (omega (arith, s.most)) in
      record {
        rest = allowed-rest n b sd (setting_bytes k ss) w ∙ (λ i. record { n = (rest_in b).n; lines = (rest_in b).lines; day = (rest_in b).day; allowance = v i });
        listed = ap listed_of p;
        core = rw p c;
      }

  after-tick : Then tick
  unfolding after_call rest_after symbols_after history_after on_allowance rest_in allowance_on
  after-tick =
      let a : List ℕ = part b allowance_at allowance_length in
      let l : length (part b allowance_at allowance_length) ≡ allowance_length = length-allowance b (omega (arith, sd.size)) in
      let p : pages_in (splice b allowance_at (ticked_bytes a)) ≡ pages_in b = allowed-pages n b sd (ticked_bytes a) (length-ticked a l) in
      record {
        rest = allowed-rest n b sd (ticked_bytes a) (length-ticked a l) ∙ (λ i. record { n = (rest_in b).n; lines = (rest_in b).lines; day = (rest_in b).day; allowance = ticked-view a l i });
        listed = ap listed_of p;
        core = rw p c;
      }

  after : (k : Call) → block_is_bytes k ≡ true → IsDone k → Then k
  after (make k) z d = after-make k d
  after (add x l m) z d = after-add x l m d
  after (open_line i l) z d = after_open i l d
  after start_day z d = after-start
  after end_day z d = after-end
  after (take i x k) z d = after-take i x k (bytes-every x z) d
  after (read x k) z d = after_read x k
  after (protected x m v) z d = after-protected x m v
  after (convert_len x) z d = after-convert-len x
  after (convert x k) z d = after-convert x k
  after (snapshot_len x) z d = after-len x
  after (snapshot x k) z d = after-snapshot x k
  after (try_order x m w k) z d = after-order x m w k
  after (set_allowance k ss) z d = after-setting k ss d
  after tick z d = after-tick

  call-view : (k : Call) → block_is_bytes k ≡ true → Held (call b k).bytes (review_call (view_of b h) k)
  unfolding call review_call
  call-view k z = rw (number_same n b sd k) (go (done (number_of (rest_in b) ls k)) refl)
    where
      go : (t : Bool) → done (number_of (rest_in b) ls k) ≡ t
          → Held (cond t (after_call b k) b) (cond t (record { rest = rest_after (rest_in b) k; symbols = symbols_after ls k; history = history_after (rest_in b) ls h k }) (view_of b h))
      go true e = after k z e
      go false e = record { rest = refl; listed = refl; core = c }

pub call-agrees : (n : ℕ) (b : List ℕ) (v : Review) (k : Call) → block_is_bytes k ≡ true → Agrees n b v → Agrees n (call b k).bytes (review_call v k)
call-agrees n b v k z a =
    let s : Stays n b (call b k).bytes = call_stays n b a.sound k in
    record {
      sound = s.sound;
      bytes = s.bytes a.bytes;
      held = rw (sym (view-is b v a.held)) (call-view n b v.history a.sound a.bytes a.held.core k z);
    }
