-- Parts of two letters on a book of any bytes: in either order they leave the same bytes, and neither moves the code of the other's messages.
-- Assumes nothing.
use Prim.Native.Nat.{ℕ, zero, suc, ◌+◌, ◌≤◌, ◌<◌}
use mathlib.Core.Path.{◌≡◌, refl, sym, ap, ◌∙◌}
use mathlib.Core.Bool.{Bool, true, false, cond}
use mathlib.Core.List.{List, ◌++◌}
use native.Mathlib.Omega.{arith}
use lib.Dec.{eqb}
use lib.ListN.{length}
use borrow.Author.Tests.{eqb-true}
use Rattle.field.specs.Field.{part}
use Rattle.field.proofs.Laws.{part_join, part-all}
use Rattle.lists.specs.Lists.{upper}
use Rattle.std.specs.Prelude.{Some, None, Option}
use Rattle.lists.proofs.Tests.{clash, Cut, equal, apart, cut}
use Rattle.message.specs.Message.{symbol_of, Part, round_part, odd_part, maker_part, finra_part, status_part}
use Rattle.message.proofs.SpokenLaws.{Shaped}
use Rattle.page.specs.Layout.{head_length, page_length, page_primary}
use Rattle.update.specs.Parts.{round_on, odd_on_page, maker_on, finra_on, status_on}
use Rattle.update.proofs.EntryLaws.{Kept}
use Rattle.update.proofs.SlotLaws.{round-kept, odd-kept}
use Rattle.update.proofs.MakerLaws.{maker-kept, finra-kept}
use Rattle.update.proofs.StatusLaws.{status-kept}
use Rattle.update.proofs.WorkLaws.{page_code}
use Rattle.opening.specs.Layout.{opening_length, book_length, page_start}
use Rattle.opening.specs.Opening.{page_at, page_place, on_page}
use Rattle.opening.proofs.OpeningLaws.{Sound, length-page}
use Rattle.opening.proofs.PageLaws.{OpeningKept, kept-sound, opening-then, place-hit, at_same, nowhere, on_same, on-other, each-page}
use Rattle.work.specs.Work.{part_on, code_on}
use Rattle.work.proofs.PartLaws.{part-kept}
use Rattle.work.proofs.PlaceLaws.{place_same, code_at, code-nowhere}
use Rattle.regions.proofs.PartLaws.{changes, Sent, sent-map, sent-shaped, round-changes, odd-changes, maker-changes, finra-changes, status-changes}
use Rattle.regions.proofs.CodeLaws.{head-part-stays, primary-stays, page-code-stays, page-swap}
pub use Rattle.mixing.proofs.Sent.{Primary, SentOn}

-- ---- books by their openings and pages

module _ (n : ℕ) (b c : List ℕ) (opening : part b 0 opening_length ≡ part c 0 opening_length) (pages : (k : ℕ) → k < n → page_at b k ≡ page_at c k) where
  up_to : (m : ℕ) → m ≤ n → part b 0 (book_length m) ≡ part c 0 (book_length m)
  unfolding page_at
  up_to zero h = let z : book_length 0 ≡ opening_length = omega arith in rw z opening
  up_to (suc m) h =
      let z : book_length (suc m) ≡ book_length m + page_length = omega arith in
      let a : 0 + book_length m ≡ page_start m = omega arith in
      let r : part b 0 (book_length m + page_length) ≡ part c 0 (book_length m + page_length) =
      part_join b 0 (book_length m) page_length
      ∙ (λ k. up_to m (omega arith) k ++ (ap (λ (x : ℕ). part b x page_length) a ∙ pages m (omega arith) ∙ ap (λ (x : ℕ). part c x page_length) (sym a)) k)
      ∙ sym (part_join c 0 (book_length m) page_length) in
      rw z r

  pub same-book : length b ≡ book_length n → length c ≡ book_length n → b ≡ c
  same-book v w = sym (part-all b) ∙ ap (part b 0) v ∙ up_to n (omega arith) ∙ ap (part c 0) (sym w) ∙ part-all c

-- ---- a part on a book, page by page

abbrev pub hit_by : Option ℕ → ℕ → Bool
hit_by (Some j) k = eqb j k
hit_by None k = false

-- whether it changes page k
abbrev pub hits : Part → List ℕ → ℕ → Bool
hits (round_part s l q) b k = hit_by (page_place b s) k
hits (odd_part s l o) b k = hit_by (page_place b s) k
hits (maker_part s m q) b k = hit_by (page_place b s) k
hits (finra_part c) b k = true
hits (status_part s x) b k = hit_by (page_place b s) k

abbrev pub on_hit : Part → Bool → List ℕ → List ℕ
on_hit r t p = cond t (changes r p) p

module _ (n : ℕ) (b : List ℕ) (sd : Sound n b) where
  on-after : (s : ℕ) (h : List ℕ → List ℕ) → ((p : List ℕ) → length p ≡ page_length → Kept p (h p)) → (k : ℕ)
      → page_at (on_page s h b) k ≡ cond (hit_by (page_place b s) k) (h (page_at b k)) (page_at b k)
  on-after s h keeps k = go (page_place b s) refl
    where
      one : (j : ℕ) → page_place b s ≡ Some j → Cut j k → page_at (on_page s h b) k ≡ cond (eqb j k) (h (page_at b k)) (page_at b k)
      one j e (equal t z) = rw t (on_same n b sd s h keeps k (e ∙ ap Some z))
      one j e (apart t z) = rw t (on-other n b sd s h keeps k (λ y. z (at_same j k (sym e ∙ y))))

      go : (r : Option ℕ) → page_place b s ≡ r → page_at (on_page s h b) k ≡ cond (hit_by r k) (h (page_at b k)) (page_at b k)
      go (Some j) e = one j e (cut j k)
      go None e = on-other n b sd s h keeps k (λ y. nowhere k (sym e ∙ y))

pub part_sound : (n : ℕ) (b : List ℕ) → Sound n b → (r : Part) → Shaped r → Sound n (part_on r b)
part_sound n b sd r z = kept-sound b (part_on r b) (part-kept n r b sd z) n sd

pub page-after : (n : ℕ) (b : List ℕ) → Sound n b → (r : Part) → Shaped r → (k : ℕ) → k < n → page_at (part_on r b) k ≡ on_hit r (hits r b k) (page_at b k)
unfolding part_on
page-after n b sd (round_part s j q) z k h =
    on-after n b sd s (round_on j q) (λ p w. round-kept p w j z q) k
    ∙ ap (λ (z : List ℕ). cond (hit_by (page_place b s) k) z (page_at b k)) (round-changes s j q (page_at b k))
page-after n b sd (odd_part s j o) z k h =
    on-after n b sd s (odd_on_page j o) (λ p w. odd-kept p w j z o) k
    ∙ ap (λ (z : List ℕ). cond (hit_by (page_place b s) k) z (page_at b k)) (odd-changes s j o (page_at b k))
page-after n b sd (maker_part s m q) z k h =
    on-after n b sd s (maker_on m q) (λ p w. maker-kept m q p w) k
    ∙ ap (λ (z : List ℕ). cond (hit_by (page_place b s) k) z (page_at b k)) (maker-changes s m q (page_at b k))
page-after n b sd (finra_part c) z k h = each-page n (finra_on c) (λ p w. finra-kept c p w) b sd k h ∙ finra-changes c (page_at b k)
page-after n b sd (status_part s x) z k h =
    on-after n b sd s (status_on x) (λ p w. status-kept x p w) k
    ∙ ap (λ (z : List ℕ). cond (hit_by (page_place b s) k) z (page_at b k)) (status-changes s x (page_at b k))

-- ---- a part that is sent to a book: a trading status on the line of its symbol's primary letter

module _ (b : List ℕ) (l : ℕ) (u : upper l ≡ true) (r : Part) (x : SentOn b l r) where
  pub shape : Shaped r
  shape = sent-shaped (Primary b l) l u r x

  -- where only what it leaves is asked, each page may have its letter for the primary
  anywhere : Sent l l r
  anywhere = sent-map (Primary b l) (λ s. l ≡ l) (λ s f. refl) l r x

-- to each page that it changes
sent-at : (b : List ℕ) (l k : ℕ) (r : Part) → SentOn b l r → hits r b k ≡ true → Sent (page_primary (page_at b k)) l r
sent-at b l k (round_part s j q) x h = x
sent-at b l k (odd_part s j o) x h = x
sent-at b l k (maker_part s m q) x h = x
sent-at b l k (finra_part c) x h = x
sent-at b l k (status_part s y) x h = go (page_place b s) refl h
  where
    go : (f : Option ℕ) → page_place b s ≡ f → hit_by f k ≡ true → page_primary (page_at b k) ≡ l
    go (Some j) e t = x k (e ∙ ap Some (eqb-true j k t))
    go None e t = clash (sym t)

module _ (n : ℕ) (b : List ℕ) (sd : Sound n b) (l : ℕ) (u : upper l ≡ true) (r : Part) (x : SentOn b l r) where
  pub sent-sound : Sound n (part_on r b)
  sent-sound = part_sound n b sd r (shape b l u r x)

  -- heads stay
  head-after : {A : Type 0} (f : List ℕ → A) → ((k : ℕ) → k < n → f (changes r (page_at b k)) ≡ f (page_at b k)) → (k : ℕ) → k < n → f (page_at (part_on r b) k) ≡ f (page_at b k)
  head-after f stays k h = ap f (page-after n b sd r (shape b l u r x) k h) ∙ go (hits r b k)
    where
      go : (t : Bool) → f (on_hit r t (page_at b k)) ≡ f (page_at b k)
      go true = stays k h
      go false = refl

  primary-after : (k : ℕ) → k < n → page_primary (page_at (part_on r b) k) ≡ page_primary (page_at b k)
  primary-after = head-after (λ p. page_primary p) (λ k h. primary-stays l l u r (anywhere b l u r x) (page_at b k) (length-page n b sd k h))

  -- every symbol stays where it is
  pub place-stays : (s : ℕ) → page_place (part_on r b) s ≡ page_place b s
  place-stays s = place_same n b sd (part_on r b) s (part-kept n r b sd (shape b l u r x)) one
    where
      one : (j at m : ℕ) → j < n → at + m ≤ head_length → part (page_at (part_on r b) j) at m ≡ part (page_at b j) at m
      one j at m h i = head-after (λ p. part p at m) (λ k h. head-part-stays l l u r (anywhere b l u r x) (page_at b k) (length-page n b sd k h) at m i) j h

  pub hits-stay : (t : Part) (k : ℕ) → hits t (part_on r b) k ≡ hits t b k
  hits-stay (round_part s j q) k = ap (λ (z : Option ℕ). hit_by z k) (place-stays s)
  hits-stay (odd_part s j o) k = ap (λ (z : Option ℕ). hit_by z k) (place-stays s)
  hits-stay (maker_part s m q) k = ap (λ (z : Option ℕ). hit_by z k) (place-stays s)
  hits-stay (finra_part c) k = refl
  hits-stay (status_part s x) k = ap (λ (z : Option ℕ). hit_by z k) (place-stays s)

  -- what is sent to the book is sent to it afterwards
  pub still-sent : (j : ℕ) (t : Part) → SentOn b j t → SentOn (part_on r b) j t
  still-sent j t y = sent-map (Primary b j) (Primary (part_on r b) j) one j t y
    where
      one : (s : ℕ) → Primary b j s → Primary (part_on r b) j s
      one s f k e =
          let q : page_place b s ≡ Some k = sym (place-stays s) ∙ e in
          primary-after k (omega (arith, (place-hit b s k q).0, sd.count)) ∙ f k q

  -- the code of a message of another letter stays
  pub code_stays : (j : ℕ) → upper j ≡ true → (l ≡ j → ⊥) → (m : List ℕ) → code_on j m (part_on r b) ≡ code_on j m b
  code_stays j v d m = go (page_place b (symbol_of m)) refl
    where
      one : (k : ℕ) → k < n → (t : Bool) → page_code j m (on_hit r t (page_at b k)) ≡ page_code j m (page_at b k)
      one k h true = page-code-stays l l u r (anywhere b l u r x) (page_at b k) (length-page n b sd k h) j v d m
      one k h false = refl

      go : (o : Option ℕ) → page_place b (symbol_of m) ≡ o → code_on j m (part_on r b) ≡ code_on j m b
      go (Some k) e =
          let h : k < n = omega (arith, (place-hit b (symbol_of m) k e).0, sd.count) in
          code_at j m (part_on r b) k (place-stays (symbol_of m) ∙ e)
          ∙ ap (page_code j m) (page-after n b sd r (shape b l u r x) k h) ∙ one k h (hits r b k)
          ∙ sym (code_at j m b k e)
      go None e = code-nowhere j m (part_on r b) (place-stays (symbol_of m) ∙ e) ∙ sym (code-nowhere j m b e)

-- one after the other, page by page
twice : (n : ℕ) (b : List ℕ) → Sound n b → (l j : ℕ) → upper l ≡ true → upper j ≡ true → (r t : Part) → SentOn b l r → SentOn b j t → (k : ℕ) → k < n
    → page_at (part_on t (part_on r b)) k ≡ on_hit t (hits t b k) (on_hit r (hits r b k) (page_at b k))
twice n b sd l j u v r t x y k h =
    page-after n (part_on r b) (sent-sound n b sd l u r x) t (shape b j v t y) k h
    ∙ (λ i. on_hit t (hits-stay n b sd l u r x t k i) (page-after n b sd r (shape b l u r x) k h i))

module _ (n : ℕ) (b : List ℕ) (sd : Sound n b) (l j : ℕ) (u : upper l ≡ true) (v : upper j ≡ true) (d : l ≡ j → ⊥) (r t : Part) (x : SentOn b l r) (y : SentOn b j t) where
  pages-swap : (k : ℕ) → k < n → page_at (part_on t (part_on r b)) k ≡ page_at (part_on r (part_on t b)) k
  pages-swap k h = twice n b sd l j u v r t x y k h ∙ go (hits r b k) refl (hits t b k) refl ∙ sym (twice n b sd j l v u t r y x k h)
    where
      go : (p : Bool) → hits r b k ≡ p → (q : Bool) → hits t b k ≡ q → on_hit t q (on_hit r p (page_at b k)) ≡ on_hit r p (on_hit t q (page_at b k))
      go true e true f = sym (page-swap (page_primary (page_at b k)) l u r (sent-at b l k r x e) (page_at b k) (length-page n b sd k h) j v d t (sent-at b j k t y f))
      go true e false f = refl
      go false e true f = refl
      go false e false f = refl

  -- two letters' parts, in either order
  pub part-swap : part_on t (part_on r b) ≡ part_on r (part_on t b)
  part-swap =
      let z : Shaped r = shape b l u r x in
      let z' : Shaped t = shape b j v t y in
      let s : Sound n (part_on r b) = sent-sound n b sd l u r x in
      let s' : Sound n (part_on t b) = sent-sound n b sd j v t y in
      let q : OpeningKept b (part_on t (part_on r b)) = opening-then b (part_on r b) (part_on t (part_on r b)) (part-kept n r b sd z) (part-kept n t (part_on r b) s z') in
      let q' : OpeningKept b (part_on r (part_on t b)) = opening-then b (part_on t b) (part_on r (part_on t b)) (part-kept n t b sd z') (part-kept n r (part_on t b) s' z) in
      same-book n (part_on t (part_on r b)) (part_on r (part_on t b)) (q.front 0 opening_length (omega arith) ∙ sym (q'.front 0 opening_length (omega arith))) pages-swap
      (q.size ∙ sd.size) (q'.size ∙ sd.size)
