-- What a query with a side mark answers, for each `return` of the code.
-- Assumes nothing.
use Prim.Native.Nat.{ℕ, ◌+◌, ◌-◌, ◌≤◌, ◌<◌}
use mathlib.Core.Path.{◌≡◌, refl, sym, ap, subst, ◌∙◌}
use mathlib.Core.Bool.{Bool, true, false, ◌&&◌, cond}
use mathlib.Core.List.{List}
use lib.ListN.{length, take, drop}
use borrow.Author.Tests.{ne_eqb}
use Rattle.std.specs.Prelude.{Option, Some, None, Result, Ok, Err}
use Rattle.std.specs.Option.{ok_or}
use Rattle.field.specs.Field.{be}
use Rattle.lists.specs.Lists.{member}
use Rattle.lists.proofs.Tests.{clash}
use Rattle.numbers.specs.declared.Refusal.{Refusal}
use Rattle.numbers.specs.declared.Refusal.TheVariants as refusal
use Rattle.numbers.specs.Numbers.{answered, number_of}
use Rattle.text.specs.Form.{symbol_good}
use Rattle.page.specs.Layout.{page_length}
use Rattle.protection.specs.declared.Protection.{Protection}
use Rattle.protection.specs.Protection.{protection, page_trading}
use Rattle.ranking.specs.declared.Side.{Side}
use Rattle.ranking.specs.declared.Side.TheVariants.{Bid, Offer}
use Rattle.update.proofs.SearchLaws.{is_at}
use Rattle.opening.specs.Layout.{page_start, symbols_most}
use Rattle.opening.specs.Opening.{sound, page_place}
use Rattle.line.proofs.GateLaws.{never-done}
use Rattle.calls.specs.Call.{protected, side_marks, queried, asked_side, number_on, call}
use Rattle.calls.specs.code.Known.{known_of, found_of}
use Rattle.calls.proofs.NumberLaws.{number-unsound}
use Rattle.calls.proofs.KnownLaws.{Placed, known_passed, placed-room, lent-page}
use Rattle.calls.proofs.ProtectedLaws.{protected-number, protected-refused, protected-told}
use Rattle.query.specs.declared.Asked.{Asked}
use Rattle.query.specs.code.Asked.{marked_of, sided_of, asked_on, asked_of}

-- ---- 74

pub mark-bid : (m : ℕ) → m ≡ 66 → Some Bid ≡ marked_of m
unfolding marked_of member
mark-bid m e = let z : Some Bid ≡ marked_of 66 = refl in z ∙ ap marked_of (sym e)

pub mark-offer : (m : ℕ) → m ≡ 83 → Some Offer ≡ marked_of m
unfolding marked_of member
mark-offer m e = let z : Some Offer ≡ marked_of 83 = refl in z ∙ ap marked_of (sym e)

pub mark-bad : (m : ℕ) → (m ≡ 66 → ⊥) → (m ≡ 83 → ⊥) → None ≡ marked_of m
unfolding marked_of member
mark-bad m h k = rw (ne_eqb m 66 h, ne_eqb m 83 k)

-- ---- 1, 10, 74

module _ (b x : List ℕ) (m : ℕ) where
  pub asked-unknown : (r : Refusal) → Err r ≡ known_of b x → Err r ≡ asked_of b x m
  unfolding asked_of
  asked-unknown r e = ap (asked_on (marked_of m)) e

  module _ (k : ℕ) (e : Ok k ≡ known_of b x) (o : Option Side) (eo : o ≡ marked_of m) where
    asked-known : sided_of k o ≡ asked_of b x m
    unfolding asked_of
    asked-known = ap (sided_of k) eo ∙ ap (asked_on (marked_of m)) e

    pub asked-unmarked : (r : Refusal) → Err r ≡ ok_or o refusal.Side → Err r ≡ asked_of b x m
    asked-unmarked r q = go o q ∙ asked-known
      where
        go : (o : Option Side) → Err r ≡ ok_or o refusal.Side → Err r ≡ sided_of k o
        go (Some s) q = clash (cc)
        go None q = let z : r ≡ refusal.Side = cc in ap Err z

    pub asked-marked : (s : Side) → Ok s ≡ ok_or o refusal.Side → Ok (record { page = k; side = s }) ≡ asked_of b x m
    asked-marked s q = go o q ∙ asked-known
      where
        go : (o : Option Side) → Ok s ≡ ok_or o refusal.Side → Ok (record { page = k; side = s }) ≡ sided_of k o
        go (Some t) q = let z : s ≡ t = cc in ap (λ (t : Side). sided_of k (Some t)) z
        go None q = clash (cc)

  pub asked-number : answered (asked_of b x m) ≡ cond (sound b) (cond (symbol_good x && is_at (page_place b (be x))) (cond (member side_marks m) 0 74) 10) 1
  unfolding asked_of marked_of known_of found_of
  asked-number = go (sound b) (symbol_good x) (page_place b (be x)) (member side_marks m)
    where
      go : (s g : Bool) (p : Option ℕ) (t : Bool)
          → answered (asked_on (cond t (Some (asked_side m)) None) (cond s (cond g (ok_or p refusal.SymbolUnknown) (Err refusal.SymbolUnknown)) (Err refusal.NoBook))) ≡ cond s (cond (g && is_at p) (cond t 0 74) 10) 1
      go true true (Some k) true = refl
      go true true (Some k) false = refl
      go true true None t = refl
      go true false p t = refl
      go false g p t = refl

  -- ---- what a page that is given has passed

  pub record Passed (a : Asked) : Type 0 where
    pub placed : Placed b x a.page
    pub mark : member side_marks m ≡ true
    pub side : a.side ≡ asked_side m

  pub passed : (a : Asked) → Ok a ≡ asked_of b x m → Passed a
  unfolding asked_of marked_of
  passed a e = go (known_of b x) refl (member side_marks m) refl e
    where
      go : (r : Result ℕ Refusal) → known_of b x ≡ r → (t : Bool) → member side_marks m ≡ t → Ok a ≡ asked_on (cond t (Some (asked_side m)) None) r → Passed a
      go (Ok k) er true et q =
          let z : ◌≡◌ {A = Asked} (record { page = k; side = asked_side m }) a = cc in
          record { placed = subst (Placed b x) (ap (λ (y : Asked). y.page) z) (known_passed b x k (sym er)); mark = et; side = sym (ap (λ (y : Asked). y.side) z) }
      go (Ok k) er false et q = clash (cc)
      go (Err r) er t et q = clash (cc)

  -- the page lies in the book
  pub asked-room : (a : Asked) → Ok a ≡ asked_of b x m → (page_start a.page + page_length ≤ length b) × (a.page < symbols_most)
  asked-room a e = placed-room b x a.page (passed a e).placed

-- ---- the call

module _ (b x : List ℕ) (m v : ℕ) where
  -- a refusal's number is the call's
  asked-protected : answered (asked_of b x m) ≡ number_on b (protected x m v)
  asked-protected = asked-number b x m ∙ go (sound b) refl
    where
      go : (s : Bool) → sound b ≡ s → cond s (cond (symbol_good x && is_at (page_place b (be x))) (cond (member side_marks m) 0 74) 10) 1 ≡ number_on b (protected x m v)
      go true es = sym (protected-number b x m v es)
      go false es = number-unsound b (protected x m v) refl es

  pub query-refused : (r : Refusal) → Err r ≡ asked_of b x m → record { bytes = b; answer = queried (number_of r) 0 0 } ≡ call b (protected x m v)
  query-refused r e = protected-refused b x m v (number_of r) (ap answered e ∙ asked-protected) (never-done r)

  pub query-done : (a : Asked) (t : Protection) → Ok a ≡ asked_of b x m → t ≡ protection a.side v (page_trading (take (page_start a.page + page_length - page_start a.page) (drop (page_start a.page) b)) a.side)
      → record { bytes = b; answer = queried 0 (cond t.yes 1 0) t.looked } ≡ call b (protected x m v)
  query-done a t e et =
      let z : Passed b x m a = passed b x m a e in
      rw (et, z.side, lent-page b a.page) (protected-told b x m v a.page z.placed.good z.placed.symbol z.placed.place z.mark)
