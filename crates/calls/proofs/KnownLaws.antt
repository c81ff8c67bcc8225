-- What checks 1 and 10 give, and what a page that they give has passed.
-- Assumes nothing.
use Prim.Native.Nat.{ℕ, ◌+◌, ◌-◌, ◌<◌, ◌≤◌}
use mathlib.Core.Path.{◌≡◌, refl, ap, ◌∙◌}
use mathlib.Core.Bool.{Bool, true, false, ◌&&◌, cond}
use mathlib.Core.List.{List}
use native.Mathlib.Omega.{arith}
use lib.ListN.{length, take, drop}
use Rattle.std.specs.Prelude.{Option, Some, None, Result, Ok, Err}
use Rattle.std.specs.Option.{ok_or}
use Rattle.field.specs.Field.{be, part}
use Rattle.field.proofs.Laws.{length_part}
use Rattle.lists.proofs.Tests.{clash}
use Rattle.numbers.specs.declared.Refusal.{Refusal}
use Rattle.numbers.specs.declared.Refusal.TheVariants as refusal
use Rattle.numbers.specs.Numbers.{answered}
use Rattle.text.specs.Form.{symbol_good}
use Rattle.page.specs.Layout.{page_length}
use Rattle.update.proofs.SearchLaws.{is_at}
use Rattle.opening.specs.Layout.{page_start, symbols_most}
use Rattle.opening.specs.Opening.{sound, page_at, page_place}
use Rattle.opening.proofs.ReadLaws.{found-room}
use Rattle.calls.specs.code.Known.{found_of, known_of}

module _ (b x : List ℕ) where
  pub listed-malformed : symbol_good x ≡ false → Err refusal.SymbolUnknown ≡ found_of b x
  unfolding found_of
  listed-malformed g = rw g

  pub listed-placed : symbol_good x ≡ true → (r : Result ℕ Refusal) → r ≡ ok_or (page_place b (be x)) refusal.SymbolUnknown → r ≡ found_of b x
  unfolding found_of
  listed-placed g r e = e ∙ rw g

  pub known-unsound : sound b ≡ false → Err refusal.NoBook ≡ known_of b x
  unfolding known_of
  known-unsound s = rw s

  pub known-listed : sound b ≡ true → (r : Result ℕ Refusal) → r ≡ found_of b x → r ≡ known_of b x
  unfolding known_of
  known-listed s r e = e ∙ rw s

  -- ---- the numbers

  pub listed-number : answered (found_of b x) ≡ cond (symbol_good x && is_at (page_place b (be x))) 0 10
  unfolding found_of
  listed-number = go (symbol_good x) (page_place b (be x))
    where
      go : (g : Bool) (p : Option ℕ) → answered (cond g (ok_or p refusal.SymbolUnknown) (Err refusal.SymbolUnknown)) ≡ cond (g && is_at p) 0 10
      go true (Some k) = refl
      go true None = refl
      go false p = refl

  pub known-number : answered (known_of b x) ≡ cond (sound b) (cond (symbol_good x && is_at (page_place b (be x))) 0 10) 1
  unfolding known_of
  known-number = go (sound b)
    where
      go : (s : Bool) → answered (cond s (found_of b x) (Err refusal.NoBook)) ≡ cond s (cond (symbol_good x && is_at (page_place b (be x))) 0 10) 1
      go true = listed-number
      go false = refl

  -- ---- what a page that is given has passed

  pub record Placed (k : ℕ) : Type 0 where
    pub good : sound b ≡ true
    pub symbol : symbol_good x ≡ true
    pub place : page_place b (be x) ≡ Some k

  pub listed_passed : sound b ≡ true → (k : ℕ) → Ok k ≡ found_of b x → Placed k
  unfolding found_of
  listed_passed s k e = go (symbol_good x) refl (page_place b (be x)) refl e
    where
      go : (g : Bool) → symbol_good x ≡ g → (p : Option ℕ) → page_place b (be x) ≡ p → Ok k ≡ cond g (ok_or p refusal.SymbolUnknown) (Err refusal.SymbolUnknown) → Placed k
      go true eg (Some j) ep q = let z : j ≡ k = cc in record { good = s; symbol = eg; place = ep ∙ ap Some z }
      go true eg None ep q = clash (cc)
      go false eg p ep q = clash (cc)

  pub known_passed : (k : ℕ) → Ok k ≡ known_of b x → Placed k
  unfolding known_of
  known_passed k e = go (sound b) refl e
    where
      go : (s : Bool) → sound b ≡ s → Ok k ≡ cond s (found_of b x) (Err refusal.NoBook) → Placed k
      go true es q = listed_passed es k q
      go false es q = clash (cc)

  pub placed-room : (k : ℕ) → Placed k → (page_start k + page_length ≤ length b) × (k < symbols_most)
  placed-room k z = found-room b (be x) k (page_place b (be x)) z.good refl z.place

  page-long : (k : ℕ) → Placed k → length (page_at b k) ≡ page_length
  unfolding page_at
  page-long k z = length_part b (page_start k) page_length (placed-room k z).0

-- the bytes that are lent are the page
pub lent-page : (b : List ℕ) (k : ℕ) → take (page_start k + page_length - page_start k) (drop (page_start k) b) ≡ page_at b k
unfolding page_at part
lent-page b k = let n : page_start k + page_length - page_start k ≡ page_length = omega arith in rw n

pub lent-long : (b x : List ℕ) (k : ℕ) → Placed b x k → length (take (page_start k + page_length - page_start k) (drop (page_start k) b)) ≡ page_length
lent-long b x k z = ap length (lent-page b k) ∙ page-long b x k z
