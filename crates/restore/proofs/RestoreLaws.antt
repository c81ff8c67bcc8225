-- What each return of `restore` tells.
-- Assumes nothing.
use Prim.Native.Nat.{ℕ}
use mathlib.Core.Path.{◌≡◌, refl, ap, sym, ◌∙◌}
use mathlib.Core.Bool.{Bool, cond}
use mathlib.Core.List.{List}
use lib.Dec.{eqb}
use Rattle.std.specs.Prelude.{Result, Ok, Err}
use Rattle.numbers.specs.declared.Refusal.{Refusal}
use Rattle.numbers.specs.Numbers.{number_of, answered}
use Rattle.numbers.proofs.RefusalLaws.{never-zero}
use Rattle.logform.specs.Log.{Told, told, head_length, head_of}
use Rattle.logform.specs.declared.Head.{Head}
use Rattle.calls.specs.Call.{Outcome, bare, call, make}
use Rattle.logcalls.specs.Replayed.{Replayed, replayed}
use Rattle.logcalls.specs.Restored.{none, restored_by, restored}
use Rattle.replay.specs.declared.Replayed.{Replayed as Run}

module _ (b log out : List ℕ) where
  -- what the lent function gives, with the bytes that are left
  abbrev shown : Run → List ℕ → List ℕ → Replayed
  shown r bytes output = record { number = answered r.ended; place = r.place; written = r.written; bytes = bytes; output = output }

  -- nothing was carried out
  abbrev refused : Refusal → Run
  refused r = record { ended = Err r; place = 0; written = 0 }

  by-head : (h : Told) → h ≡ head_of log → cond (eqb h.number 0) (restored_by log out (call b (make h.n))) (none h.number b out) ≡ restored b log out
  unfolding restored
  by-head h e = ap (λ (x : Told). cond (eqb x.number 0) (restored_by log out (call b (make x.n))) (none x.number b out)) e

  pub no-head : (r : Refusal) (x : Run) → told (Err r) ≡ head_of log → x ≡ refused r → shown x b out ≡ restored b log out
  no-head r x h e = ap (λ (z : Run). shown z b out) e ∙ ap (λ (t : Bool). cond t (restored_by log out (call b (make 0))) (none (number_of r) b out)) (sym (never-zero r)) ∙ by-head (told (Err r)) h

  module _ (h : Head) (headed : told (Ok h) ≡ head_of log) (made : List ℕ) where
    by-make : (o : Outcome) → o ≡ call b (make h.n) → restored_by log out o ≡ restored b log out
    by-make o e = ap (restored_by log out) e ∙ by-head (told (Ok h)) headed

    pub not-made : (r : Refusal) (x : Run) → record { bytes = made; answer = bare (number_of r) } ≡ call b (make h.n) → x ≡ refused r → shown x made out ≡ restored b log out
    not-made r x m e =
        ap (λ (z : Run). shown z made out) e
        ∙ ap (λ (t : Bool). cond t (replayed made log head_length out) (none (number_of r) made out)) (sym (never-zero r))
        ∙ by-make (record { bytes = made; answer = bare (number_of r) }) m

    pub then-replayed : (x : Run) (bytes output : List ℕ) → record { bytes = made; answer = bare 0 } ≡ call b (make h.n) → shown x bytes output ≡ replayed made log head_length out
        → shown x bytes output ≡ restored b log out
    then-replayed x bytes output m e = e ∙ by-make (record { bytes = made; answer = bare 0 }) m
