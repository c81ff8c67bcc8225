-- Of D no more is asked than whether its FINRA best counts: where levels rank, and where a letter beside the leader is looked for.
-- Assumes nothing.
use Prim.Native.Nat.{ℕ, zero, suc, ◌+◌}
use mathlib.Core.Path.{◌≡◌, refl, sym, ap, ◌∙◌, fun_ext}
use mathlib.Core.Bool.{Bool, true, false, cond}
use mathlib.Core.List.{List, []}
use Rattle.std.specs.Prelude.{Option, None, Some}
use lib.Dec.{eqb, ltb}
use Rattle.field.specs.Ascii.{A, D, S}
use Rattle.lists.specs.Lists.{is_some}
use Rattle.ranking.specs.declared.Side.{Side}
use Rattle.ranking.specs.declared.Candidate.{Candidate}
use Rattle.ranking.specs.Held.{no_candidate, or_none}
use Rattle.ranking.specs.code.Choice.{live, choose}
use Rattle.ranking.specs.code.Chosen.{any_other}
use Rattle.quote.specs.declared.Quote.{Quote}
use Rattle.quote.specs.Quote.{is_quoted, admits, candidate_of}
use Rattle.keysets.specs.Sets.{key_at, key_count, has, set_of, fold_set}
use Rattle.levels.specs.Levels.{side_levels}
use Rattle.entries.specs.Entries.{as_d, ranks, letter_levels}
use Rattle.page.specs.Layout.{first_keys_at}
use Rattle.page.specs.Page.{quotes_in, levels_for}
use Rattle.slots.specs.code.Slots.{first_in}
use Rattle.walk.specs.code.Walk.{standing_at, first_by, odd_step, odd_above, stored_first, mark_of, decided_by}

pub mark-counts : (t : Bool) → t ≡ true → record { name = 0; price = 1; size = 1; time = 0; condition = 0 } ≡ mark_of t
unfolding mark_of
mark-counts t e = rw e

pub mark-none : (t : Bool) → t ≡ false → no_candidate ≡ mark_of t
unfolding mark_of
mark-none t e = rw e

mark-some : (t : Bool) → is_some (live (mark_of t)) ≡ t
unfolding mark_of live
mark-some true = refl
mark-some false = refl

-- ---- levels

rank_same : (s : Side) (q : ℕ → Quote) (a b : Option Candidate) (l : ℕ) → is_some a ≡ is_some b → ranks s q a l ≡ ranks s q b l
unfolding ranks
rank_same s q a b l e = ap (λ (t : Bool). cond (eqb l D) t (cond (is_quoted (q l).condition) (admits s (q l).condition) true)) e

first-same : (p : List ℕ) (s : Side) (a b : Option Candidate) (l : ℕ) → is_some a ≡ is_some b → first_by p s a l ≡ first_by p s b l
unfolding first_by letter_levels
first-same p s a b l e = ap (λ (t : Bool). first_in l (cond (eqb l S) [] (cond t (side_levels s (levels_for p l)) []))) (rank_same s (quotes_in p) a b l e)

odd-same : (p : List ℕ) (s : Side) (f : Candidate) (k : ℕ) → odd_above p s (mark_of (is_some (live f))) k ≡ odd_above p s f k
unfolding odd_above odd_step
odd-same p s f k =
    ap (λ (g : ℕ → Candidate → Candidate). fold_set g (has (set_of (λ i. ltb k (key_at p (first_keys_at s) i)) key_count)) 0 key_count no_candidate)
    (fun_ext (λ i. fun_ext (λ b. ap (λ (o : Option Candidate). choose s b (or_none o)) (first-same p s (live (mark_of (is_some (live f)))) (live f) (A + i) (mark-some (is_some (live f)))))))

pub odd-told : (p : List ℕ) (s : Side) (f : Candidate) (k : ℕ) (t : Bool) → t ≡ is_some (live f) → (r : ℕ) → stored_first p s r ≡ odd_above p s (mark_of t) k → stored_first p s r ≡ odd_above p s f k
odd-told p s f k t e r h = h ∙ ap (λ (u : Bool). odd_above p s (mark_of u) k) e ∙ odd-same p s f k

pub first-marked : (p : List ℕ) (s : Side) (l : ℕ) (x m c : Candidate) → x ≡ m → c ≡ or_none (first_by p s (live x) l) → c ≡ or_none (first_by p s (live m) l)
first-marked p s l x m c e h = h ∙ ap (λ (y : Candidate). or_none (first_by p s (live y) l)) e

-- ---- a letter beside the leader

any_same : (c e : ℕ → Candidate) (n : ℕ) → ((i : ℕ) → is_some (live (c i)) ≡ is_some (live (e i))) → (k i : ℕ) → any_other c n i k ≡ any_other e n i k
unfolding any_other
any_same c e n q zero i = refl
any_same c e n q (suc k) i = λ j. cond (eqb i n) (any_same c e n q k (i + 1) j) (cond (q i j) true (any_same c e n q k (i + 1) j))

d-some : (f : Candidate) → is_some (live (as_d f)) ≡ is_some (live f)
unfolding live as_d
d-some f = go (eqb f.price 0) (eqb f.size 0) (record { name = D; price = f.price; size = f.size; time = f.time; condition = f.condition })
  where
    go : (a z : Bool) (d : Candidate) → is_some (cond a None (cond z None (Some d))) ≡ is_some (cond a None (cond z None (Some f)))
    go true z d = refl
    go false true d = refl
    go false false d = refl

standing-some : (p : List ℕ) (s : Side) (f g : Candidate) → is_some (live f) ≡ is_some (live g) → (l : ℕ) → is_some (live (standing_at p s f l)) ≡ is_some (live (standing_at p s g l))
unfolding standing_at
standing-some p s f g e l = go (eqb l D)
  where
    go : (t : Bool) → is_some (live (cond t (as_d f) (cond (eqb l S) no_candidate (or_none (candidate_of s l (quotes_in p l)))))) ≡ is_some (live (cond t (as_d g) (cond (eqb l S) no_candidate (or_none (candidate_of s l (quotes_in p l))))))
    go true = d-some f ∙ e ∙ sym (d-some g)
    go false = refl

decided-same : (p : List ℕ) (s : Side) (f : Candidate) (n by : ℕ) → decided_by p s (mark_of (is_some (live f))) n by ≡ decided_by p s f n by
unfolding decided_by
decided-same p s f n by =
    ap (λ (t : Bool). cond (eqb by 0) (cond t 1 0) by)
    (any_same (standing_at p s (mark_of (is_some (live f)))) (standing_at p s f) n (standing-some p s (mark_of (is_some (live f))) f (mark-some (is_some (live f)))) 26 A)

pub decided-told : (p : List ℕ) (s : Side) (f : Candidate) (n by : ℕ) (t : Bool) → t ≡ is_some (live f) → (r : ℕ) → r ≡ decided_by p s (mark_of t) n by → r ≡ decided_by p s f n by
decided-told p s f n by t e r h = h ∙ ap (λ (u : Bool). decided_by p s (mark_of u) n by) e ∙ decided-same p s f n by

pub other-marked : (p : List ℕ) (s : Side) (x m : Candidate) (n : ℕ) (t : Bool) → x ≡ m → t ≡ any_other (standing_at p s x) n A key_count → t ≡ any_other (standing_at p s m) n A key_count
other-marked p s x m n t e h = h ∙ ap (λ (y : Candidate). any_other (standing_at p s y) n A key_count) e
