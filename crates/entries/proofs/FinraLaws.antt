-- The FINRA best goes by which makers stand, not by their cells: the same makers in any order, no two of one name, have the same best.
-- Assumes nothing.
use mathlib.Core.Path.{◌≡◌, sym, ap, ◌∙◌, fun_ext}
use mathlib.Core.Bool.{Bool, true, false, cond}
use mathlib.Core.List.{List}
use Rattle.std.specs.Prelude.{Option, None, Some}
use Rattle.lists.specs.Lists.{collect}
use Rattle.lists.proofs.Tests.{clash}
use Rattle.lists.proofs.Members.{In, in-collect, collect-in}
use Rattle.ranking.specs.declared.Side.{Side}
use Rattle.ranking.specs.declared.Candidate.{Candidate}
use Rattle.ranking.specs.Ranking.{better}
use Rattle.ranking.proofs.OrderLaws.{same-best}
use Rattle.ranking.proofs.RankingLaws.{better-weak, better-tie}
use Rattle.quote.specs.Quote.{side_of, counts, level_candidate, candidate_of}
use Rattle.entries.specs.Entries.{Maker, maker_candidate, finra_best}

-- a candidate has its maker's name
maker-name : (s : Side) (m : Maker) (c : Candidate) → maker_candidate s m ≡ Some c → c.name ≡ m.name
unfolding maker_candidate candidate_of
maker-name s m c = go (counts s m.quote)
  where
    go : (t : Bool) → cond t (Some (level_candidate m.name m.quote.condition (side_of s m.quote))) None ≡ Some c → c.name ≡ m.name
    go true e = ap (λ (o : Option Candidate). elim o [ None ↦ 0 | Some x ↦ x.name ]) (sym e)
    go false e = clash (cc)

module _ (xs ys : List Maker)
    (f : (m : Maker) → In m xs → In m ys)
    (g : (m : Maker) → In m ys → In m xs)
    (d : (a b : Maker) → In a xs → In b xs → a.name ≡ b.name → a ≡ b)
  where
    pub finra-same : finra_best xs ≡ finra_best ys
    unfolding finra_best
    finra-same = fun_ext (λ s.
        same-best (better s) (better-weak s) (collect (maker_candidate s) xs) (collect (maker_candidate s) ys)
        (λ c m. let r = in-collect (maker_candidate s) c xs m in collect-in (maker_candidate s) r.0 c ys (f r.0 r.1) r.2)
        (λ c m. let r = in-collect (maker_candidate s) c ys m in collect-in (maker_candidate s) r.0 c xs (g r.0 r.1) r.2)
        (λ a b m n e h.
        let p = in-collect (maker_candidate s) a xs m in
        let q = in-collect (maker_candidate s) b xs n in
        let k : p.0 ≡ q.0 = d p.0 q.0 p.1 q.1 (sym (maker-name s p.0 a p.2) ∙ better-tie s a b e h ∙ maker-name s q.0 b q.2) in
        let z : ◌≡◌ {A = Option Candidate} (Some a) (Some b) = sym p.2 ∙ ap (maker_candidate s) k ∙ q.2 in
        cc))
