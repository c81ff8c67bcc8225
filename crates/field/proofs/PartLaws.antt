-- What std's methods leave of a slice of which a part was lent, in the words of specs/Field.antt.
-- Assumes nothing.
use Prim.Native.Nat.{ℕ, ◌+◌}
use mathlib.Core.Path.{◌≡◌, sym, ap, ◌∙◌}
use mathlib.Core.List.{List, ◌++◌}
use lib.ListN.{length, take, drop}
use lib.Seq.{drop-drop}
use mathlib.Core.List.{append_assoc}
use borrow.Rule.Slice.PartMut.{put_mid}
use Rattle.field.specs.Field.{splice}

-- after `s[at..end].copy_from_slice(ys)`
pub splice_put : (s : List ℕ) (at k : ℕ) (ys zs : List ℕ) → ys ≡ zs → length zs ≡ k → put_mid at k s ys ≡ splice s at zs
unfolding splice
splice_put s at k ys zs e n =
    let held : put_mid at k s ys ≡ put_mid at k s zs = ap (put_mid at k s) e in
    let rest : drop k (drop at s) ≡ drop (at + length zs) s = drop-drop k at s ∙ ap (λ (m : ℕ). drop (at + m) s) (sym n) in
    held ∙ ap (λ (l : List ℕ). take at s ++ (zs ++ l)) rest ∙ sym (append_assoc (take at s) zs (drop (at + length zs) s))
