use Rattle.writer.proofs.FrameLaws.{frame_is}
use borrow.Author.Rules.{rules}
use Rattle.writer.proofs.frame.Goals as goal

-- `writer::frame` meets its contract.

pub returns : goal.returns
returns c =
    let k = c in
    let h = k in
    let t = h in
    let z = t in
    let q = z in
    let l = q in
    let n = l in
    let v = n in
    let s = v in
    frame_is _ _ s.requires.1.0 s.requires.1.1 _ _ _ _ _ _ _ _ _ _ _ (search rules) (search rules) v.put8.ensures n.put8-2.ensures l.put16.ensures q.put32.ensures z.put16-2.ensures t.put_offsets.ensures h.checksum-checksum.ensures k.put16-3.ensures
