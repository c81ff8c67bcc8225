use Rattle.std.proofs.Common.{◌≡◌, ◌+◌, ◌*◌, ◌<◌, sym, ap, ◌∙◌, arith, rules}
use Rattle.field.specs.Field.{be}
use Rattle.opening.specs.Opening.{bucket_of, hint_of}
use Rattle.opening.proofs.ReadLaws.{opening-room, first-room, symbol-number, bucket-high, hint-read, hint_holds, hint_fails}
use Rattle.opening.proofs.find.Goals as goal

pub get8-count-requires : goal.get8-count-requires
get8-count-requires c = omega (arith, opening-room _ c.requires.0)

pub get8-k-requires : goal.get8-k-requires
get8-k-requires c = omega (arith, c.hint_at.ensures.1, first-room _ c.requires.0)

-- the symbol's bytes as one number

-- the hint is that of its bucket

pub returns-then-is_place : goal.returns-then-is_place
returns-then-is_place c =
    let number : be c.args.symbol.now ≡ c.get64-high.result * 16777216 + (c.get16-middle.result * 256 + c.get8-low.result) =
    symbol-number _ _ _ _ c.requires.1 c.get64-high.ensures c.get16-middle.ensures c.get8-low.ensures in
    let hint : c.get8-k.result ≡ hint_of c.args.book.now (be c.args.symbol.now) =
    let m : c.get16-middle.result < 65536 = search rules in
    let o : c.get8-low.result < 256 = search rules in
    hint-read _ _ _ _ _ (ap bucket_of number ∙ bucket-high _ _ _ m o) c.hint_at.ensures.0 c.get8-k.ensures in
    hint_holds _ _ _ _ (sym number) hint _ c.is_place.ensures c.if-is_place.true

pub returns : goal.returns
returns c =
    let number : be c.args.symbol.now ≡ c.get64-high.result * 16777216 + (c.get16-middle.result * 256 + c.get8-low.result) =
    symbol-number _ _ _ _ c.requires.1 c.get64-high.ensures c.get16-middle.ensures c.get8-low.ensures in
    let hint : c.get8-k.result ≡ hint_of c.args.book.now (be c.args.symbol.now) =
    let m : c.get16-middle.result < 65536 = search rules in
    let o : c.get8-low.result < 256 = search rules in
    hint-read _ _ _ _ _ (ap bucket_of number ∙ bucket-high _ _ _ m o) c.hint_at.ensures.0 c.get8-k.ensures in
    hint_fails _ _ _ _ (sym number) hint _ c.is_place.ensures _ c.if-is_place.false c.first.ensures
