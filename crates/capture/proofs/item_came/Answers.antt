-- The number of an item's length bytes is small, since the list allows the reader.
use Rattle.std.proofs.Common.{◌≡◌, ◌<◌, length, arith, rules}
use Rattle.capture.proofs.Texts.{length_small}
use Rattle.capture.proofs.item_came.Goals as goal

pub overflow_mul-result : goal.overflow_mul-result
overflow_mul-result c =
    let r = c.args.text in
    let full : length r.awaited ≡ 16 = search rules in
    omega (arith, length_small r _ _ _ full c.requires c.in-Length.is c.if-left-eq1.true)

pub overflow_add-result : goal.overflow_add-result
overflow_add-result c =
    let r = c.args.text in
    let full : length r.awaited ≡ 16 = search rules in
    let byte : c.args.b < 256 = search rules in
    omega (arith, length_small r _ _ _ full c.requires c.in-Length.is c.if-left-eq1.true, byte)
