-- The rows and the content behind the record's fields, written into as much of a blank output as they say.
use Rattle.std.proofs.Common.{◌≡◌, ◌≤◌, ◌+◌, ◌*◌, rules, drop, take, length, append_assoc, arith}
use borrow.Author.Tests.{le-ltb}
use Rattle.std.specs.Prelude.{codes}
use Rattle.std.proofs.lemmas.List.{take_rest, length-take-le}
use Rattle.std.proofs.lemmas.Result.{IfOk-equal}
use Rattle.refusal.specs.Answer.{counted_in}
use Rattle.wire.specs.Lent.{out_after}
use Rattle.records.specs.Fields.{field_of, blank}
use Rattle.rows.specs.Row.{rows_of, text_of}
use Rattle.writer.specs.Writing.{written_of}
use Rattle.driver.proofs.Fields.{wrote_counted}
use Rattle.texts.specs.Records.{front, table_in}
use Rattle.texts.proofs.Records.{table_told}
use Rattle.texts.proofs.write.Goals as goal

pub returns : goal.returns
returns c =
    let b = c.args.b.now in
    let n = c.field_at-count.result in
    let m = c.field_at.result in
    let count = c.field_at-count.ensures.number in
    let content = take_rest b (3 + 4 * n) in
    let most : n ≤ 255 = omega (arith, c.field_at-count.ensures.fits) in
    let table = table_told b n _ c.words_in.new.out most c.if-b-from.false (omega arith) c.words_in.ensures in
    let size = length-take-le m c.blank-out.result (omega (arith, c.field_at.ensures.fits, c.blank-out.ensures.1)) in
    let short = le-ltb (length b) (front b) (rw count at c.if-b-from.false) in
    let answer : counted_in c.write.result ≡ written_of (table_in b) (drop (front b) b) (field_of 2 b 0) = cc in
    let out : c.write.new.out ≡ out_after (counted_in c.write.result) (text_of (drop (front b) b) (rows_of (table_in b))) (take (field_of 2 b 0) blank) = cc in
    let first = wrote_counted c.args.stdout.now c.write-2.new.self (codes "written") c.write.result c.in_ok-write.ensures.writes in
    rw (short, ← answer, ← out) (search (rules, IfOk-equal, append_assoc))
