-- The lean form of the text behind the record's fields, in as much of a blank output as they say.
use Rattle.std.proofs.Common.{◌≡◌, ◌-◌, rules, drop, take, length, append_assoc, arith}
use borrow.Author.Tests.{le-ltb}
use Rattle.std.specs.Prelude.{codes}
use Rattle.std.proofs.lemmas.List.{take_rest, length-take-le}
use Rattle.std.proofs.lemmas.Result.{IfOk-equal}
use Rattle.refusal.specs.Answer.{counted_in}
use Rattle.wire.specs.Lent.{out_after}
use Rattle.records.specs.Fields.{field_of, blank}
use Rattle.rows.specs.Row.{text_of}
use Rattle.rows.specs.Rows.{rows_in}
use Rattle.writer.specs.Writing.{leaned_of}
use Rattle.driver.proofs.Fields.{wrote_counted}
use Rattle.texts.proofs.Records.{sevens, sevens_length}
use Rattle.texts.proofs.lean.Goals as goal

pub returns : goal.returns
returns c =
    let b = c.args.b.now in
    let t = drop 3 b in
    let n = c.field_at.result in
    let m = c.field_at-2.result in
    let behind = take_rest b 3 in
    let numbers = sevens_length n (omega (arith, c.field_at.ensures.fits)) in
    let size = length-take-le m c.blank-out.result (omega (arith, c.field_at-2.ensures.fits, c.blank-out.ensures.1)) in
    let told : counted_in c.write_lean.result ≡ leaned_of (take (length b - 3) t) (length (take n sevens)) (length (take m c.blank-out.result)) =
    c.write_lean.ensures.answer in
    let answer : counted_in c.write_lean.result ≡ leaned_of t (field_of 1 b 0) (field_of 2 b 1) = cc in
    let out : c.write_lean.new.out ≡ out_after (counted_in c.write_lean.result) (text_of t (rows_in t)) (take (field_of 2 b 1) blank) = cc in
    let first = wrote_counted c.args.stdout.now c.write.new.self (codes "lean") c.write_lean.result c.in_ok-write.ensures.writes in
    rw (le-ltb (length b) 3 c.if-b-lt3.false, ← answer, ← out) (search (rules, IfOk-equal, append_assoc))
