-- What is printed of the answer.
use Rattle.std.proofs.Common.{◌≡◌, drop, length}
use borrow.Author.Tests.{le-ltb}
use Rattle.std.proofs.lemmas.List.{take_rest}
use Rattle.std.proofs.lemmas.Result.{on_ok_weaker}
use Rattle.records.specs.Fields.{field_of}
use Rattle.element.specs.Got.{got_in}
use Rattle.element.specs.Element.{got_of}
use Rattle.elements.proofs.Printed.{answer_got, said}
use Rattle.elements.proofs.get.Goals as goal

pub returns : goal.returns
returns c =
    let b = c.args.b.now in
    let content = take_rest b 8 in
    let got : got_in c.get.result ≡ got_of (field_of 4 b 0) (drop 8 b) (field_of 4 b 4) = cc in
    let printed = answer_got c.get.result c.map.result c.map.ensures.cases in
    rw (le-ltb (length b) 8 c.if-b-lt8.false, ← got)
    (on_ok_weaker c.writeln.result (said c.args.stdout.now c.writeln.new.self _ _ (rw printed)) c.writeln.ensures.writes)
