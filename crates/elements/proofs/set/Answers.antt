-- What is printed of the answer, and of the content.
use Rattle.std.proofs.Common.{◌≡◌, ◌++◌, rules, refl, drop, length, append_assoc}
use Rattle.std.specs.Prelude.{codes, decimal}
use borrow.Author.Tests.{le-ltb}
use Rattle.std.proofs.lemmas.List.{take_rest}
use Rattle.std.proofs.lemmas.Result.{IfOk-equal}
use Rattle.records.specs.Fields.{field_of}
use Rattle.element.specs.Element.{set_of}
use Rattle.elements.specs.Records.{element_of}
use Rattle.elements.proofs.Printed.{said}
use Rattle.elements.proofs.set.Goals as goal

pub returns : goal.returns
returns c =
    let b = c.args.b.now in
    let content = take_rest b 17 in
    let answer = set_of (field_of 4 b 0) (drop 17 b) (field_of 4 b 4) (element_of (field_of 1 b 8) (field_of 8 b 9)) in
    let number : c.number-number.result ≡ answer.0 = cc in
    let after : c.set.new.content ≡ answer.1 = cc in
    let first = said c.args.stdout.now c.write.new.self _ (codes "set\t" ++ decimal c.number-number.result) refl c.in_ok-write.ensures.writes in
    rw (le-ltb (length b) 17 c.if-b-lt17.false, ← number, ← after) (search (rules, IfOk-equal, append_assoc))
