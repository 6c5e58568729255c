-- The answer, and then the table's numbers one after another.
use Rattle.std.proofs.Common.{rules, append_assoc, ◌≤◌, ap, arith, take, length, ◌≡◌, ◌∙◌}
use Rattle.std.specs.Prelude.{codes}
use Rattle.refusal.specs.Answer.{counted_in}
use Rattle.text.specs.Text.{read_of, table_after}
use Rattle.std.proofs.lemmas.Result.{IfOk-equal}
use Rattle.driver.proofs.Fields.{wrote, wrote_counted}
use Rattle.std.proofs.lemmas.List.{take_all}
use Rattle.texts.proofs.Records.{numbers_turn, sevens, sevens_are, sevens_length}
use Rattle.texts.proofs.read.Goals as goal

pub loop-number-preserved : goal.loop-number-preserved
loop-number-preserved c =
    numbers_turn c.write.new.self.said c.read.new.table c.loop-number.number-index c.loop-number-test.true c.loop-number.invariant
    (wrote c.loop-number.stdout c.write-in-loop-number.new.self _ c.in_ok-write-2.ensures.writes)

pub returns : goal.returns
returns c =
    let s = c.args.stdout.now.said in
    let n = c.in-Some.room.now in
    let t = c.in-Some.t.now in
    let most : n ≤ 255 = omega (arith, c.type_inv.b 0) in
    let told : counted_in c.read.result ≡ read_of t (length (take n sevens)) = c.read.ensures.answer in
    let answer = told ∙ ap (read_of t) (sevens_length n most) in
    let after : c.read.new.table ≡ table_after (counted_in c.read.result) t (take n sevens) = c.read.ensures.table in
    let table = after ∙ ap (table_after (counted_in c.read.result) t) (sevens_are n most) in
    let all = take_all c.loop-number.number-index c.read.new.table c.loop-number-test.false ∙ table in
    let first = wrote_counted c.args.stdout.now c.write.new.self (codes "read") c.read.result c.in_ok-write.ensures.writes in
    rw (c.in-Some.ensures.cases.0, ← answer, ← all) (search (rules, IfOk-equal, append_assoc))
