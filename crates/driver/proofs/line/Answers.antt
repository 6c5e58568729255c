-- A record's bytes are all that the line says; where it says none, it is bad.
use Rattle.std.proofs.Common.{◌≤◌, take, length, sym, ap, ◌∙◌, arith}
use borrow.Author.Tests.{ne_eqb}
use Rattle.std.proofs.lemmas.List.{take_at}
use Rattle.std.proofs.lemmas.Result.{on_ok_weaker}
use Rattle.hexes.specs.Hex.{bytes_in}
use Rattle.hexes.proofs.Told.{told_ok, told_err}
use Rattle.driver.proofs.Walk.{is_record, is_bad, only_makes, record_makes}
use Rattle.driver.proofs.line.Goals as goal

pub returns-in-Ok : goal.returns-in-Ok
returns-in-Ok g c =
    let s = c.in-Some.hex.now in
    let n = c.in-Ok.n in
    let told = told_ok s (length c.room-said.result) n (sym c.in-Ok.ensures.said) in
    let bytes = ap (take n) c.in-Ok.ensures.output ∙ take_at (bytes_in s) _ n (sym told.1) in
    let other = ne_eqb c.in-Some.letter.now 0x23 c.if-letter-eq35.false in
    let is = is_record c.in-Some.letter.now s c.in-Some.ensures.cases.0 other told.0 in
    on_ok_weaker c.record.result (record_makes g.P.Program.makes (c.args.program.now, c.args.stdout.now.said) is bytes) c.record.ensures

pub returns-in-Err : goal.returns-in-Err
returns-in-Err g c =
    let s = c.in-Some.hex.now in
    let most : length s ≤ length c.room-said.result = omega (arith, c.requires, c.in-Some.ensures.cases.1, c.room-said.ensures.1) in
    let told = told_err s (length c.room-said.result) c.in-Err.field-0 most (sym c.in-Err.ensures.said) in
    let other = ne_eqb c.in-Some.letter.now 0x23 c.if-letter-eq35.false in
    let is = is_bad c.in-Some.letter.now s c.in-Some.ensures.cases.0 other told in
    on_ok_weaker c.bad.result (only_makes g.P.Program.makes (c.args.program.now, c.args.stdout.now.said) is) c.bad.ensures
