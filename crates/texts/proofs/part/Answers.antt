-- The number and the part are those of the text behind the row's three numbers.
use Rattle.std.proofs.Common.{◌≡◌, ◌++◌, rules, refl, Bor, take, ◌-◌, List, ℕ, drop, length, append_assoc, ap, ◌∙◌}
use borrow.Author.Tests.{le-ltb}
use Rattle.std.specs.Prelude.{codes, decimal}
use Rattle.std.proofs.lemmas.List.{take_rest}
use Rattle.std.proofs.lemmas.Result.{IfOk-equal}
use Rattle.text.specs.Text.{part_number, part_of}
use Rattle.rows.specs.Row.{row}
use Rattle.driver.proofs.Fields.{wrote}
use Rattle.texts.specs.Records.{row_in}
use Rattle.texts.proofs.Records.{part_told}
use Rattle.texts.proofs.part.Goals as goal

pub returns : goal.returns
returns c =
    let b = c.args.b.now in
    let content = take_rest b 12 in
    let row_is : row c.field_at.result c.field_at-2.result c.field_at-3.result ≡ row_in b =
    rw (c.field_at.ensures.number, c.field_at-2.ensures.number, c.field_at-3.ensures.number) in
    let number : c.number.result ≡ part_number (drop 12 b) (row_in b) = cc in
    let u = take (length b - 12) (drop 12 b) in
    let q = row c.field_at.result c.field_at-2.result c.field_at-3.result in
    let part = part_told u q c.part-content.result _ refl c.part-content.ensures.number c.part-content.ensures.part in
    let told : c.unwrap_or.result.now ≡ part_of (drop 12 b) (row_in b) =
    ap (λ (p : Bor (List ℕ)). p.now) c.unwrap_or.ensures ∙ part ∙ rw (content, row_is) in
    let first = wrote c.args.stdout.now c.write.new.self (codes "part\t" ++ decimal c.number.result) c.in_ok-write.ensures.writes in
    rw (le-ltb (length b) 12 c.if-b-lt12.false, ← number, ← told) (search (rules, IfOk-equal, append_assoc))
