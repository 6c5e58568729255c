-- The text is stored from place 0, and behind it the output is as it was.
use mathlib.Core.Path.{◌≡◌, sym, ap, ◌∙◌}
use mathlib.Core.List.{List}
use native.Mathlib.Omega.{arith}
use lib.ListN.{length}
use lib.Seq.{sets}
use Rattle.wire.proofs.Stores.{part_sets}
use Rattle.rows.specs.declared.Row.{Row}
use Rattle.rows.specs.Row.{rows_of, text_of, size_of}
use Rattle.writer.proofs.OneItem.{sized}
use Rattle.writer.proofs.write.Goals as goal

pub returns-clause-out : goal.returns-clause-out
returns-clause-out c =
    let s = c.args.content.now in
    let out = c.args.out.now in
    let t = text_of s (rows_of c.args.table.now) in
    let rows = c.rows_of-rows.ensures in
    let n : length t ≡ c.in_ok-size.size = sized s c.args.table.now (sym c.in_ok-judge_table.ensures) ∙ sym (c.in_ok-size.ensures.0 ∙ ap size_of rows) in
    c.put_rows.ensures ∙ ap (λ (rs : List Row). sets out 0 (text_of s rs)) rows
    ∙ sym (part_sets out t 0 c.in_ok-size.size n (omega (arith, c.if-out-size.false)))
