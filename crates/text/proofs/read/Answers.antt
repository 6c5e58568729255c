-- The number, or 19 where three numbers a row do not fit, or the rows and behind them the table as it was.
use Prim.Native.Nat.{ℕ, ◌*◌}
use mathlib.Core.Path.{sym, ap, ◌∙◌}
use native.Mathlib.Omega.{arith}
use borrow.Author.Tests.{ne_eqb}
use Rattle.std.proofs.lemmas.Result.{err_from_is_err_and}
use Rattle.wire.proofs.Stores.{part_sets}
use Rattle.rows.specs.Row.{table_of}
use Rattle.rows.specs.Rows.{rows_in}
use Rattle.rows.proofs.Tables.{table_length}
use Rattle.rows.proofs.Trees.{rows_fewer}
use Rattle.text.specs.Text.{read_of}
use Rattle.text.proofs.Judged.{all_bytes, judged_sound, measured_are, measured_refused, too_small, is_read}
use Rattle.text.proofs.read.Goals as goal

pub overflow_mul-rows : goal.overflow_mul-rows
overflow_mul-rows c =
    let k = measured_are _ _ _ (sym c.in_ok-rows.ensures) in
    let sound = judged_sound _ (all_bytes c.args.text.now c.type_inv.text) k.good in
    omega (arith, k.rows_are, rows_fewer (rows_in c.args.text.now), sound.few)

pub returns-in_err-rows-clause-answer : goal.returns-in_err-rows-clause-answer
unfolding read_of
returns-in_err-rows-clause-answer c =
    let k = measured_refused _ _ (sym c.in_err-rows.ensures) in
    let p = err_from_is_err_and c.from_residual.result c.from_residual.ensures.1 in
    rw (p.1, p.2, ne_eqb _ 0 k.1, k.0)

pub returns-then-table-rows-clause-answer : goal.returns-then-table-rows-clause-answer
returns-then-table-rows-clause-answer c = too_small _ _ _ _ (measured_are _ _ _ (sym c.in_ok-rows.ensures)) c.if-table-rows.true

pub fill-requires-clause-sound : goal.fill-requires-clause-sound
fill-requires-clause-sound c = judged_sound _ (all_bytes c.args.text.now c.type_inv.text) (measured_are _ _ _ (sym c.in_ok-rows.ensures)).good

pub fill-requires-clause-text_in_bounds : goal.fill-requires-clause-text_in_bounds
fill-requires-clause-text_in_bounds c = omega (arith, (measured_are _ _ _ (sym c.in_ok-rows.ensures)).rows_are, c.if-table-rows.false)

pub returns-clause-answer : goal.returns-clause-answer
returns-clause-answer c = is_read _ _ _ _ (measured_are _ _ _ (sym c.in_ok-rows.ensures)) c.if-table-rows.false

pub returns-clause-table : goal.returns-clause-table
returns-clause-table c =
    let k = measured_are _ _ _ (sym c.in_ok-rows.ensures) in
    let a = c.args in
    let rows = rows_in a.text.now in
    let n = table_length rows ∙ ap (λ (n : ℕ). 3 * n) (sym k.rows_are) in
    c.fill.ensures ∙ sym (part_sets a.table.now (table_of rows) 0 _ n (omega (arith, c.if-table-rows.false)))
