-- The text's number, 19 and 17 come before anything is stored; then its rows are read and written, which nothing refuses.
use mathlib.Core.Path.{sym}
use native.Mathlib.Omega.{arith}
use borrow.Author.Tests.{ne_eqb}
use Rattle.std.proofs.lemmas.Result.{err_from_is_err_and}
use Rattle.rows.specs.Rows.{rows_in}
use Rattle.rows.proofs.Trees.{rows_fewer}
use Rattle.text.proofs.Judged.{all_bytes, judged_sound, measured_are, measured_refused, is_read}
use Rattle.writer.specs.Writing.{leaned_of}
use Rattle.writer.proofs.Leaned.{too_small, too_short, written}
use Rattle.writer.proofs.write_lean.Goals as goal

pub returns-in_err-room-clause-answer : goal.returns-in_err-room-clause-answer
unfolding leaned_of
returns-in_err-room-clause-answer c =
    let k = measured_refused _ _ (sym c.in_err-room.ensures) in
    let p = err_from_is_err_and c.from_residual.result c.from_residual.ensures.1 in
    rw (p.1, p.2, ne_eqb _ 0 k.1, k.0)

pub overflow_mul-room : goal.overflow_mul-room
overflow_mul-room c =
    let k = measured_are _ _ _ (sym c.in_ok-room.ensures) in
    let t = c.args.text.now in
    omega (arith, k.rows_are, rows_fewer (rows_in t), (judged_sound t (all_bytes t c.type_inv.text) k.good).few)

pub returns-then-table-room-clause-answer : goal.returns-then-table-room-clause-answer
returns-then-table-room-clause-answer c =
    too_small _ c.args.table.now c.args.out.now _ _ (measured_are _ _ _ (sym c.in_ok-room.ensures)) c.if-table-room.true

pub returns-then-out-room-clause-answer : goal.returns-then-out-room-clause-answer
returns-then-out-room-clause-answer c =
    too_short _ c.args.table.now c.args.out.now _ _ (measured_are _ _ _ (sym c.in_ok-room.ensures)) c.if-table-room.false c.if-out-room.true

pub returns-in_err-read-clause-answer : goal.returns-in_err-read-clause-answer
returns-in_err-read-clause-answer c =
    let e = is_read _ _ _ _ (measured_are _ _ _ (sym c.in_ok-room.ensures)) c.if-table-room.false in
    let f = c.in_err-read.ensures.answer in
    absurd cc

pub returns-clause-answer : goal.returns-clause-answer
returns-clause-answer c =
    (written c.args.text.now c.args.table.now c.args.out.now _ _ (measured_are _ _ _ (sym c.in_ok-room.ensures)) c.if-table-room.false c.if-out-room.false
    (all_bytes c.args.text.now c.type_inv.text) _ _ _ _ c.in_ok-read.ensures.answer c.in_ok-read.ensures.table c.write.ensures.answer c.write.ensures.out).0

pub returns-clause-table : goal.returns-clause-table
returns-clause-table c =
    (written c.args.text.now c.args.table.now c.args.out.now _ _ (measured_are _ _ _ (sym c.in_ok-room.ensures)) c.if-table-room.false c.if-out-room.false
    (all_bytes c.args.text.now c.type_inv.text) _ _ _ _ c.in_ok-read.ensures.answer c.in_ok-read.ensures.table c.write.ensures.answer c.write.ensures.out).1

pub returns-clause-out : goal.returns-clause-out
returns-clause-out c =
    (written c.args.text.now c.args.table.now c.args.out.now _ _ (measured_are _ _ _ (sym c.in_ok-room.ensures)) c.if-table-room.false c.if-out-room.false
    (all_bytes c.args.text.now c.type_inv.text) _ _ _ _ c.in_ok-read.ensures.answer c.in_ok-read.ensures.table c.write.ensures.answer c.write.ensures.out).2
