-- The rows and the bytes counted so far, and those of the walk that is left, are those of the whole text.
use Prim.Native.Nat.{◌+◌}
use mathlib.Core.Path.{refl, ap}
use native.Mathlib.Omega.{arith}
use lib.ListN.{length}
use Rattle.rows.specs.Row.{size_of}
use Rattle.text.proofs.Turn.{Turn, turn, rows_end}
use Rattle.text.proofs.measure_good.Goals as goal

-- the turn, when the row is known and the place behind it
turned : (c : goal.After-content_size) → Turn c.args.text.now c.loop-p.p c.row_at-row.result (c.row_at-row.result.place + c.content_size.result)
turned c =
    let l = c.loop-p in
    turn _ l.p _ _ c.loop-p-test.true l.invariant.2 c.row_at-row.ensures (omega (arith, c.content_size.ensures))

pub loop-p-init : goal.loop-p-init
loop-p-init c = (omega arith, omega arith, c.requires.ends, omega arith, omega arith)

pub row_at-row-requires : goal.row_at-row-requires
row_at-row-requires c =
    let l = c.loop-p in
    record { short = c.requires.short; there = c.loop-p-test.true; whole = (turn _ l.p _ _ c.loop-p-test.true l.invariant.2 refl refl).header }

pub overflow_add-bytes : goal.overflow_add-bytes
unfolding size_of
overflow_add-bytes c =
    let l = c.loop-p in
    let t = turn _ l.p c.row_at-row.result _ c.loop-p-test.true l.invariant.2 c.row_at-row.ensures refl in
    omega (arith, l.invariant.4, ap size_of t.rows, c.lean_size-bytes.ensures, c.requires.few)

pub overflow_add-p : goal.overflow_add-p
overflow_add-p c = omega (arith, (turned c).within, c.requires.short)

pub loop-p-smaller : goal.loop-p-smaller
loop-p-smaller c = let t = turned c in omega (arith, t.on, t.within)

pub loop-p-preserved : goal.loop-p-preserved
unfolding size_of
loop-p-preserved c =
    let t = turned c in
    let l = c.loop-p in (
      t.within,
      omega (arith, t.on, l.invariant.1),
      t.ends,
      omega (arith, l.invariant.3, ap length t.rows),
      omega (arith, l.invariant.4, ap size_of t.rows, c.lean_size-bytes.ensures),
    )

pub returns-clause-rows : goal.returns-clause-rows
returns-clause-rows c =
    let l = c.loop-p in
    omega (arith, l.invariant.3, ap length (rows_end c.args.text.now l.p c.loop-p-test.false))

pub returns-clause-bytes : goal.returns-clause-bytes
unfolding size_of
returns-clause-bytes c =
    let l = c.loop-p in
    omega (arith, l.invariant.4, ap size_of (rows_end c.args.text.now l.p c.loop-p-test.false))
