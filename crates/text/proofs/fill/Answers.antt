-- The rows written so far, with those of the walk that is left behind them, are the rows of the whole text.
use Prim.Native.Nat.{ℕ, ◌+◌, ◌-◌, ◌≤◌}
use mathlib.Core.Path.{◌≡◌, refl, sym, ap, ◌∙◌}
use mathlib.Core.List.{List, [], ◌∷◌}
use native.Mathlib.Omega.{arith}
use lib.ListN.{length, drop}
use lib.Seq.{sets, length-sets}
use Rattle.wire.proofs.Stores.{sets_append, part_sets}
use Rattle.rows.specs.Row.{table_of}
use Rattle.rows.specs.Rows.{rows_from}
use Rattle.rows.specs.declared.Row.{Row}
use Rattle.text.proofs.Turn.{Turn, turn, rows_end}
use Rattle.text.proofs.fill.Goals as goal

-- the turn, when the row is known and the place behind it
turned : (c : goal.After-content_size) → Turn c.args.text.now c.loop-p.p c.row_at-row.result (c.row_at-row.result.place + c.content_size.result)
turned c =
    let l = c.loop-p in
    turn _ l.p _ _ c.loop-p-test.true l.invariant.2 c.row_at-row.ensures (omega (arith, c.content_size.ensures))

pub loop-p-init : goal.loop-p-init
loop-p-init c = (omega arith, refl, c.requires.sound.ends, omega arith, refl)

pub row_at-row-requires : goal.row_at-row-requires
row_at-row-requires c =
    let l = c.loop-p in
    record { short = c.requires.sound.short; there = c.loop-p-test.true; whole = (turn _ l.p _ _ c.loop-p-test.true l.invariant.2 refl refl).header }

pub slice_bounds-copy_from_slice-end : goal.slice_bounds-copy_from_slice-end
slice_bounds-copy_from_slice-end c =
    let l = c.loop-p in
    let t = turn _ l.p c.row_at-row.result _ c.loop-p-test.true l.invariant.2 c.row_at-row.ensures refl in
    omega (arith, l.invariant.1, l.invariant.3, ap length t.rows, c.requires.text_in_bounds)

pub overflow_add-p : goal.overflow_add-p
overflow_add-p c = omega (arith, (turned c).within, c.requires.sound.short)

pub loop-p-smaller : goal.loop-p-smaller
loop-p-smaller c = let t = turned c in omega (arith, t.on, t.within)

pub loop-p-preserved : goal.loop-p-preserved
unfolding table_of
loop-p-preserved c =
    let t = turned c in
    let l = c.loop-p in
    let r = c.row_at-row.result in
    let q = r.place + c.content_size.result in
    let rest = rows_from q 0 (drop q c.args.text.now) in
    let written : c.copy_from_slice.new.self ≡ table_of (r ∷ []) = c.copy_from_slice.ensures.after ∙ c.from.ensures in
    let three : l.i + 3 - l.i ≡ 3 = omega arith in
    let fits : l.i + (l.i + 3 - l.i) ≤ length l.table = omega (arith, l.invariant.1, l.invariant.3, ap length t.rows, c.requires.text_in_bounds) in
    let w =
    part_sets l.table c.copy_from_slice.new.self l.i (l.i + 3 - l.i) (rw three (ap length written)) fits ∙ ap (sets l.table l.i) written in (
      t.within,
      ap length w ∙ length-sets l.table l.i (table_of (r ∷ [])) ∙ l.invariant.1,
      t.ends,
      omega (arith, l.invariant.3, ap length t.rows),
      ap (λ (s : List ℕ). sets s (l.i + 3) (table_of rest)) w ∙ sets_append l.table l.i (table_of (r ∷ [])) (table_of rest)
          ∙ ap (λ (rs : List Row). sets l.table l.i (table_of rs)) (sym t.rows) ∙ l.invariant.4,
    )

pub shape_of-table : goal.shape_of-table
shape_of-table c = c.loop-p.invariant.1

pub returns : goal.returns
unfolding table_of
returns c =
    let l = c.loop-p in
    ap (λ (rs : List Row). sets l.table l.i (table_of rs)) (sym (rows_end _ l.p c.loop-p-test.false)) ∙ l.invariant.4
