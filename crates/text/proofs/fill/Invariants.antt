-- The rows written so far, with those of the walk that is left behind them, are the rows of the whole text.
use Prim.Native.Nat.{◌+◌, ◌*◌, ◌-◌, ◌≤◌}
use mathlib.Core.Path.{◌≡◌}
use lib.ListN.{length, drop}
use lib.Seq.{sets}
use Rattle.rows.specs.Row.{table_of}
use Rattle.rows.specs.Rows.{rows_from, rows_in}
use Rattle.rows.specs.Asked.{Ends}
use Rattle.text.proofs.fill.Given as goal

abbrev pub invariant-loop-p : goal.invariant-loop-p
invariant-loop-p l =
    (l.p ≤ length l.text)
    × (length l.table ≡ length l.initial.table)
    × Ends 0 (drop l.p l.text)
    × (l.i + 3 * length (rows_from l.p 0 (drop l.p l.text)) ≡ 3 * length (rows_in l.text))
    × (sets l.table l.i (table_of (rows_from l.p 0 (drop l.p l.text))) ≡ sets l.initial.table 0 (table_of (rows_in l.text)))

abbrev pub decreases-loop-p : goal.decreases-loop-p
decreases-loop-p l = length l.text - l.p
