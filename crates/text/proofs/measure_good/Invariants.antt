-- The rows and the bytes counted so far, and those of the walk that is left, are those of the whole text.
use Prim.Native.Nat.{◌+◌, ◌-◌, ◌≤◌}
use mathlib.Core.Path.{◌≡◌}
use lib.ListN.{length, drop}
use Rattle.rows.specs.Row.{size_of}
use Rattle.rows.specs.Rows.{rows_from, rows_in}
use Rattle.rows.specs.Asked.{Ends}
use Rattle.text.proofs.measure_good.Given as goal

abbrev pub invariant-loop-p : goal.invariant-loop-p
invariant-loop-p l =
    (l.p ≤ length l.text)
    × (l.rows ≤ l.p)
    × Ends 0 (drop l.p l.text)
    × (l.rows + length (rows_from l.p 0 (drop l.p l.text)) ≡ length (rows_in l.text))
    × (l.bytes + size_of (rows_from l.p 0 (drop l.p l.text)) ≡ size_of (rows_in l.text))

abbrev pub decreases-loop-p : goal.decreases-loop-p
decreases-loop-p l = length l.text - l.p
