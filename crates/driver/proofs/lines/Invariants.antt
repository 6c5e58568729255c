-- Each turn goes on behind a line's end; what the lines that are left make of the program and the output, all make.
use Rattle.std.proofs.Common.{◌+◌, ◌-◌, ◌≤◌, ℕ, List, length, drop, map}
use Rattle.records.specs.Lines.{lines_of}
use Rattle.driver.specs.Input.{line_of, lines_make}
use Rattle.driver.proofs.lines.Given as goal

abbrev pub invariant-loop-at : goal.invariant-loop-at
invariant-loop-at g l = record {
  within : l.at ≤ length l.input + 1;
  left :
      (y : g.row.P.Denot × List ℕ) → lines_make g.P.Program.makes (l.program, l.stdout.said) (map line_of (lines_of (drop l.at l.input))) y
      → lines_make g.P.Program.makes (l.fn.program, l.fn.stdout.said) (map line_of (lines_of l.input)) y;
}

abbrev pub decreases-loop-at : goal.decreases-loop-at
decreases-loop-at g l = length l.input + 1 - l.at
