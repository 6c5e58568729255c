-- The line at the place, and then the lines that are left.
use Rattle.std.proofs.Common.{ℕ, List, arith}
use Rattle.driver.proofs.Walk.{then_makes}
use Rattle.driver.proofs.lines.Goals as goal

pub loop-at-preserved : goal.loop-at-preserved
loop-at-preserved g c =
    let before : g.row.P.Denot × List ℕ = (c.loop-at.program, c.loop-at.stdout.said) in
    let behind : g.row.P.Denot × List ℕ = (c.line.new.program, c.line.new.stdout.said) in
    let end = c.line_end-end.result in
    let found = c.line_end-end.ensures.found in
    let line = then_makes g.P.Program.makes before c.args.input.now c.loop-at.at end behind c.loop-at-test.true found c.in_ok-line.ensures in
    record {
      within = omega (arith, c.line_end-end.ensures.high);
      left = λ y n. c.loop-at.invariant.left y (line y n);
    }
