-- The second line stands behind the first.
use native.Mathlib.Omega.{arith}
use lib.ListN.{length-append}
use Rattle.lines.specs.Text.{line_text}
use Rattle.lines.proofs.Stored.{Stored, stored, kept, then}
use Rattle.listing.proofs.put_told.Goals as goal

pub put_line-a-requires : goal.put_line-a-requires
put_line-a-requires c = omega (arith, length-append (line_text c.args.t.first) (line_text c.args.t.second), c.requires)

pub put_line-requires : goal.put_line-requires
put_line-requires c =
    let a = c.args in
    let p : Stored a.out.now a.at (line_text a.t.first) c.put_line-a.new.out c.put_line-a.result = stored c.put_line-a.ensures in
    omega (arith, kept p, p.behind, length-append (line_text a.t.first) (line_text a.t.second), c.requires)

pub returns : goal.returns
returns c =
    let a = c.args in
    let p : Stored a.out.now a.at (line_text a.t.first) c.put_line-a.new.out c.put_line-a.result = stored c.put_line-a.ensures in
    let q : Stored c.put_line-a.new.out c.put_line-a.result (line_text a.t.second) c.put_line.new.out c.put_line.result = stored c.put_line.ensures in
    let w = then p q in
    (w.behind, w.is)
