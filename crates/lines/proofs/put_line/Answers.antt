-- The letter, the fields and the line end are stored one behind another.
use mathlib.Core.List.{[], ◌∷◌}
use Rattle.lines.specs.Text.{newline, fields}
use native.Mathlib.Omega.{arith}
use Rattle.lines.proofs.Fields.{fields_short}
use Rattle.lines.proofs.Stored.{Stored, stored, kept, then}
use Rattle.lines.proofs.put_line.Goals as goal

pub put-requires : goal.put-requires
put-requires c =
    let a = c.args in
    let g = c.put-a in
    let h = c.put_numbers-b in
    let p : Stored a.out.now a.at (a.letter ∷ []) g.new.out g.result = stored g.ensures in
    let q : Stored g.new.out g.result (fields a.ns.now) h.new.out h.result = stored h.ensures in
    omega (arith, kept p, kept q, p.behind, q.behind, fields_short a.ns.now, c.requires)

pub returns : goal.returns
returns c =
    let a = c.args in
    let g = c.put-a in
    let h = c.put_numbers-b in
    let p : Stored a.out.now a.at (a.letter ∷ []) g.new.out g.result = stored g.ensures in
    let q : Stored g.new.out g.result (fields a.ns.now) h.new.out h.result = stored h.ensures in
    let r : Stored h.new.out h.result (newline ∷ []) c.put.new.out c.put.result = stored c.put.ensures in
    let w = then (then p q) r in
    (w.behind, w.is)
