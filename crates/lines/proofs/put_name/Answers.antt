-- The name's letters stand behind the tab.
use mathlib.Core.List.{[], ◌∷◌}
use mathlib.Core.Path.{ap}
use native.Mathlib.Omega.{arith}
use lib.ListN.{length}
use Rattle.item.specs.Code.{codes, found, letters, name_of}
use Rattle.lines.specs.Text.{tab}
use Rattle.lines.proofs.Named.{name_short}
use Rattle.lines.proofs.Stored.{Stored, stored, kept, then}
use Rattle.lines.proofs.put_name.Goals as goal

pub put-requires : goal.put-requires
unfolding name_of
put-requires c =
    let p : Stored c.args.out.now c.args.at (tab ∷ []) c.put-a.new.out c.put-a.result = stored c.put-a.ensures in
    omega (arith, kept p, p.behind, name_short c.args.code, ap length c.name_of.ensures, c.requires)

pub returns : goal.returns
unfolding name_of
returns c =
    let a = c.args in
    let p : Stored a.out.now a.at (tab ∷ []) c.put-a.new.out c.put-a.result = stored c.put-a.ensures in
    let q : Stored c.put-a.new.out c.put-a.result (letters (found a.code codes).name) c.put.new.out c.put.result =
    stored (rw c.name_of.ensures at c.put.ensures) in
    let w = then p q in
    (w.behind, w.is)
