-- The digits have at most twenty bytes, and stand behind the tab.
use Prim.Native.Nat.{◌^◌, ◌<◌}
use mathlib.Core.List.{[], ◌∷◌}
use mathlib.Core.Path.{◌≡◌, ap, ◌∙◌}
use lib.ListN.{length}
use lib.Seq.{length-sets}
use Rattle.lines.specs.Text.{tab}
use native.Mathlib.Omega.{arith}
use Rattle.lines.proofs.Numbered.{digits_short, field_end, field_stored}
use borrow.Author.Rules.{rules}
use Rattle.lines.proofs.put_number.Goals as goal

pub put-requires : goal.put-requires
put-requires c =
    let d = c.decimal-k in
    let a = c.args in
    let small : a.n < 2 ^ 64 = search rules in
    let p = c.put-a in
    let l : length p.new.out ≡ length a.out.now = ap length p.ensures.1 ∙ length-sets a.out.now a.at (tab ∷ []) in
    omega (arith, digits_short a.n d.result _ small d.ensures.len d.ensures.digits, l, p.ensures.0, c.requires)

pub returns : goal.returns
returns c =
    let d = c.decimal-k in
    let a = c.args in
    let p = c.put-a in
    let q = c.put in
    let small : a.n < 2 ^ 64 = search rules in
    let f = d.ensures.len in
    let e = d.ensures.digits in (
      field_end a.n d.result _ small f e a.out.now _ _ a.at p.result q.result p.ensures.0 p.ensures.1 q.ensures.0 q.ensures.1,
      field_stored a.n d.result _ small f e a.out.now _ _ a.at p.result q.result p.ensures.0 p.ensures.1 q.ensures.0 q.ensures.1,
    )
