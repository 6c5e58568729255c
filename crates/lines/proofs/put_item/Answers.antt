-- The letter, the depth, the name, the length and the line end are stored one behind another.
use mathlib.Core.List.{[], ◌∷◌}
use native.Mathlib.Omega.{arith}
use Rattle.lines.specs.Text.{newline, number_field, name_field, item_line}
use Rattle.lines.proofs.Fields.{field_short}
use Rattle.lines.proofs.Named.{name_short}
use Rattle.lines.proofs.Stored.{Stored, stored, kept, then}
use Rattle.lines.proofs.put_item.Goals as goal

pub put_name-c-requires : goal.put_name-c-requires
put_name-c-requires c =
    let a = c.args in
    let p : Stored a.out.now a.at (0x49 ∷ []) c.put-a.new.out c.put-a.result = stored c.put-a.ensures in
    let q : Stored c.put-a.new.out c.put-a.result (number_field a.depth) c.put_number-b.new.out c.put_number-b.result = stored c.put_number-b.ensures in
    omega (arith, kept p, kept q, p.behind, q.behind, field_short a.depth, c.requires)

pub put_number-d-requires : goal.put_number-d-requires
put_number-d-requires c =
    let a = c.args in
    let p : Stored a.out.now a.at (0x49 ∷ []) c.put-a.new.out c.put-a.result = stored c.put-a.ensures in
    let q : Stored c.put-a.new.out c.put-a.result (number_field a.depth) c.put_number-b.new.out c.put_number-b.result = stored c.put_number-b.ensures in
    let r : Stored c.put_number-b.new.out c.put_number-b.result (name_field a.code) c.put_name-c.new.out c.put_name-c.result = stored c.put_name-c.ensures in
    omega (arith, kept p, kept q, kept r, p.behind, q.behind, r.behind, field_short a.depth, name_short a.code, c.requires)

pub put-requires : goal.put-requires
put-requires c =
    let a = c.args in
    let p : Stored a.out.now a.at (0x49 ∷ []) c.put-a.new.out c.put-a.result = stored c.put-a.ensures in
    let q : Stored c.put-a.new.out c.put-a.result (number_field a.depth) c.put_number-b.new.out c.put_number-b.result = stored c.put_number-b.ensures in
    let r : Stored c.put_number-b.new.out c.put_number-b.result (name_field a.code) c.put_name-c.new.out c.put_name-c.result = stored c.put_name-c.ensures in
    let t : Stored c.put_name-c.new.out c.put_name-c.result (number_field a.size) c.put_number-d.new.out c.put_number-d.result =
    stored c.put_number-d.ensures in
    omega (
      arith,
      kept p,
      kept q,
      kept r,
      kept t,
      p.behind,
      q.behind,
      r.behind,
      t.behind,
      field_short a.depth,
      name_short a.code,
      field_short a.size,
      c.requires,
    )

pub returns : goal.returns
unfolding item_line
returns c =
    let a = c.args in
    let p : Stored a.out.now a.at (0x49 ∷ []) c.put-a.new.out c.put-a.result = stored c.put-a.ensures in
    let q : Stored c.put-a.new.out c.put-a.result (number_field a.depth) c.put_number-b.new.out c.put_number-b.result = stored c.put_number-b.ensures in
    let r : Stored c.put_number-b.new.out c.put_number-b.result (name_field a.code) c.put_name-c.new.out c.put_name-c.result = stored c.put_name-c.ensures in
    let t : Stored c.put_name-c.new.out c.put_name-c.result (number_field a.size) c.put_number-d.new.out c.put_number-d.result =
    stored c.put_number-d.ensures in
    let u : Stored c.put_number-d.new.out c.put_number-d.result (newline ∷ []) c.put.new.out c.put.result = stored c.put.ensures in
    let w = then p (then q (then r (then t u))) in
    (w.behind, w.is)
