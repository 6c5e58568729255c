-- The fields still to put, stored behind the place, stay the fields of all numbers stored behind the first place.
use Prim.Native.Nat.{suc, ◌+◌}
use mathlib.Core.Path.{◌≡◌, ap, ◌∙◌}
use native.Mathlib.Numerals.{add-one}
use native.Mathlib.Omega.{arith}
use lib.ListN.{length, get_or}
use lib.Seq.{length-sets}
use Rattle.lines.specs.Text.{number_field}
use Rattle.lines.proofs.Fields.{field_short, next_end, next_stored, no_fields}
use Rattle.lines.proofs.put_numbers.Goals as goal

pub loop-n-preserved : goal.loop-n-preserved
loop-n-preserved c =
    let l = c.loop-n in
    let p = c.put_number-a in
    let ns = c.args.ns.now in
    let h = c.loop-n-test.true in
    let i = l.n-index in
    let n = get_or ns i 0 in
    let z : i + 1 ≡ suc i = add-one i in
    record {
      kept = ap length p.ensures.1 ∙ length-sets l.out l.a (number_field n) ∙ l.invariant.kept;
      room = omega (arith, field_short n, p.ensures.0, l.invariant.room, h);
      behind = rw (z, p.ensures.0) (next_end ns i h l.a ∙ l.invariant.behind);
      stored = rw (z, p.ensures.1, p.ensures.0) (next_stored ns i h l.out l.a ∙ l.invariant.stored);
    }

pub returns : goal.returns
returns c =
    let l = c.loop-n in
    let e = no_fields c.args.ns.now l.n-index (omega arith) in (
      omega (arith, ap length e, l.invariant.behind),
      rw e at l.invariant.stored,
    )
