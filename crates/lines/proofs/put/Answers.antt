-- The bytes cover the part that is lent for them.
use Prim.Native.Nat.{◌+◌, ◌-◌}
use mathlib.Core.Path.{◌≡◌, refl}
use native.Mathlib.Omega.{arith}
use lib.ListN.{length}
use Rattle.wire.proofs.Stores.{part_sets}
use Rattle.lines.proofs.put.Goals as goal

pub returns : goal.returns
returns c =
    let a = c.args in
    let n = length a.s.now in
    let e : a.at + n - a.at ≡ n = omega arith in
    (refl, rw (c.copy_from_slice.ensures.after, e) (part_sets a.out.now a.s.now a.at n refl c.requires))
