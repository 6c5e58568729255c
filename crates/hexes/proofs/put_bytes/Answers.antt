-- What was stored, with the bytes still to come stored behind it, stays what all the line's bytes stored give.
use mathlib.Core.Path.{refl}
use native.Mathlib.Omega.{arith}
use borrow.Author.Tests.{eqb-true}
use Rattle.hexes.specs.Hex.{is_hex, bytes_in, number_of}
use Rattle.hexes.proofs.Laws.{begun_ends}
use Rattle.hexes.proofs.put_bytes.Goals as goal

pub loop-c-init : goal.loop-c-init
unfolding is_hex bytes_in
loop-c-init c =
    let p = c.requires in
    record { kept = refl; counted = omega arith; is_place = tt; place = eqb-true _ _ p.s_value; bytes = omega (arith, p.s_in_bounds); stored = refl }

pub put_ended-requires-clause-c_bound : goal.put_ended-requires-clause-c_bound
put_ended-requires-clause-c_bound c =
    let l = c.loop-c in
    begun_ends c.args.s.now l.c-index (number_of l.place) c.loop-c-test.true l.invariant.place
