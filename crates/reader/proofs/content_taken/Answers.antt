-- The bytes of a run lead to the state behind the last of them.
use Prim.Native.Nat.{◌<◌}
use native.Mathlib.Omega.{arith}
use Rattle.reader.proofs.Eats.{held, ready}
use Rattle.reader.proofs.Turns.{run_turned, content_room}
use Rattle.reader.proofs.content_taken.Goals as goal

pub spot_behind-requires : goal.spot_behind-requires
spot_behind-requires c =
    let a = c.args in
    let h = held a.r c.requires.on in
    let room = content_room a.r a.code a.left c.requires.on c.requires.phase_value in
    record {
      within = omega (arith, c.content_run-m.ensures.0, room);
      bounded = h.live.bounded;
      clean = h.clean;
      inside = (ready a.r c.requires.on).spot.inside;
    }

pub returns : goal.returns
returns c =
    let a = c.args in
    let m = c.content_run-m in
    let s = c.spot_behind.ensures in
    let some : 0 < m.result = omega (arith, c.if-m-eq0.false) in
    let is = rw (s.same_form, s.same_size, s.further, s.same_levels) at c.content_from.ensures in
    run_turned a.r a.code a.left a.piece.now a.from m.result c.content_from.result c.requires.on c.requires.phase_value some
    m.ensures.0 m.ensures.1 (λ j. omega (arith, c.type_inv.piece j)) m.ensures.2 is
