-- The invariant: each of the first i slots is allowed. One that is not allowed is enough against the table.
use Rattle.std.proofs.Common.{◌≡◌, refl, sym, arith}
use Rattle.allowed.specs.Slots.{allows_first, allows_slots}
use Rattle.allowed.proofs.Slots.{allows_more, allows_fails}
use Rattle.allowed.proofs.allows_slots.Goals as goal

pub loop-i-init : goal.loop-i-init
unfolding allows_first
loop-i-init c = refl

pub returns-then-not-allows_slot : goal.returns-then-not-allows_slot
unfolding allows_slots
returns-then-not-allows_slot c = sym (allows_fails c.args.slots 32 c.loop-i.i (omega arith) cc)

pub loop-i-preserved : goal.loop-i-preserved
loop-i-preserved c = allows_more c.args.slots c.loop-i.i c.loop-i.invariant cc

pub returns : goal.returns
unfolding allows_slots
returns c =
    let e : c.loop-i.i ≡ 32 = omega arith in
    sym (rw e at c.loop-i.invariant)
