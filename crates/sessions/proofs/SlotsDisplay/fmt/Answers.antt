-- A slot that is taken is written behind those before it.
use Rattle.std.proofs.Common.{arith, refl, true}
use Rattle.std.proofs.lemmas.Grind.{common_steps}
use Rattle.sessions.specs.Records.{slots_first}
use Rattle.sessions.proofs.Printed.{more, no_more}
use Rattle.sessions.proofs.Printing.{slot_written, slot_more, slot_none}
use Rattle.sessions.proofs.SlotsDisplay.fmt.Goals as goal
use Rattle.sessions.proofs.SlotsDisplay.fmt.Goals.{then-x+in_ok-write, else-x}

pub loop-place-init : goal.loop-place-init
unfolding slots_first
loop-place-init g c = grind (arith, common_steps)

pub loop-place-preserved : goal.loop-place-preserved
loop-place-preserved g c =
    let s = c.args.self.now in
    let k = c.loop-place.place-counter in
    elim c.if-x.branch [
      | then-x+in_ok-write w ↦ λ p.
          more (c.loop-place.invariant p) {h = w.write.new.self} {b = slot_written s.word.now s.slots.now k}
          (λ q. w.in_ok-write.ensures.writes q (refl {a = true})) w.f-is (slot_more s.word.now s.slots.now k w.if-x.true)
      | else-x w ↦ λ p. no_more (c.loop-place.invariant p) w.f-is (slot_none s.word.now s.slots.now k w.if-x.false)
    ]
