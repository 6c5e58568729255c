-- The device with its slot is kept.
use Rattle.std.proofs.Common.{◌≡◌, ◌∙◌, ◌-◌, ap, arith, length, drop, length-drop}
use lib.Seq.{take_all}
use Rattle.sessions.specs.Records.{with_device, with_slot, slot_in}
use Rattle.sessions.proofs.Kept.{by_hand, received_at, own_at}
use Rattle.sessions.proofs.Sessions.slot.Goals as goal
use Rattle.sessions.proofs.Sessions.slot.Goals.{then-b-eq0, else-b-eq0}

pub returns : goal.returns
returns c =
    let kept = c.args.self.now.session in
    let d = kept.device in
    let b = c.args.b.now in
    let s = c.slot_in-slot in
    let is = s.ensures ∙ ap slot_in (take_all (length b - 2) (drop 2 b) (omega (arith, length-drop 2 b))) in
    let device : c.if-b-eq0.self ≡ with_slot d b = elim c.if-b-eq0.branch [
      | then-b-eq0 w ↦ received_at d _ b _ s.result is w.if-b-eq0.true w.with_slot.ensures (w.self-is ∙ w.with_received-self.ensures)
      | else-b-eq0 w ↦ own_at d _ b _ s.result is w.if-b-eq0.false w.with_slot-else-b-eq0.ensures (w.self-is ∙ w.with_own-self.ensures)
    ] in
    by_hand c.changed.result c.args.self.now c.args.stdout.now.said b _ 9 (omega arith) (ap (with_device kept) device) c.changed.ensures
