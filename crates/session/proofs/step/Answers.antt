-- A state that the gates let through has received slots that the list allows.
use Rattle.std.proofs.Common.{sym}
use Rattle.allowed.proofs.States.{holds}
use Rattle.session.proofs.Gates.{passed}
use Rattle.session.proofs.step.Goals as goal

pub on_event-requires : goal.on_event-requires
on_event-requires c = (holds c.args.s (passed c.args.s _ _ (sym c.in-Ok.ensures)).0).device.received
