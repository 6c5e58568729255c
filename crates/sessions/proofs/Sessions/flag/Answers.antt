-- The device with its flag is kept.
use Rattle.std.proofs.Common.{ap, arith}
use Rattle.sessions.specs.Records.{with_device}
use Rattle.sessions.proofs.Kept.{by_hand}
use Rattle.sessions.proofs.Sessions.flag.Goals as goal

pub returns : goal.returns
returns c =
    let kept = c.args.self.now.session in
    let device = c.with_flag-self.ensures in
    by_hand c.changed.result c.args.self.now c.args.stdout.now.said c.args.b.now _ 2 (omega arith) (ap (with_device kept) device) c.changed.ensures
