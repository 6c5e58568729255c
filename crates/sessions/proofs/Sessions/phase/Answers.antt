-- The link with its phase is kept.
use Rattle.std.proofs.Common.{◌∙◌, ap, arith}
use Rattle.state.specs.State.{with_phase}
use Rattle.sessions.specs.Records.{with_link}
use Rattle.sessions.proofs.Kept.{by_hand}
use Rattle.sessions.proofs.Sessions.phase.Goals as goal

pub returns : goal.returns
returns c =
    let kept = c.args.self.now.session in
    let link = c.with_phase-self.ensures ∙ ap (with_phase kept.link) c.phase_in-phase.ensures in
    by_hand c.changed.result c.args.self.now c.args.stdout.now.said c.args.b.now _ 1 (omega arith) (ap (with_link kept) link) c.changed.ensures
