-- The link with its next own number is kept.
use Rattle.std.proofs.Common.{◌∙◌, ap, arith}
use Rattle.sessions.specs.Records.{with_link}
use Rattle.state.specs.State.{with_next}
use Rattle.sessions.proofs.Kept.{by_hand}
use Rattle.sessions.proofs.Sessions.number.Goals as goal

pub returns : goal.returns
returns c =
    let kept = c.args.self.now.session in
    let link = c.with_next-self.ensures ∙ ap (with_next kept.link) c.field_at.ensures.number in
    by_hand c.changed.result c.args.self.now c.args.stdout.now.said c.args.b.now _ 4 (omega arith) (ap (with_link kept) link) c.changed.ensures
