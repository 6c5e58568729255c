-- The link with its linktest is kept.
use Rattle.std.proofs.Common.{◌∙◌, ap, arith, ℕ}
use Rattle.sessions.specs.Records.{with_link, is_one}
use Rattle.state.specs.State.{with_test}
use Rattle.sessions.proofs.Kept.{by_hand}
use Rattle.sessions.proofs.Sessions.linktest.Goals as goal

pub returns : goal.returns
returns c =
    let kept = c.args.self.now.session in
    let test = λ (n : ℕ). with_test kept.link (record { running = is_one c.args.b.now 0; system = n }) in
    let link = c.with_test-self.ensures ∙ ap test c.field_at.ensures.number in
    by_hand c.changed.result c.args.self.now c.args.stdout.now.said c.args.b.now _ 5 (omega arith) (ap (with_link kept) link) c.changed.ensures
