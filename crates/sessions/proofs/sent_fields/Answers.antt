-- Nothing is printed where nothing is sent.
use Rattle.std.proofs.Common.{ap, ◌∙◌, arith}
use Rattle.message.specs.Send.{send_in}
use Rattle.driver.specs.Printed.{refused_fields}
use Rattle.sessions.proofs.Printed.{printed}
use Rattle.sessions.proofs.Sent.{none_sent, refused}
use Rattle.sessions.proofs.sent_fields.Goals as goal

pub returns-in-Ok-2 : goal.returns-in-Ok-2
returns-in-Ok-2 c = none_sent c.args.stdout.now.said (send_in c.args.send) c.args.text.now c.in-Ok.n (λ h. omega arith) c.in-Ok.ensures.0

pub returns-in-Ok-2-2 : goal.returns-in-Ok-2-2
returns-in-Ok-2-2 c = none_sent c.args.stdout.now.said (send_in c.args.send) c.args.text.now c.in-Ok.n (λ h. omega arith) c.in-Ok.ensures.0

pub returns-in-Err : goal.returns-in-Err
returns-in-Err c =
    let told = refused (send_in c.args.send) c.args.text.now _ c.in-Err.ensures.0 in
    printed c.write.result _ _ (ap refused_fields c.from.ensures ∙ told) c.write.ensures.writes
