-- The session that is made is kept.
use Rattle.std.proofs.Common.{arith}
use Rattle.std.specs.Prelude.{codes, decimal}
use Rattle.sessions.specs.Records.{state_fields}
use Rattle.sessions.proofs.Printed.{printed}
use Rattle.sessions.proofs.Printing.{at_once}
use Rattle.sessions.proofs.Kept.{made}
use Rattle.sessions.proofs.Sessions.make.Goals as goal

pub returns : goal.returns
returns c =
    made c.writeln.result c.args.self.now c.args.stdout.now.said c.args.b.now _ c.new_session-made.result (omega arith)
    c.field_at.ensures.number c.new_session-made.ensures c.number.ensures
    (printed c.writeln.result _ _ (at_once (codes "made") (decimal c.number.result) (state_fields c.new_session-made.result.session)) c.writeln.ensures.writes)
