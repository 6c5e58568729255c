-- The list allows no other number than a refusal's.
use Rattle.reader.proofs.Answered.{no_number}
use Rattle.reader.proofs.refusal_in.Goals as goal

pub returns-in-Err : goal.returns-in-Err
returns-in-Err c = absurd (no_number c.args.number c.requires c.in-Err.ensures.1)
