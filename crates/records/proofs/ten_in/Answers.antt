-- The bytes are copied over ten zeros.
use Rattle.records.specs.Fields.{ten_in}
use Rattle.records.proofs.ten_in.Goals as goal

pub returns : goal.returns
unfolding ten_in
returns c = c.copy.ensures
