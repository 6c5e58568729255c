-- A code that comes to no arm is no entry's.
use Rattle.std.proofs.Common.{rules}
use Rattle.item.proofs.Codes.{name_spelled}
use Rattle.item.proofs.name_of.Goals as goal

pub returns-in_default : goal.returns-in_default
returns-in_default c = rw name_spelled (search rules)
