-- A digit begins a byte or ends one, a space may stand between bytes, and what else comes breaks the line.
use mathlib.Core.Path.{sym}
use Rattle.hexes.proofs.Laws.{begins_by, ends_by, space_between, breaks_between, breaks_byte, wrong_on}
use Rattle.hexes.proofs.place_on.Goals as goal

pub returns-in-Some-clause-number : goal.returns-in-Some-clause-number
returns-in-Some-clause-number c = rw c.in-Between.is (begins_by c.args.c _ c.in-Some.ensures)

pub returns-then-c-eq32-clause-number : goal.returns-then-c-eq32-clause-number
returns-then-c-eq32-clause-number c = rw c.in-Between.is (space_between c.args.c c.if-c-eq32.true)

pub returns-else-c-eq32-clause-number : goal.returns-else-c-eq32-clause-number
returns-else-c-eq32-clause-number c = rw c.in-Between.is (breaks_between c.args.c c.in-None.ensures c.if-c-eq32.false)

pub returns-in-Some-digit-clause-number : goal.returns-in-Some-digit-clause-number
returns-in-Some-digit-clause-number c = rw c.in-Behind.is (ends_by c.args.c _ c.in-Some-digit.ensures _ (rw c.in-Behind.is at c.requires))

pub returns-in-None-digit-clause-number : goal.returns-in-None-digit-clause-number
returns-in-None-digit-clause-number c = rw c.in-Behind.is (breaks_byte c.args.c c.in-None-digit.ensures _ (rw c.in-Behind.is at c.requires))

pub returns-in-Broken-clause-number : goal.returns-in-Broken-clause-number
returns-in-Broken-clause-number c = rw c.in-Broken.is (sym (wrong_on c.args.c))
