-- The invariant: each of the first i slots is allowed. One that is not allowed is enough against the table.
use Rattle.std.proofs.Common.{◌≡◌, true}
use Rattle.allowed.specs.Slots.{allows_first}
use Rattle.allowed.proofs.allows_slots.Given as goal

abbrev pub invariant-loop-i : goal.invariant-loop-i
invariant-loop-i l = allows_first l.s-items l.i ≡ true
