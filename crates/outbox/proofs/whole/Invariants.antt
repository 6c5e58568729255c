-- What is left is whole frames just where all is.
use Rattle.std.proofs.Common.{◌≡◌, length}
use Rattle.outbox.specs.Outbox.{whole_from}
use Rattle.outbox.proofs.whole.Given as goal

abbrev pub invariant-loop-size : goal.invariant-loop-size
invariant-loop-size l = whole_from 0 l.rest ≡ whole_from 0 l.s

abbrev pub decreases-loop-size : goal.decreases-loop-size
decreases-loop-size l = length l.rest
