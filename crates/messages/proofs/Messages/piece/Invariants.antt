-- The feeds that are left, of what is left of the piece, come out as all feeds of all of it.
use Rattle.std.proofs.Common.{◌≡◌, ◌-◌}
use Rattle.messages.specs.Records.{feeds_done}
use Rattle.messages.proofs.Messages.piece.Given as goal

abbrev pub invariant-loop : goal.invariant-loop
invariant-loop l =
    feeds_done (1048578 - l.counter) (l.self, l.stdout.said) l.rest ≡ feeds_done 1048578 (l.fn.self, l.fn.stdout.said) l.fn.b
