-- The slots before the place are written.
use Rattle.std.specs.Fmt.{HasWritten, IsPlainFormatter}
use Rattle.sessions.specs.Records.{slots_first}
use Rattle.sessions.proofs.SlotsDisplay.fmt.Given as goal

abbrev pub invariant-loop-place : goal.invariant-loop-place
invariant-loop-place g l =
    IsPlainFormatter l.fn.f → HasWritten g.W.Write.write_str_gives l.fn.f (slots_first l.self.word.now l.x-items l.place-counter) l.f
