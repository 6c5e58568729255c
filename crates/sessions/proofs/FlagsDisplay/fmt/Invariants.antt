-- The word, and the flags before the stream are written.
use Rattle.std.proofs.Common.{◌++◌}
use Rattle.std.specs.Prelude.{codes}
use Rattle.std.specs.Fmt.{HasWritten, IsPlainFormatter}
use Rattle.driver.specs.Printed.{field}
use Rattle.sessions.specs.Records.{flags_first}
use Rattle.sessions.proofs.FlagsDisplay.fmt.Given as goal

abbrev pub invariant-loop-stream : goal.invariant-loop-stream
invariant-loop-stream g l =
    IsPlainFormatter l.fn.f
    → HasWritten g.W.Write.write_str_gives l.fn.f (field (codes "flags") ++ flags_first l.flag-items l.stream-counter) l.f
