-- The bytes still to write, in front of those written, stay the bytes of the number.
use Rattle.std.proofs.Common.{◌≡◌, ◌++◌, length, drop}
use Rattle.wire.specs.Number.{bytes_of}
use Rattle.wire.proofs.put.Given as goal

abbrev pub invariant-loop-i : goal.invariant-loop-i
invariant-loop-i l = bytes_of l.i l.left ++ drop l.i l.s ≡ bytes_of (length l.initial.s) l.n
