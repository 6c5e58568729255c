-- The number read so far, in front of the bytes still to read, stays the number of all of them; and it has as many bytes as were read.
use Rattle.std.proofs.Common.{◌≡◌, ◌+◌, ◌*◌, ◌<◌, ◌^◌, length, drop}
use Rattle.wire.specs.Number.{number_of}
use Rattle.wire.proofs.number_of_few.Given as goal

abbrev pub invariant-loop-byte : goal.invariant-loop-byte
invariant-loop-byte l = record {
  few : l.n < 256 ^ l.byte-index;
  rest : l.n * 256 ^ length (drop l.byte-index l.s) + number_of (drop l.byte-index l.s) ≡ number_of l.s;
}
