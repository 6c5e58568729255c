-- The sizes of the rows passed and of those from here on make the sum.
use Prim.Native.Nat.{◌+◌, ◌≤◌}
use mathlib.Core.Path.{◌≡◌}
use mathlib.Core.List.{map}
use lib.ListN.{drop}
use Rattle.wire.specs.Longest.{longest}
use Rattle.rows.specs.Row.{row_of, size_of}
use Rattle.writer.proofs.text_size.Given as goal

abbrev pub invariant-loop-numbers : goal.invariant-loop-numbers
invariant-loop-numbers l =
    record {
      few : l.bytes ≤ longest;
      rest : l.bytes + size_of (map row_of (drop l.numbers-index l.rows)) ≡ size_of (map row_of l.rows);
    }
