-- The texts of the rows from here on, stored from here on, make the same output as all from place 0.
use Prim.Native.Nat.{◌+◌, ◌≤◌}
use mathlib.Core.Path.{◌≡◌}
use mathlib.Core.List.{map}
use lib.ListN.{length, drop}
use lib.Seq.{sets}
use Rattle.wire.specs.Lists.{Each}
use Rattle.rows.specs.Row.{row_of, text_of}
use Rattle.rows.specs.Asked.{Fits}
use Rattle.writer.proofs.put_rows.Given as goal

abbrev pub invariant-loop-numbers : goal.invariant-loop-numbers
invariant-loop-numbers l =
    record {
      long : length l.out ≡ length l.initial.out;
      fits : Each (Fits l.content) (map row_of (drop l.numbers-index l.rows));
      room : l.at + length (text_of l.content (map row_of (drop l.numbers-index l.rows))) ≤ length l.initial.out;
      same : sets l.out l.at (text_of l.content (map row_of (drop l.numbers-index l.rows))) ≡ sets l.initial.out 0 (text_of l.content (map row_of l.rows));
    }
