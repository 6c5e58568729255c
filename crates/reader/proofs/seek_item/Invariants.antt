-- The bytes of a piece that are left are searched from the present reader as the whole piece is from the first.
use Prim.Native.Nat.{◌-◌, ◌≤◌}
use mathlib.Core.Path.{◌≡◌}
use lib.ListN.{length, drop}
use Rattle.reader.specs.State.{state_of}
use Rattle.reader.specs.Items.{seek}
use Rattle.reader.specs.Asked.{On}
use Rattle.reader.proofs.seek_item.Given as goal

abbrev pub invariant-loop-i : goal.invariant-loop-i
invariant-loop-i l = record {
  within : l.i ≤ length l.piece;
  on : On l.reader;
  seeks : seek (state_of l.initial.reader) 0 l.piece ≡ seek (state_of l.reader) l.i (drop l.i l.piece);
}

abbrev pub decreases-loop-i : goal.decreases-loop-i
decreases-loop-i l = length l.piece - l.i
