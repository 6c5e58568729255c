-- What is still to be stored from here on makes the same output as all from the start.
use Prim.Native.Nat.{◌+◌}
use mathlib.Core.Path.{◌≡◌}
use lib.ListN.{length, drop}
use lib.Seq.{sets}
use Rattle.item.specs.Item.{told}
use Rattle.writer.proofs.put_content.Given as goal

abbrev pub invariant-loop-i : goal.invariant-loop-i
invariant-loop-i l =
    record {
      long : length l.out ≡ length l.initial.out;
      same : sets l.out (l.at + l.i) (told l.code (drop l.i l.content)) ≡ sets l.initial.out l.at (told l.code l.content);
    }
