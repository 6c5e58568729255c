-- What was stored, with the digits still to come stored behind it, stays what all digits stored give.
use Prim.Native.Nat.{◌*◌}
use mathlib.Core.Path.{◌≡◌}
use lib.ListN.{length, drop}
use lib.Seq.{sets}
use Rattle.hexes.specs.Hex.{hex_of}
use Rattle.hexes.proofs.put_digits.Given as goal

abbrev pub invariant-loop-i : goal.invariant-loop-i
invariant-loop-i l = record {
  kept : length l.out ≡ length l.initial.out;
  stored : sets l.out (2 * l.i) (hex_of (drop l.i l.s)) ≡ sets l.initial.out 0 (hex_of l.s);
}
