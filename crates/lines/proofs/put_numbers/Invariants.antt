-- The fields still to put, stored behind the place, stay the fields of all numbers stored behind the first place.
use Prim.Native.Nat.{◌+◌, ◌-◌, ◌*◌, ◌≤◌}
use mathlib.Core.Path.{◌≡◌}
use lib.ListN.{length, drop}
use lib.Seq.{sets}
use Rattle.lines.specs.Text.{fields}
use Rattle.lines.proofs.put_numbers.Given as goal

abbrev pub invariant-loop-n : goal.invariant-loop-n
invariant-loop-n l = record {
  kept : length l.out ≡ length l.initial.out;
  room : l.a + (length l.ns - l.n-index) * 21 ≤ length l.initial.out;
  behind : l.a + length (fields (drop l.n-index l.ns)) ≡ l.at + length (fields l.ns);
  stored : sets l.out l.a (fields (drop l.n-index l.ns)) ≡ sets l.initial.out l.at (fields l.ns);
}
