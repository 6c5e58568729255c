-- What was stored, with the numbers still to come stored behind it, stays what all numbers stored give.
use Prim.Native.Nat.{◌*◌}
use mathlib.Core.Path.{◌≡◌}
use lib.ListN.{length, drop}
use lib.Seq.{sets}
use Rattle.records.specs.Fields.{words_in}
use Rattle.records.proofs.words_in.Given as goal

abbrev pub invariant-loop-i : goal.invariant-loop-i
invariant-loop-i l = record {
  kept : length l.out ≡ length l.initial.out;
  stored : sets l.out l.i (words_in (drop (4 * l.i) l.s)) ≡ sets l.initial.out 0 (words_in l.s);
}
