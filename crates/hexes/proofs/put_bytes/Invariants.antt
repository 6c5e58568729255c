-- What was stored, with the bytes still to come stored behind it, stays what all the line's bytes stored give.
use Prim.Native.Nat.{◌+◌, ◌≤◌}
use mathlib.Core.Path.{◌≡◌}
use lib.ListN.{length, drop}
use lib.Seq.{sets}
use Rattle.hexes.specs.Hex.{place_after, bytes_from, between, bytes_in, number_of, IsPlace}
use Rattle.hexes.proofs.put_bytes.Given as goal

abbrev pub invariant-loop-c : goal.invariant-loop-c
invariant-loop-c l = record {
  kept : length l.out ≡ length l.initial.out;
  counted : l.n ≤ l.c-index;
  is_place : IsPlace l.place;
  place : place_after (number_of l.place) (drop l.c-index l.s) ≡ between;
  bytes : l.n + length (bytes_from (number_of l.place) (drop l.c-index l.s)) ≤ length l.initial.out;
  stored : sets l.out l.n (bytes_from (number_of l.place) (drop l.c-index l.s)) ≡ sets l.initial.out 0 (bytes_in l.s);
}
