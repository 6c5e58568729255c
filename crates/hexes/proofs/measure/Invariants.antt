-- The place and the bytes counted so far, with the characters still to read, stay those of the whole line.
use Prim.Native.Nat.{◌+◌, ◌≤◌}
use mathlib.Core.Path.{◌≡◌}
use lib.ListN.{length, drop}
use Rattle.hexes.specs.Hex.{place_after, bytes_from, between, number_of, IsPlace}
use Rattle.hexes.proofs.measure.Given as goal

abbrev pub invariant-loop-c : goal.invariant-loop-c
invariant-loop-c l = record {
  counted : l.n ≤ l.c-index;
  is_place : IsPlace l.place;
  place : place_after (number_of l.place) (drop l.c-index l.s) ≡ place_after between l.s;
  bytes : l.n + length (bytes_from (number_of l.place) (drop l.c-index l.s)) ≡ length (bytes_from between l.s);
}
