-- The rest of the piece, listed behind the place, stays the whole piece listed into the output.
use Prim.Native.Nat.{◌-◌, ◌≤◌}
use mathlib.Core.Path.{◌≡◌}
use lib.ListN.{length, drop}
use Rattle.listing.specs.Piece.{run}
use Rattle.listing.proofs.Runs.{Joined}
use Rattle.listing.proofs.list.Given as goal

abbrev pub invariant-loop-i : goal.invariant-loop-i
invariant-loop-i l = record {
  kept : length l.out ≡ length l.initial.out;
  within : l.at ≤ length l.initial.out;
  joined : Joined (run l.initial.state (length l.initial.out) l.piece) l.initial.out
      (run l.state (length l.initial.out - l.at) (drop l.i l.piece)) l.out l.i l.at;
}
