-- The rest of the piece, listed behind the place, stays the whole piece listed into the output.
use Prim.Native.Nat.{◌-◌, ◌≤◌}
use mathlib.Core.Path.{◌≡◌, refl, ◌∙◌}
use native.Mathlib.Omega.{arith}
use lib.ListN.{length}
use Rattle.lines.proofs.Stored.{Stored, stored, kept}
use Rattle.listing.specs.Listing.{lines_of}
use Rattle.listing.proofs.Short.{told_short}
use Rattle.listing.proofs.Runs.{joined_first, joined_next, joined_last, run_full, run_end}
use Rattle.listing.proofs.list.Goals as goal

pub loop-i-init : goal.loop-i-init
loop-i-init c = record { kept = refl; within = omega arith; joined = joined_first _ _ _ }

pub put_told-at-requires : goal.put_told-at-requires
put_told-at-requires c = omega (arith, told_short c.byte_came-t.result)

pub loop-i-preserved : goal.loop-i-preserved
loop-i-preserved c =
    let a = c.args in
    let l = c.loop-i in
    let b = c.byte_came-t in
    let p = c.put_told-at in
    let w : Stored l.out l.at (lines_of b.result) p.new.out p.result = stored p.ensures in
    let k : 320 ≤ length a.out.now - l.at = omega arith in
    record {
      kept = kept w ∙ l.invariant.kept;
      within = omega (arith, w.behind, told_short b.result, k);
      joined = joined_next _ a.out.now a.piece.now l.out l.state l.i l.at (omega arith) k b.result b.ensures _ _ l.invariant.joined w;
    }

pub returns-then-out-at-lt-ROOM : goal.returns-then-out-at-lt-ROOM
returns-then-out-at-lt-ROOM c =
    let l = c.loop-i in
    let a = c.args in
    joined_last _ _ _ _ _ _ _ l.invariant.joined (run_full l.state (length a.out.now - l.at) a.piece.now l.i (omega arith) (omega arith))

pub returns : goal.returns
returns c =
    let l = c.loop-i in
    let a = c.args in
    let e : l.i ≡ length a.piece.now = omega arith in
    rw (← e) (joined_last _ _ _ _ _ _ _ l.invariant.joined (run_end l.state (length a.out.now - l.at) a.piece.now l.i e))
