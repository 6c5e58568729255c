-- The chunks of three are the rows.
use Prim.Native.Nat.{◌/◌}
use native.Mathlib.Omega.{arith}
use lib.ListN.{length}
use Rattle.rows.proofs.Tables.{rows_chunks}
use Rattle.writer.proofs.rows_of.Goals as goal

pub returns : goal.returns
returns c =
    let t = c.args.table.now in
    rw c.as_chunks.ensures.front (rows_chunks (length t / 3) t (omega arith) (omega arith))
