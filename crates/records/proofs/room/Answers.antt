-- So many zeros are that many.
use mathlib.Core.Path.{refl, sym}
use Prim.Native.Nat.{ℕ}
use lib.ListN.{length-replicate}
use Rattle.records.specs.Fields as F
use Rattle.records.proofs.room.Goals as goal

pub returns : goal.returns
unfolding F.room
returns c = (refl, sym (length-replicate {A = ℕ} 1048576 0))
