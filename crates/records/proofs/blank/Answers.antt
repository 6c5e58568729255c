-- So many bytes are that many.
use mathlib.Core.Path.{refl, sym}
use Prim.Native.Nat.{ℕ}
use lib.ListN.{length-replicate}
use Rattle.records.specs.Fields as F
use Rattle.records.proofs.blank.Goals as goal

pub returns : goal.returns
unfolding F.blank
returns c = (refl, sym (length-replicate {A = ℕ} 65536 0xEE))
