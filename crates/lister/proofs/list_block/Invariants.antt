-- The place stays within the block, and the output keeps its length.
use Rattle.std.proofs.Common.{◌≡◌, ◌-◌, ◌≤◌, length}
use Rattle.lister.proofs.list_block.Given as goal

abbrev pub invariant-loop-from : goal.invariant-loop-from
invariant-loop-from l = (length l.out ≡ 65536) × (l.from ≤ length l.block)

abbrev pub decreases-loop-from : goal.decreases-loop-from
decreases-loop-from l = length l.block - l.from
