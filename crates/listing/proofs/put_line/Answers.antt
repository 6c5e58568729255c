-- The line is copied from an array that has room for it.
use mathlib.Core.Path.{ap}
use Prim.Native.Nat.{ℕ, ◌+◌}
use Rattle.listing.proofs.Placed.{within, text_length, placed}
use Rattle.listing.proofs.put_line.Goals as goal

pub slice_bounds-text-end : goal.slice_bounds-text-end
slice_bounds-text-end c = within c.args.line _ _ c.print-n.ensures.0 c.print-n.ensures.1

pub slice_bounds-copy-end-2 : goal.slice_bounds-copy-end-2
slice_bounds-copy-end-2 c = text_length c.args.line _ _ c.print-n.ensures.0 c.print-n.ensures.1

pub returns : goal.returns
returns c = (ap (λ (k : ℕ). c.args.at + k) c.print-n.ensures.0, placed c.args.line _ _ c.print-n.ensures.0 c.print-n.ensures.1 _ _ _ c.requires c.copy.ensures)
