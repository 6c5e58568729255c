-- The array has room for any line.
use Rattle.listing.proofs.Placed.{within}
use Rattle.lister.proofs.list_end.Goals as goal

pub slice_bounds-write_all-end : goal.slice_bounds-write_all-end
slice_bounds-write_all-end c = within c.last_line.result _ _ c.print-n.ensures.0 c.print-n.ensures.1
