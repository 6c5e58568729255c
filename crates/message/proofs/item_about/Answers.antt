-- The ten bytes behind the format byte and the length byte are the header's, and fill the item.
use mathlib.Core.Path.{sym}
use mathlib.Core.List.{append-nil}
use Rattle.message.proofs.Laws.{about_bytes}
use Rattle.message.proofs.item_about.Goals as goal

pub returns : goal.returns
returns c = rw (append-nil c.copy_from_slice.new.self, c.copy_from_slice.ensures.after, c.from.ensures) (sym (about_bytes c.args.h))
