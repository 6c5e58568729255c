-- A number of a code is below what its sort's width holds.
use Rattle.std.proofs.Common.{sym, ◌∙◌}
use Rattle.element.proofs.Sorts.{bounded_4, bounded_byte}
use Rattle.element.proofs.read_as.Goals as goal

pub overflow_cast-n : goal.overflow_cast-n
overflow_cast-n c = record { fits = bounded_4 _ _ _ c.requires (sym c.sort_of.ensures ∙ c.in-F4.is) }

pub overflow_cast-n-in-Byte : goal.overflow_cast-n-in-Byte
overflow_cast-n-in-Byte c = record { fits = bounded_byte _ _ _ c.requires (sym c.sort_of.ensures ∙ c.in-Byte.is) }
