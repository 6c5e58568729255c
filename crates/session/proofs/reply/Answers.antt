-- The slot's function is one that the list allows, so that one more is a byte.
use Rattle.std.proofs.Common.{arith}
use Rattle.slots.proofs.Found.{within}
use Rattle.allowed.proofs.Slots.{function_small}
use Rattle.session.proofs.reply.Goals as goal

pub overflow_add-function : goal.overflow_add-function
overflow_add-function c = omega (arith, function_small c.args.d.received c.in-Some.at c.requires (within _ _ c.in-Some.ensures))
