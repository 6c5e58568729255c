-- A length so far leaves room for a byte more.
use native.Mathlib.Omega.{arith}
use Rattle.reader.proofs.Bytes.{length_small}
use Rattle.reader.proofs.shown_by.Goals as goal

pub overflow_mul-result : goal.overflow_mul-result
overflow_mul-result c = omega (arith, (length_small c.requires.phase c.in-Length.is c.args.b (omega arith)).2)

pub overflow_add-result : goal.overflow_add-result
overflow_add-result c = omega (arith, (length_small c.requires.phase c.in-Length.is c.args.b (omega arith)).2)
