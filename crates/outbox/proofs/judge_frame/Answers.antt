-- A length in order has a tenth byte.
use Rattle.std.proofs.Common.{sym, arith}
use Rattle.frame.proofs.Laws.{length_range}
use Rattle.outbox.proofs.judge_frame.Goals as goal

pub bounds-f-9 : goal.bounds-f-9
bounds-f-9 c = omega (arith, (length_range _ (sym c.in_ok-judge_length.ensures)).0)
