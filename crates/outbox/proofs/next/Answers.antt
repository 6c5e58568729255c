-- Where there is a next message, the outbox that it comes from holds some.
use Rattle.std.proofs.Common.{sym, arith}
use borrow.Author.Tests.{eq-eqb, ne_eqb}
use Rattle.outbox.specs.Outbox.{next_of}
use Rattle.outbox.proofs.Held.{next_is}
use Rattle.outbox.proofs.next.Goals as goal

pub first-requires : goal.first-requires
first-requires c =
    let t = next_is _ _ _ _ (sym c.in_ok-judge_next.ensures) in
    (t.«data», t.some c.if-cused-eq0.true)

pub first-requires-else-cused-eq0 : goal.first-requires-else-cused-eq0
first-requires-else-cused-eq0 c = ((next_is _ _ _ _ (sym c.in_ok-judge_next.ensures)).control, omega (arith, c.if-cused-eq0.false))

pub returns-then-cused-eq0 : goal.returns-then-cused-eq0
unfolding next_of
returns-then-cused-eq0 c = (c.in_ok-judge_next.ensures, rw (← c.in_ok-judge_next.ensures, eq-eqb _ _ c.if-cused-eq0.true) c.first.ensures)

pub returns-else-cused-eq0 : goal.returns-else-cused-eq0
unfolding next_of
returns-else-cused-eq0 c = (c.in_ok-judge_next.ensures, rw (← c.in_ok-judge_next.ensures, ne_eqb _ _ c.if-cused-eq0.false) c.first-else-cused-eq0.ensures)
